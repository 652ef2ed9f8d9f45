use Rattle.std.proofs.lemmas.Result.{err_from_is_err_and}
use Rattle.calls.proofs.lent.Lent.plan.Goals as goal

pub returns-in_ok-page-in-Work-clause-plan : goal.returns-in_ok-page-in-Work-clause-plan
returns-in_ok-page-in-Work-clause-plan g c v = rw c.in-Work.is (c.in_ok-page-in-Work.ensures.plan v)

pub returns-in_err-page-in-Work-clause-plan : goal.returns-in_err-page-in-Work-clause-plan
returns-in_err-page-in-Work-clause-plan g c v =
    let p = err_from_is_err_and c.from_residual.result c.from_residual.ensures.1 in
    rw (c.in-Work.is, p.1, p.2) (c.in_err-page-in-Work.ensures.plan v)

pub returns-in_ok-page-in-Receive-clause-plan : goal.returns-in_ok-page-in-Receive-clause-plan
returns-in_ok-page-in-Receive-clause-plan g c v = rw c.in-Receive.is (c.in_ok-page-in-Receive.ensures.plan v)

pub returns-in_err-page-in-Receive-clause-plan : goal.returns-in_err-page-in-Receive-clause-plan
returns-in_err-page-in-Receive-clause-plan g c v =
    let p = err_from_is_err_and c.from_residual-in_err-page-in-Receive.result c.from_residual-in_err-page-in-Receive.ensures.1 in
    rw (c.in-Receive.is, p.1, p.2) (c.in_err-page-in-Receive.ensures.plan v)

pub returns-in_ok-page-in-Collect-clause-plan : goal.returns-in_ok-page-in-Collect-clause-plan
returns-in_ok-page-in-Collect-clause-plan g c v = rw c.in-Collect.is (c.in_ok-page-in-Collect.ensures.plan v)

pub returns-in_err-page-in-Collect-clause-plan : goal.returns-in_err-page-in-Collect-clause-plan
returns-in_err-page-in-Collect-clause-plan g c v =
    let p = err_from_is_err_and c.from_residual-in_err-page-in-Collect.result c.from_residual-in_err-page-in-Collect.ensures.1 in
    rw (c.in-Collect.is, p.1, p.2) (c.in_err-page-in-Collect.ensures.plan v)

pub returns-in_ok-page-in-Serve-clause-plan : goal.returns-in_ok-page-in-Serve-clause-plan
returns-in_ok-page-in-Serve-clause-plan g c v = rw c.in-Serve.is (c.in_ok-page-in-Serve.ensures.plan v)

pub returns-in_err-page-in-Serve-clause-plan : goal.returns-in_err-page-in-Serve-clause-plan
returns-in_err-page-in-Serve-clause-plan g c v =
    let p = err_from_is_err_and c.from_residual-in_err-page-in-Serve.result c.from_residual-in_err-page-in-Serve.ensures.1 in
    rw (c.in-Serve.is, p.1, p.2) (c.in_err-page-in-Serve.ensures.plan v)

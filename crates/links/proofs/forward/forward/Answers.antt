use Rattle.std.proofs.Common.{◌≡◌, Some, None, ◌∙◌, arith}
use Rattle.std.proofs.lemmas.Result.{err_from_is_err_and}
use Rattle.links.proofs.Passing.{forward_none, forward_some}
use Rattle.links.proofs.forward.forward.Goals as goal

pub returns-in_err-message : goal.returns-in_err-message
returns-in_err-message g c =
    let none : None ≡ c.oldest.result = grind arith in
    let err = err_from_is_err_and c.from_residual.result c.from_residual.ensures.1 in
    let p = forward_none (g.L.Links.view c.args.links.now) c.args.from c.args.to c.args.station c.oldest.result none c.oldest.ensures in
    record { answer = err.1 ∙ p.answered; after = p.left_as }

pub returns : goal.returns
returns g c =
    let some : Some c.in_ok-message.message ≡ c.oldest.result = grind arith in
    let e = c.in_ok-send.ensures in
    let d = c.drop_oldest.ensures in
    let p = forward_some (g.L.Links.view c.args.links.now) c.args.from c.args.to c.args.station _ _ c.in_ok-message.message c.oldest.result c.drop_oldest.result some c.oldest.ensures e.answer e.after d.answer d.after in
    record { answer = p.answered; after = p.left_as }

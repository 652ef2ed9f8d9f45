use Rattle.std.proofs.Common.{Ok, sym, refl, subst}
use Rattle.std.proofs.lemmas.Result.{err_from_is_err_and}
use Rattle.queues.specs.Places.{view_of}
use Rattle.calls.specs.Memory.{memory}
use Rattle.calls.proofs.Answering.{FireAnswered, fire_denied, fire_granted}
use Rattle.calls.proofs.fire.fire.Goals as goal

pub returns-in_err-plan : goal.returns-in_err-plan
returns-in_err-plan g c =
    let m = memory c.args.home.now c.args.cells.now (g.L.Links.view c.args.links.now) (view_of c.args.queues.now) in
    let p = err_from_is_err_and c.from_residual.result c.from_residual.ensures.1 in
    rw (p.1, p.2) (fire_denied g.D.Register.names c.args.sizes m m c.args.kind c.args.station _ refl (sym c.if-not-fits.ensures) c.if-station-sizes.false c.in_err-plan.ensures.plan)

pub returns : goal.returns
returns g c =
    let m = memory c.args.home.now c.args.cells.now (g.L.Links.view c.args.links.now) (view_of c.args.queues.now) in
    let m' = memory c.carry_out.new.home c.carry_out.new.cells (g.L.Links.view c.carry_out.new.links) (view_of c.carry_out.new.queues) in
    subst (λ x. FireAnswered g.D.Register.names c.args.sizes m m' c.args.kind c.args.station (Ok x)) (sym c.carry_out.ensures.answer)
    (fire_granted g.D.Register.names c.args.sizes m m' c.args.kind c.args.station c.in_ok-plan.plan (sym c.if-not-fits.ensures) c.if-station-sizes.false c.in_ok-plan.ensures.plan c.carry_out.ensures.after)

use Rattle.std.proofs.Common.{sym, refl, ap, ◌∙◌}
use Rattle.std.proofs.lemmas.Result.{err_from_is_err_and}
use Rattle.protocol.specs.declared.firing.FiringKind.TheVariants.{Serve}
use Rattle.std.specs.Option.{option_map}
use Rattle.protocol.specs.Machines.{step_meaning}
use Rattle.protocol.specs.State.{message}
use Rattle.queues.specs.Places.{view_of}
use Rattle.calls.specs.Memory.{plain, cells_of, pages_of, extents_in}
use Rattle.calls.specs.Looking.{looked_at, state_in}
use Rattle.calls.proofs.Planning.{refused, looked_no, serve_no_rule, serve_no_space, serve_planned}
use Rattle.calls.proofs.lent.Lent.plan_serve.Goals as goal

pub returns-in_err-page-clause-plan : goal.returns-in_err-page-clause-plan
returns-in_err-page-clause-plan g c v =
    let p = err_from_is_err_and c.from_residual.result c.from_residual.ensures.1 in
    let m = c.args.self.now in
    rw (p.1, p.2) (looked_no (plain m.sizes) (state_in g.D.Register.names v m) c.args.station Serve _ _ refl c.in_err-page.ensures)

pub returns-in_err-step-clause-plan : goal.returns-in_err-step-clause-plan
returns-in_err-step-clause-plan g c v =
    let p = err_from_is_err_and c.from_residual-in_err-step.result c.from_residual-in_err-step.ensures.1 in
    let m = c.args.self.now in
    rw (p.1, p.2, refused _ _ _ c.in_err-step.ensures.value) (serve_no_rule (plain m.sizes) (g.L.Links.view m.links.now) c.args.station (pages_of g.D.Register.names v m.home.now) (cells_of m.sizes.stations m.sizes.pages m.cells.now) (view_of m.queues.now).row (extents_in (looked_at m)) g.D.Register.names g.met.D.Register.high (message c.in_ok-page.page c.in_ok-page.kind) c.page.result (c.page.ensures v) (sym c.in_ok-page.ensures.0) c.in_ok-page.ensures.1 (ap (option_map (step_meaning g.D.Register.names)) (sym c.in_err-step.ensures.ok_part) ∙ c.serve.ensures))

pub returns-then-not-space_for_all-clause-plan : goal.returns-then-not-space_for_all-clause-plan
returns-then-not-space_for_all-clause-plan g c v =
    let m = c.args.self.now in
    serve_no_space (plain m.sizes) (g.L.Links.view m.links.now) c.args.station (pages_of g.D.Register.names v m.home.now) (cells_of m.sizes.stations m.sizes.pages m.cells.now) (view_of m.queues.now).row (extents_in (looked_at m)) g.D.Register.names g.met.D.Register.high (message c.in_ok-page.page c.in_ok-page.kind) c.page.result (c.page.ensures v) (sym c.in_ok-page.ensures.0) m.count m.room c.in_ok-step.step c.in_ok-page.ensures.1 (ap (option_map (step_meaning g.D.Register.names)) (sym c.in_ok-step.ensures.ok_part) ∙ c.serve.ensures) (sym c.if-not-space_for_all.ensures)

pub returns-clause-plan : goal.returns-clause-plan
returns-clause-plan g c v =
    let m = c.args.self.now in
    serve_planned (plain m.sizes) (g.L.Links.view m.links.now) c.args.station (pages_of g.D.Register.names v m.home.now) (cells_of m.sizes.stations m.sizes.pages m.cells.now) (view_of m.queues.now).row (extents_in (looked_at m)) g.D.Register.names g.met.D.Register.high (message c.in_ok-page.page c.in_ok-page.kind) c.page.result (c.page.ensures v) (sym c.in_ok-page.ensures.0) m.count m.room c.in_ok-step.step c.in_ok-page.ensures.1 (ap (option_map (step_meaning g.D.Register.names)) (sym c.in_ok-step.ensures.ok_part) ∙ c.serve.ensures) (sym c.if-not-space_for_all.ensures)

use Rattle.std.proofs.Common.{sym, ap, ◌∙◌, arith}
use Rattle.std.specs.Option.{option_map}
use Rattle.std.proofs.lemmas.Result.{err_from_is_err_and}
use Rattle.protocol.specs.declared.firing.FiringKind.TheVariants.{Work}
use Rattle.queues.specs.Places.{view_of}
use Rattle.calls.specs.Memory.{plain, cells_of, pages_of, extents_in}
use Rattle.calls.specs.Looking.{looked_at, state_in}
use Rattle.calls.proofs.Planning.{refused, off_page, work_no_rule, work_no_space, work_planned}
use Rattle.calls.proofs.lent.Lent.plan_work.Goals as goal

pub returns-then-page-self-clause-plan : goal.returns-then-page-self-clause-plan
returns-then-page-self-clause-plan g c v =
    let m = c.args.self.now in
    off_page (plain m.sizes) (state_in g.D.Register.names v m) c.args.station Work c.in_ok-instruction.instruction.page (ap (option_map (λ x. x.page)) (sym (sym c.in_ok-instruction.ensures.ok_part ∙ c.oldest.ensures))) (omega arith)

pub returns-in_err-step-clause-plan : goal.returns-in_err-step-clause-plan
returns-in_err-step-clause-plan g c v =
    let p = err_from_is_err_and c.from_residual-in_err-step.result c.from_residual-in_err-step.ensures.1 in
    let m = c.args.self.now in
    rw (p.1, p.2, refused _ _ _ c.in_err-step.ensures.value) (work_no_rule (plain m.sizes) (g.L.Links.view m.links.now) c.args.station (pages_of g.D.Register.names v m.home.now) (cells_of m.sizes.stations m.sizes.pages m.cells.now) (view_of m.queues.now).row (extents_in (looked_at m)) c.in_ok-instruction.instruction c.cell.result (sym c.in_ok-instruction.ensures.ok_part ∙ c.oldest.ensures) c.cell.ensures (omega arith) (sym c.in_err-step.ensures.ok_part ∙ c.work.ensures))

pub returns-then-not-space_to_send-clause-plan : goal.returns-then-not-space_to_send-clause-plan
returns-then-not-space_to_send-clause-plan g c v =
    let m = c.args.self.now in
    work_no_space (plain m.sizes) (g.L.Links.view m.links.now) c.args.station (pages_of g.D.Register.names v m.home.now) (cells_of m.sizes.stations m.sizes.pages m.cells.now) (view_of m.queues.now).row (extents_in (looked_at m)) c.in_ok-instruction.instruction c.cell.result (sym c.in_ok-instruction.ensures.ok_part ∙ c.oldest.ensures) c.cell.ensures m.count m.room c.in_ok-step.step (omega arith) (sym c.in_ok-step.ensures.ok_part ∙ c.work.ensures) (sym c.if-not-space_to_send.ensures)

pub returns-clause-plan : goal.returns-clause-plan
returns-clause-plan g c v =
    let m = c.args.self.now in
    work_planned (plain m.sizes) (g.L.Links.view m.links.now) c.args.station (pages_of g.D.Register.names v m.home.now) (cells_of m.sizes.stations m.sizes.pages m.cells.now) (view_of m.queues.now).row (extents_in (looked_at m)) c.in_ok-instruction.instruction c.cell.result (sym c.in_ok-instruction.ensures.ok_part ∙ c.oldest.ensures) c.cell.ensures m.count m.room c.in_ok-step.step (omega arith) (sym c.in_ok-step.ensures.ok_part ∙ c.work.ensures) (sym c.if-not-space_to_send.ensures)

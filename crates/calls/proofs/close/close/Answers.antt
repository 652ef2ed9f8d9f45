use Rattle.std.proofs.Common.{sym, ◌∙◌}
use Rattle.std.proofs.lemmas.Bool.{true≢false}
use Rattle.queues.specs.Places.{view_of}
use Rattle.calls.specs.Memory.{memory}
use Rattle.calls.proofs.Calling.{close_unfinished, close_done}
use Rattle.calls.proofs.close.close.Goals as goal

pub returns-then-not-all_idle : goal.returns-then-not-all_idle
returns-then-not-all_idle g c =
    close_unfinished g.D.Register.names c.args.sizes (memory c.args.home.now c.args.cells.now (g.L.Links.view c.args.links.now) (view_of c.args.queues.now)) (sym c.if-not-fits.ensures)
    (λ idle. true≢false (sym (c.all_idle.ensures.1 idle) ∙ c.if-not-all_idle.true))

pub returns : goal.returns
returns g c = close_done g.D.Register.names c.args.sizes (memory c.args.home.now c.args.cells.now (g.L.Links.view c.args.links.now) (view_of c.args.queues.now)) (sym c.if-not-fits.ensures) (c.all_idle.ensures.0 c.if-not-all_idle.false)

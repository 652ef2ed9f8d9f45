use Rattle.std.proofs.Common.{sym}
use Rattle.queues.specs.Places.{view_of}
use Rattle.calls.specs.Memory.{memory}
use Rattle.calls.proofs.Calling.{prepared}
use Rattle.calls.proofs.prepare.prepare.Goals as goal

pub returns : goal.returns
returns g c = prepared g.D.Register.names c.args.sizes c.in_ok-round.round c.args.value (memory c.args.home.now c.args.cells.now (g.L.Links.view c.args.links.now) (view_of c.args.queues.now)) c.fill_home.new.home c.fill_cells.new.cells c.in_ok-round.ensures (sym c.if-not-fits.ensures) (c.all_idle.ensures.0 c.if-not-all_idle.false) c.fill_home.auto.home c.fill_cells.auto.cells c.fill_home.ensures c.fill_cells.ensures

use Rattle.std.proofs.Common.{sym, arith}
use Rattle.queues.specs.Places.{view_of}
use Rattle.calls.specs.Memory.{memory}
use Rattle.calls.proofs.Calling.{readout_found, readout_home}
use Rattle.calls.proofs.readout.readout.Goals as goal

pub returns-in-Some : goal.returns-in-Some
returns-in-Some g c =
    readout_found g.D.Register.names c.args.sizes (memory c.args.home.now c.args.cells.now (g.L.Links.view c.args.links.now) (view_of c.args.queues.now)) (sym c.if-not-fits.ensures) c.args.page c.lowest_writer.result (omega arith) c.lowest_writer.ensures c.in-Some.value c.in-Some.is

pub returns-in-None : goal.returns-in-None
returns-in-None g c =
    readout_home g.D.Register.names c.args.sizes (memory c.args.home.now c.args.cells.now (g.L.Links.view c.args.links.now) (view_of c.args.queues.now)) (sym c.if-not-fits.ensures) c.args.page c.lowest_writer.result c.page.result (omega arith) c.lowest_writer.ensures c.in-None.is c.page.ensures

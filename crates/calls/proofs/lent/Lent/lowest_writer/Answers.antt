use Rattle.std.proofs.Common.{◌∙◌}
use Rattle.calls.specs.Memory.{cells_of}
use Rattle.calls.specs.Closing.{NoWriter}
use Rattle.calls.proofs.Below.{below_next}
use Rattle.calls.proofs.Writers.{no_writer}
use Rattle.calls.proofs.lent.Lent.lowest_writer.Goals as goal

pub loop-station-preserved : goal.loop-station-preserved
loop-station-preserved g c =
    below_next (λ s. NoWriter (cells_of c.args.self.now.sizes.stations c.args.self.now.sizes.pages c.args.self.now.cells.now s c.args.page)) c.loop-station.station c.loop-station.invariant (λ v e. c.in_default.not-Ex v (c.cell.ensures ∙ e))

pub returns : goal.returns
returns g c = no_writer c.args.self.now.sizes.stations c.args.self.now.sizes.pages c.args.self.now.cells.now c.args.page c.loop-station.station c.loop-station-test.false c.loop-station.invariant

use Rattle.std.proofs.Common.{ℕ, ◌<◌}
use Rattle.calls.specs.Memory.{cells_of}
use Rattle.calls.specs.Closing.{NoWriter}
use Rattle.calls.proofs.lent.Lent.lowest_writer.Given as goal

abbrev pub invariant-loop-station : goal.invariant-loop-station
invariant-loop-station g l = (s : ℕ) → s < l.station → NoWriter (cells_of l.self.sizes.stations l.self.sizes.pages l.self.cells.now s l.page)

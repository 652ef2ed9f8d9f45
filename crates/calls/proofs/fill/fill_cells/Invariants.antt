use Rattle.std.proofs.Common.{◌≡◌, ℕ, ◌<◌, map, get_or}
use Rattle.protocol.specs.declared.cell.Cell.TheVariants.{None as none}
use Rattle.calls.specs.Memory.{cell_of}
use Rattle.calls.proofs.fill.fill_cells.Given as goal

-- the records so far mean no copy
abbrev pub invariant-loop-cell : goal.invariant-loop-cell
invariant-loop-cell g l = (i : ℕ) → i < l.cell-index → get_or (map cell_of l.cells) i none ≡ none

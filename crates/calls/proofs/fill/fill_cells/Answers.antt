use Rattle.std.proofs.Common.{◌≡◌, map, get_or, arith}
use Rattle.std.proofs.lemmas.List.{map-set}
use Rattle.protocol.specs.declared.cell.Cell.TheVariants.{None as none}
use Rattle.calls.specs.Memory.{cell_of}
use Rattle.calls.proofs.Below.{below_none}
use Rattle.calls.proofs.Fills.{record_next, cells_filled}
use Rattle.calls.proofs.fill.fill_cells.Goals as goal

pub loop-cell-init : goal.loop-cell-init
loop-cell-init g c = below_none (λ i. get_or (map cell_of c.args.cells.now) i none ≡ none)

pub loop-cell-preserved : goal.loop-cell-preserved
loop-cell-preserved g c = record_next c.loop-cell.cells _ c.loop-cell.cell-index (map-set cell_of c.loop-cell.cells c.loop-cell.cell-index _) (omega arith) c.loop-cell.invariant

pub returns : goal.returns
returns g c = cells_filled c.loop-cell.cells c.loop-cell.cell-index (omega arith) c.loop-cell.invariant

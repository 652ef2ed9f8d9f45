use Rattle.std.proofs.Common.{set, ap, ◌∙◌}
use Rattle.std.proofs.lemmas.Option.{MatchOption-at_some, MatchOption-at_none}
use Rattle.protocol.specs.State.{with_cell}
use Rattle.calls.specs.Memory.{cells_of}
use Rattle.calls.proofs.Writes.{cell_written}
use Rattle.calls.proofs.carry.station_does.Goals as goal
use Rattle.calls.proofs.carry.station_does.Goals.{in-Some, in_default}

pub returns-clause-cells : goal.returns-clause-cells
returns-clause-cells g c =
    let z = c.args.sizes in
    let cells = c.args.cells.now in
    let s = c.args.station in
    let p = c.args.page in
    elim c.match-place.branch [
      | in-Some w ↦
          let at = MatchOption-at_some _ _ w.in-Some.at w.in-Some.is c.place.ensures in
          ap (cells_of z.stations z.pages) w.cells-is
          ∙ ap (λ i. cells_of z.stations z.pages (set cells i w.of.result)) at.2
          ∙ cell_written z.stations z.pages cells s p w.of.result c.requires.whole c.requires.served c.requires.inside
          ∙ ap (with_cell (cells_of z.stations z.pages cells) s p) w.of.ensures
      | in_default w ↦ absurd (MatchOption-at_none _ _ w.in_default.is c.place.ensures (c.requires.served, c.requires.inside))
    ]

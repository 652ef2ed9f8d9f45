use Rattle.std.proofs.Common.{◌∙◌}
use Rattle.std.proofs.lemmas.Option.{MatchOption-at_some, MatchOption-at_none}
use Rattle.calls.proofs.Writes.{cell_found, cell_missing}
use Rattle.calls.proofs.lent.Lent.cell.Goals as goal

pub returns-in-Some : goal.returns-in-Some
returns-in-Some g c =
    let m = c.args.self.now in
    let found = MatchOption-at_some _ _ c.in-Some.at c.in-Some.is c.place.ensures in
    c.cell.ensures ∙ cell_found m.sizes.stations m.sizes.pages m.cells.now c.args.station c.args.page c.in-Some.at c.index-self-at.result found.0 found.1 m.whole found.2 found.3

pub returns-in-None : goal.returns-in-None
returns-in-None g c =
    let m = c.args.self.now in
    cell_missing m.sizes.stations m.sizes.pages m.cells.now c.args.station c.args.page (MatchOption-at_none _ _ c.in-None.is c.place.ensures)

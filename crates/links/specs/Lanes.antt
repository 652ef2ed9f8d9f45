-- How the lanes of stations lie in the rows of queues: three rows for each station. Assumes nothing.
use Rattle.std.specs.Prelude.{ℕ, ◌+◌, ◌*◌, ◌/◌, cond, List, [], Some, None, Option, nat_lt}
use Rattle.queues.specs.View.{RowsView}
use Rattle.links.specs.declared.lane.Lane.{Lane}
use Rattle.links.specs.View.{LaneView, lane_number, allowed}

-- the row of a station's lane, where there are so many rows; none for a station that is not served
abbrev pub row_of : ℕ → Lane → ℕ → Option ℕ
row_of rows lane station = cond (nat_lt station (rows / 3)) (Some (station * 3 + lane_number lane)) None

-- what waits in a row, and nothing where there is none
abbrev pub row_list : {X : Type 0} → RowsView X → Option ℕ → List X
row_list v None = []
row_list v (Some r) = v.row r

-- the rows of queues as lanes
abbrev pub lanes_of : {X : Type 0} → RowsView X → LaneView X
lanes_of v = record { count = v.rows / 3; room = v.places; waiting = λ lane station. row_list v (row_of v.rows lane station) }

-- the rows of links of these sizes, and the places of each; none where links may not have the sizes
abbrev pub sizes_of : ℕ → ℕ → Option (ℕ × ℕ)
sizes_of stations room = cond (allowed stations room) (Some (stations * 3, room)) None

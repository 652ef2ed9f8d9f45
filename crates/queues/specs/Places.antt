-- The places of the waiting entries of a table's rows, and the entries that lie there in any list. Assumes nothing.
use Rattle.std.specs.Prelude.{◌≡◌, ℕ, ◌+◌, ◌*◌, ◌%◌, ◌<◌, true, false, cond, ◌≢◌, List, map, take, drop, Ok, Err, Result, nat_le}
use Rattle.std.specs.List.{range_with_len, flat_map, AllByRecursion}
use Rattle.queues.specs.View.{RowsView, can_put, after_put, empty_rows}
use Rattle.queues.specs.Positions.{position_in}
use Rattle.queues.specs.declared.denied.Denied.{Denied}
use Rattle.queues.specs.declared.position.Position.{Position}
use Rattle.queues.specs.declared.table.Table.{Table}
use Rattle.queues.specs.declared.queue.Queues.{Queues}

-- so many places of a row from a column on: they go round in the row
abbrev pub places_from : ℕ → ℕ → ℕ → ℕ → List ℕ
places_from places row column count = map (λ k. row * places + k % places) (range_with_len column count)

abbrev pub places_at : ℕ → ℕ → Position → List ℕ
places_at places row p = places_from places row p.oldest p.waiting

-- the places of what waits in a row, the oldest first
unfoldable pub row_places : ℕ → ℕ → List Position → ℕ → List ℕ
row_places rows places positions row = places_at places row (position_in rows positions row)

abbrev pub places_over : ℕ → ℕ → List Position → RowsView ℕ
places_over rows places positions = record { rows = rows; places = places; row = row_places rows places positions }

-- what a table means
abbrev pub places_of : Table → RowsView ℕ
places_of t = places_over t.rows t.places t.positions

-- what a table means over so many entries: it has no row where they are too few for all its rows
abbrev pub places_in : ℕ → Table → RowsView ℕ
places_in entries t = cond (nat_le (t.rows * t.places) entries) (places_of t) (empty_rows 0 t.places)

-- the entries at those places; a place past the last has none
unfoldable pub entries_at : {X : Type 0} → List X → List ℕ → List X
entries_at entries places = flat_map (λ place. take 1 (drop place entries)) places

-- rows of places as rows of the entries there
abbrev pub entries_of : {X : Type 0} → List X → RowsView ℕ → RowsView X
entries_of entries v = record { rows = v.rows; places = v.places; row = λ row. entries_at entries (v.row row) }

-- what a table means over a list of entries
abbrev pub view_in : {X : Type 0} → List X → Table → RowsView X
view_in entries t = entries_of entries (places_of t)

-- what queues mean
abbrev pub view_of : {X : Type 0} → Queues X → RowsView X
view_of q = view_in q.entries.now q.table

-- A row's next place was taken: it is one of the table's, nothing waits there in any row, and it is now the row's newest.
pub record Taken (row place : ℕ) (before after : RowsView ℕ) : Type 0 where
  pub room : can_put before row ≡ true
  pub inside : place < before.rows * before.places
  pub free : (other : ℕ) → AllByRecursion (λ used. used ≢ place) (before.row other)
  pub newest : after ≡ after_put before row place

pub record NotTaken (row : ℕ) (before after : RowsView ℕ) : Type 0 where
  pub full : can_put before row ≡ false
  pub same : after ≡ before

-- what taking a row's next place answers and leaves
abbrev pub Taking : ℕ → RowsView ℕ → Result ℕ Denied → RowsView ℕ → Type 0
Taking row before (Ok place) after = Taken row place before after
Taking row before (Err denied) after = NotTaken row before after

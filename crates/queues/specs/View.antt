-- What queues mean: rows in which entries wait, and what the calls do to them. Assumes nothing.
use Rattle.std.specs.Prelude.{ℕ, ◌*◌, Bool, cond, ◌&&◌, List, [], ◌∷◌, ◌++◌, length, drop, Ok, Err, Result, ◌==◌, nat_le, nat_lt}
use Rattle.queues.specs.declared.denied.Denied.{Denied}

-- how many rows there are, how many entries each has room for, and what waits in each, the oldest first
pub record RowsView (X : Type 0) : Type 0 where
  pub rows : ℕ
  pub places : ℕ
  pub row : ℕ → List X

-- the rows with another list in one of them
unfoldable pub changed : {X : Type 0} → (ℕ → List X) → ℕ → List X → ℕ → List X
changed before r list other = cond (other == r) list (before other)

abbrev pub with_row : {X : Type 0} → RowsView X → ℕ → List X → RowsView X
with_row v r list = record { rows = v.rows; places = v.places; row = changed v.row r list }

-- whether the row is there and has room
abbrev pub can_put : {X : Type 0} → RowsView X → ℕ → Bool
can_put v r = nat_lt r v.rows && nat_lt (length (v.row r)) v.places

-- with the entry last in the row; as it was where the put is denied
abbrev pub after_put : {X : Type 0} → RowsView X → ℕ → X → RowsView X
after_put v r entry = cond (can_put v r) (with_row v r (v.row r ++ entry ∷ [])) v

-- whether anything waits in the row
abbrev pub can_drop : {X : Type 0} → RowsView X → ℕ → Bool
can_drop v r = nat_lt 0 (length (v.row r))

-- without the oldest entry of the row; as it was where the drop is denied
abbrev pub after_drop : {X : Type 0} → RowsView X → ℕ → RowsView X
after_drop v r = cond (can_drop v r) (with_row v r (drop 1 (v.row r))) v

-- the answer of a call that is denied unless the test holds
abbrev pub granted_if : Bool → Result (Unit {0}) Denied
granted_if test = cond test (Ok tt) (Err (record {}))

abbrev pub most_rows : ℕ
most_rows = 48

abbrev pub most_places : ℕ
most_places = 16

-- whether so many entries are enough for rows of so many places, and neither is too many
abbrev pub fitting : ℕ → ℕ → ℕ → Bool
fitting entries rows places = nat_le rows most_rows && (nat_le places most_places && nat_le (rows * places) entries)

abbrev pub empty_rows : {X : Type 0} → ℕ → ℕ → RowsView X
empty_rows rows places = record { rows = rows; places = places; row = λ _. [] }

-- queues that were just made: nothing waits, and there is no row where the sizes do not fit
abbrev pub made_rows : {X : Type 0} → ℕ → ℕ → ℕ → RowsView X
made_rows entries rows places = cond (fitting entries rows places) (empty_rows rows places) (empty_rows 0 0)

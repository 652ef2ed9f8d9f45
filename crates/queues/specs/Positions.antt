-- Where the entries of one row lie among its places, which are used round and round. Assumes nothing.
use Rattle.std.specs.Prelude.{ℕ, ◌+◌, ◌-◌, ◌%◌, ◌≤◌, cond, List, Some, None, Option, nat_lt, slice_index_or}
use Rattle.queues.specs.declared.position.Position.{Position}

-- the position of a row in which nothing waits
abbrev pub nothing : Position
nothing = record { oldest = 0; waiting = 0 }

-- a row's position; nothing waits past the last
abbrev pub position_of : List Position → ℕ → Position
position_of positions row = slice_index_or positions row nothing

-- a row's position where there are so many rows; nothing waits in a row that is not there
abbrev pub position_in : ℕ → List Position → ℕ → Position
position_in rows positions row = cond (nat_lt row rows) (position_of positions row) nothing

-- the column of the oldest entry, if one waits
abbrev pub oldest_column : Position → Option ℕ
oldest_column p = cond (nat_lt 0 p.waiting) (Some p.oldest) None

-- the column after the newest entry, if there is room
abbrev pub next_column : ℕ → Position → Option ℕ
next_column places p = cond (nat_lt p.waiting places) (Some ((p.oldest + p.waiting) % places)) None

-- in each row the oldest entry lies at one of its places
abbrev pub OldestWithin : ℕ → List Position → Type 0
OldestWithin places positions = (row : ℕ) → (position_of positions row).oldest ≤ places - 1

-- in each row no more entries wait than it has places
abbrev pub WaitingWithin : ℕ → List Position → Type 0
WaitingWithin places positions = (row : ℕ) → (position_of positions row).waiting ≤ places

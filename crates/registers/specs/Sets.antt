-- Sets of stations: a set answers for each number whether that station is in it. Assumes nothing.
use Rattle.std.specs.Prelude.{ℕ, zero, suc, ◌+◌, Bool, false, cond, not, ◌&&◌, ◌||◌, ◌==◌, nat_lt}

-- stations have the numbers below this one
abbrev pub station_limit : ℕ
station_limit = 16

abbrev pub nobody : ℕ → Bool
nobody station = false

-- the set with that station too; as it was where the number is no station's
abbrev pub including : (ℕ → Bool) → ℕ → ℕ → Bool
including set added station = set station || (station == added && nat_lt added station_limit)

-- the set without that station
abbrev pub without : (ℕ → Bool) → ℕ → ℕ → Bool
without set struck station = set station && not (station == struck)

-- how many of the numbers below `limit` are in the set
unfoldable pub how_many_below : ℕ → (ℕ → Bool) → ℕ
how_many_below zero set = 0
how_many_below (suc limit) set = cond (set limit) 1 0 + how_many_below limit set

-- how many stations are in the set
unfoldable pub how_many : (ℕ → Bool) → ℕ
how_many set = how_many_below station_limit set

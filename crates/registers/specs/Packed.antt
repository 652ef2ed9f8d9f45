-- A set of stations as a list of four-bit numbers packed into one number, the first of the list lowest. Assumes nothing.
use Rattle.std.specs.Prelude.{ℕ, zero, suc, ◌/◌, ◌%◌, Bool, List, [], ◌∷◌, ◌==◌}
use Rattle.std.specs.List.{list_any}

-- the first `count` numbers of the list
abbrev pub numbers : ℕ → ℕ → List ℕ
numbers zero list = []
numbers (suc count) list = list % 16 ∷ numbers count (list / 16)

-- the stations that these numbers are
unfoldable pub in_list : ℕ → ℕ → ℕ → Bool
in_list count list station = list_any (λ number. number == station) (numbers count list)

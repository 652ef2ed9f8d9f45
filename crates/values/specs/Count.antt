-- A count in four bytes, highest first. Assumes nothing.
use Rattle.std.specs.Prelude.{ℕ, ◌+◌, ◌*◌, ◌/◌, ◌%◌, List, [], ◌∷◌, Some, None, Option}
use Rattle.values.specs.declared.count.Count.{Count}

abbrev pub count_bytes : Count → List ℕ
count_bytes c = (c.number / 16777216) ∷ (c.number / 65536 % 256) ∷ (c.number / 256 % 256) ∷ (c.number % 256) ∷ []

abbrev pub of_number : ℕ → Count
of_number n = record { number = n }

-- any four bytes read, and nothing else does
abbrev pub count_reads : List ℕ → Option Count
count_reads [] = None
count_reads (a ∷ []) = None
count_reads (a ∷ b ∷ []) = None
count_reads (a ∷ b ∷ c ∷ []) = None
count_reads (a ∷ b ∷ c ∷ d ∷ []) = Some (of_number (a * 16777216 + b * 65536 + c * 256 + d))
count_reads (a ∷ b ∷ c ∷ d ∷ e ∷ more) = None

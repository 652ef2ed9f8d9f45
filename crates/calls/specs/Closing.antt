-- What is found when a round is closed. Assumes nothing.
use Rattle.std.specs.Prelude.{◌≡◌, ℕ, ◌<◌, Option, MatchOption, ◌≢◌}
use Rattle.protocol.specs.declared.cell.Cell.{Cell}
use Rattle.protocol.specs.declared.cell.Cell.TheVariants.{Ex}

-- this is no writing copy
abbrev pub NoWriter : {V : Type 0} → Cell V → Type 0
NoWriter {V} cell = (v : V) → cell ≢ Ex v

-- the value of the lowest station whose copy is a writing one, or no station has such a copy
abbrev pub LowestWriter : {V : Type 0} → (ℕ → Cell V) → Option V → Type 0
LowestWriter cells r = MatchOption r ((s : ℕ) → NoWriter (cells s)) (λ w. (s : ℕ) × (cells s ≡ Ex w) × ((t : ℕ) → t < s → NoWriter (cells t)))

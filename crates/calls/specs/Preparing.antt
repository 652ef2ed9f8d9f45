-- What is asked of the sizes of a round before it is prepared, and which cells a round of these sizes has. Assumes nothing.
use Rattle.std.specs.Prelude.{◌≡◌, ℕ, ◌+◌, ◌*◌, ◌<◌, Option, MatchOption, Ok, Err, Result}
use Rattle.protocol.specs.declared.sizes.Sizes.{Sizes}
use Rattle.coherence.specs.declared.refusal.Refusal.{Refusal}
use Rattle.coherence.specs.Questions.{size_questions, FirstNo}
use Rattle.calls.specs.declared.sizes.RoundSizes.{RoundSizes}
use Rattle.calls.specs.Memory.{plain}

-- the same sizes, or the first question about them that is answered no
abbrev pub SizesAnswered : Sizes → Result RoundSizes Refusal → Type 0
SizesAnswered sizes (Ok z) = plain z ≡ sizes
SizesAnswered sizes (Err refusal) = FirstNo (size_questions sizes) refusal

-- where the cell of a station and a page lies, station after station, if the round has both
abbrev pub Placed : RoundSizes → ℕ → ℕ → Option ℕ → Type 0
Placed z s p r =
    MatchOption r ((s < z.stations) × (p < z.pages) → ⊥)
    (λ at. (s < z.stations) × (p < z.pages) × (at ≡ s * z.pages + p) × (at < z.stations * z.pages))

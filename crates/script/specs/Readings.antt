-- What holds of the reading of every script. Assumes nothing.
use Rattle.std.specs.Prelude.{◌≡◌, ℕ, ◌+◌, Bool, true, List, ◌++◌, length, drop}
use Rattle.messages.specs.Bytes.{field}
use Rattle.script.specs.declared.record.Record.{Record}
use Rattle.script.specs.Records.{Piece, tag_of, body_of, OfValue, Outcome, entry, Next}

-- from a byte on, one thing comes next, and the reader then stands at one byte
abbrev pub OneThingComesNext : Type 0
OneThingComesNext =
    (width : ℕ) (readable : List ℕ → Bool) (script : List ℕ) (at : ℕ) (a b : Outcome) (x y : ℕ) → Next width readable script at a x → Next width readable script at b y → (a ≡ b) × (x ≡ y)

-- the bytes of a record read as that record
abbrev pub RecordsReadBack : Type 0
RecordsReadBack =
    (width : ℕ) (readable : List ℕ → Bool) (script rest : List ℕ) (at : ℕ) (r : Record Piece)
    → OfValue (λ value. length value.bytes ≡ width) r
    → OfValue (λ value. readable value.bytes ≡ true) r
    → OfValue (λ value. value.at ≡ at) r
    → drop at script ≡ field (tag_of r) (body_of r) ++ rest
    → Next width readable script at (entry r at) (at + (3 + length (body_of r)))

-- What stands at a byte of a script: a field, its end, or a fault. Assumes nothing.
use Rattle.std.specs.Prelude.{◌≡◌, ℕ, ◌+◌, ◌*◌, ◌<◌, ◌≤◌, List, [], ◌++◌, length, Some, None, Ok, Err, Option, Result, slice_index}
use Rattle.messages.specs.Bytes.{field}
use Rattle.script.specs.declared.fault.Fault.{Fault}
use Rattle.script.specs.declared.fault.FaultKind.{FaultKind}
use Rattle.script.specs.declared.fault.FaultKind.TheVariants.{TooLong, HeaderCut, BodyCut, UnknownTag, WrongLength, Unreadable}
use Rattle.script.specs.declared.field.Field.{Field}
use Rattle.script.specs.declared.field.Reader.{Reader}

-- how many bytes a script has at the most
abbrev pub longest : ℕ
longest = 65536

-- a script is short enough, or it is refused with the place 0
abbrev pub Opens : List ℕ → Result Reader Fault → Type 0
Opens script (Ok reader) = (length script ≤ longest) × (reader.script.now ≡ script) × (reader.at ≡ 0)
Opens script (Err fault) = (longest < length script) × (fault ≡ record { kind = TooLong; at = 0 })

pub data Found : Type 0 where
  end : Found
  one : ℕ → List ℕ → ℕ → Found
  broken : Fault → Found

-- a field by its tag, its body and the byte where it begins
abbrev pub field_found : Result (Option Field) Fault → Found
field_found (Ok None) = end
field_found (Ok (Some f)) = one f.tag f.body.now f.at
field_found (Err fault) = broken fault

-- the length that a header announces
abbrev pub announced : List ℕ → ℕ
announced left = slice_index left 1 * 256 + slice_index left 2

-- the first question that is answered no; a fault of the script's length or of a record is none of a field
abbrev pub Cut : FaultKind → List ℕ → Type 0
Cut TooLong left = ⊥
Cut HeaderCut left = (0 < length left) × (length left < 3)
Cut BodyCut left = (3 ≤ length left) × (length left < 3 + announced left)
Cut UnknownTag left = ⊥
Cut WrongLength left = ⊥
Cut Unreadable left = ⊥

-- what stands at the front of what is left of a script from the byte `place` on
abbrev pub Front : List ℕ → ℕ → Found → Type 0
Front left place end = left ≡ []
Front left place (one tag body at) = (at ≡ place) × ((rest : List ℕ) × (left ≡ field tag body ++ rest))
Front left place (broken fault) = (fault.at ≡ place) × Cut fault.kind left

-- how far a reader goes on
abbrev pub after : Found → ℕ
after end = 0
after (one tag body at) = 3 + length body
after (broken fault) = 0

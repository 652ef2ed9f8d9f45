-- The records of a script: their tags, their bodies, and which field holds which record. Assumes nothing.
use Rattle.std.specs.Prelude.{◌≡◌, ℕ, ◌+◌, ◌-◌, ◌<◌, ◌≤◌, Bool, true, List, [], ◌∷◌, ◌++◌, length, drop, is_some, Some, None, Ok, Err, Option, Result, ◌≢◌, slice_index}
use Rattle.std.specs.Option.{option_map}
use Rattle.protocol.specs.Firings.{firing_number}
use Rattle.messages.specs.Bytes.{word}
use Rattle.script.specs.declared.fault.FaultKind.{FaultKind}
use Rattle.script.specs.declared.fault.FaultKind.TheVariants.{TooLong, HeaderCut, BodyCut, UnknownTag, WrongLength, Unreadable}
use Rattle.script.specs.declared.fault.Fault.{Fault}
use Rattle.script.specs.declared.record.Entry.{Entry}
use Rattle.script.specs.declared.record.Part.{Part}
use Rattle.script.specs.declared.record.Record.{Record}
use Rattle.script.specs.declared.record.Record.TheVariants.{Prepare, Set, Start, Load, Store, Fire, Close, Readout}
use Rattle.script.specs.Fields.{end, one, broken, Front}

abbrev pub tag_of : {P : Type 0} → Record P → ℕ
tag_of (Prepare stations pages room) = 1
tag_of (Set page value) = 2
tag_of Start = 3
tag_of (Load station page) = 4
tag_of (Store station page value) = 5
tag_of (Fire kind station) = 6
tag_of Close = 7
tag_of (Readout page) = 8

-- a value's part of a script, by its bytes and the byte where its field begins
pub record Piece : Type 0 where
  pub bytes : List ℕ
  pub at : ℕ

abbrev pub body_of : Record Piece → List ℕ
body_of (Prepare stations pages room) = stations ∷ (word pages ++ (room ∷ []))
body_of (Set page value) = word page ++ value.bytes
body_of Start = []
body_of (Load station page) = station ∷ word page
body_of (Store station page value) = station ∷ (word page ++ value.bytes)
body_of (Fire kind station) = firing_number kind ∷ station ∷ []
body_of Close = []
body_of (Readout page) = word page

-- the lengths of the bodies of the tags 1 to 8, where a value has `width` bytes
abbrev pub body_sizes : ℕ → List ℕ
body_sizes width = 4 ∷ (2 + width) ∷ 0 ∷ 3 ∷ (3 + width) ∷ 2 ∷ 0 ∷ 2 ∷ []

-- what holds of the value in a record, if it has one
abbrev pub OfValue : {P : Type 0} → (P → Type 0) → Record P → Type 0
OfValue Q (Prepare stations pages room) = Unit {0}
OfValue Q (Set page value) = Q value
OfValue Q Start = Unit {0}
OfValue Q (Load station page) = Unit {0}
OfValue Q (Store station page value) = Q value
OfValue Q (Fire kind station) = Unit {0}
OfValue Q Close = Unit {0}
OfValue Q (Readout page) = Unit {0}

-- the same record with its value held otherwise
abbrev pub record_as : {P Q : Type 0} → (P → Q) → Record P → Record Q
record_as f (Prepare stations pages room) = Prepare stations pages room
record_as f (Set page value) = Set page (f value)
record_as f Start = Start
record_as f (Load station page) = Load station page
record_as f (Store station page value) = Store station page (f value)
record_as f (Fire kind station) = Fire kind station
record_as f Close = Close
record_as f (Readout page) = Readout page

-- the same, where its value can be held so
abbrev pub record_where : {P Q : Type 0} → (P → Option Q) → Record P → Option (Record Q)
record_where f (Prepare stations pages room) = Some (Prepare stations pages room)
record_where f (Set page value) = option_map (Set page) (f value)
record_where f Start = Some Start
record_where f (Load station page) = Some (Load station page)
record_where f (Store station page value) = option_map (Store station page) (f value)
record_where f (Fire kind station) = Some (Fire kind station)
record_where f Close = Some Close
record_where f (Readout page) = Some (Readout page)

-- what the reader's references refer to
abbrev pub piece_of : Part → Piece
piece_of part = record { bytes = part.bytes.now; at = part.at }

abbrev pub seen : Result (Record Part) Fault → Result (Record Piece) Fault
seen (Ok r) = Ok (record_as piece_of r)
seen (Err fault) = Err fault

abbrev pub piece_seen : Result Part FaultKind → Result Piece FaultKind
piece_seen (Ok part) = Ok (piece_of part)
piece_seen (Err kind) = Err kind

-- whether bytes read as a value of a kind
abbrev pub readable : {V : Type 0} → (List ℕ → Option V) → List ℕ → Bool
readable reads bytes = is_some (reads bytes)

module _ (width : ℕ) (readable : List ℕ → Bool) where
  -- a field with this tag and body, at this place, holds the record; its value is that part of the body, of the right width, and reads
  pub record Holds (tag : ℕ) (body : List ℕ) (place : ℕ) (r : Record Piece) : Type 0 where
    pub tagged : tag ≡ tag_of r
    pub bodied : body ≡ body_of r
    pub wide : OfValue (λ value. length value.bytes ≡ width) r
    pub reads : OfValue (λ value. readable value.bytes ≡ true) r
    pub placed : OfValue (λ value. value.at ≡ place) r

  abbrev pub RightLength : ℕ → List ℕ → Type 0
  RightLength tag body = length body ≡ slice_index (body_sizes width) (tag - 1)

  -- the first question that a field answers with no; the other faults are none of a record
  abbrev pub Fails : ℕ → List ℕ → ℕ → FaultKind → Type 0
  Fails tag body place TooLong = ⊥
  Fails tag body place HeaderCut = ⊥
  Fails tag body place BodyCut = ⊥
  Fails tag body place UnknownTag = 8 < tag
  Fails tag body place WrongLength = (tag ≤ 8) × (RightLength tag body → ⊥)
  Fails tag body place Unreadable = (tag ≤ 8) × RightLength tag body × ((r : Record Piece) → Holds tag body place r → ⊥)

  -- what a field says: the record that it holds, or a fault at its place
  abbrev pub Says : ℕ → List ℕ → ℕ → Result (Record Piece) Fault → Type 0
  Says tag body place (Ok r) = Holds tag body place r
  Says tag body place (Err fault) = (fault.at ≡ place) × Fails tag body place fault.kind

  abbrev pub ValueFails : List ℕ → FaultKind → Type 0
  ValueFails bytes TooLong = ⊥
  ValueFails bytes HeaderCut = ⊥
  ValueFails bytes BodyCut = ⊥
  ValueFails bytes UnknownTag = ⊥
  ValueFails bytes WrongLength = length bytes ≡ width → ⊥
  ValueFails bytes Unreadable = (length bytes ≡ width) × (readable bytes ≢ true)

  -- the same of a value's part alone
  abbrev pub ValueSays : List ℕ → ℕ → Result Piece FaultKind → Type 0
  ValueSays bytes place (Ok piece) = (length bytes ≡ width) × (readable bytes ≡ true) × (piece ≡ record { bytes = bytes; at = place })
  ValueSays bytes place (Err kind) = ValueFails bytes kind

-- the record with its value in place of the value's bytes, where they read
abbrev pub decoded : {V : Type 0} → (List ℕ → Option V) → Record Piece → Option (Record V)
decoded reads r = record_where (λ value. reads value.bytes) r

-- what comes next in a script: its end, a record and the byte where its field begins, or a fault
pub data Outcome : Type 0 where
  done : Outcome
  entry : Record Piece → ℕ → Outcome
  faulty : Fault → Outcome

abbrev pub outcome : Result (Option Entry) Fault → Outcome
outcome (Ok None) = done
outcome (Ok (Some e)) = entry (record_as piece_of e.record) e.at
outcome (Err fault) = faulty fault

-- the outcome of a field at that place
abbrev pub of_field : ℕ → Result (Record Piece) Fault → Outcome
of_field place (Ok r) = entry r place
of_field place (Err fault) = faulty fault

-- from the byte `at` on the script gives this outcome, and a reader then stands at the byte `to`; padding is skipped
pub data Next (width : ℕ) (readable : List ℕ → Bool) (script : List ℕ) : ℕ → Outcome → ℕ → Type 0 where
  ended : (at : ℕ) → Front (drop at script) at end → Next width readable script at done at
  cut : (at : ℕ) (fault : Fault) → Front (drop at script) at (broken fault) → Next width readable script at (faulty fault) at
  padded : (at place : ℕ) (body : List ℕ) (next : Outcome) (to : ℕ) → Front (drop at script) at (one 0 body place) → Next width readable script (at + (3 + length body)) next to → Next width readable script at next to
  told : (at place tag : ℕ) (body : List ℕ) (r : Result (Record Piece) Fault) → Front (drop at script) at (one tag body place) → 0 < tag → Says width readable tag body place r → Next width readable script at (of_field place r) (at + (3 + length body))

-- The bytes of a message: its kind, its page and, where the kind has one, its value, each in a field. Assumes nothing.
use Rattle.std.specs.Prelude.{ℕ, ◌+◌, ◌/◌, ◌%◌, List, [], ◌∷◌, ◌++◌, length, Some, None, Option}
use Rattle.messages.specs.declared.message.Kind.{Kind}
use Rattle.messages.specs.declared.message.Kind.TheVariants.{ShReq, ExReq, ShRep, ExRep, WbReq, FlushReq, InvReq, WbRep, FlushRep, InvRep}
use Rattle.messages.specs.declared.message.Message.{Message}

-- a number in two bytes, highest first
abbrev pub word : ℕ → List ℕ
word n = (n / 256) ∷ (n % 256) ∷ []

-- a tag, the length of the body and the body
abbrev pub field : ℕ → List ℕ → List ℕ
field tag body = tag ∷ (word (length body) ++ body)

-- a field, by its tag and its body, and what follows it
abbrev pub field_and_rest : ℕ → List ℕ → List ℕ → List ℕ
field_and_rest tag body rest = field tag body ++ rest

-- the fields of a kind's number and of a page, and what follows them
abbrev pub kind_and_page : ℕ → ℕ → List ℕ → List ℕ
kind_and_page number page rest = field 1 (number ∷ []) ++ field 2 (word page) ++ rest

-- the tag of a value
abbrev pub value_tag : ℕ
value_tag = 3

-- no message has more bytes, where every value has `width` of them
abbrev pub max_size : ℕ → ℕ
max_size width = width + 12

module _ {V : Type 0} where
  abbrev pub kind_number : Kind V → ℕ
  kind_number ShReq = 1
  kind_number ExReq = 2
  kind_number (ShRep v) = 3
  kind_number (ExRep v) = 4
  kind_number WbReq = 5
  kind_number FlushReq = 6
  kind_number InvReq = 7
  kind_number (WbRep v) = 8
  kind_number (FlushRep v) = 9
  kind_number InvRep = 10

  abbrev pub value_of : Kind V → Option V
  value_of ShReq = None
  value_of ExReq = None
  value_of (ShRep v) = Some v
  value_of (ExRep v) = Some v
  value_of WbReq = None
  value_of FlushReq = None
  value_of InvReq = None
  value_of (WbRep v) = Some v
  value_of (FlushRep v) = Some v
  value_of InvRep = None

  abbrev pub number_and_value : Kind V → ℕ × Option V
  number_and_value kind = (kind_number kind, value_of kind)

  -- the field of a value, or nothing where there is none; `bytes` has the bytes of each value
  abbrev pub value_field : (V → List ℕ) → Option V → List ℕ
  value_field bytes None = []
  value_field bytes (Some v) = field value_tag (bytes v)

  abbrev pub message_bytes : (V → List ℕ) → Message V → List ℕ
  message_bytes bytes m = kind_and_page (kind_number m.kind) m.page (value_field bytes (value_of m.kind))

-- Messages that stand in bytes, each at the front of its slot, and byte links over them. Assumes nothing.
use Rattle.std.specs.Prelude.{ℕ, ◌+◌, ◌*◌, ◌/◌, Bool, true, false, cond, ◌&&◌, List, [], ◌∷◌, ◌++◌, map, length, take, drop, Some, None, Option, ◌==◌, nat_le, slice_index}
use Rattle.std.specs.List.{range_with_len}
use Rattle.messages.specs.declared.message.Kind.{Kind}
use Rattle.messages.specs.declared.message.Kind.TheVariants.{ShReq, ExReq, ShRep, ExRep, WbReq, FlushReq, InvReq, WbRep, FlushRep, InvRep}
use Rattle.messages.specs.declared.message.Message.{Message}
use Rattle.messages.specs.Bytes.{message_bytes, max_size}
use Rattle.queues.specs.declared.table.Table.{Table}
use Rattle.queues.specs.View.{RowsView, empty_rows}
use Rattle.queues.specs.Places.{view_in}
use Rattle.links.specs.declared.bytes.ByteLinks.{ByteLinks}
use Rattle.links.specs.View.{LaneView}
use Rattle.links.specs.Lanes.{lanes_of}

-- whether the slot begins with these bytes
unfoldable pub begins : List ℕ → List ℕ → Bool
begins [] slot = true
begins (b ∷ bs) [] = false
begins (b ∷ bs) (s ∷ slot) = b == s && begins bs slot

abbrev pub plain_kinds : {V : Type 0} → List (Kind V)
plain_kinds = ShReq ∷ ExReq ∷ WbReq ∷ FlushReq ∷ InvReq ∷ InvRep ∷ []

abbrev pub value_kinds : {V : Type 0} → Option V → List (Kind V)
value_kinds None = []
value_kinds (Some v) = ShRep v ∷ ExRep v ∷ WbRep v ∷ FlushRep v ∷ []

abbrev pub message_of : {V : Type 0} → ℕ → Kind V → Message V
message_of page kind = record { page = page; kind = kind }

-- what a table means where all its places must lie among the entries: it has no row where they are too few
abbrev pub served : {X : Type 0} → List X → Table → RowsView X
served entries t = cond (nat_le (t.rows * t.places) (length entries)) (view_in entries t) (empty_rows 0 t.places)

-- values are written as `bytes`, `width` of them, and read by `reads`
module _ {V : Type 0} (bytes : V → List ℕ) (reads : List ℕ → Option V) (width : ℕ) where
  -- the message of this page and one of these kinds with whose bytes the slot begins; where there is none, ShReq of page 0
  unfoldable pub among : ℕ → List ℕ → List (Kind V) → Message V
  among page slot [] = message_of 0 ShReq
  among page slot (kind ∷ more) = cond (begins (message_bytes bytes (message_of page kind)) slot) (message_of page kind) (among page slot more)

  -- the message at the front of a slot; its value, if it has one, can only be what stands after the first 12 bytes
  unfoldable pub front_message : List ℕ → Message V
  front_message slot = among (slice_index slot 7 * 256 + slice_index slot 8) slot (plain_kinds ++ value_kinds (reads (take width (drop 12 slot))))

  -- the messages in the slots of a memory
  unfoldable pub slots : List ℕ → List (Message V)
  slots memory = map (λ i. front_message (take (max_size width) (drop (i * max_size width) memory))) (range_with_len 0 (length memory / max_size width))

  -- what byte links mean; over fewer slots than the rows of their table need they serve no station
  abbrev pub byte_view : ByteLinks → LaneView (Message V)
  byte_view links = lanes_of (served (slots links.memory.now) links.table)

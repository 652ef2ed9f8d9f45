-- A message written and then read is that message. Assumes nothing.
use Rattle.std.proofs.Common.{◌≡◌, ℕ, ◌+◌, ◌≤◌, List, length, Some, None, Option, sym, refl, ap, ◌∙◌, subst, arith}
use Rattle.messages.specs.declared.message.Message.{Message}
use Rattle.messages.specs.Bytes.{value_of, value_field, message_bytes}
use Rattle.messages.specs.Reading.{Reads}
use Rattle.messages.specs.RoundTrip.{ReadsBackAsItself, SameBytesSameMessage, AtMostWidthAndTwelve, RoundTripHolds}
use Rattle.messages.proofs.Parts.{same_message}
use Rattle.messages.proofs.Buffers.{at_front}

module _ {V : Type 0} (bytes : V → List ℕ) (reads : List ℕ → Option V) (back : (v : V) → reads (bytes v) ≡ Some v) where
  same : SameBytesSameMessage bytes
  same = same_message bytes reads back

  read_itself : (m : Message V) (r : Option (Message V)) → Reads (message_bytes bytes) (message_bytes bytes m) r → r ≡ Some m
  read_itself m None e = absurd (e m refl)
  read_itself m (Some n) e = ap (λ (x : Message V). Some x) (sym (same m n e))

  reads_back : ReadsBackAsItself bytes
  reads_back m buffer size r e read = read_itself m r (subst (λ (s : List ℕ). Reads (message_bytes bytes) s r) (at_front (message_bytes bytes m) buffer size (sym e)) read)

  value_long : (width : ℕ) → ((v : V) → length (bytes v) ≡ width) → (o : Option V) → length (value_field bytes o) ≤ width + 3
  value_long width fixed None = omega arith
  value_long width fixed (Some v) = omega (arith, fixed v)

  longest : (width : ℕ) → ((v : V) → length (bytes v) ≡ width) → AtMostWidthAndTwelve bytes width
  longest width fixed m = omega (arith, value_long width fixed (value_of m.kind))

  pub round_trip : (width : ℕ) → ((v : V) → length (bytes v) ≡ width) → RoundTripHolds bytes width
  round_trip width fixed = (reads_back, (λ s m buffer size read e. at_front (message_bytes bytes m) buffer size (sym e) ∙ sym read), same, longest width fixed)

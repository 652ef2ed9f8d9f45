-- What writing and reading a message promise of one another, over what their contracts cite. Assumes nothing.
use Rattle.std.specs.Prelude.{◌≡◌, ℕ, ◌≤◌, cond, List, length, take, Some, Ok, Err, Option, Result}
use Rattle.values.specs.declared.buffer.TooShort.{TooShort}
use Rattle.values.specs.Writing.{fits, answered, written}
use Rattle.messages.specs.declared.message.Message.{Message}
use Rattle.messages.specs.Bytes.{message_bytes, max_size}
use Rattle.messages.specs.Reading.{Reads}

module _ {V : Type 0} (bytes : V → List ℕ) where
  -- the message itself, or the refusal where the buffer is too short
  abbrev pub itself : Message V → List ℕ → Result (Option (Message V)) TooShort
  itself m buffer = cond (fits (message_bytes bytes m) buffer) (Ok (Some m)) (Err (record {}))

  -- what is written of a message reads as that message, and as nothing else
  abbrev pub ReadsBackAsItself : Type 0
  ReadsBackAsItself =
      (m : Message V) (buffer : List ℕ) (size : ℕ) (r : Option (Message V)) →
      answered (message_bytes bytes m) buffer ≡ Ok size →
      Reads (message_bytes bytes) (take size (written (message_bytes bytes m) buffer)) r →
      r ≡ Some m

  -- bytes that read as a message are those that are written of it
  abbrev pub WritesBackTheSameBytes : Type 0
  WritesBackTheSameBytes =
      (s : List ℕ) (m : Message V) (buffer : List ℕ) (size : ℕ) →
      Reads (message_bytes bytes) s (Some m) →
      answered (message_bytes bytes m) buffer ≡ Ok size →
      take size (written (message_bytes bytes m) buffer) ≡ s

  abbrev pub SameBytesSameMessage : Type 0
  SameBytesSameMessage = (m n : Message V) → message_bytes bytes m ≡ message_bytes bytes n → m ≡ n

  abbrev pub AtMostWidthAndTwelve : ℕ → Type 0
  AtMostWidthAndTwelve width = (m : Message V) → length (message_bytes bytes m) ≤ max_size width

  -- the theorem of writing and reading, at values of `width` bytes
  abbrev pub RoundTripHolds : ℕ → Type 0
  RoundTripHolds width = ReadsBackAsItself × WritesBackTheSameBytes × SameBytesSameMessage × AtMostWidthAndTwelve width

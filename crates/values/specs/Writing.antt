-- Writing bytes at the front of a buffer: what is answered and what the buffer then holds. Assumes nothing.
use Rattle.std.specs.Prelude.{ℕ, Bool, cond, List, ◌++◌, length, drop, Ok, Err, Result, nat_le}
use Rattle.values.specs.declared.buffer.TooShort.{TooShort}

abbrev pub fits : List ℕ → List ℕ → Bool
fits bytes buffer = nat_le (length bytes) (length buffer)

-- how many bytes were written, or the refusal where the buffer is too short
abbrev pub answered : List ℕ → List ℕ → Result ℕ TooShort
answered bytes buffer = cond (fits bytes buffer) (Ok (length bytes)) (Err (record {}))

-- the bytes and then the rest of the buffer as it was, or all of it as it was where it is too short
abbrev pub written : List ℕ → List ℕ → List ℕ
written bytes buffer = cond (fits bytes buffer) (bytes ++ drop (length bytes) buffer) buffer

-- What a writing at the front of a buffer that was long enough has left there. Assumes nothing.
use Rattle.std.proofs.Common.{◌≡◌, ℕ, ◌≤◌, List, ◌++◌, length, take, drop, Ok, sym, ap, ◌∙◌, arith}
use Rattle.std.proofs.lemmas.List.{take_at}
use Rattle.std.proofs.lemmas.Bool.{le-leb, cond-true}
use Rattle.values.specs.Writing.{answered, written}

module _ (bytes buffer : List ℕ) where
  accepted : length bytes ≤ length buffer → written bytes buffer ≡ bytes ++ drop (length bytes) buffer
  accepted long = cond-true _ _ _ (le-leb (length bytes) (length buffer) long)

  was_long : (n : ℕ) → Ok n ≡ answered bytes buffer → (n ≡ length bytes) × (length bytes ≤ length buffer)
  was_long n e = grind arith

  pub at_front : (n : ℕ) → Ok n ≡ answered bytes buffer → take n (written bytes buffer) ≡ bytes
  at_front n e = let long = was_long n e in ap (take n) (accepted long.1) ∙ take_at bytes (drop (length bytes) buffer) n (sym long.0)

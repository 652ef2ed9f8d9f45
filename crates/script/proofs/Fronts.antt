-- A field at the front of a list, by its header. Assumes nothing.
use Rattle.std.proofs.Common.{◌≡◌, ℕ, ◌+◌, ◌-◌, ◌<◌, ◌≤◌, List, ◌++◌, length, get_or, take, drop, refl, ap, ◌∙◌, ⊎_elim, arith, length-drop, length-take-le}
use Rattle.std.proofs.lemmas.Slice.{between_to_end}
use Rattle.std.proofs.lemmas.Bool.{cases_lt}
use Rattle.messages.specs.Bytes.{field}
use Rattle.messages.proofs.Fields.{opened, found}
use Rattle.script.specs.Fields.{announced}

-- what is left from a byte on
left_is : (s : List ℕ) (at : ℕ) → take (length s - at) (drop at s) ≡ drop at s
left_is s at = between_to_end s at (length s) (omega arith)

-- where no field stands, and the header is whole, the body is cut
pub body_cut : (left : List ℕ) → ((i : ℕ) → get_or left i 0 < 256) → 3 ≤ length left → ((tag : ℕ) (body rest : List ℕ) → left ≡ field tag body ++ rest → ⊥) → length left < 3 + announced left
body_cut left bytes long none =
    let n = announced left in
    let rest = take (length left - 3) (drop 3 left) in
    let size : length rest ≡ length left - 3 = ap length (left_is left 3) ∙ length-drop 3 left in
    ⊎_elim (λ short. short)
    (λ room.
    let inside : n ≤ length rest = omega arith in
    absurd (none (get_or left 0 0) (take n rest) (drop n rest) (opened left long ∙ found (get_or left 0 0) n (get_or left 1 0) (get_or left 2 0) rest refl (bytes 2) (take n rest) (drop n rest) (length-take-le n rest inside) refl refl)))
    (cases_lt (length left) (3 + n))

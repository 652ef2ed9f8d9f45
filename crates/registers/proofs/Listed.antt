-- What a packed list of four-bit numbers names as it is read and as it gets longer. Assumes nothing.
use Rattle.std.proofs.Common.{◌≡◌, ℕ, zero, suc, ◌+◌, ◌*◌, ◌/◌, ◌%◌, ◌^◌, ◌<◌, ◌≤◌, Bool, true, false, cond, not, ◌&&◌, ◌||◌, eqb, ltb, List, [], ◌∷◌, sym, refl, ap, ◌∙◌, ⊎_elim, pow-suc, add-one, arith}
use native.Mathlib.Nat.{pow-le-pow_right}
use Rattle.std.specs.List.{list_any}
use Rattle.std.proofs.lemmas.Bool.Decides.{nat_tests}
use Rattle.std.proofs.lemmas.Bool.{or_left, eq-eqb, ne_eqb, lt-ltb, cases_Bool, cond-true, cond-false}
use Rattle.registers.specs.Sets.{station_limit, nobody, including, without, how_many}
use Rattle.registers.specs.Packed.{numbers, in_list}
use Rattle.registers.proofs.Counting.{one_added, one_missing}

-- ---- a list with `s` put before it

at_longer : (n list s : ℕ) → s < station_limit → (k : ℕ) → in_list (n + 1) (list * 16 + s) k ≡ (eqb s k || in_list n list k)
unfolding in_list
at_longer n list s h k =
    let low : (list * 16 + s) % 16 ≡ s = omega arith in
    let high : (list * 16 + s) / 16 ≡ list = omega arith in
    rw add-one (λ i. eqb (low i) k || in_list n (high i) k)

pub longer : (n list s : ℕ) → s < station_limit → in_list (n + 1) (list * 16 + s) ≡ including (in_list n list) s
longer n list s h = λ i k. is k i
  where
    is : (k : ℕ) → in_list (n + 1) (list * 16 + s) k ≡ including (in_list n list) s k
    is k = let e = at_longer n list s h k in grind (arith, nat_tests)

pub one_more : (n list s : ℕ) → s < station_limit → in_list n list s ≡ false → how_many (in_list (n + 1) (list * 16 + s)) ≡ how_many (in_list n list) + 1
one_more n list s h off =
    let at = at_longer n list s h in
    one_added (in_list n list) (in_list (n + 1) (list * 16 + s)) s h off (at s ∙ or_left _ _ (eq-eqb s s refl)) (λ k ne. at k ∙ ap (λ b. b || in_list n list k) (ne_eqb s k (λ e. ne (sym e))))

pub room_left : (n list s : ℕ) → s < station_limit → in_list n list s ≡ false → how_many (in_list n list) < station_limit
room_left n list s = one_missing (in_list n list) s

pub next_power : (n : ℕ) → 16 ^ (n + 1) ≡ 16 ^ n * 16
next_power n = ap (λ k. 16 ^ k) (add-one n) ∙ pow-suc 16 n

-- fewer than sixteen numbers leave room for one more in 64 bits
pub power_small : (n : ℕ) → n < station_limit → 16 ^ n ≤ 16 ^ 15
power_small n h = let few : n ≤ 15 = omega arith in pow-le-pow_right (omega arith) {i = n} {j = 15} few

pub ruleset longer_list = (longer, one_more, room_left, next_power, power_small)

-- ---- a copy of the list without `s`

-- what `copy` names and, but for `s`, what is left of the numbers
unfoldable pub copied : (ℕ → Bool) → List ℕ → ℕ → ℕ → Bool
copied copy left s k = copy k || (list_any (λ n. eqb n k && ltb n 16) left && not (eqb k s))

pub copied_none : (copy : ℕ → Bool) (n list s : ℕ) → copy ≡ nobody → copied copy (numbers n list) s ≡ without (in_list n list) s
unfolding copied in_list
copied_none copy n list s e = λ i k. e i k || (low n list k i && not (eqb k s))
  where
    low : (n list k : ℕ) → list_any (λ m. eqb m k && ltb m 16) (numbers n list) ≡ list_any (λ m. eqb m k) (numbers n list)
    low zero list k = refl
    low (suc n) list k = let small = lt-ltb (list % 16) 16 (omega arith) in let rest = low n (list / 16) k in grind arith

pub copied_more : (copy : ℕ → Bool) (x : ℕ) (left : List ℕ) (s : ℕ) → copied copy (x ∷ left) s ≡ cond (eqb x s) (copied copy left s) (copied (including copy x) left s)
unfolding copied
copied_more copy x left s =
    ⊎_elim
    (λ t. (λ i k. same k t i) ∙ sym (cond-true _ _ _ t))
    (λ t. (λ i k. added k t i) ∙ sym (cond-false _ _ _ t))
    (cases_Bool (eqb x s))
  where
    same : (k : ℕ) → eqb x s ≡ true → copied copy (x ∷ left) s k ≡ copied copy left s k
    same k t = grind (arith, nat_tests)

    added : (k : ℕ) → eqb x s ≡ false → copied copy (x ∷ left) s k ≡ copied (including copy x) left s k
    added k t = grind (arith, nat_tests)

pub copied_all : (copy : ℕ → Bool) (s : ℕ) → copied copy [] s ≡ copy
unfolding copied
copied_all copy s = λ i k. at k i
  where
    at : (k : ℕ) → copied copy [] s k ≡ copy k
    at k = grind arith

pub ruleset copying = (copied_none, copied_more, copied_all)

-- What setting, clearing and testing a station's bit does to the set that the bits are, and how many stations that has.
-- Assumes nothing.
use Rattle.std.proofs.Common.{◌≡◌, ℕ, false, zero, suc, ◌+◌, ◌-◌, ◌*◌, ◌%◌, ◌^◌, ◌<◌, ◌≤◌, cond, not, ◌&&◌, eqb, sym, refl, ap, ◌∙◌, ⊎_elim, one-add, zero-mul, one-mul, arith}
use lib.Bits.{bit_and, bit_or}
use lib.Count.{ones, ones_cat, ones-ones}
use Rattle.std.specs.Int.{bit_at, w16}
use Rattle.std.specs.Int.Bits.{and_zero_r}
use Rattle.std.proofs.Math.Pow.{pow-lt}
use Rattle.std.proofs.lemmas.Bool.{lt-ltb, le-ltb, eq-eqb, ne_eqb, cases_eq, cases_lt}
use Rattle.std.proofs.lemmas.Nat.{mod-pow-add, mod_below, pow_pos}
use Rattle.std.proofs.lemmas.Nat.Bits.{bit_at_and, bit_at_or, bit_at-zero, bit_at-pow_same, bit_at-pow_other, bit_at-lt, bit_at_not, and_pow}
use Rattle.std.proofs.lemmas.Bool.Decides.{nat_tests}
use Rattle.registers.specs.Sets.{station_limit, nobody, including, without, how_many_below, how_many}
use Rattle.registers.specs.Bits.{in_bits, bit_of}
use Rattle.registers.proofs.Counting.{below_zero, below_more}

-- the bits of a station's bit
bit_of_at : (s t : ℕ) → t < station_limit → bit_at (bit_of s) t ≡ cond (eqb t s) 1 0
bit_of_at s t h =
    ⊎_elim
    (λ low. rw (lt-ltb s 16 low) (⊎_elim (λ e. rw (eq-eqb t s e) (ap (bit_at (2 ^ s)) e ∙ bit_at-pow_same s)) (λ ne. rw (ne_eqb t s ne) (bit_at-pow_other s t ne)) (cases_eq t s)))
    (λ high. rw (le-ltb s 16 high, ne_eqb t s (λ e. omega arith)) (bit_at-zero t))
    (cases_lt s 16)

pub bit_added : (bits s : ℕ) → in_bits (bit_or bits (bit_of s)) ≡ including (in_bits bits) s
unfolding in_bits
bit_added bits s = λ i t. at t i
  where
    at : (t : ℕ) → in_bits (bit_or bits (bit_of s)) t ≡ including (in_bits bits) s t
    at t =
        ⊎_elim
        (λ low. let x = bit_at_or bits (bit_of s) t in let y = bit_of_at s t low in let z = bit_at-lt bits t in grind (arith, nat_tests))
        (λ high. grind (arith, nat_tests))
        (cases_lt t 16)

bit_of_fits : (s : ℕ) → bit_of s < 65536
bit_of_fits s = ⊎_elim (λ low. rw (lt-ltb s 16 low) (pow-lt low)) (λ high. rw (le-ltb s 16 high) (omega arith)) (cases_lt s 16)

pub bit_struck : (bits s : ℕ) → in_bits (bit_and bits (65535 - bit_of s)) ≡ without (in_bits bits) s
unfolding in_bits
bit_struck bits s = λ i t. at t i
  where
    at : (t : ℕ) → in_bits (bit_and bits (65535 - bit_of s)) t ≡ without (in_bits bits) s t
    at t =
        ⊎_elim
        (λ low. let x = bit_at_and bits (65535 - bit_of s) t in let y = bit_of_at s t low in let z = bit_at-lt bits t in let u = bit_at_not w16 (bit_of s) t (bit_of_fits s) low in grind (arith, nat_tests))
        (λ high. grind (arith, nat_tests))
        (cases_lt t 16)

-- a bit is 1 where its product with a number above 0 is not 0
more : (b n : ℕ) → b < 2 → 0 < n → not (eqb (b * n) 0) ≡ eqb b 1
more zero n h g = rw (zero-mul n) refl
more (suc zero) n h g = rw (one-mul n, ne_eqb n 0 (λ e. omega arith)) refl
more (suc (suc b)) n h g = absurd (omega arith)

pub bit_named : (bits s : ℕ) → not (eqb (bit_and bits (bit_of s)) 0) ≡ in_bits bits s
unfolding in_bits
bit_named bits s =
    ⊎_elim
    (λ low. let x = and_pow bits s in let y = pow_pos s in let z = bit_at-lt bits s in let u = lt-ltb s 16 low in rw (u, x) (more (bit_at bits s) (2 ^ s) z y))
    (λ high. rw (le-ltb s 16 high, and_zero_r bits) refl)
    (cases_lt s 16)

ones_of_bit : (b : ℕ) → b < 2 → ones b ≡ cond {A = ℕ} (eqb b 1) 1 0
ones_of_bit zero h = ones-ones 0
ones_of_bit (suc zero) h = ones-ones 1
ones_of_bit (suc (suc b)) h = let z : ⊥ = omega arith in absurd z

-- the low `n` bits name as many stations as they have ones
ones_below : (bits n : ℕ) → n ≤ 16 → how_many_below n (in_bits bits) ≡ ones (bits % 2 ^ n)
unfolding in_bits
ones_below bits zero h = below_zero (in_bits bits) ∙ sym (ones-ones 0) ∙ ap ones (omega arith)
ones_below bits (suc n) h =
    let low = ones_below bits n (omega arith) in
    let split : ones (bits % 2 ^ (1 + n)) ≡ ones (bit_at bits n) + ones (bits % 2 ^ n) =
    ap ones (mod-pow-add bits 1 n) ∙ ones_cat n (bit_at bits n) (bits % 2 ^ n) (mod_below bits (2 ^ n) (pow_pos n)) in
    let here : cond {A = ℕ} (in_bits bits n) 1 0 ≡ ones (bit_at bits n) =
    ap (λ b. cond {A = ℕ} (b && eqb (bit_at bits n) 1) 1 0) (lt-ltb n 16 (omega arith)) ∙ sym (ones_of_bit (bit_at bits n) (bit_at-lt bits n)) in
    below_more n (in_bits bits) ∙ (λ i. here i + low i) ∙ sym split ∙ ap (λ k. ones (bits % 2 ^ k)) (one-add n)

pub ones_are_stations : (bits : ℕ) → bits < 65536 → ones bits ≡ how_many (in_bits bits)
unfolding how_many
ones_are_stations bits h = let e : bits % 65536 ≡ bits = omega arith in sym (ones_below bits 16 (omega arith) ∙ ap ones e)

pub no_bits : in_bits 0 ≡ nobody
unfolding in_bits
no_bits = λ i t. at t i
  where
    at : (t : ℕ) → in_bits 0 t ≡ false
    at t = let z = bit_at-zero t in grind (arith, nat_tests)

pub ruleset station_bits = (no_bits, bit_named, bit_added, bit_struck, ones_are_stations)

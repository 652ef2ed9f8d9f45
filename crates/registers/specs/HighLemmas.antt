-- A law of registers, which each impl of `Register` cites: they name no number that is no station's. Assumes nothing.
use Rattle.std.specs.Prelude.{◌≡◌, ℕ, zero, suc, ◌/◌, ◌%◌, ◌≤◌, ◌&&◌, ◌==◌, false, refl}
use Rattle.std.proofs.Common.{ap, arith}
use Rattle.std.specs.Int.{bit_at}
use Rattle.std.proofs.lemmas.Bool.{or_from, le-ltb, ne_eqb}
use Rattle.registers.specs.Sets.{station_limit}
use Rattle.registers.specs.Bits.{in_bits}
use Rattle.registers.specs.Packed.{in_list}

pub bits_high : (bits k : ℕ) → station_limit ≤ k → in_bits bits k ≡ false
unfolding in_bits
bits_high bits k h = ap (λ b. b && (bit_at bits k == 1)) (le-ltb k station_limit h)

pub list_high : (n list k : ℕ) → station_limit ≤ k → in_list n list k ≡ false
unfolding in_list
list_high zero list k h = refl
list_high (suc n) list k h = or_from _ _ (ne_eqb (list % 16) k (λ e. omega arith)) (list_high n (list / 16) k h)

-- A box is its number. Assumes nothing.
use Rattle.std.specs.Prelude.{◌≡◌, ℕ, ◌≤◌, Bool, true, false, T, Some, nat_le, refl}
use Rattle.std.proofs.Common.{ap, subst, leb→le, le→leb}
use Rattle.std.proofs.Math.Bridge.{le_prop}
use Rattle.values.specs.declared.box_number.BoxNumber.{BoxNumber}
use Rattle.values.specs.BoxNumber.{box_from, box_numbered}

same_box : (a b : BoxNumber) → a.number ≡ b.number → a ≡ b
same_box a b e =
    subst (λ (n : ℕ). (first : 1 ≤ n) (last : n ≤ 99) → ◌≡◌ {A = BoxNumber} a (record { number = n; first = first; last = last })) e
    (λ first last i. record { number = a.number; first = le_prop a.first first i; last = le_prop a.last last i }) b.first b.last

from_some : (low high : Bool) (box : BoxNumber) (f : T low → 1 ≤ box.number) (g : T high → box.number ≤ 99) → T low → T high → box_from box.number low high f g ≡ Some box
from_some true true box f g x y = ap (λ (b : BoxNumber). Some b) (same_box (record { number = box.number; first = f tt; last = g tt }) box refl)
from_some true false box f g x y = absurd y
from_some false high box f g x y = absurd x

pub box_some : (box : BoxNumber) → box_numbered box.number ≡ Some box
box_some box =
    from_some (nat_le 1 box.number) (nat_le box.number 99) box (leb→le 1 box.number) (leb→le box.number 99) (le→leb _ _ box.first) (le→leb _ _ box.last)

from_number : (n : ℕ) (low high : Bool) (f : T low → 1 ≤ n) (g : T high → n ≤ 99) (box : BoxNumber) → box_from n low high f g ≡ Some box → box.number ≡ n
from_number n true true f g box e = cc
from_number n true false f g box e = cc
from_number n false high f g box e = cc

pub number_of_box : (n : ℕ) (box : BoxNumber) → box_numbered n ≡ Some box → box.number ≡ n
number_of_box n box e = from_number n (nat_le 1 n) (nat_le n 99) (leb→le 1 n) (leb→le n 99) box e

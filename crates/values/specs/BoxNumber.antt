-- The number of a box, 1 to 99, and what is said of another number. Assumes nothing.
use Rattle.std.specs.Prelude.{◌≡◌, ℕ, ◌≤◌, Bool, true, false, T, List, ◌++◌, Some, None, codes, decimal, Option, Result, nat_le}
use Rattle.std.proofs.Common.{leb→le}
use Rattle.std.specs.Option.{ok_or}
use Rattle.values.specs.declared.box_number.BoxNumber.{BoxNumber}
use Rattle.values.specs.declared.box_number.NoSuchBox.{NoSuchBox}

abbrev pub box_from : (n : ℕ) (low high : Bool) → (T low → 1 ≤ n) → (T high → n ≤ 99) → Option BoxNumber
box_from n true true first last = Some (record { number = n; first = first tt; last = last tt })
box_from n true false first last = None
box_from n false high first last = None

-- the box of that number, where it is 1 to 99
abbrev pub box_numbered : ℕ → Option BoxNumber
box_numbered n = box_from n (nat_le 1 n) (nat_le n 99) (leb→le 1 n) (leb→le n 99)

-- the result is the box of that number, or where there is none the refusal of that number
abbrev pub GivesBox : ℕ → Result BoxNumber NoSuchBox → Type 0
GivesBox n result = result ≡ ok_or (box_numbered n) (record { number = n })

abbrev pub no_such_box_text : NoSuchBox → List ℕ
no_such_box_text refused = codes "no box has the number " ++ decimal refused.number

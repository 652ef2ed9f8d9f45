-- What the laws of answers as values cite: a number is its two bytes, and an answer has the case and the number that it
-- was read from. Assumes nothing.
use Rattle.std.specs.Prelude.{◌≡◌, ℕ, ◌+◌, ◌*◌, ◌/◌, ◌%◌, Some, None, Option, refl}
use Rattle.std.proofs.Common.{sym, ap, ◌∙◌, arith}
use Rattle.std.specs.Option.{option_map}
use Rattle.values.specs.declared.box_number.BoxNumber.{BoxNumber}
use Rattle.values.specs.declared.answer.Answer.{Answer}
use Rattle.values.specs.declared.answer.Answer.TheVariants.{Ticked}
use Rattle.values.specs.Answer.{answer_of, case_of, number_of}
use Rattle.values.specs.BoxNumber.{box_numbered}
use Rattle.values.specs.Boxes.{number_of_box}

pub whole : (n : ℕ) → n / 256 * 256 + n % 256 ≡ n
whole n = omega arith

-- what was read as a ticked box has that case and number
pub of_box : (n : ℕ) (o : Option BoxNumber) (x : Answer) → ((box : BoxNumber) → o ≡ Some box → box.number ≡ n) → option_map Ticked o ≡ Some x → (case_of x ≡ 1) × (number_of x ≡ n)
of_box n None x f e = cc
of_box n (Some box) x f e = let is : Ticked box ≡ x = cc in (sym (ap case_of is), sym (ap number_of is) ∙ f box refl)

pub of_parts : (case n : ℕ) (x : Answer) → answer_of case n ≡ Some x → (case_of x ≡ case) × (number_of x ≡ n)
of_parts case n x e = let ticked = of_box n (box_numbered n) x (number_of_box n) in grind (arith, ticked)

-- An answer in three bytes: its case, then a number, highest byte first. Assumes nothing.
use Rattle.std.specs.Prelude.{ℕ, ◌+◌, ◌*◌, ◌/◌, ◌%◌, cond, List, [], ◌∷◌, ◌++◌, Some, None, codes, decimal, Option, ◌==◌}
use Rattle.std.specs.Option.{option_map}
use Rattle.values.specs.BoxNumber.{box_numbered}
use Rattle.values.specs.declared.answer.Answer.{Answer}
use Rattle.values.specs.declared.answer.Answer.TheVariants.{Blank, Ticked, Written, Refused}

abbrev pub case_of : Answer → ℕ
case_of Blank = 0
case_of (Ticked box) = 1
case_of (Written n) = 2
case_of Refused = 3

abbrev pub number_of : Answer → ℕ
number_of Blank = 0
number_of (Ticked box) = box.number
number_of (Written n) = n
number_of Refused = 0

abbrev pub answer_bytes : Answer → List ℕ
answer_bytes a = case_of a ∷ (number_of a / 256) ∷ (number_of a % 256) ∷ []

abbrev pub answer_of : ℕ → ℕ → Option Answer
answer_of case n =
    cond (case == case_of Blank) (cond (n == 0) (Some Blank) None)
    (cond (case == 1) (option_map Ticked (box_numbered n)) (cond (case == 2) (Some (Written n)) (cond (case == case_of Refused) (cond (n == 0) (Some Refused) None) None)))

abbrev pub answer_reads : List ℕ → Option Answer
answer_reads [] = None
answer_reads (case ∷ []) = None
answer_reads (case ∷ high ∷ []) = None
answer_reads (case ∷ high ∷ low ∷ []) = answer_of case (high * 256 + low)
answer_reads (case ∷ high ∷ low ∷ d ∷ more) = None

abbrev pub case_name : Answer → List ℕ
case_name Blank = codes "blank"
case_name (Ticked box) = codes "ticked"
case_name (Written n) = codes "written"
case_name Refused = codes "refused"

-- the case by its name, then the number
abbrev pub answer_text : Answer → List ℕ
answer_text a = case_name a ++ (codes " " ++ decimal (number_of a))

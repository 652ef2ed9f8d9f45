-- Examples of values in bytes, over the definitions that the contracts cite. Assumes nothing.
use Rattle.std.specs.Prelude.{◌≡◌, [], ◌∷◌, Some, None}
use Rattle.std.specs.Option.{option_map}
use Rattle.values.specs.declared.answer.Answer.TheVariants.{Written}
use Rattle.values.specs.Count.{of_number, count_bytes, count_reads}
use Rattle.values.specs.Answer.{answer_bytes, answer_reads}

abbrev pub Box99ReadsAnd100DoesNot : Type 0
Box99ReadsAnd100DoesNot =
    (option_map answer_bytes (answer_reads (1 ∷ 0 ∷ 99 ∷ [])) ≡ Some (1 ∷ 0 ∷ 99 ∷ [])) × (answer_reads (1 ∷ 0 ∷ 100 ∷ []) ≡ None)

abbrev pub OtherBytesDoNotRead : Type 0
OtherBytesDoNotRead =
    (answer_reads (1 ∷ 0 ∷ 0 ∷ []) ≡ None)
    × (answer_reads (0 ∷ 0 ∷ 1 ∷ []) ≡ None)
    × (answer_reads (3 ∷ 1 ∷ 0 ∷ []) ≡ None)
    × (answer_reads (4 ∷ 0 ∷ 0 ∷ []) ≡ None)
    × (count_reads (0 ∷ 0 ∷ 1 ∷ []) ≡ None)

abbrev pub HighestByteFirst : Type 0
HighestByteFirst =
    (count_bytes (of_number 300) ≡ 0 ∷ 0 ∷ 1 ∷ 0x2C ∷ [])
    × (count_reads (255 ∷ 255 ∷ 255 ∷ 255 ∷ []) ≡ Some (of_number 4294967295))
    × (answer_bytes (Written 65534) ≡ 2 ∷ 255 ∷ 254 ∷ [])

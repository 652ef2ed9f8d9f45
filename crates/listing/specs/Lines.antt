-- The lines of a listing. Assumes nothing.
use Rattle.std.specs.Prelude.{◌≡◌, ℕ, ◌+◌, ◌<◌, ◌≤◌, List, [], ◌∷◌, ◌++◌, length, Some, codes, decimal, Option}
use Rattle.script.specs.declared.fault.Fault.{Fault}
use Rattle.script.specs.declared.fault.FaultKind.TheVariants.{TooLong}
use Rattle.script.specs.declared.record.Record.{Record}
use Rattle.script.specs.Faults.{layer_number, fault_layer, fault_number, fault_words}
use Rattle.script.specs.Fields.{longest}
use Rattle.script.specs.Records.{Piece, readable, decoded, Outcome, done, entry, faulty, Next}
use Rattle.values.specs.Answer.{answer_reads, answer_text}
use Rattle.values.specs.Count.{count_reads}
use Rattle.listing.specs.declared.kinds.ScriptKind.{ScriptKind}
use Rattle.listing.specs.declared.kinds.ScriptKind.TheVariants.{Counts, Answers}
use Rattle.listing.specs.Words.{meaning}

-- the number and the byte, before what is said
abbrev pub line : ℕ → ℕ → List ℕ → List ℕ
line number at said = decimal number ++ (codes " byte " ++ (decimal at ++ (codes ": " ++ said)))

abbrev pub newline : List ℕ
newline = 10 ∷ []

abbrev pub record_line : ℕ → ℕ → List ℕ → List ℕ
record_line number at said = line number at (said ++ newline)

abbrev pub fault_line : ℕ → Fault → List ℕ
fault_line number fault =
    line number fault.at
    (codes "fault " ++ (decimal (layer_number (fault_layer fault.kind)) ++ (codes " " ++ (decimal (fault_number fault.kind) ++ (codes ": " ++ (fault_words fault.kind ++ newline))))))

module _ {V : Type 0} (width : ℕ) (reads : List ℕ → Option V) (output : V → Option (List ℕ)) (script : List ℕ) where
  abbrev pub Comes : ℕ → Outcome → ℕ → Type 0
  Comes at next to = Next width (readable reads) script at next to

  -- the lines from the byte `at` on, where the next record has this number
  pub data Lines : ℕ → ℕ → List ℕ → Type 0 where
    ended : (number at to : ℕ) → Comes at done to → Lines number at []
    broken : (number at to : ℕ) (fault : Fault) → Comes at (faulty fault) to → Lines number at (fault_line number fault)
    told : (number at place to : ℕ) (coded : Record Piece) (r : Record V) (said rest : List ℕ) → Comes at (entry coded place) to → decoded reads coded ≡ Some r → meaning output r ≡ Some said → Lines (number + 1) to rest → Lines number at (record_line number place said ++ rest)

  -- the listing of a script: a line for each record, counted from 1, and for the fault that ends it; a script too long has one line, numbered 0
  pub data Listing : List ℕ → Type 0 where
    listed : (text : List ℕ) → length script ≤ longest → Lines 1 0 text → Listing text
    too_long : (fault : Fault) → longest < length script → fault ≡ record { kind = TooLong; at = 0 } → Listing (fault_line 0 fault)

-- the listing of a script whose values are of this kind
abbrev pub ListingAs : ScriptKind → List ℕ → List ℕ → Type 0
ListingAs Counts script text = Listing 4 count_reads (λ count. Some (decimal count.number)) script text
ListingAs Answers script text = Listing 3 answer_reads (λ answer. Some (answer_text answer)) script text

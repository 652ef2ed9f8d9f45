-- One turn of the listing: a line after those so far. Assumes nothing.
use Rattle.std.proofs.Common.{◌≡◌, ℕ, ◌+◌, ◌≤◌, true, false, List, [], ◌++◌, length, is_some, Some, None, Option, sym, ap, ◌∙◌, append_assoc, append-nil}
use Rattle.std.proofs.lemmas.Bool.{true≢false}
use Rattle.script.specs.declared.fault.Fault.{Fault}
use Rattle.script.specs.declared.record.Record.{Record}
use Rattle.script.specs.Records.{Piece, readable, decoded, Outcome, done, entry, faulty, Next}
use Rattle.script.proofs.Nexts.{forward, entry_reads, decodes}
use Rattle.listing.specs.Words.{meaning}
use Rattle.listing.specs.Lines.{record_line, fault_line, Lines, ended, broken, told}

-- `held` is what the reader's slice holds, and `found` what it found at the byte `at`
module _ {V : Type 0} (width : ℕ) (reads : List ℕ → Option V) (script held : List ℕ) (same : held ≡ script) (at to : ℕ) (found : Outcome) (comes : Next width (readable reads) held at found to) where
  module _ (coded : Record Piece) (place : ℕ) (is : found ≡ entry coded place) where
    pub goes_on : at ≤ length script → (at + 3 ≤ to) × (to ≤ length script)
    goes_on within = forward width (readable reads) script at (entry coded place) to (rw (same, is) at comes) within

    pub never_unread : decoded reads coded ≡ None → ⊥
    never_unread none =
        let some = decodes reads coded (entry_reads width (readable reads) held at found to comes coded place is) in
        let z : true ≡ false = sym some ∙ ap is_some none in
        true≢false z

  module _ (output : V → Option (List ℕ)) (number : ℕ) (before after : List ℕ) (so_far : (rest : List ℕ) → Lines width reads output script number at rest → Lines width reads output script 1 0 (before ++ rest)) where
    pub one_more : (coded : Record Piece) (place : ℕ) → found ≡ entry coded place → (r : Record V) → decoded reads coded ≡ Some r → (said : List ℕ) → meaning output r ≡ Some said → after ≡ before ++ record_line number place said → (rest : List ℕ) → Lines width reads output script (number + 1) to rest → Lines width reads output script 1 0 (after ++ rest)
    one_more coded place is r read said means text rest later =
        rw (text, append_assoc before) (so_far _ (told number at place to coded r said rest (rw (same, is) at comes) read means later))

    pub at_fault : (fault : Fault) → found ≡ faulty fault → after ≡ before ++ fault_line number fault → Lines width reads output script 1 0 after
    at_fault fault is text = rw text (so_far _ (broken number at to fault (rw (same, is) at comes)))

    pub at_end : found ≡ done → after ≡ before → Lines width reads output script 1 0 after
    at_end is text = rw (text, ← append-nil before) (so_far [] (ended number at to (rw (same, is) at comes)))

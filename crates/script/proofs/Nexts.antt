-- One field after another: what a field that was found says of what comes next. Assumes nothing.
use Rattle.std.proofs.Common.{◌≡◌, ℕ, ◌+◌, ◌-◌, ◌<◌, ◌≤◌, Bool, true, List, ◌++◌, length, drop, is_some, Some, None, Ok, Err, Option, Result, sym, refl, ap, ◌∙◌, arith, length-append, length-drop}
use Rattle.std.specs.Option.{option_map}
use Rattle.script.specs.declared.fault.Fault.{Fault}
use Rattle.script.specs.declared.record.Record.{Record}
use Rattle.script.specs.declared.record.Record.TheVariants.{Prepare, Set, Start, Load, Store, Fire, Close, Readout}
use Rattle.script.specs.Fields.{Found, end, one, broken, Front, after}
use Rattle.script.specs.Records.{Piece, OfValue, Says, decoded, Outcome, done, entry, faulty, of_field, Next, ended, cut, padded, told}

-- a field lies within the script
inside : (s : List ℕ) (at tag place : ℕ) (body : List ℕ) → Front (drop at s) at (one tag body place) → 3 + length body ≤ length s - at
inside s at tag place body stands =
    let whole : length (drop at s) ≡ 3 + length (body ++ stands.1.0) = ap length stands.1.1 ∙ omega arith in
    let parts = length-append body stands.1.0 in
    let left = length-drop at s in
    omega arith

-- `held` is what the reader's slice holds, and `found` what stands at the byte `at`
module _ (width : ℕ) (readable : List ℕ → Bool) (script held : List ℕ) (same : held ≡ script) (at to : ℕ) (found : Found) (stands : Front (drop at held) at found) (moved : to ≡ at + after found) where
  pub at_end : found ≡ end → Next width readable script at done to
  at_end e =
      let here : to ≡ at = omega (arith, ap after e) in
      rw here (ended at (rw (e, same) at stands))

  pub at_cut : (fault : Fault) → found ≡ broken fault → Next width readable script at (faulty fault) to
  at_cut fault e =
      let here : to ≡ at = omega (arith, ap after e) in
      rw here (cut at fault (rw (e, same) at stands))

  module _ (tag place : ℕ) (body : List ℕ) (e : found ≡ one tag body place) where
    ahead : to ≡ at + (3 + length body)
    ahead = omega (arith, ap after e)

    pub at_padding : tag ≡ 0 → (next : Outcome) (last : ℕ) → Next width readable script to next last → Next width readable script at next last
    at_padding zeroed next last later = padded at place body next last (rw (e, same, zeroed) at stands) (rw ahead at later)

    pub at_record : (r : Result (Record Piece) Fault) (out : Outcome) → out ≡ of_field place r → 0 < tag → Says width readable tag body place r → Next width readable script at out to
    at_record r out is some says = rw (is, ahead) (told at place tag body r (rw (e, same) at stands) some says)

    pub shorter : length held - to < length held - at
    shorter = let whole = inside held at tag place body (rw e at stands) in let far = ahead in omega arith

some_mapped : {A B : Type 0} (f : A → B) (o : Option A) → is_some o ≡ true → is_some (option_map f o) ≡ true
some_mapped f None h = h
some_mapped f (Some x) h = refl

-- how far a reader goes on at least
abbrev pub grows : Outcome → ℕ
grows done = 0
grows (entry r place) = 3
grows (faulty fault) = 0

module _ (width : ℕ) (readable : List ℕ → Bool) (script : List ℕ) where
  one_field : (place size : ℕ) (r : Result (Record Piece) Fault) → grows (of_field place r) ≤ 3 + size
  one_field place size (Ok r) = omega arith
  one_field place size (Err fault) = omega arith

  pub forward : (at : ℕ) (out : Outcome) (to : ℕ) → Next width readable script at out to → at ≤ length script → (at + grows out ≤ to) × (to ≤ length script)
  forward at out to (ended _ stands) within = (omega arith, within)
  forward at out to (cut _ fault stands) within = (omega arith, within)
  forward at out to (padded _ place body _ _ stands later) within =
      let whole = inside script at 0 place body stands in
      let rest = forward (at + (3 + length body)) out to later (omega arith) in
      (omega arith, rest.1)
  forward at out to (told _ place tag body r stands some says) within =
      let whole = inside script at tag place body stands in
      let size = one_field place (length body) r in
      (omega arith, omega arith)

  holds_read : (tag : ℕ) (body : List ℕ) (place : ℕ) (r : Result (Record Piece) Fault) → Says width readable tag body place r → (e : Record Piece) (at : ℕ) → of_field place r ≡ entry e at → OfValue (λ value. readable value.bytes ≡ true) e
  holds_read tag body place (Ok r) says e at is = let same : r ≡ e = cc in rw (sym same) says.reads
  holds_read tag body place (Err fault) says e at is = let z : ◌≡◌ {A = ℕ} 0 1 = cc in absurd (omega arith)

  -- the value of a record that was read reads
  pub entry_reads : (at : ℕ) (out : Outcome) (to : ℕ) → Next width readable script at out to → (r : Record Piece) (place : ℕ) → out ≡ entry r place → OfValue (λ value. readable value.bytes ≡ true) r
  entry_reads at out to (ended _ stands) r place is = let z : ◌≡◌ {A = ℕ} 0 1 = cc in absurd (omega arith)
  entry_reads at out to (cut _ fault stands) r place is = let z : ◌≡◌ {A = ℕ} 0 1 = cc in absurd (omega arith)
  entry_reads at out to (padded _ _ body _ _ stands later) r place is = entry_reads (at + (3 + length body)) out to later r place is
  entry_reads at out to (told _ p tag body told-r stands some says) r place is = holds_read tag body p told-r says r place is

pub decodes : {V : Type 0} (reads : List ℕ → Option V) (r : Record Piece) → OfValue (λ value. is_some (reads value.bytes) ≡ true) r → is_some (decoded reads r) ≡ true
decodes reads (Prepare a b c) h = refl
decodes reads (Set page value) h = some_mapped _ (reads value.bytes) h
decodes reads Start h = refl
decodes reads (Load a b) h = refl
decodes reads (Store station page value) h = some_mapped _ (reads value.bytes) h
decodes reads (Fire a b) h = refl
decodes reads Close h = refl
decodes reads (Readout a) h = refl

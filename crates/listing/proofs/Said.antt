-- A record with its value in the words that its kind prints. Assumes nothing.
use Rattle.std.proofs.Common.{◌≡◌, ℕ, true, List, ◌++◌, is_some, codes, decimal, Some, None, Option, MatchOption, refl, sym}
use Rattle.std.proofs.lemmas.Bool.{true≢false}
use Rattle.std.specs.Bool.{⊤}
use Rattle.std.specs.Fmt.{◌++?◌}
use Rattle.std.specs.Option.{option_map}
use Rattle.script.specs.declared.record.Record.{Record}
use Rattle.script.specs.declared.record.Record.TheVariants.{Prepare, Set, Start, Load, Store, Fire, Close, Readout}
use Rattle.listing.specs.Words.{meaning_words, meaning, Prints}

-- a text with the value's words within
pub store_said : (P : List ℕ → Type 0) (station page : ℕ) (said : Option (List ℕ)) → MatchOption (Some (codes "station ") ++? (Some (decimal station) ++? (Some (codes " is to store ") ++? (said ++? Some (codes " to page " ++ decimal page))))) ⊤ P → MatchOption (option_map meaning_words (option_map (Store station page) said)) ⊤ P
store_said P station page None h = h
store_said P station page (Some said) h = h

mapped : {X Y : Type 0} (f : X → Y) (o : Option X) → is_some o ≡ true → is_some (option_map f o) ≡ true
mapped f None h = h
mapped f (Some x) h = refl

some_mapped : {X Y : Type 0} (f : X → Y) (o : Option X) → is_some o ≡ true → (y : Y) × (option_map f o ≡ Some y)
some_mapped f None h = absurd (true≢false (sym h))
some_mapped f (Some x) h = (f x, refl)

-- where each value says what it prints, so does the record
pub has_meaning : {V : Type 0} (output : V → Option (List ℕ)) → Prints output → (r : Record V) → (said : List ℕ) × (meaning output r ≡ Some said)
has_meaning output prints (Prepare a b c) = (_, refl)
has_meaning output prints (Set page value) = some_mapped meaning_words (option_map (Set page) (output value)) (mapped (Set page) (output value) (prints value))
has_meaning output prints Start = (_, refl)
has_meaning output prints (Load a b) = (_, refl)
has_meaning output prints (Store station page value) = some_mapped meaning_words (option_map (Store station page) (output value)) (mapped (Store station page) (output value) (prints value))
has_meaning output prints (Fire a b) = (_, refl)
has_meaning output prints Close = (_, refl)
has_meaning output prints (Readout a) = (_, refl)

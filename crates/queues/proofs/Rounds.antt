-- The places of a row, which are used round and round. Assumes nothing.
use Rattle.std.proofs.Common.{◌≡◌, ℕ, zero, suc, ◌+◌, ◌-◌, ◌*◌, ◌/◌, ◌%◌, ◌<◌, ◌≤◌, ◌≢◌, [], ◌∷◌, ◌++◌, length, drop, Some, sym, refl, ap, ◌∙◌, ⊎_elim, mod-lt, add-mul, one-mul, arith}
use native.Mathlib.Nat.{mod-mod, mod-add-mod}
use Rattle.std.specs.List.{range_with_len, AllByRecursion, slice_get}
use Rattle.std.proofs.lemmas.Nat.{mul-le, div-add-mod'}
use Rattle.std.proofs.lemmas.List.FromFn.{length-map-range_with_len, map-range_with_len_more}
use Rattle.std.proofs.ByRecursion.{All-map}
use Rattle.std.proofs.lemmas.Bool.{cases_order}
use Rattle.queues.specs.Places.{places_from}

-- a row ends before the next begins
pub row_below : (row other places : ℕ) → row < other → row * places + places ≤ other * places
row_below row other places h = omega (arith, mul-le (row + 1) places other places (omega arith) (omega arith), add-mul row 1 places, one-mul places)

-- two columns less than a round apart are different
apart : (a b places : ℕ) → a < b → b < a + places → a % places ≢ b % places
apart a b places h k = λ e.
    let x = div-add-mod' a places in
    let y = div-add-mod' b places in
    ⊎_elim (λ same. let z : a / places * places ≡ b / places * places = ap (λ n. n * places) same in omega arith)
    (λ other. ⊎_elim (λ lt. omega (arith, row_below (a / places) (b / places) places lt)) (λ gt. omega (arith, row_below (b / places) (a / places) places gt)) other)
    (cases_order (a / places) (b / places))

all_counting : (P : ℕ → Type 0) (a n : ℕ) → ((k : ℕ) → a ≤ k → k < a + n → P k) → AllByRecursion P (range_with_len a n)
all_counting P a zero f = tt
all_counting P a (suc n) f = (f a (omega arith) (omega arith), all_counting P (a + 1) n (λ k g h. f k (omega arith) (omega arith)))

module _ (places row : ℕ) where
  pub length_places : (column count : ℕ) → length (places_from places row column count) ≡ count
  length_places column count = length-map-range_with_len (λ k. row * places + k % places) column count

  pub first_place : (column count : ℕ) → 0 < count → slice_get (places_from places row column count) 0 ≡ Some (row * places + column % places)
  first_place column zero h = let z : ⊥ = omega arith in absurd z
  first_place column (suc count) h = refl

  pub places_inside : (rows column count : ℕ) → row < rows → count ≤ places → AllByRecursion (λ place. place < rows * places) (places_from places row column count)
  places_inside rows column count h g =
      All-map (λ place. place < rows * places) (λ k. row * places + k % places) (range_with_len column count)
      (all_counting _ column count (λ k low high. omega (arith, row_below row rows places h, mod-lt k {m = places} (omega arith))))

  -- one place more
  pub places_longer : (column count : ℕ) → places_from places row column (count + 1) ≡ places_from places row column count ++ (row * places + (column + count) % places) ∷ []
  places_longer column count = map-range_with_len_more (λ k. row * places + k % places) column count (column + count) refl

  -- columns a round apart are the same place
  same_places : (count a b : ℕ) → a % places ≡ b % places → places_from places row a count ≡ places_from places row b count
  same_places zero a b e = refl
  same_places (suc count) a b e =
      let next : (a + 1) % places ≡ (b + 1) % places = sym (mod-add-mod a places 1) ∙ ap (λ k. (k + 1) % places) e ∙ mod-add-mod b places 1 in
      λ i. (row * places + e i) ∷ same_places count (a + 1) (b + 1) next i

  -- the first place less
  pub places_shorter : (column count : ℕ) → 0 < count → places_from places row ((column + 1) % places) (count - 1) ≡ drop 1 (places_from places row column count)
  places_shorter column zero h = let z : ⊥ = omega arith in absurd z
  places_shorter column (suc count) h =
      ap (places_from places row ((column + 1) % places)) (omega arith) ∙ same_places count ((column + 1) % places) (column + 1) (mod-mod (column + 1) places)

  -- the place after those in use is none of them
  module _ (column count : ℕ) (room : count < places) where
    pub free_here : AllByRecursion (λ used. used ≢ row * places + (column + count) % places) (places_from places row column count)
    free_here =
        All-map (λ used. used ≢ row * places + (column + count) % places) (λ k. row * places + k % places) (range_with_len column count)
        (all_counting _ column count (λ k low high e. apart k (column + count) places high (omega arith) (omega arith)))

    -- nor one of another row's
    pub free_there : (other start many : ℕ) → other ≢ row → AllByRecursion (λ used. used ≢ row * places + (column + count) % places) (places_from places other start many)
    free_there other start many ne =
        All-map (λ used. used ≢ row * places + (column + count) % places) (λ k. other * places + k % places) (range_with_len start many)
        (all_counting _ start many (λ k low high e.
        let x : k % places < places = mod-lt k {m = places} (omega arith) in
        let y : (column + count) % places < places = mod-lt (column + count) {m = places} (omega arith) in
        ⊎_elim ne (λ apart. ⊎_elim (λ lt. omega (arith, row_below other row places lt)) (λ gt. omega (arith, row_below row other places gt)) apart) (cases_order other row)))

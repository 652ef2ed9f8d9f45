-- What the calls of a table do to the rows of any list of entries. Assumes nothing.
use Rattle.std.proofs.Common.{◌≡◌, ℕ, ◌+◌, ◌-◌, ◌*◌, ◌<◌, ◌≤◌, true, false, ◌&&◌, ltb, ◌≢◌, List, [], ◌∷◌, ◌++◌, length, get_or, take, drop, set, Some, None, sym, refl, ap, ◌∙◌, ⊎_elim, arith}
use Rattle.std.specs.List.{AllByRecursion, slice_get}
use Rattle.std.proofs.ByRecursion.{All-weaker}
use Rattle.std.proofs.lemmas.List.{length-append, length-set, length-take, length-drop, drop_more, drop-set-lt, take-set-le, drop-set-add, get_or-set_same, flat_map_more}
use Rattle.std.proofs.lemmas.Result.{err_from_is_err_and}
use Rattle.std.proofs.lemmas.Bool.{cond-true, cond-false, cases_Bool, cases_lt}
use Rattle.queues.specs.View.{RowsView, changed, with_row, can_put, after_put, can_drop, after_drop, most_rows, most_places, fitting, empty_rows, made_rows}
use Rattle.queues.specs.Places.{entries_at, entries_of, places_of, view_in, Taken, NotTaken}
use Rattle.queues.specs.declared.table.Table.{Table}
use Rattle.queues.proofs.Tables.{row_missing, waiting_few, same_views, same_changed, changed_here, changed_other, inside}

-- one entry
module _ {X : Type 0} where
  entry_at : (xs : List X) (place : ℕ) (d : X) → place < length xs → take 1 (drop place xs) ≡ get_or xs place d ∷ []
  entry_at xs place d h = ap (take 1) (drop_more xs place d h)

  -- a write elsewhere leaves it
  entry_other : (xs : List X) (written place : ℕ) (x : X) → place ≢ written → take 1 (drop place (set xs written x)) ≡ take 1 (drop place xs)
  entry_other xs written place x ne =
      ⊎_elim
      (λ lt. let e : written ≡ place + (written - place) = omega arith in ap (λ n. take 1 (drop place (set xs n x))) e ∙ ap (take 1) (drop-set-add place xs (written - place) x) ∙ take-set-le 1 (drop place xs) (written - place) x (omega arith))
      (λ ge. ap (take 1) (drop-set-lt place xs written x (omega arith)))
      (cases_lt place written)

-- the entries at a list of places
module _ {X : Type 0} (xs : List X) where
  pub length_entries : (places : List ℕ) → AllByRecursion (λ place. place < length xs) places → length (entries_at xs places) ≡ length places
  unfolding entries_at
  length_entries [] h = refl
  length_entries (place ∷ more) h =
      let here : length (take 1 (drop place xs)) ≡ 1 = simp (length-take, length-drop) (omega (arith, h.0)) in
      let rest = length_entries more h.1 in
      simp length-append (omega arith)

  entries_kept : (written : ℕ) (x : X) (places : List ℕ) → AllByRecursion (λ used. used ≢ written) places → entries_at (set xs written x) places ≡ entries_at xs places
  unfolding entries_at
  entries_kept written x [] h = refl
  entries_kept written x (place ∷ more) h = λ i. entry_other xs written place x h.0 i ++ entries_kept written x more h.1 i

  entries_longer : (written : ℕ) (x : X) (places : List ℕ) → written < length xs → AllByRecursion (λ used. used ≢ written) places → entries_at (set xs written x) (places ++ written ∷ []) ≡ entries_at xs places ++ x ∷ []
  unfolding entries_at
  entries_longer written x places h free =
      let l : written < length (set xs written x) = omega (arith, length-set xs written x) in
      sym (flat_map_more (λ place. take 1 (drop place (set xs written x))) [] places written)
      ∙ (λ i. entries_kept written x places free i ++ (entry_at (set xs written x) written x l ∙ ap (λ y. y ∷ []) (get_or-set_same xs written x x h)) i)

  entries_shorter : (places : List ℕ) → AllByRecursion (λ place. place < length xs) places → entries_at xs (drop 1 places) ≡ drop 1 (entries_at xs places)
  unfolding entries_at
  entries_shorter [] h = refl
  entries_shorter (place ∷ more) h = after_one (take 1 (drop place xs)) (entries_at xs more) (simp (length-take, length-drop) (omega (arith, h.0)))
    where
      after_one : (one rest : List X) → length one ≡ 1 → rest ≡ drop 1 (one ++ rest)
      after_one [] rest e = let z : ⊥ = omega arith in absurd z
      after_one (x ∷ []) rest e = refl
      after_one (x ∷ y ∷ more) rest e = let z : ⊥ = omega arith in absurd z

  first_entry : (place : ℕ) (x : X) (places : List ℕ) → AllByRecursion (λ p. p < length xs) places → Some place ≡ slice_get places 0 → x ≡ get_or xs place x → Some x ≡ slice_get (entries_at xs places) 0
  unfolding entries_at
  first_entry place x [] h e f = let z : ◌≡◌ {A = ℕ} 0 1 = cc in let w : ⊥ = omega arith in absurd w
  first_entry place x (first ∷ more) h e f =
      let same : place ≡ first = cc in
      ap (λ (y : X). Some y) (f ∙ ap (λ n. get_or xs n x) same) ∙ sym (ap (λ list. slice_get (list ++ entries_at xs more) 0) (entry_at xs first x h.0))

  no_entry : (places : List ℕ) → None ≡ slice_get places 0 → None ≡ slice_get (entries_at xs places) 0
  unfolding entries_at
  no_entry [] e = refl
  no_entry (first ∷ more) e = let z : ◌≡◌ {A = ℕ} 0 1 = cc in let w : ⊥ = omega arith in absurd w

-- A table whose places lie among `xs`, and what its answers about places say of the entries.
module _ {X : Type 0} (xs : List X) (t : Table) (enough : t.rows * t.places ≤ length xs) (row : ℕ) where
  among : (r : ℕ) → AllByRecursion (λ place. place < length xs) ((places_of t).row r)
  among r = All-weaker (λ place. place < t.rows * t.places) (λ place. place < length xs) (λ place h. omega arith) _ (inside t r)

  pub waiting_view : length ((places_of t).row row) ≡ length ((view_in xs t).row row)
  waiting_view = sym (length_entries xs _ (among row))

  pub oldest_inside : (place : ℕ) → Some place ≡ slice_get ((places_of t).row row) 0 → place < length xs
  oldest_inside place e = first ((places_of t).row row) (among row) e
    where
      first : (places : List ℕ) → AllByRecursion (λ p. p < length xs) places → Some place ≡ slice_get places 0 → place < length xs
      first [] h e = let z : ◌≡◌ {A = ℕ} 0 1 = cc in let w : ⊥ = omega arith in absurd w
      first (p ∷ more) h e = let same : place ≡ p = cc in omega (arith, h.0)

  pub oldest_view : (place : ℕ) (x : X) → Some place ≡ slice_get ((places_of t).row row) 0 → x ≡ get_or xs place x → Some x ≡ slice_get ((view_in xs t).row row) 0
  oldest_view place x e f = first_entry xs place x _ (among row) e f

  pub oldest_none : None ≡ slice_get ((places_of t).row row) 0 → None ≡ slice_get ((view_in xs t).row row) 0
  oldest_none e = no_entry xs _ e

  pub can_put_view : can_put (places_of t) row ≡ can_put (view_in xs t) row
  can_put_view = ap (λ n. ltb row t.rows && ltb n t.places) waiting_view

  pub can_drop_view : can_drop (places_of t) row ≡ can_drop (view_in xs t) row
  can_drop_view = ap (λ k. ltb 0 k) waiting_view

  module _ (t' : Table) where
    -- the place was taken, and `x` written there
    pub put_view : (place : ℕ) (x : X) (ys : List X) → ys ≡ set xs place x → Taken row place (places_of t) (places_of t') → view_in ys t' ≡ after_put (view_in xs t) row x
    put_view place x ys e k =
        let v : RowsView ℕ = places_of t in
        let list : List ℕ = v.row row ++ place ∷ [] in
        let after : places_of t' ≡ with_row v row list = k.newest ∙ cond-true _ _ _ k.room in
        let can : can_put (view_in xs t) row ≡ true = sym can_put_view ∙ k.room in
        let written : entries_of ys (with_row v row list) ≡ with_row (entries_of xs v) row (entries_at xs (v.row row) ++ x ∷ []) =
        same_views (entries_of ys (with_row v row list)) (with_row (entries_of xs v) row (entries_at xs (v.row row) ++ x ∷ [])) refl refl
        (same_changed (λ r. entries_at xs (v.row r)) (λ r. entries_at ys (changed v.row row list r)) row (entries_at xs (v.row row) ++ x ∷ [])
        (ap (entries_at ys) (changed_here v.row row list) ∙ ap (λ zs. entries_at zs list) e ∙ entries_longer xs place x (v.row row) (omega (arith, k.inside)) (k.free row))
        (λ other ne. ap (entries_at ys) (changed_other v.row row list other ne) ∙ ap (λ zs. entries_at zs (v.row other)) e ∙ entries_kept xs place x (v.row other) (k.free other))) in
        ap (entries_of ys) after ∙ written ∙ sym (cond-true _ _ _ can)

    -- the row had no room or was not there
    pub denied_view : (x : X) → NotTaken row (places_of t) (places_of t') → view_in xs t' ≡ after_put (view_in xs t) row x
    denied_view x k =
        let full : can_put (view_in xs t) row ≡ false = sym can_put_view ∙ k.full in
        ap (entries_of xs) k.same ∙ sym (cond-false _ _ _ full)

    -- the oldest was given up, or nothing where nothing waited
    pub drop_view : places_of t' ≡ after_drop (places_of t) row → view_in xs t' ≡ after_drop (view_in xs t) row
    drop_view e =
        let v : RowsView ℕ = places_of t in
        let list : List ℕ = drop 1 (v.row row) in
        ap (entries_of xs) e
        ∙ ⊎_elim
        (λ some.
        let dropped : entries_of xs (with_row v row list) ≡ with_row (entries_of xs v) row (drop 1 (entries_at xs (v.row row))) =
        same_views (entries_of xs (with_row v row list)) (with_row (entries_of xs v) row (drop 1 (entries_at xs (v.row row)))) refl refl
        (same_changed (λ r. entries_at xs (v.row r)) (λ r. entries_at xs (changed v.row row list r)) row (drop 1 (entries_at xs (v.row row)))
        (ap (entries_at xs) (changed_here v.row row list) ∙ entries_shorter xs (v.row row) (among row))
        (λ other ne. ap (entries_at xs) (changed_other v.row row list other ne))) in
        ap (entries_of xs) (cond-true _ _ _ some) ∙ dropped ∙ sym (cond-true _ _ _ (sym can_drop_view ∙ some)))
        (λ none. ap (entries_of xs) (cond-false _ _ _ none) ∙ sym (cond-false _ _ _ (sym can_drop_view ∙ none)))
        (cases_Bool (can_drop v row))

-- what the calls of queues stand on
pub ruleset oldest_views = (oldest_none, oldest_inside, oldest_view)

pub ruleset put_views = (can_put_view, put_view, denied_view, err_from_is_err_and)

pub ruleset drop_views = (can_drop_view, drop_view)

empty_view : {X : Type 0} (xs : List X) (rows places : ℕ) → entries_of xs (empty_rows rows places) ≡ empty_rows rows places
unfolding entries_at
empty_view xs rows places = refl

-- a table that was just made
pub made_view : {X : Type 0} (xs : List X) (n : ℕ) (t : Table) (rows places : ℕ) → places_of t ≡ made_rows n rows places → view_in xs t ≡ made_rows n rows places
made_view xs n t rows places e =
    ap (entries_of xs) e
    ∙ ⊎_elim
    (λ fits. ap (entries_of xs) (cond-true _ _ _ fits) ∙ empty_view xs rows places ∙ sym (cond-true _ _ _ fits))
    (λ tight. ap (entries_of xs) (cond-false _ _ _ tight) ∙ empty_view xs 0 0 ∙ sym (cond-false _ _ _ tight))
    (cases_Bool (fitting n rows places))

-- what holds of all queues
pub record Sound {X : Type 0} (v : RowsView X) : Type 0 where
  pub few : v.rows ≤ most_rows
  pub narrow : v.places ≤ most_places
  pub fits : (r : ℕ) → length (v.row r) ≤ v.places
  pub missing : (r : ℕ) → v.rows ≤ r → v.row r ≡ []

few_entries : {X : Type 0} (xs : List X) (places : List ℕ) → length (entries_at xs places) ≤ length places
unfolding entries_at
few_entries xs [] = omega arith
few_entries xs (place ∷ more) = let rest = few_entries xs more in simp (length-append, length-take) (omega arith)

pub view_sound : {X : Type 0} (xs : List X) (t : Table) → Sound (view_in xs t)
unfolding entries_at
view_sound xs t =
    record {
      few = t.few;
      narrow = t.narrow;
      fits = λ row. omega (arith, few_entries xs ((places_of t).row row), waiting_few t row);
      missing = λ row h. ap (entries_at xs) (row_missing t row h);
    }

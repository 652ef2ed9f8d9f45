-- What a table's rows are, before and after its calls. Assumes nothing.
use Rattle.std.proofs.Common.{◌≡◌, ℕ, ◌+◌, ◌-◌, ◌*◌, ◌%◌, ◌<◌, ◌≤◌, Bool, true, false, cond, eqb, ltb, ◌≢◌, List, [], ◌∷◌, ◌++◌, length, drop, set, replicate, Some, None, sym, refl, ap, ◌∙◌, subst, ⊎_elim, mod-lt, mod-eq_of_lt, arith}
use Rattle.std.specs.List.{AllByRecursion, slice_get}
use Rattle.std.proofs.lemmas.List.{get_or-set_same, get_or-set_other, get_or-replicate, get_or_past, length-replicate, nil_from_length}
use Rattle.std.proofs.lemmas.Bool.{cond-true, cond-false, cond_both, lt-ltb, le-ltb, ltb-true, ltb-false, eq-eqb, ne_eqb, cases_eq, cases_lt, and_from, and_right}
use Rattle.queues.specs.View.{RowsView, changed, with_row, can_put, can_drop, after_drop, most_rows, empty_rows}
use Rattle.queues.specs.Positions.{nothing, position_of, position_in, next_column, oldest_column}
use Rattle.queues.specs.Places.{places_from, places_at, row_places, places_over, places_of, Taken, NotTaken}
use Rattle.queues.specs.declared.position.Position.{Position}
use Rattle.queues.specs.declared.table.Table.{Table}
use Rattle.queues.proofs.Rounds.{row_below, length_places, first_place, places_inside, places_longer, places_shorter, free_here, free_there}

-- views are equal where their parts are
pub same_views : {X : Type 0} (v w : RowsView X) → v.rows ≡ w.rows → v.places ≡ w.places → ((row : ℕ) → v.row row ≡ w.row row) → v ≡ w
same_views v w rows places row = λ i. record { rows = rows i; places = places i; row = λ r. row r i }

module _ {X : Type 0} (before : ℕ → List X) (r : ℕ) (list : List X) where
  pub changed_here : changed before r list r ≡ list
  unfolding changed
  changed_here = cond-true (eqb r r) _ _ (eq-eqb r r refl)

  pub changed_other : (other : ℕ) → other ≢ r → changed before r list other ≡ before other
  unfolding changed
  changed_other other ne = cond-false (eqb other r) _ _ (ne_eqb other r ne)

-- rows that differ in one
pub same_changed : {X : Type 0} (before after : ℕ → List X) (r : ℕ) (list : List X) → after r ≡ list → ((other : ℕ) → other ≢ r → after other ≡ before other) → (row : ℕ) → after row ≡ changed before r list row
same_changed before after r list here others row =
    ⊎_elim (λ e. ap after e ∙ here ∙ sym (changed_here before r list) ∙ ap (changed before r list) (sym e)) (λ ne. others row ne ∙ sym (changed_other before r list row ne)) (cases_eq row r)

some_cond : {X : Type 0} (test : Bool) (x y : X) → Some x ≡ cond test (Some y) None → (test ≡ true) × (x ≡ y)
some_cond true x y e = (refl, cc)
some_cond false x y e = let z : ◌≡◌ {A = ℕ} 0 1 = cc in let w : ⊥ = omega arith in absurd w

none_cond : {X : Type 0} (test : Bool) (y : X) → None ≡ cond test (Some y) None → test ≡ false
none_cond true y e = let z : ◌≡◌ {A = ℕ} 0 1 = cc in let w : ⊥ = omega arith in absurd w
none_cond false y e = refl

-- how many wait in a row
pub waiting_of : (rows places : ℕ) (positions : List Position) (row : ℕ) (p : Position) → p ≡ position_in rows positions row → p.waiting ≡ length (row_places rows places positions row)
unfolding row_places
waiting_of rows places positions row p e =
    let q : Position = position_in rows positions row in
    ap (λ (p : Position). p.waiting) e ∙ sym (length_places places row q.oldest q.waiting)

-- a row of a table
module _ (t : Table) (row : ℕ) where
  abbrev position : Position
  position = position_in t.rows t.positions row

  pub waiting_is : position.waiting ≡ length ((places_of t).row row)
  waiting_is = waiting_of t.rows t.places t.positions row position refl

  oldest_within : position.oldest ≤ t.places - 1
  oldest_within = cond_both (ltb row t.rows) (position_of t.positions row) nothing (λ p. p.oldest ≤ t.places - 1) (λ e. t.oldest_within row) (λ e. omega arith)

  waiting_within : position.waiting ≤ t.places
  waiting_within = cond_both (ltb row t.rows) (position_of t.positions row) nothing (λ p. p.waiting ≤ t.places) (λ e. t.waiting_within row) (λ e. omega arith)

  pub waiting_few : length ((places_of t).row row) ≤ t.places
  waiting_few = omega (arith, waiting_is, waiting_within)

  pub row_missing : t.rows ≤ row → (places_of t).row row ≡ []
  unfolding row_places
  row_missing h = ap (places_at t.places row) (cond-false _ _ _ (le-ltb _ _ h))

  position_is : row < t.rows → position ≡ position_of t.positions row
  position_is h = cond-true _ _ _ (lt-ltb _ _ h)

  -- something waits only in a row that is there
  row_there : 0 < position.waiting → row < t.rows
  row_there some =
      ⊎_elim (λ lt. lt) (λ ge. let z : position.waiting ≡ 0 = ap (λ (p : Position). p.waiting) (cond-false _ _ _ (le-ltb row _ ge)) in let w : ⊥ = omega arith in absurd w) (cases_lt row t.rows)

  -- the places of a row are the table's
  pub inside : AllByRecursion (λ place. place < t.rows * t.places) ((places_of t).row row)
  unfolding row_places
  inside =
      ⊎_elim
      (λ h. places_inside t.places row t.rows position.oldest position.waiting h waiting_within)
      (λ h. subst (AllByRecursion (λ place. place < t.rows * t.places)) (sym (row_missing h)) tt)
      (cases_lt row t.rows)

  pub oldest_is : (column place : ℕ) → Some column ≡ oldest_column position → place ≡ row * t.places + column → Some place ≡ slice_get ((places_of t).row row) 0
  unfolding row_places
  oldest_is column place e f =
      let q = some_cond (ltb 0 position.waiting) column position.oldest e in
      let some : 0 < position.waiting = ltb-true _ _ q.0 in
      let low : position.oldest < t.places = omega (arith, oldest_within, waiting_within) in
      let here : place ≡ row * t.places + position.oldest % t.places = f ∙ ap (λ n. row * t.places + n) (q.1 ∙ sym (mod-eq_of_lt low)) in
      ap (λ (n : ℕ). Some n) here ∙ sym (first_place t.places row position.oldest position.waiting some)

  pub oldest_missing : None ≡ oldest_column position → None ≡ slice_get ((places_of t).row row) 0
  oldest_missing e =
      let none = ltb-false _ _ (none_cond (ltb 0 position.waiting) position.oldest e) in
      ap (λ list. slice_get list 0) (sym (nil_from_length ((places_of t).row row) (omega (arith, waiting_is))))

  pub row_full : None ≡ next_column t.places position → NotTaken row (places_of t) (places_of t)
  row_full e = record { full = and_right _ _ (ap (λ n. ltb n t.places) (sym waiting_is) ∙ none_cond _ _ e); same = refl }

  -- the place after the newest of a row is in no row
  free_in : position.waiting < t.places → (other : ℕ) → AllByRecursion (λ used. used ≢ row * t.places + (position.oldest + position.waiting) % t.places) ((places_of t).row other)
  unfolding row_places
  free_in space other =
      let next : ℕ = row * t.places + (position.oldest + position.waiting) % t.places in
      ⊎_elim
      (λ same. subst (λ r. AllByRecursion (λ used. used ≢ next) ((places_of t).row r)) (sym same) (free_here t.places row position.oldest position.waiting space))
      (λ ne. free_there t.places row position.oldest position.waiting space other _ _ ne)
      (cases_eq other row)

  -- a table with another position for a row that is there
  module _ (h : row < t.rows) (p' : Position) where
    moved : places_over t.rows t.places (set t.positions row p') ≡ with_row (places_of t) row (places_at t.places row p')
    unfolding row_places
    moved =
        let after : RowsView ℕ = places_over t.rows t.places (set t.positions row p') in
        let here = get_or-set_same t.positions row p' nothing (omega (arith, h, t.few, t.sized)) in
        same_views after (with_row (places_of t) row (places_at t.places row p')) refl refl
        (same_changed (places_of t).row after.row row (places_at t.places row p')
        (ap (places_at t.places row) (cond-true _ _ _ (lt-ltb _ _ h) ∙ here))
        (λ other ne. ap (λ p. places_at t.places other (cond (ltb other t.rows) p nothing)) (get_or-set_other t.positions row other p' nothing ne)))

    pub taken : (column place : ℕ) → Some column ≡ next_column t.places position → place ≡ row * t.places + column → p'.oldest ≡ (position_of t.positions row).oldest → p'.waiting ≡ (position_of t.positions row).waiting + 1 → Taken row place (places_of t) (places_over t.rows t.places (set t.positions row p'))
    unfolding row_places
    taken column place e f oldest waiting =
        let q = some_cond (ltb position.waiting t.places) column ((position.oldest + position.waiting) % t.places) e in
        let space : position.waiting < t.places = ltb-true _ _ q.0 in
        let is : place ≡ row * t.places + (position.oldest + position.waiting) % t.places = f ∙ ap (λ n. row * t.places + n) q.1 in
        let room : can_put (places_of t) row ≡ true = and_from _ _ (lt-ltb _ _ h) (lt-ltb _ _ (omega (arith, waiting_is))) in
        let same = sym (position_is h) in
        let list : places_at t.places row p' ≡ (places_of t).row row ++ place ∷ [] =
        (λ i. places_from t.places row ((oldest ∙ ap (λ (p : Position). p.oldest) same) i) ((waiting ∙ ap (λ (p : Position). p.waiting + 1) same) i))
        ∙ places_longer t.places row position.oldest position.waiting
        ∙ ap (λ n. (places_of t).row row ++ n ∷ []) (sym is) in
        record {
          room = room;
          inside = omega (arith, row_below row t.rows t.places h, mod-lt (position.oldest + position.waiting) {m = t.places} (omega arith));
          free = subst (λ n. (other : ℕ) → AllByRecursion (λ used. used ≢ n) ((places_of t).row other)) (sym is) (free_in space);
          newest = moved ∙ ap (with_row (places_of t) row) list ∙ sym (cond-true _ _ _ room);
        }

  pub given_up : (p' : Position) → 0 < position.waiting → p'.oldest ≡ ((position_of t.positions row).oldest + 1) % t.places → p'.waiting ≡ (position_of t.positions row).waiting - 1 → places_over t.rows t.places (set t.positions row p') ≡ after_drop (places_of t) row
  unfolding row_places
  given_up p' some oldest waiting =
      let h = row_there some in
      let can : can_drop (places_of t) row ≡ true = lt-ltb _ _ (omega (arith, waiting_is)) in
      let same = sym (position_is h) in
      let list : places_at t.places row p' ≡ drop 1 ((places_of t).row row) =
      (λ i. places_from t.places row ((oldest ∙ ap (λ (p : Position). (p.oldest + 1) % t.places) same) i) ((waiting ∙ ap (λ (p : Position). p.waiting - 1) same) i))
      ∙ places_shorter t.places row position.oldest position.waiting some in
      moved h p' ∙ ap (with_row (places_of t) row) list ∙ sym (cond-true _ _ _ can)

-- a table in which nothing waits
fresh_position : (row : ℕ) → position_of (replicate most_rows nothing) row ≡ nothing
fresh_position row =
    ⊎_elim (λ h. get_or-replicate most_rows row nothing nothing h) (λ h. get_or_past (replicate most_rows nothing) row nothing (omega (arith, length-replicate most_rows nothing))) (cases_lt row most_rows)

pub fresh_is : (p : Position) → p ≡ nothing → (row : ℕ) → position_of (replicate most_rows p) row ≡ nothing
fresh_is p e row = ap (λ q. position_of (replicate most_rows q) row) e ∙ fresh_position row

pub fresh_places : (rows places : ℕ) (p : Position) → p ≡ nothing → places_over rows places (replicate most_rows p) ≡ empty_rows rows places
unfolding row_places
fresh_places rows places p e =
    same_views (places_over rows places (replicate most_rows p)) (empty_rows rows places) refl refl
    (λ row. ap (places_at places row) (either (ltb row rows) _ (fresh_is p e row)))
  where
    either : (test : Bool) (q : Position) → q ≡ nothing → cond test q nothing ≡ nothing
    either true q e = e
    either false q e = refl

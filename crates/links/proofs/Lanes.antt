-- What the calls of queues do to the lanes that their rows are. Assumes nothing.
use Rattle.std.proofs.Common.{◌≡◌, ℕ, ◌+◌, ◌*◌, ◌/◌, ◌<◌, ◌≤◌, Bool, true, false, cond, ◌&&◌, eqb, ltb, leb, List, [], ◌∷◌, ◌++◌, length, drop, Some, None, Option, unwrap_or, sym, refl, ap, ◌∙◌, ⊎_elim, arith}
use Rattle.std.proofs.lemmas.Bool.{cond-true, cond-false, cases_Bool, cases_lt, and_parts, and_from, and_left, and_right, eqb-true, eq-eqb, ne_eqb, lt-ltb, le-ltb}
use Rattle.std.proofs.lemmas.Bool.Decides.{nat_tests}
use Rattle.queues.specs.View.{RowsView, with_row, can_put, after_put, can_drop, after_drop, changed as changed_rows, made_rows, empty_rows, fitting as fitting_rows}
use Rattle.links.specs.declared.lane.Lane.{Lane}
use Rattle.links.specs.declared.lane.Lane.TheVariants.{Request, Reply, Down}
use Rattle.links.specs.View.{LaneView, lane_number, same_lane, changed, with_lane, has_space, sent, some_wait, dropped, allowed, fitting, empty, made}
use Rattle.links.specs.Lanes.{row_of, row_list, lanes_of, sizes_of}

pub same_views : {X : Type 0} (v w : LaneView X) → v.count ≡ w.count → v.room ≡ w.room → ((lane : Lane) (s : ℕ) → v.waiting lane s ≡ w.waiting lane s) → v ≡ w
same_views v w a b f = λ i. record { count = a i; room = b i; waiting = λ lane s. f lane s i }

never : {A : Type 0} {b : Bool} → b ≡ true → b ≡ false → A
never x y = let z : ◌≡◌ {A = ℕ} 0 1 = cc in let w : ⊥ = omega arith in absurd w

lane_small : (lane : Lane) → lane_number lane < 3
lane_small Request = omega arith
lane_small Reply = omega arith
lane_small Down = omega arith

some_is : {A : Type 0} {x y : A} → ◌≡◌ {A = Option A} (Some x) (Some y) → x ≡ y
some_is e = cc

pub none_some : {A B : Type 0} {x : A} → None ≡ Some x → B
none_some e = let z : ◌≡◌ {A = ℕ} 0 1 = cc in let w : ⊥ = omega arith in absurd w

-- the rows of lanes
module _ (rows : ℕ) (lane : Lane) (s : ℕ) where
  row_in : s < rows / 3 → row_of rows lane s ≡ Some (s * 3 + lane_number lane)
  row_in h = cond-true _ _ _ (lt-ltb s (rows / 3) h)

  pub row_out : rows / 3 ≤ s → row_of rows lane s ≡ None
  row_out h = cond-false _ _ _ (le-ltb s (rows / 3) h)

  -- a station that is not served has no row
  none_served : None ≡ row_of rows lane s → rows / 3 ≤ s
  none_served e = ⊎_elim (λ h. none_some (e ∙ row_in h)) (λ h. h) (cases_lt s (rows / 3))

  module _ (r : ℕ) (e : Some r ≡ row_of rows lane s) where
    is_served : s < rows / 3
    is_served = ⊎_elim (λ h. h) (λ h. none_some (sym (e ∙ row_out h))) (cases_lt s (rows / 3))

    row_number : r ≡ s * 3 + lane_number lane
    row_number = some_is (e ∙ row_in is_served)

    row_below : r < rows
    row_below = let h = is_served in let n = row_number in let small = lane_small lane in omega arith

-- no two lanes have one row
same_row : {X : Type 0} (v : RowsView X) (lane : Lane) (s r : ℕ) → Some r ≡ row_of v.rows lane s → (list : List X) (other : Lane) (t : ℕ) → row_list (with_row v r list) (row_of v.rows other t) ≡ changed (lanes_of v).waiting lane s list other t
unfolding changed changed_rows
same_row v lane s r e list other t =
    let number = row_number v.rows lane s r e in
    let served = is_served v.rows lane s r e in
    let a = lane_small lane in
    let b = lane_small other in
    ⊎_elim
    (λ there.
    let row = row_in v.rows other t there in
    ap (row_list (with_row v r list)) row
    ∙ ap (λ test. cond test list (v.row (t * 3 + lane_number other)))
    (⊎_elim
    (λ same.
    let p = and_parts (same_lane other lane) (eqb t s) same in
    let lanes = eqb-true (lane_number other) (lane_number lane) p.0 in
    let stations = eqb-true t s p.1 in
    eq-eqb (t * 3 + lane_number other) r (omega arith) ∙ sym same)
    (λ apart.
    ne_eqb (t * 3 + lane_number other) r
    (λ one.
    let lanes : lane_number other ≡ lane_number lane = omega arith in
    let stations : t ≡ s = omega arith in
    never (and_from _ _ (eq-eqb (lane_number other) (lane_number lane) lanes) (eq-eqb t s stations)) apart)
    ∙ sym apart)
    (cases_Bool (same_lane other lane && eqb t s)))
    ∙ ap (λ before. cond (same_lane other lane && eqb t s) list before) (sym (ap (row_list v) row)))
    (λ out.
    let row = row_out v.rows other t out in
    ap (row_list (with_row v r list)) row
    ∙ sym (ap (row_list v) row)
    ∙ sym (cond-false _ _ _ (and_right (same_lane other lane) (eqb t s) (ne_eqb t s (λ same. let z : ⊥ = omega arith in z)))))
    (cases_lt t (v.rows / 3))

-- queues `v` before a call, at a lane
module _ {X : Type 0} (v : RowsView X) (lane : Lane) (s : ℕ) where
  -- a lane that has no row
  module _ (e : None ≡ row_of v.rows lane s) where
    pub no_list : [] ≡ (lanes_of v).waiting lane s
    no_list = ap (row_list v) e

    pub no_space : has_space (lanes_of v) lane s ≡ false
    no_space = and_left _ _ (le-ltb s (v.rows / 3) (none_served v.rows lane s e))

    pub not_sent : (x : X) → lanes_of v ≡ sent (lanes_of v) lane s x
    not_sent x = sym (cond-false _ _ _ no_space)

    pub none_waits : some_wait (lanes_of v) lane s ≡ false
    none_waits = ap (λ (list : List X). ltb 0 (length list)) (sym no_list)

    pub not_dropped : lanes_of v ≡ dropped (lanes_of v) lane s
    not_dropped = sym (cond-false _ _ _ none_waits)

  -- a lane that has the row `r`, which `w` changes
  module _ (r : ℕ) (e : Some r ≡ row_of v.rows lane s) where
    pub list_is : v.row r ≡ (lanes_of v).waiting lane s
    list_is = ap (row_list v) e

    -- one row changed is one lane changed
    lane_changed : (list : List X) → lanes_of (with_row v r list) ≡ with_lane (lanes_of v) lane s list
    lane_changed list = same_views (lanes_of (with_row v r list)) (with_lane (lanes_of v) lane s list) refl refl (same_row v lane s r e list)

    pub can_send : can_put v r ≡ has_space (lanes_of v) lane s
    can_send =
        let row : ltb r v.rows ≡ ltb s (v.rows / 3) = lt-ltb r v.rows (row_below v.rows lane s r e) ∙ sym (lt-ltb s (v.rows / 3) (is_served v.rows lane s r e)) in
        λ i. row i && ltb (length (list_is i)) v.places

    pub send_lanes : (w : RowsView X) (x : X) → w ≡ after_put v r x → lanes_of w ≡ sent (lanes_of v) lane s x
    send_lanes w x after =
        ap lanes_of after
        ∙ ⊎_elim
        (λ space. ap lanes_of (cond-true _ _ _ space) ∙ lane_changed _ ∙ ap (λ list. with_lane (lanes_of v) lane s (list ++ x ∷ [])) list_is ∙ sym (cond-true _ _ _ (sym can_send ∙ space)))
        (λ full. ap lanes_of (cond-false _ _ _ full) ∙ sym (cond-false _ _ _ (sym can_send ∙ full)))
        (cases_Bool (can_put v r))

    pub can_drop_lem : can_drop v r ≡ some_wait (lanes_of v) lane s
    can_drop_lem = ap (λ (list : List X). ltb 0 (length list)) list_is

    pub drop_lanes : (w : RowsView X) → w ≡ after_drop v r → lanes_of w ≡ dropped (lanes_of v) lane s
    drop_lanes w after =
        ap lanes_of after
        ∙ ⊎_elim
        (λ some. ap lanes_of (cond-true _ _ _ some) ∙ lane_changed _ ∙ ap (λ (list : List X). with_lane (lanes_of v) lane s (drop 1 list)) list_is ∙ sym (cond-true _ _ _ (sym can_drop_lem ∙ some)))
        (λ none. ap lanes_of (cond-false _ _ _ none) ∙ sym (cond-false _ _ _ (sym can_drop_lem ∙ none)))
        (cases_Bool (can_drop v r))

-- lanes on which nothing waits
empty_lanes : {X : Type 0} (rows places : ℕ) → lanes_of {X = X} (empty_rows rows places) ≡ empty (rows / 3) places
empty_lanes {X} rows places = same_views (lanes_of {X = X} (empty_rows rows places)) (empty (rows / 3) places) refl refl (λ lane s. no_list (row_of rows lane s))
  where
    no_list : (row : Option ℕ) → row_list {X = X} (empty_rows rows places) row ≡ []
    no_list None = refl
    no_list (Some r) = refl

-- queues that were just made, over `n` messages, as links over memory in which each message takes `size`
pub made_lanes : {X : Type 0} (v : RowsView X) (n memory size stations room : ℕ) (found : Option (ℕ × ℕ)) (sizes : ℕ × ℕ) → leb (stations * 3 * room) n ≡ leb (3 * stations * room * size) memory → found ≡ sizes_of stations room → sizes ≡ unwrap_or found (0, 0) → v ≡ made_rows n sizes.0 sizes.1 → lanes_of v ≡ made memory size stations room
made_lanes {X} v n memory size stations room found sizes enough ef es e =
    ap lanes_of (e ∙ ap (λ (p : ℕ × ℕ). made_rows n p.0 p.1) es)
    ∙ ap (λ (o : Option (ℕ × ℕ)). rows_for o) ef
    ∙ ⊎_elim
    (λ yes.
    let fits : fitting_rows n (stations * 3) room ≡ leb (stations * 3 * room) n = grind (arith, nat_tests) in
    let same : fitting_rows n (stations * 3) room ≡ fitting memory size stations room = fits ∙ enough ∙ sym (λ i. yes i && leb (3 * stations * room * size) memory) in
    ap (λ (o : Option (ℕ × ℕ)). rows_for o) (cond-true _ _ _ yes)
    ∙ ap (λ test. lanes_of {X = X} (cond test (empty_rows (stations * 3) room) (empty_rows 0 0))) same
    ∙ thirds (fitting memory size stations room))
    (λ refused.
    ap (λ (o : Option (ℕ × ℕ)). rows_for o) (cond-false _ _ _ refused)
    ∙ none (fitting_rows n 0 0)
    ∙ sym (cond-false _ _ _ (λ i. refused i && leb (3 * stations * room * size) memory)))
    (cases_Bool (allowed stations room))
  where
    rows_for : Option (ℕ × ℕ) → LaneView X
    rows_for o = let p : ℕ × ℕ = unwrap_or o (0, 0) in lanes_of {X = X} (made_rows n p.0 p.1)

    none : (test : Bool) → lanes_of {X = X} (cond test (empty_rows 0 0) (empty_rows 0 0)) ≡ empty 0 0
    none true = empty_lanes 0 0
    none false = empty_lanes 0 0

    thirds : (test : Bool) → lanes_of {X = X} (cond test (empty_rows (stations * 3) room) (empty_rows 0 0)) ≡ cond test (empty stations room) (empty 0 0)
    thirds true = let e : stations * 3 / 3 ≡ stations = omega arith in empty_lanes (stations * 3) room ∙ (λ i. empty (e i) room)
    thirds false = empty_lanes 0 0

-- What went into a lane comes out of it in that order. Assumes nothing.
use Rattle.std.proofs.Common.{◌≡◌, ℕ, Bool, true, false, cond, ◌&&◌, eqb, ltb, List, [], ◌∷◌, ◌++◌, length, take, drop, sym, refl, ap, ◌∙◌, append_assoc, append-nil, arith}
use Rattle.std.proofs.lemmas.Bool.{and_parts, cond-true, eqb-true, lt-ltb}
use Rattle.links.specs.declared.lane.Lane.{Lane}
use Rattle.links.specs.declared.lane.Lane.TheVariants.{Request, Reply, Down}
use Rattle.links.specs.View.{LaneView, lane_number, same_lane, changed, with_lane, has_space, some_wait}
use Rattle.links.specs.Order.{Move, sends, drops, after, enters, leaves, entered, left, after_all, FirstInFirstOut}

lane_is : (a b : Lane) → lane_number a ≡ lane_number b → a ≡ b
lane_is Request Request e = refl
lane_is Request Reply e = absurd (omega arith)
lane_is Request Down e = absurd (omega arith)
lane_is Reply Request e = absurd (omega arith)
lane_is Reply Reply e = refl
lane_is Reply Down e = absurd (omega arith)
lane_is Down Request e = absurd (omega arith)
lane_is Down Reply e = absurd (omega arith)
lane_is Down Down e = refl

module _ {X : Type 0} where
  same_list : (f : Lane → ℕ → List X) (lane other : Lane) (station s : ℕ) → (same_lane lane other && eqb station s) ≡ true → f other s ≡ f lane station
  same_list f lane other station s h =
      let p = and_parts _ _ h in
      (λ i. f (sym (lane_is lane other (eqb-true _ _ p.0)) i) (sym (eqb-true _ _ p.1) i))

  -- `here` says that the move is on this lane, on which `list` waits; `there` waits on the lane of the move
  send_step : (ok here : Bool) (list there : List X) (x : X) → (here ≡ true → there ≡ list) → list ++ cond (here && ok) (x ∷ []) [] ≡ cond ok (cond here (there ++ (x ∷ [])) list) list
  send_step true true list there x same = ap (λ (l : List X). l ++ (x ∷ [])) (sym (same refl))
  send_step true false list there x same = append-nil list
  send_step false true list there x same = append-nil list
  send_step false false list there x same = append-nil list

  first_of : (list : List X) → list ≡ take 1 list ++ cond (ltb 0 (length list)) (drop 1 list) list
  first_of [] = refl
  first_of (x ∷ list) = ap (λ (l : List X). x ∷ l) (sym (cond-true _ list (x ∷ list) (lt-ltb 0 (length (x ∷ list)) (omega arith))))

  drop_step : (here : Bool) (list there : List X) → (here ≡ true → there ≡ list) → list ++ [] ≡ cond here (take 1 list) [] ++ cond (ltb 0 (length there)) (cond here (drop 1 there) list) list
  drop_step true list there same = append-nil list ∙ first_of list ∙ ap (λ (l : List X). take 1 list ++ cond (ltb 0 (length l)) (drop 1 l) list) (sym (same refl))
  drop_step false list there same = append-nil list ∙ kept (ltb 0 (length there))
    where
      kept : (b : Bool) → list ≡ cond b list list
      kept true = refl
      kept false = refl

  waiting_of : (test : Bool) (v w : LaneView X) (lane : Lane) (station : ℕ) → (cond test v w).waiting lane station ≡ cond test (v.waiting lane station) (w.waiting lane station)
  waiting_of true v w lane station = refl
  waiting_of false v w lane station = refl

  step : (v : LaneView X) (m : Move X) (lane : Lane) (station : ℕ) → v.waiting lane station ++ enters lane station v m ≡ leaves lane station v m ++ (after v m).waiting lane station
  unfolding changed
  step v (sends to s x) lane station =
      send_step (has_space v to s) (same_lane lane to && eqb station s) (v.waiting lane station) (v.waiting to s) x (same_list v.waiting lane to station s)
      ∙ sym (waiting_of (has_space v to s) (with_lane v to s (v.waiting to s ++ x ∷ [])) v lane station)
  step v (drops from s) lane station =
      drop_step (same_lane lane from && eqb station s) (v.waiting lane station) (v.waiting from s) (same_list v.waiting lane from station s)
      ∙ ap (λ (l : List X). cond (same_lane lane from && eqb station s) (take 1 (v.waiting lane station)) [] ++ l) (sym (waiting_of (some_wait v from s) (with_lane v from s (drop 1 (v.waiting from s))) v lane station))

  pub in_order : FirstInFirstOut X
  in_order v [] lane station = append-nil (v.waiting lane station)
  in_order v (m ∷ more) lane station =
      sym (append_assoc (v.waiting lane station) (enters lane station v m) (entered lane station (after v m) more))
      ∙ ap (λ (l : List X). l ++ entered lane station (after v m) more) (step v m lane station)
      ∙ append_assoc (leaves lane station v m) ((after v m).waiting lane station) (entered lane station (after v m) more)
      ∙ ap (λ (l : List X). leaves lane station v m ++ l) (in_order (after v m) more lane station)
      ∙ sym (append_assoc (leaves lane station v m) (left lane station (after v m) more) ((after_all (after v m) more).waiting lane station))

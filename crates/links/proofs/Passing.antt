-- A message passed from one lane to another. Assumes nothing.
use Rattle.std.proofs.Common.{◌≡◌, ℕ, Bool, true, false, ◌&&◌, eqb, ltb, List, [], ◌∷◌, ◌++◌, length, take, Some, None, Ok, Err, Option, Result, sym, refl, ap, ◌∙◌, ⊎_elim, arith}
use Rattle.std.specs.List.{slice_get}
use Rattle.std.proofs.lemmas.List.{length-append}
use Rattle.std.proofs.lemmas.Bool.{cond-true, cond-false, cases_Bool, lt-ltb, and_from, and_left}
use Rattle.queues.specs.View.{granted_if}
use Rattle.queues.specs.declared.denied.Denied.{Denied}
use Rattle.links.specs.declared.lane.Lane.{Lane}
use Rattle.links.specs.View.{LaneView, same_lane, changed, with_lane, has_space, sent, some_wait, dropped, can_forward, forwarded}

was_granted : (test : Bool) → Ok tt ≡ granted_if test → test ≡ true
was_granted true e = refl
was_granted false e = let z : ◌≡◌ {A = ℕ} 0 1 = cc in let w : ⊥ = omega arith in absurd w

nothing_first : {X : Type 0} (list : List X) → None ≡ slice_get list 0 → ltb 0 (length list) ≡ false
nothing_first [] e = refl
nothing_first (x ∷ list) e = let z : ◌≡◌ {A = ℕ} 0 1 = cc in let w : ⊥ = omega arith in absurd w

something_first : {X : Type 0} (list : List X) (x : X) → Some x ≡ slice_get list 0 → ltb 0 (length list) ≡ true
something_first [] x e = let z : ◌≡◌ {A = ℕ} 0 1 = cc in let w : ⊥ = omega arith in absurd w
something_first (y ∷ list) x e = lt-ltb 0 (length (y ∷ list)) (omega arith)

first_is : {X : Type 0} (list : List X) (x : X) → Some x ≡ slice_get list 0 → x ∷ [] ≡ take 1 list
first_is [] x e = let z : ◌≡◌ {A = ℕ} 0 1 = cc in let w : ⊥ = omega arith in absurd w
first_is (y ∷ list) x e = let same : x ≡ y = cc in ap (λ z. z ∷ []) same

-- what `forward` answers and leaves
pub record Forwarding {X : Type 0} (v : LaneView X) (from to : Lane) (s : ℕ) (r : Result (Unit {0}) Denied) (after : LaneView X) : Type 0 where
  pub answered : r ≡ granted_if (can_forward v from to s)
  pub left_as : after ≡ forwarded v from to s

module _ {X : Type 0} (v : LaneView X) (from to : Lane) (s : ℕ) where
  pub forward_none : (oldest : Option X) → None ≡ oldest → oldest ≡ slice_get (v.waiting from s) 0 → Forwarding v from to s (Err (record {})) v
  forward_none oldest none is =
      let e : None ≡ slice_get (v.waiting from s) 0 = none ∙ is in
      let off : can_forward v from to s ≡ false = and_left _ _ (nothing_first (v.waiting from s) e) in
      record { answered = sym (ap granted_if off); left_as = sym (cond-false _ _ _ off) }

  still_some : (list : List X) (x : X) → some_wait v from s ≡ true → some_wait (with_lane v to s (list ++ x ∷ [])) from s ≡ true
  unfolding changed
  still_some list x some =
      ⊎_elim
      (λ (same : (same_lane from to && eqb s s) ≡ true). ap (λ (l : List X). ltb 0 (length l)) (cond-true _ _ _ same) ∙ lt-ltb 0 (length (list ++ x ∷ [])) (simp length-append (omega arith)))
      (λ apart. ap (λ (l : List X). ltb 0 (length l)) (cond-false _ _ _ apart) ∙ some)
      (cases_Bool (same_lane from to && eqb s s))

  pub forward_some : (v₁ v₂ : LaneView X) (x : X) (oldest : Option X) (r : Result (Unit {0}) Denied) → Some x ≡ oldest → oldest ≡ slice_get (v.waiting from s) 0 → Ok tt ≡ granted_if (has_space v to s) → v₁ ≡ sent v to s x → r ≡ granted_if (some_wait v₁ from s) → v₂ ≡ dropped v₁ from s → Forwarding v from to s r v₂
  forward_some v₁ v₂ x oldest r found is granted e₁ er e₂ =
      let e : Some x ≡ slice_get (v.waiting from s) 0 = found ∙ is in
      let some = something_first (v.waiting from s) x e in
      let space = was_granted (has_space v to s) granted in
      let can : can_forward v from to s ≡ true = and_from _ _ some space in
      let mid : v₁ ≡ with_lane v to s (v.waiting to s ++ x ∷ []) = e₁ ∙ cond-true _ _ _ space in
      record {
        answered = er ∙ ap granted_if (ap (λ (w : LaneView X). some_wait w from s) mid ∙ still_some (v.waiting to s) x some ∙ sym can);
        left_as = e₂
            ∙ ap (λ (w : LaneView X). dropped w from s) mid
            ∙ ap (λ (one : List X). dropped (with_lane v to s (v.waiting to s ++ one)) from s) (first_is (v.waiting from s) x e)
            ∙ sym (cond-true _ _ _ can);
      }

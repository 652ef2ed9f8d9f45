-- What a message that leaves or is sent makes of the lanes.
use Rattle.std.proofs.Common.{◌≡◌, ℕ, zero, suc, ◌+◌, ◌<◌, Bool, true, false, cond, ◌&&◌, eqb, ltb, List, [], ◌∷◌, ◌++◌, length, drop, Some, None, Option, sym, refl, ap, ◌∙◌, inl, inr, append-nil, arith}
use mathlib.Core.Path.{fun_ext}
use Rattle.std.proofs.lemmas.Bool.{cond-true, cond-false, cases_Bool, cases_eq, cases_lt, and_parts, and_from, and_left, and_right, both_ways, lt-ltb, le-ltb, ltb-false, eqb-true, eq-eqb}
use Rattle.messages.specs.declared.message.Kind.{Kind}
use Rattle.messages.specs.declared.message.Message.{Message}
use Rattle.registers.specs.Sets.{station_limit}
use Rattle.links.specs.declared.lane.Lane.{Lane}
use Rattle.links.specs.declared.lane.Lane.TheVariants.{Request, Reply, Down}
use Rattle.links.specs.View.{LaneView, same_lane, changed, with_lane, has_space, sent, some_wait, dropped}
use Rattle.protocol.specs.declared.pages.Sends.TheVariants.{Nothing, To, ToAll}
use Rattle.protocol.specs.Rules.{Stations, Sends}
use Rattle.protocol.specs.State.{Posts, message, listed, from_station, from_home, posted, left_lane}
use Rattle.coherence.proofs.Tables.{eqb_same, one_lane, left_here}
use Rattle.calls.specs.Lanes.{with_lanes, space_to_send, space_below, space_for_all}
use Rattle.calls.proofs.Ranges.{AllBelow}

pub same_lane_lem : (l : Lane) → same_lane l l ≡ true
same_lane_lem Request = refl
same_lane_lem Reply = refl
same_lane_lem Down = refl

module _ {X : Type 0} where
  as_was : (v : LaneView X) (g : Lane → ℕ → List X) → ((lane : Lane) (t : ℕ) → v.waiting lane t ≡ g lane t) → v ≡ with_lanes v g
  as_was v g e = ap (with_lanes v) (fun_ext (λ lane. fun_ext (λ t. e lane t)))

  -- lanes that differ on one lane of one station
  changed_is : (f g : Lane → ℕ → List X) (out : Lane) (s : ℕ) (l : List X) → l ≡ g out s → ((lane : Lane) (t : ℕ) → (same_lane lane out && eqb t s) ≡ false → f lane t ≡ g lane t) → changed f out s l ≡ g
  unfolding changed
  changed_is f g out s l here there =
      fun_ext (λ lane. fun_ext (λ t. elim (cases_Bool (same_lane lane out && eqb t s)) [
        | inl y ↦
            let parts = and_parts (same_lane lane out) (eqb t s) y in
            cond-true _ _ _ y ∙ here ∙ (λ i. g (sym (one_lane lane out parts.0) i) (sym (eqb-true t s parts.1) i))
        | inr y ↦ cond-false _ _ _ y ∙ there lane t y
      ]))

  sent_is : (v : LaneView X) (out : Lane) (s : ℕ) (m : X) (g : Lane → ℕ → List X) → has_space v out s ≡ true → v.waiting out s ++ m ∷ [] ≡ g out s → ((lane : Lane) (t : ℕ) → (same_lane lane out && eqb t s) ≡ false → v.waiting lane t ≡ g lane t) → sent v out s m ≡ with_lanes v g
  sent_is v out s m g space here there = cond-true _ _ _ space ∙ ap (with_lanes v) (changed_is v.waiting g out s _ here there)

  -- where nothing waits, nothing is dropped
  pub nothing_waits : (l : List X) → ltb 0 (length l) ≡ false → l ≡ drop 1 l
  nothing_waits [] e = refl
  nothing_waits (x ∷ l) e = absurd (omega (arith, ltb-false 0 (length (x ∷ l)) e))

nothing_listed : {V : Type 0} (page : ℕ) (b : Bool) → cond b (listed {V = V} page None) [] ≡ []
nothing_listed page true = refl
nothing_listed page false = refl

module _ {V : Type 0} (v : LaneView (Message V)) where
  -- a message that leaves
  module _ (from : Lane) (s : ℕ) where
    left_elsewhere : (lane : Lane) (t : ℕ) → (same_lane lane from && eqb t s) ≡ false → v.waiting lane t ≡ left_lane true from s v.waiting lane t
    unfolding left_lane
    left_elsewhere lane t e = sym (cond-false _ _ _ e)

    dropped_or_not : dropped v from s ≡ with_lane v from s (drop 1 (v.waiting from s))
    dropped_or_not = elim (cases_Bool (some_wait v from s)) [
      | inl y ↦ cond-true _ _ _ y
      | inr y ↦ cond-false _ _ _ y ∙ sym (ap (with_lanes v) (changed_is v.waiting v.waiting from s _ (sym (nothing_waits (v.waiting from s) y)) (λ lane t _. refl)))
    ]

    pub left_by_drop : (w : LaneView (Message V)) (leaves : Bool) → leaves ≡ true → w ≡ dropped v from s → w ≡ with_lanes v (left_lane leaves from s v.waiting)
    left_by_drop w leaves y e =
        e ∙ dropped_or_not
        ∙ ap (with_lanes v) (changed_is v.waiting (left_lane true from s v.waiting) from s _ (sym (left_here v.waiting true from s)) left_elsewhere)
        ∙ ap (λ b. with_lanes v (left_lane b from s v.waiting)) (sym y)

    pub left_not : (leaves : Bool) → leaves ≡ false → v ≡ with_lanes v (left_lane leaves from s v.waiting)
    unfolding left_lane
    left_not leaves y = ap (λ b. with_lanes v (left_lane b from s v.waiting)) (sym y)

  -- posts that are one message
  posts_one : (out : Lane) (s : ℕ) (m : Message V) (posts : Posts V) → has_space v out s ≡ true → posts out s ≡ m ∷ [] → ((lane : Lane) (t : ℕ) → (same_lane lane out && eqb t s) ≡ false → posts lane t ≡ []) → sent v out s m ≡ with_lanes v (posted v.waiting posts)
  unfolding posted
  posts_one out s m posts space here there =
      sent_is v out s m (posted v.waiting posts) space (ap (λ l. v.waiting out s ++ l) (sym here)) (λ lane t e. sym (ap (λ l. v.waiting lane t ++ l) (there lane t e) ∙ append-nil _))

  posts_none : (posts : Posts V) → ((lane : Lane) (t : ℕ) → posts lane t ≡ []) → v ≡ with_lanes v (posted v.waiting posts)
  unfolding posted
  posts_none posts e = as_was v (posted v.waiting posts) (λ lane t. sym (ap (λ l. v.waiting lane t ++ l) (e lane t) ∙ append-nil _))

  -- a station sends
  module _ (out : Lane) (s page : ℕ) (sends : Option (Kind V)) where
    pub up_one : (w : LaneView (Message V)) (kind : Kind V) → sends ≡ Some kind → space_to_send v out s sends ≡ true → w ≡ sent v out s (message page kind) → w ≡ with_lanes v (posted v.waiting (from_station out s page sends))
    unfolding from_station
    up_one w kind y space e =
        e
        ∙ posts_one out s (message page kind) (from_station out s page (Some kind)) (ap (space_to_send v out s) (sym y) ∙ space) (cond-true _ _ _ (and_from _ _ (same_lane_lem out) (eqb_same s))) (λ lane t d. cond-false _ _ _ d)
        ∙ ap (λ o. with_lanes v (posted v.waiting (from_station out s page o))) (sym y)

    pub up_none : sends ≡ None → v ≡ with_lanes v (posted v.waiting (from_station out s page sends))
    unfolding from_station
    up_none y =
        posts_none (from_station out s page None) (λ lane t. nothing_listed page (same_lane lane out && eqb t s))
        ∙ ap (λ o. with_lanes v (posted v.waiting (from_station out s page o))) (sym y)

  -- the home sends
  module _ (page : ℕ) where
    pub down_none : (sends : Sends V) → sends ≡ Nothing → v ≡ with_lanes v (posted v.waiting (from_home page sends))
    unfolding from_home
    down_none sends y =
        posts_none (from_home page Nothing) (λ lane t. nothing_listed page (same_lane lane Down))
        ∙ ap (λ o. with_lanes v (posted v.waiting (from_home page o))) (sym y)

    -- each station of a set, on its down lane
    told : (set : Stations) (kind : Kind V) (lane : Lane) (t : ℕ) → (same_lane lane Down && set t) ≡ true → from_home page (ToAll set kind) lane t ≡ message page kind ∷ []
    unfolding from_home
    told set kind lane t e = let parts = and_parts (same_lane lane Down) (set t) e in cond-true _ _ _ parts.0 ∙ ap (listed page) (cond-true _ _ _ parts.1)

    not_told : (set : Stations) (kind : Kind V) (lane : Lane) (t : ℕ) → (same_lane lane Down && set t) ≡ false → from_home page (ToAll set kind) lane t ≡ []
    unfolding from_home
    not_told set kind lane t e = go (same_lane lane Down) (set t) e
      where
        go : (a b : Bool) → (a && b) ≡ false → cond a (listed page (cond b (Some kind) None)) [] ≡ []
        go true true e = cc
        go true false e = refl
        go false b e = refl

    to_one : (s : ℕ) (kind : Kind V) → from_home page (To s kind) ≡ from_home page (ToAll (λ t. eqb t s) kind)
    unfolding from_home
    to_one s kind = refl

    pub down_one : (sends : Sends V) (w : LaneView (Message V)) (s : ℕ) (kind : Kind V) → sends ≡ To s kind → space_for_all v sends ≡ true → w ≡ sent v Down s (message page kind) → w ≡ with_lanes v (posted v.waiting (from_home page sends))
    down_one sends w s kind y space e =
        e
        ∙ posts_one Down s (message page kind) (from_home page (ToAll (λ t. eqb t s) kind)) (ap (space_for_all v) (sym y) ∙ space) (told _ kind Down s (eqb_same s)) (λ lane t d. not_told _ kind lane t d)
        ∙ ap (λ posts. with_lanes v (posted v.waiting posts)) (sym (to_one s kind))
        ∙ ap (λ o. with_lanes v (posted v.waiting (from_home page o))) (sym y)

-- each station of a set with a number below n has space, or one has not
module _ {V : Type 0} (v : LaneView (Message V)) (set : Stations) where
  space_lacks : (n k : ℕ) → k < n → set k ≡ true → has_space v Down k ≡ false → space_below v n set ≡ false
  unfolding space_below
  space_lacks zero k h e b = absurd (omega arith)
  space_lacks (suc n) k h e b = elim (cases_lt k n) [
    | inl a ↦ and_left _ _ (space_lacks n k a e b)
    | inr a ↦ let q : k ≡ n = omega arith in and_right _ _ (ap (λ j. cond (set j) (has_space v Down j) true) (sym q) ∙ cond-true _ _ _ e ∙ b)
  ]

  space_if_all : (n : ℕ) → ((k : ℕ) → k < n → set k ≡ true → has_space v Down k ≡ true) → space_below v n set ≡ true
  unfolding space_below
  space_if_all zero all = refl
  space_if_all (suc n) all =
      and_from _ _ (space_if_all n (λ k h. all k (omega arith)))
      (elim (cases_Bool (set n)) [ inl e ↦ cond-true _ _ _ e ∙ all n (omega arith) e | inr e ↦ cond-false _ _ _ e ])

  pub space_decided : (n : ℕ) (r : Bool) → AllBelow n r (λ k. set k ≡ true → has_space v Down k ≡ true) (λ k. (set k ≡ true) × (has_space v Down k ≡ false)) → r ≡ space_below v n set
  space_decided n true all = sym (space_if_all n all)
  space_decided n false x = sym (space_lacks n x.0 x.1 x.2.0 x.2.1)

  pub space_at : (n k : ℕ) → space_below v n set ≡ true → k < n → set k ≡ true → has_space v Down k ≡ true
  space_at n k a h e = elim (cases_Bool (has_space v Down k)) [
    | inl y ↦ y
    | inr y ↦ absurd (both_ways _ (space_lacks n k h e y) a)
  ]

-- those of a set with a number below n
abbrev pub below : ℕ → Stations → Stations
below n set t = ltb t n && set t

below_none : (set : Stations) (t : ℕ) → below 0 set t ≡ false
below_none set t = and_left _ _ (le-ltb t 0 (omega arith))

-- the next station is not among them
below_next : (set : Stations) (n : ℕ) → below n set n ≡ false
below_next set n = and_left _ _ (le-ltb n n (omega arith))

below_more : (set : Stations) (n t : ℕ) → (t ≡ n → ⊥) → below n set t ≡ below (n + 1) set t
below_more set n t d = ap (λ b. b && set t) (elim (cases_lt t n) [
  | inl h ↦ lt-ltb t n h ∙ sym (lt-ltb t (n + 1) (omega arith))
  | inr h ↦ le-ltb t n h ∙ sym (le-ltb t (n + 1) (omega arith))
])

below_with : (set : Stations) (n : ℕ) → set n ≡ true → below (n + 1) set n ≡ true
below_with set n e = and_from _ _ (lt-ltb n (n + 1) (omega arith)) e

below_without : (set : Stations) (n : ℕ) → set n ≡ false → below n set ≡ below (n + 1) set
below_without set n e = fun_ext (λ t. elim (cases_eq t n) [
  | inl q ↦ and_right _ _ (ap set q ∙ e) ∙ sym (and_right _ _ (ap set q ∙ e))
  | inr d ↦ below_more set n t d
])

-- the home has sent to those of a set with a number below n
abbrev pub told_below : {V : Type 0} → LaneView (Message V) → ℕ → Stations → Kind V → ℕ → LaneView (Message V)
told_below v page set kind n = with_lanes v (posted v.waiting (from_home page (ToAll (below n set) kind)))

module _ {V : Type 0} (v : LaneView (Message V)) (page : ℕ) (set : Stations) (kind : Kind V) where
  pub told_none : v ≡ told_below v page set kind 0
  told_none = posts_none v (from_home page (ToAll (below 0 set) kind)) (λ lane t. not_told v page (below 0 set) kind lane t (and_right _ _ (below_none set t)))

  pub told_past : (w : LaneView (Message V)) (n : ℕ) → set n ≡ false → w ≡ told_below v page set kind n → w ≡ told_below v page set kind (n + 1)
  told_past w n e now = now ∙ ap (λ d. with_lanes v (posted v.waiting (from_home page (ToAll d kind)))) (below_without set n e)

  -- the down lane of the next station is as it was
  next_lane : (n : ℕ) → (told_below v page set kind n).waiting Down n ≡ v.waiting Down n
  unfolding posted
  next_lane n = ap (λ l. v.waiting Down n ++ l) (not_told v page (below n set) kind Down n (below_next set n)) ∙ append-nil _

  next_told : (n : ℕ) → set n ≡ true → v.waiting Down n ++ message page kind ∷ [] ≡ (told_below v page set kind (n + 1)).waiting Down n
  unfolding posted
  next_told n e = ap (λ l. v.waiting Down n ++ l) (sym (told v page (below (n + 1) set) kind Down n (below_with set n e)))

  others_told : (n : ℕ) (lane : Lane) (t : ℕ) → (same_lane lane Down && eqb t n) ≡ false → (told_below v page set kind n).waiting lane t ≡ (told_below v page set kind (n + 1)).waiting lane t
  unfolding posted from_home
  others_told n Request t e = refl
  others_told n Reply t e = refl
  others_told n Down t e = ap (λ b. v.waiting Down t ++ listed page (cond b (Some kind) None)) (below_more set n t (λ q. both_ways _ e (eq-eqb t n q)))

  pub told_next : (u w : LaneView (Message V)) (n : ℕ) → n < station_limit → space_below v station_limit set ≡ true → set n ≡ true → u ≡ told_below v page set kind n → w ≡ sent u Down n (message page kind) → w ≡ told_below v page set kind (n + 1)
  told_next u w n h all e now after =
      after ∙ ap (λ x. sent x Down n (message page kind)) now
      ∙ sent_is (told_below v page set kind n) Down n (message page kind) (told_below v page set kind (n + 1)).waiting
      (ap (λ l. ltb n v.count && ltb (length l) v.room) (next_lane n) ∙ space_at v set station_limit n all h e)
      (ap (λ l. l ++ message page kind ∷ []) (next_lane n) ∙ next_told n e) (others_told n)

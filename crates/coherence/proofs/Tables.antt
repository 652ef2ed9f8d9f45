-- Tables changed at one place, sets with one station more or less, and the messages of one page on a lane.
use Rattle.std.proofs.Common.{◌≡◌, ℕ, ◌<◌, Bool, true, false, cond, ◌&&◌, eqb, ◌≢◌, List, [], ◌∷◌, ◌++◌, drop, Some, None, Option, sym, refl, ap, ◌∙◌, subst, inl, inr, append-nil, arith}
use Rattle.std.proofs.Math.Bool.{and-true, and-false, or-true, or-false}
use Rattle.std.specs.List.{slice_get}
use Rattle.std.proofs.lemmas.Bool.{eq-eqb, ne_eqb, lt-ltb, eqb-true, and_parts, cases_eq, cases_Bool}
use Rattle.messages.specs.declared.message.Kind.{Kind}
use Rattle.messages.specs.declared.message.Message.{Message}
use Rattle.registers.specs.Sets.{station_limit, including, without}
use Rattle.links.specs.declared.lane.Lane.{Lane}
use Rattle.links.specs.declared.lane.Lane.TheVariants.{Down}
use Rattle.links.specs.View.{same_lane}
use Rattle.protocol.specs.declared.instruction.Instruction.{Instruction}
use Rattle.protocol.specs.Rules.{Stations, Sends}
use Rattle.protocol.specs.State.{Posts, with_entry, with_cell, listed, sent_to, from_station, from_home, posted, left_queue, left_lane}

-- a fact of every number, from that at one of them and at the others
pub at_and_beside : (P : ℕ → Type 0) (k : ℕ) → P k → ((j : ℕ) → j ≢ k → P j) → (j : ℕ) → P j
at_and_beside P k here there j = elim (cases_eq j k) [ inl e ↦ subst P (sym e) here | inr n ↦ there j n ]

pub eqb_same : (k : ℕ) → eqb k k ≡ true
eqb_same k = eq-eqb k k refl

pub included : (D : Stations) (s : ℕ) → s < station_limit → including D s s ≡ true
included D s h = simp (eqb_same, lt-ltb s station_limit h, or-true)

pub included_other : (D : Stations) (s t : ℕ) → t ≢ s → including D s t ≡ D t
included_other D s t n = simp (ne_eqb, or-false)

pub struck : (D : Stations) (s : ℕ) → without D s s ≡ false
struck D s = simp (eqb_same, and-false)

pub struck_other : (D : Stations) (s t : ℕ) → t ≢ s → without D s t ≡ D t
struck_other D s t n = simp (ne_eqb, and-true)

pub one_lane : (a b : Lane) → same_lane a b ≡ true → a ≡ b
one_lane a b e = grind arith

module _ {X : Type 0} where
  pub entry_same : (f : ℕ → X) (k : ℕ) (a : X) → with_entry f k a k ≡ a
  unfolding with_entry
  entry_same f k a = simp eqb_same

  pub entry_other : (f : ℕ → X) (k : ℕ) (a : X) (j : ℕ) → j ≢ k → with_entry f k a j ≡ f j
  unfolding with_entry
  entry_other f k a j n = simp ne_eqb

  pub cell_same : (f : ℕ → ℕ → X) (s p : ℕ) (a : X) → with_cell f s p a s p ≡ a
  unfolding with_cell
  cell_same f s p a = simp eqb_same

  pub cell_station : (f : ℕ → ℕ → X) (s p : ℕ) (a : X) (t q : ℕ) → t ≢ s → with_cell f s p a t q ≡ f t q
  unfolding with_cell
  cell_station f s p a t q n = simp ne_eqb

  pub cell_page : (f : ℕ → ℕ → X) (s p : ℕ) (a : X) (t q : ℕ) → q ≢ p → with_cell f s p a t q ≡ f t q
  unfolding with_cell
  cell_page f s p a t q n = simp (ne_eqb, and-false)

  -- the oldest entry of a lane or a queue, and the others
  pub oldest_first : (l : List X) (m : X) → slice_get l 0 ≡ Some m → l ≡ m ∷ drop 1 l
  oldest_first [] m e = cc
  oldest_first (x ∷ l) m e = cc

-- the oldest instruction has left its queue, or has stayed
module _ {V : Type 0} (queue : ℕ → List (Instruction V)) (leaves : Bool) (s : ℕ) where
  pub left_same : left_queue leaves s queue s ≡ cond leaves (drop 1 (queue s)) (queue s)
  unfolding left_queue
  left_same = simp (eqb_same, and-true)

  pub left_other : (t : ℕ) → t ≢ s → left_queue leaves s queue t ≡ queue t
  unfolding left_queue
  left_other t n = simp (ne_eqb, and-false)

module _ {V : Type 0} where
  -- the kinds of the messages of one page, on a lane
  unfoldable pub on : ℕ → List (Message V) → List (Kind V)
  on p [] = []
  on p (m ∷ more) = cond (eqb p m.page) (m.kind ∷ on p more) (on p more)

  abbrev pub kinds : Option (Kind V) → List (Kind V)
  kinds None = []
  kinds (Some k) = k ∷ []

  pub on_nil : (p : ℕ) → on p [] ≡ []
  unfolding on
  on_nil p = refl

  pub on_append : (p : ℕ) (l m : List (Message V)) → on p (l ++ m) ≡ on p l ++ on p m
  unfolding on
  on_append p [] m = refl
  on_append p (x ∷ l) m = elim (cases_Bool (eqb p x.page)) [ inl e ↦ simp (e, on_append p l m) | inr e ↦ simp (e, on_append p l m) ]

  on_page : (m : Message V) (l : List (Message V)) → on m.page (m ∷ l) ≡ m.kind ∷ on m.page l
  unfolding on
  on_page m l = simp eqb_same

  on_other_page : (p : ℕ) (m : Message V) (l : List (Message V)) → p ≢ m.page → on p (m ∷ l) ≡ on p l
  unfolding on
  on_other_page p m l n = simp ne_eqb

  pub on_oldest : (l : List (Message V)) (m : Message V) → slice_get l 0 ≡ Some m → on m.page l ≡ m.kind ∷ on m.page (drop 1 l)
  on_oldest l m e = ap (on m.page) (oldest_first l m e) ∙ on_page m (drop 1 l)

  pub on_dropped : (p : ℕ) (l : List (Message V)) (m : Message V) → slice_get l 0 ≡ Some m → p ≢ m.page → on p (drop 1 l) ≡ on p l
  on_dropped p l m e n = sym (ap (on p) (oldest_first l m e) ∙ on_other_page p m (drop 1 l) n)

  on_listed : (p : ℕ) (k : Option (Kind V)) → on p (listed p k) ≡ kinds k
  unfolding on
  on_listed p None = refl
  on_listed p (Some k) = simp eqb_same

  on_listed_other : (p q : ℕ) (k : Option (Kind V)) → q ≢ p → on q (listed p k) ≡ []
  unfolding on
  on_listed_other p q None n = refl
  on_listed_other p q (Some k) n = simp ne_eqb

  module _ (f : Lane → ℕ → List (Message V)) where
    on_posted : (posts : Posts V) (q : ℕ) (lane : Lane) (t : ℕ) → on q (posted f posts lane t) ≡ on q (f lane t) ++ on q (posts lane t)
    unfolding posted
    on_posted posts q lane t = on_append q (f lane t) (posts lane t)

    nothing_posted : (posts : Posts V) (q : ℕ) (lane : Lane) (t : ℕ) → on q (posts lane t) ≡ [] → on q (posted f posts lane t) ≡ on q (f lane t)
    nothing_posted posts q lane t e = on_posted posts q lane t ∙ ap (λ l. on q (f lane t) ++ l) e ∙ append-nil _

    -- what a station posted, on its lane for the page; elsewhere nothing
    module _ (out : Lane) (s p : ℕ) (k : Option (Kind V)) where
      pub sent_here : on p (posted f (from_station out s p k) out s) ≡ on p (f out s) ++ kinds k
      unfolding from_station
      sent_here = on_posted (from_station out s p k) p out s ∙ simp (eqb_same, on_listed)

      pub sent_lane : (q : ℕ) (lane : Lane) (t : ℕ) → same_lane lane out ≡ false → on q (posted f (from_station out s p k) lane t) ≡ on q (f lane t)
      unfolding from_station
      sent_lane q lane t e = nothing_posted (from_station out s p k) q lane t (simp (e, on_nil))

      pub sent_station : (q : ℕ) (lane : Lane) (t : ℕ) → t ≢ s → on q (posted f (from_station out s p k) lane t) ≡ on q (f lane t)
      unfolding from_station
      sent_station q lane t n = nothing_posted (from_station out s p k) q lane t (simp (ne_eqb, and-false, on_nil))

      pub sent_page : (q : ℕ) (lane : Lane) (t : ℕ) → q ≢ p → on q (posted f (from_station out s p k) lane t) ≡ on q (f lane t)
      unfolding from_station
      sent_page q lane t n = nothing_posted (from_station out s p k) q lane t (elim (cases_Bool (same_lane lane out && eqb t s)) [ inl e ↦ simp (e, on_listed_other) | inr e ↦ simp (e, on_nil) ])

    -- what the home posted, on the down lanes for the page; elsewhere nothing
    module _ (p : ℕ) (sends : Sends V) where
      pub told_here : (t : ℕ) → on p (posted f (from_home p sends) Down t) ≡ on p (f Down t) ++ kinds (sent_to sends t)
      unfolding from_home
      told_here t = on_posted (from_home p sends) p Down t ∙ simp on_listed

      pub told_lane : (q : ℕ) (lane : Lane) (t : ℕ) → same_lane lane Down ≡ false → on q (posted f (from_home p sends) lane t) ≡ on q (f lane t)
      unfolding from_home
      told_lane q lane t e = nothing_posted (from_home p sends) q lane t (simp (e, on_nil))

      pub told_page : (q : ℕ) (lane : Lane) (t : ℕ) → q ≢ p → on q (posted f (from_home p sends) lane t) ≡ on q (f lane t)
      unfolding from_home
      told_page q lane t n = nothing_posted (from_home p sends) q lane t (elim (cases_Bool (same_lane lane Down)) [ inl e ↦ simp (e, on_listed_other) | inr e ↦ simp (e, on_nil) ])

    -- the oldest message has left its lane, or has stayed
    module _ (leaves : Bool) (from : Lane) (s : ℕ) where
      pub left_here : left_lane leaves from s f from s ≡ cond leaves (drop 1 (f from s)) (f from s)
      unfolding left_lane
      left_here = simp (eqb_same, and-true)

      pub left_lane_lem : (lane : Lane) (t : ℕ) → same_lane lane from ≡ false → left_lane leaves from s f lane t ≡ f lane t
      unfolding left_lane
      left_lane_lem lane t e = simp (e, and-false)

      pub left_station : (lane : Lane) (t : ℕ) → t ≢ s → left_lane leaves from s f lane t ≡ f lane t
      unfolding left_lane
      left_station lane t n = simp (ne_eqb, and-false)

      -- of another page than the oldest message's nothing leaves
      pub left_page : (m : Message V) (q : ℕ) (lane : Lane) (t : ℕ) → slice_get (f from s) 0 ≡ Some m → q ≢ m.page → on q (left_lane leaves from s f lane t) ≡ on q (f lane t)
      unfolding left_lane
      left_page m q lane t e n = elim (cases_Bool (leaves && (same_lane lane from && eqb t s))) [
        | inl y ↦
            let parts = and_parts _ _ (and_parts leaves _ y).1 in
            let here : f lane t ≡ f from s = λ i. f (one_lane lane from parts.0 i) (eqb-true t s parts.1 i) in
            simp y (on_dropped q (f lane t) m (ap (λ l. slice_get l 0) here ∙ e) n)
        | inr y ↦ simp y
      ]

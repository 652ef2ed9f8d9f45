-- What the invariant says of a state: every copy is the latest, a writer is alone, and whom the home names.
use Rattle.std.proofs.Common.{◌≡◌, ℕ, Bool, true, false, cond, eqb, ◌≢◌, ◌⊎◌, List, [], ◌∷◌, refl, inl, inr, arith}
use Rattle.std.proofs.lemmas.Bool.{cases_eq, cases_Bool, eq-eqb, eqb-true}
use Rattle.messages.specs.declared.message.Kind.{Kind}
use Rattle.messages.specs.declared.message.Message.{Message}
use Rattle.links.specs.declared.lane.Lane.TheVariants.{Request, Reply, Down}
use Rattle.protocol.specs.declared.cell.Cell.{Cell}
use Rattle.protocol.specs.declared.cell.Cell.TheVariants.{Ex}
use Rattle.protocol.specs.declared.pages.HomeState.{HomeState}
use Rattle.protocol.specs.Rules.{Stations}
use Rattle.protocol.specs.State.{State}
use Rattle.coherence.specs.Promise.{Copy, reading, writing, Carries, Grant, grants_reading, grants_writing, Return, returns_writing, returns_reading, WriteRequest, asks_to_write, Holder, has_copy, is_granted, has_returned, named}
use Rattle.coherence.proofs.Tables.{on}
use Rattle.coherence.proofs.Standing.{Seen, out, seen, Standing, absent, asks, reads, read_granted, upgrades, granted_recalled, reader_recalled, upgrade_recalled, invalidated, invalidated_asks, write_granted, writes, grant_recalled, writer_recalled, written_back, written_back_asks, flushed, flushed_asks, Invariant}
use Rattle.coherence.proofs.Steps.{may_write, alone}

-- a kind that is meant stands in the list
abbrev Among : {V : Type 0} → (Kind V → Type 0) → List (Kind V) → Type 0
Among Meant [] = ⊥
Among Meant (k ∷ more) = Meant k ⊎ Among Meant more

module _ {V : Type 0} (Meant : Kind V → Type 0) (p : ℕ) where
  carried : (l : List (Message V)) → Carries Meant p l → Among Meant (on p l)
  unfolding on
  carried [] c = c
  carried (m ∷ l) c = here_or_later c (carried l)
    where
      here_or_later : ((p ≡ m.page) × Meant m.kind) ⊎ Carries Meant p l → (Carries Meant p l → Among Meant (on p l)) → Among Meant (cond (eqb p m.page) (m.kind ∷ on p l) (on p l))
      here_or_later (inl x) more = simp (eq-eqb p m.page x.0) (inl x.1)
      here_or_later (inr x) more = elim (cases_Bool (eqb p m.page)) [ inl e ↦ simp e (inr (more x)) | inr e ↦ simp e (more x) ]

  carries : (l : List (Message V)) → Among Meant (on p l) → Carries Meant p l
  unfolding on
  carries [] c = c
  carries (m ∷ l) c = by (eqb p m.page) refl c (carries l)
    where
      by : (b : Bool) → eqb p m.page ≡ b → Among Meant (cond b (m.kind ∷ on p l) (on p l)) → (Among Meant (on p l) → Carries Meant p l) → Carries Meant p (m ∷ l)
      by true e (inl k) more = inl (eqb-true p m.page e, k)
      by true e (inr k) more = inr (more k)
      by false e k more = inr (more k)

-- a copy, a grant on its way, a return unread or a write request that waits
abbrev Holding : {V : Type 0} → Cell V → List (Kind V) → List (Kind V) → List (Kind V) → Type 0
Holding {V} c q d r = ((v : V) × Copy c v) ⊎ (Among Grant d ⊎ (Among Return r ⊎ Among WriteRequest q))

module _ {V : Type 0} {L : V} where
  copy_latest : {v : V} {a : Seen} {c : Cell V} {q d r : List (Kind V)} → Copy c v → Standing L a c q d r → v ≡ L
  copy_latest copy stands = grind arith

  -- a station that is not named has no copy, and no message of the page waits for it or from it but its request
  out_copy : {v : V} {c : Cell V} {q d r : List (Kind V)} → Standing L out c q d r → Copy c v → ⊥
  out_copy stands copy = grind arith

  out_down : {c : Cell V} {q d r : List (Kind V)} → Standing L out c q d r → d ≡ []
  out_down stands = grind arith

  out_reply : {c : Cell V} {q d r : List (Kind V)} → Standing L out c q d r → r ≡ []
  out_reply stands = grind arith

  holding : {a : Seen} {c : Cell V} {q d r : List (Kind V)} → Standing L a c q d r → a ≢ out → Holding c q d r
  holding absent n = absurd (n refl)
  holding (asks k) n = absurd (n refl)
  holding (reads {v = v} e) n = inl (v, reading)
  holding (read_granted e) n = inr (inl (inl grants_reading))
  holding upgrades n = inr (inr (inr (inl asks_to_write)))
  holding (granted_recalled e) n = inr (inl (inl grants_reading))
  holding (reader_recalled {v = v} e) n = inl (v, reading)
  holding upgrade_recalled n = inr (inr (inr (inl asks_to_write)))
  holding invalidated n = inr (inr (inl (inl returns_reading)))
  holding (invalidated_asks k) n = inr (inr (inl (inl returns_reading)))
  holding (write_granted e) n = inr (inl (inl grants_writing))
  holding (writes {v = v} e) n = inl (v, writing)
  holding (grant_recalled k e) n = inr (inl (inl grants_writing))
  holding (writer_recalled {v = v} k e) n = inl (v, writing)
  holding (written_back {v = v} e f) n = inl (v, reading)
  holding (written_back_asks f) n = inr (inr (inr (inl asks_to_write)))
  holding (flushed f) n = inr (inr (inl (inl returns_writing)))
  holding (flushed_asks k f) n = inr (inr (inl (inl returns_writing)))

-- whom the home names, it sees
pub not_named : (x : HomeState Stations) (s : ℕ) → named x s ≡ false → seen x s ≡ out
not_named x s e = grind arith

pub is_named : (x : HomeState Stations) (s : ℕ) → named x s ≡ true → seen x s ≢ out
is_named x s y e = grind arith

module _ {V : Type 0} (L : ℕ → V) (st : State V) (i : Invariant L st) where
  pub copies_latest : (p s : ℕ) (v : V) → Copy (st.cell s p) v → v ≡ L p
  copies_latest p s v c = copy_latest c (i.at p s)

  beside_writer : (p s t : ℕ) (v u : V) → st.cell s p ≡ Ex v → Copy (st.cell t p) u → t ≢ s → ⊥
  beside_writer p s t v u e c n = out_copy (simp (alone (st.home p).state s t (may_write (rw e at (i.at p s))) n) at (i.at p t)) c

  pub single_writer : (p s t : ℕ) (v u : V) → st.cell s p ≡ Ex v → Copy (st.cell t p) u → t ≡ s
  single_writer p s t v u e c = elim (cases_eq t s) [ inl y ↦ y | inr n ↦ absurd (beside_writer p s t v u e c n) ]

  named_since : (p s : ℕ) → (seen (st.home p).state s ≡ out → ⊥) → named (st.home p).state s ≡ true
  named_since p s n = elim (cases_Bool (named (st.home p).state s)) [ inl y ↦ y | inr y ↦ absurd (n (not_named (st.home p).state s y)) ]

  pub holders_named : (p s : ℕ) → Holder st p s → named (st.home p).state s ≡ true
  holders_named p s (has_copy c) = named_since p s (λ e. out_copy (rw e at (i.at p s)) c)
  holders_named p s (is_granted c) = named_since p s (λ e. rw (out_down (rw e at (i.at p s))) at (carried Grant p (st.lane Down s) c))
  holders_named p s (has_returned c) = named_since p s (λ e. rw (out_reply (rw e at (i.at p s))) at (carried Return p (st.lane Reply s) c))

  pub no_other_named : (p s : ℕ) → named (st.home p).state s ≡ true → Holder st p s ⊎ Carries WriteRequest p (st.lane Request s)
  no_other_named p s y = which (holding (i.at p s) (is_named (st.home p).state s y))
    where
      which : Holding (st.cell s p) (on p (st.lane Request s)) (on p (st.lane Down s)) (on p (st.lane Reply s)) → Holder st p s ⊎ Carries WriteRequest p (st.lane Request s)
      which (inl x) = inl (has_copy x.1)
      which (inr (inl x)) = inl (is_granted (carries Grant p (st.lane Down s) x))
      which (inr (inr (inl x))) = inl (has_returned (carries Return p (st.lane Reply s) x))
      which (inr (inr (inr x))) = inr (carries WriteRequest p (st.lane Request s) x)

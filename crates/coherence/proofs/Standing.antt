-- How a station can stand to a page: how the home sees it, its cell, and the messages of that page on its three lanes.
-- No other combination ever occurs.
use Rattle.std.proofs.Common.{◌≡◌, ℕ, true, false, cond, eqb, List, [], ◌∷◌}
use Rattle.std.proofs.lemmas.Bool.{cond_both, eqb-true}
use Rattle.messages.specs.declared.message.Kind.{Kind}
use Rattle.messages.specs.declared.message.Kind.TheVariants.{ShReq, ExReq, ShRep, ExRep, WbReq, FlushReq, InvReq, WbRep, FlushRep, InvRep}
use Rattle.links.specs.declared.lane.Lane.TheVariants.{Request, Reply, Down}
use Rattle.protocol.specs.declared.cell.Cell.{Cell}
use Rattle.protocol.specs.declared.cell.Cell.TheVariants.{None as none, Sh, Ex, Pend}
use Rattle.protocol.specs.declared.pages.HomeState.{HomeState}
use Rattle.protocol.specs.declared.pages.HomeState.TheVariants.{R, W, TR, TW}
use Rattle.protocol.specs.Rules.{Stations, HomePage, Someone}
use Rattle.protocol.specs.State.{State}
use Rattle.coherence.specs.Promise.{named}
use Rattle.coherence.proofs.Tables.{on}

-- how the home sees a station: not named, or named in one of the four states
pub data Seen : Type 0 where
  out in_r in_w in_tr in_tw : Seen

abbrev pub seen : HomeState Stations → ℕ → Seen
seen (R D) s = cond (D s) in_r out
seen (W t) s = cond (eqb s t) in_w out
seen (TR D) s = cond (D s) in_tr out
seen (TW t) s = cond (eqb s t) in_tw out

-- how the home sees a station, and what its page then is
pub data Sees (s : ℕ) : HomeState Stations → Seen → Type 0 where
  unnamed : {x : HomeState Stations} → named x s ≡ false → Sees s x out
  as_reader : {D : Stations} → D s ≡ true → Sees s (R D) in_r
  as_writer : {t : ℕ} → s ≡ t → Sees s (W t) in_w
  as_recalled_reader : {D : Stations} → D s ≡ true → Sees s (TR D) in_tr
  as_recalled_writer : {t : ℕ} → s ≡ t → Sees s (TW t) in_tw

pub sees : (x : HomeState Stations) (s : ℕ) → Sees s x (seen x s)
sees (R D) s = cond_both (D s) in_r out (Sees s (R D)) (λ e. as_reader e) (λ e. unnamed e)
sees (W t) s = cond_both (eqb s t) in_w out (Sees s (W t)) (λ e. as_writer (eqb-true s t e)) (λ e. unnamed e)
sees (TR D) s = cond_both (D s) in_tr out (Sees s (TR D)) (λ e. as_recalled_reader e) (λ e. unnamed e)
sees (TW t) s = cond_both (eqb s t) in_tw out (Sees s (TW t)) (λ e. as_recalled_writer (eqb-true s t e)) (λ e. unnamed e)

pub data Asking {V : Type 0} : Kind V → Type 0 where
  to_read : Asking ShReq
  to_write : Asking ExReq

pub data RecallsWriter {V : Type 0} : Kind V → Type 0 where
  by_write_back : RecallsWriter WbReq
  by_flush : RecallsWriter FlushReq

-- seen by the home, cell, request lane, down lane, reply lane; L is the page's latest value
pub data Standing {V : Type 0} (L : V) : Seen → Cell V → List (Kind V) → List (Kind V) → List (Kind V) → Type 0 where
  absent : Standing L out none [] [] []
  asks : {k : Kind V} → Asking k → Standing L out Pend (k ∷ []) [] []
  reads : {v : V} → v ≡ L → Standing L in_r (Sh v) [] [] []
  read_granted : {v : V} → v ≡ L → Standing L in_r Pend [] (ShRep v ∷ []) []
  upgrades : Standing L in_r Pend (ExReq ∷ []) [] []
  granted_recalled : {v : V} → v ≡ L → Standing L in_tr Pend [] (ShRep v ∷ InvReq ∷ []) []
  reader_recalled : {v : V} → v ≡ L → Standing L in_tr (Sh v) [] (InvReq ∷ []) []
  upgrade_recalled : Standing L in_tr Pend (ExReq ∷ []) (InvReq ∷ []) []
  invalidated : Standing L in_tr none [] [] (InvRep ∷ [])
  invalidated_asks : {k : Kind V} → Asking k → Standing L in_tr Pend (k ∷ []) [] (InvRep ∷ [])
  write_granted : {v : V} → v ≡ L → Standing L in_w Pend [] (ExRep v ∷ []) []
  writes : {v : V} → v ≡ L → Standing L in_w (Ex v) [] [] []
  grant_recalled : {v : V} {k : Kind V} → RecallsWriter k → v ≡ L → Standing L in_tw Pend [] (ExRep v ∷ k ∷ []) []
  writer_recalled : {v : V} {k : Kind V} → RecallsWriter k → v ≡ L → Standing L in_tw (Ex v) [] (k ∷ []) []
  written_back : {v w : V} → v ≡ L → w ≡ L → Standing L in_tw (Sh v) [] [] (WbRep w ∷ [])
  written_back_asks : {w : V} → w ≡ L → Standing L in_tw Pend (ExReq ∷ []) [] (WbRep w ∷ [])
  flushed : {w : V} → w ≡ L → Standing L in_tw none [] [] (FlushRep w ∷ [])
  flushed_asks : {w : V} {k : Kind V} → Asking k → w ≡ L → Standing L in_tw Pend (k ∷ []) [] (FlushRep w ∷ [])

-- the home's value is the latest unless a station may write; a page that recalls waits for someone
abbrev pub HomeStateHolds : {V : Type 0} → V → V → HomeState Stations → Type 0
HomeStateHolds L v (R D) = v ≡ L
HomeStateHolds L v (W t) = Unit {0}
HomeStateHolds L v (TR D) = (v ≡ L) × Someone D
HomeStateHolds L v (TW t) = Unit {0}

abbrev pub HomeHolds : {V : Type 0} → V → HomePage V → Type 0
HomeHolds L h = HomeStateHolds L h.value h.state

abbrev pub At : {V : Type 0} → V → State V → ℕ → ℕ → Type 0
At L st p s =
    Standing L (seen (st.home p).state s) (st.cell s p) (on p (st.lane Request s)) (on p (st.lane Down s)) (on p (st.lane Reply s))

pub record Invariant {V : Type 0} (L : ℕ → V) (st : State V) : Type 0 where
  pub at : (p s : ℕ) → At (L p) st p s
  pub homes : (p : ℕ) → HomeHolds (L p) (st.home p)

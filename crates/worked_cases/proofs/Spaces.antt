-- Space for what one firing sends: it is enough that the one lane which it sends on has space.
use Rattle.std.proofs.Common.{◌≡◌, ℕ, ◌<◌, [], ◌∷◌, length, Some, sym, ap, ◌∙◌, subst, inl, inr, arith}
use mathlib.Core.List.{cons≢nil}
use Rattle.std.specs.List.{slice_get}
use Rattle.std.proofs.lemmas.Bool.{cases_eq, ne_eqb}
use Rattle.messages.specs.declared.message.Kind.{Kind}
use Rattle.messages.specs.declared.message.Kind.TheVariants.{ShReq, WbReq}
use Rattle.links.specs.declared.lane.Lane.{Lane}
use Rattle.links.specs.declared.lane.Lane.TheVariants.{Request, Down}
use Rattle.protocol.specs.declared.firing.FiringKind.TheVariants.{Serve}
use Rattle.protocol.specs.declared.pages.HomeState.TheVariants.{W}
use Rattle.protocol.specs.declared.pages.Sends.TheVariants.{Nothing, To}
use Rattle.protocol.specs.declared.sizes.Sizes.{Sizes}
use Rattle.protocol.specs.declared.station.StationStep.{StationStep}
use Rattle.protocol.specs.Rules.{HomePage, HomeStep, Sends, page, Serves}
use Rattle.protocol.specs.State.{State, Outcome, Space, Fits, station_outcome, home_outcome, from_home, message}
use Rattle.protocol.specs.State.Fits.{serves}
use Rattle.coherence.proofs.Progress.{posted_by_station, posted_by_home}
use Rattle.coherence.proofs.Tables.{eqb_same}

module _ {V : Type 0} (sizes : Sizes) (before : State V) where
  -- what is asked of a lane that is sent on
  abbrev pub HasSpace : Lane → ℕ → Type 0
  HasSpace lane t = (t < sizes.stations) × (length (before.lane lane t) < sizes.room)

  pub station_space : (s p : ℕ) (step : StationStep V) (out : Lane) (left : State V) → HasSpace out s →
      Space sizes before (station_outcome s p step out left)
  station_space s p step out left has lane t sent =
      let here = posted_by_station out s p step.sends lane t sent in
      subst (λ l. HasSpace l t) (sym here.0) (subst (HasSpace out) (sym here.1) has)

  pub home_space : (s p : ℕ) (step : HomeStep V) (left : State V) (u : ℕ) (k : Kind V) → step.sends ≡ To u k → HasSpace Down u →
      Space sizes before (home_outcome p step left)
  home_space s p step left u k to has lane t sent =
      let here = posted_by_home p step.sends lane t sent in
      elim (cases_eq t u) [
        | inl e ↦ subst (λ l. HasSpace l t) (sym here.0) (subst (HasSpace Down) (sym e) has)
        | inr n ↦ absurd (here.1 (simp (to, ne_eqb t u n)))
      ]

  pub no_send_space : (s p : ℕ) (step : HomeStep V) (left : State V) → step.sends ≡ Nothing → Space sizes before (home_outcome p step left)
  no_send_space s p step left nothing lane t sent = absurd ((posted_by_home p step.sends lane t sent).1 (rw nothing))

module _ {V : Type 0} where
  -- a request to read a page that has a writer is answered only by a recall of the writing copy
  only_recall : {s : ℕ} {before : HomePage V} {kind : Kind V} {step : HomeStep V} → Serves s before kind step →
      (v : V) (t : ℕ) → before ≡ page v (W t) → kind ≡ ShReq → step.sends ≡ To t WbReq
  only_recall rule v t at asked = grind (arith, ap (λ x. x.state) at)

  told : (p t : ℕ) (sends : Sends V) (kind : Kind V) → sends ≡ To t kind → from_home p sends Down t ≡ message p kind ∷ []
  unfolding from_home
  told p t sends kind e = simp (e, eqb_same)

  -- so the recall needs space on the down lane of the writer
  pub recall_needs_space : (sizes : Sizes) (before : State V) (s p : ℕ) (v : V) (t : ℕ) (o : Outcome V) → Fits before s Serve o →
      slice_get (before.lane Request s) 0 ≡ Some (message p ShReq) → before.home p ≡ page v (W t) →
      Space sizes before o → length (before.lane Down t) < sizes.room
  recall_needs_space sizes before s p v t o (serves {m = m} {step = step} front rule) oldest at space =
      let same : m ≡ message p ShReq = cc in
      let recalls : step.sends ≡ To t WbReq = only_recall rule v t (ap (λ x. before.home x.page) same ∙ at) (ap (λ x. x.kind) same) in
      (space Down t (λ none. cons≢nil (sym (told m.page t step.sends WbReq recalls) ∙ none))).1

-- The whole answer of a firing: the questions of memory and station, and then what the firing of that kind answers.
use Rattle.std.proofs.Common.{◌≡◌, ℕ, ◌*◌, ◌<◌, true, false, eqb, length, Ok, Err, Result, sym, ap, ◌∙◌, inr}
use Rattle.std.proofs.lemmas.Bool.{eqb-true, eq-eqb, and_parts, and_from, true≢false}
use Rattle.protocol.specs.declared.deed.Deed.{Deed}
use Rattle.protocol.specs.declared.firing.FiringKind.{FiringKind}
use Rattle.protocol.specs.Rules.{Stations}
use Rattle.protocol.specs.State.{extents_of, places, Fires}
use Rattle.coherence.specs.declared.call.Call.TheVariants.{Fire}
use Rattle.coherence.specs.declared.event.Event.TheVariants.{Fired}
use Rattle.coherence.specs.Histories.{fires}
use Rattle.coherence.specs.declared.refusal.Refusal.{Refusal}
use Rattle.calls.specs.declared.sizes.RoundSizes.{RoundSizes}
use Rattle.calls.specs.Memory.{Memory, meaning, plain, extents_in, tables_fit, links_fit, fitting}
use Rattle.calls.specs.Calls.{CallAnswered}
use Rattle.coherence.specs.Questions.{firing_questions, AllYes, FirstNo}
use Rattle.calls.specs.declared.step.Plan.{Plan}
use Rattle.calls.specs.declared.step.Plan.TheVariants.{Work, Receive, Collect, Serve}
use Rattle.calls.specs.Plans.{page_of, deed_of, plan_outcome, Planned}
use Rattle.calls.proofs.Carrying.{granted}

-- a memory that has exactly the round's sizes
pub record Fit {V D : Type 0} (z : RoundSizes) (m : Memory V D) : Type 0 where
  pub home : length m.home ≡ z.pages
  pub cells : length m.cells ≡ z.stations * z.pages
  pub count : m.links.count ≡ z.stations
  pub room : m.links.room ≡ z.room
  pub rows : m.queues.rows ≡ z.stations
  pub places' : m.queues.places ≡ places

module _ {V D : Type 0} (z : RoundSizes) (m : Memory V D) where
  pub fit : fitting z m ≡ true → Fit z m
  fit e =
      let tables = and_parts (tables_fit z m.home m.cells) _ e in
      let others = and_parts (links_fit z m.links) _ tables.1 in
      let a = and_parts (eqb (length m.home) z.pages) _ tables.0 in
      let b = and_parts (eqb m.links.count z.stations) _ others.0 in
      let c = and_parts (eqb m.queues.rows z.stations) _ others.1 in
      record {
        home = eqb-true _ _ a.0;
        cells = eqb-true _ _ a.1;
        count = eqb-true _ _ b.0;
        room = eqb-true _ _ b.1;
        rows = eqb-true _ _ c.0;
        places' = eqb-true _ _ c.1;
      }

  pub fit_extents : Fit z m → extents_in m ≡ extents_of (plain z)
  fit_extents f = λ i. record { pages = f.home i; cells = f.cells i; stations = f.count i; room = f.room i; rows = f.rows i; places = f.places' i }

  pub fits_not : fitting z m ≡ false → extents_in m ≡ extents_of (plain z) → ⊥
  fits_not e x =
      true≢false
      (sym (and_from _ _ (and_from _ _ (eq-eqb _ _ (ap (λ y. y.pages) x)) (eq-eqb _ _ (ap (λ y. y.cells) x))) (and_from _ _ (and_from _ _ (eq-eqb _ _ (ap (λ y. y.stations) x)) (eq-eqb _ _ (ap (λ y. y.room) x))) (and_from _ _ (eq-eqb _ _ (ap (λ y. y.rows) x)) (eq-eqb _ _ (ap (λ y. y.places) x)))))
      ∙ e)

-- a firing of station s
module _ {V D : Type 0} (names : D → Stations) (z : RoundSizes) (m m' : Memory V D) (kind : FiringKind) (s : ℕ) where
  abbrev pub FireAnswered : Result (ℕ × Deed V) Refusal → Type 0
  FireAnswered = CallAnswered names z m m' (Fire kind s) (λ x. Fired kind s x.0 x.1)

  pub fire_denied : (k : Refusal) → m' ≡ m → fitting z m ≡ true → s < z.stations → ((v : V) → FirstNo (firing_questions (plain z) (meaning names (plain z) v m) kind s) k) → FireAnswered (Err k)
  fire_denied k same e inside first = (same, λ v. inr (fit_extents z m (fit z m e), inr (inside, first v)))

  -- the plan's outcome is what the memory then means
  pub fire_granted : (plan : Plan V D) → fitting z m ≡ true → s < z.stations →
      ((v : V) → Planned (plain z) (meaning names (plain z) v m) s kind (plan_outcome names (meaning names (plain z) v m) s) (Ok plan)) →
      ((v : V) → meaning names (plain z) v m' ≡ (plan_outcome names (meaning names (plain z) v m) s plan).after) →
      FireAnswered (Ok (page_of plan, deed_of plan))
  fire_granted plan e inside planned after = λ v. ((fit_extents z m (fit z m e), (inside, (carried v plan (planned v) (after v)).0)), fires (carried v plan (planned v) (after v)).1)
    where
      carried : (v : V) (p : Plan V D) → let st = meaning names (plain z) v m in Planned (plain z) st s kind (plan_outcome names st s) (Ok p) → meaning names (plain z) v m' ≡ (plan_outcome names st s p).after → AllYes (firing_questions (plain z) st kind s) × Fires (plain z) st s kind (page_of p) (deed_of p) (meaning names (plain z) v m')
      carried v (Work p step) f g = granted (plain z) (meaning names (plain z) v m) s kind _ _ f.0 f.1 f.2 g
      carried v (Receive p step) f g = granted (plain z) (meaning names (plain z) v m) s kind _ _ f.0 f.1 f.2 g
      carried v (Collect p step) f g = granted (plain z) (meaning names (plain z) v m) s kind _ _ f.0 f.1 f.2 g
      carried v (Serve p step) f g = granted (plain z) (meaning names (plain z) v m) s kind _ _ f.0 f.1 f.2 g

-- What a look at the lent memory finds. Assumes nothing.
use Rattle.std.specs.Prelude.{ℕ, Result}
use Rattle.messages.specs.declared.message.Message.{Message}
use Rattle.queues.specs.Places.{view_of}
use Rattle.links.specs.declared.lane.Links.{Ghosts}
use Rattle.protocol.specs.declared.firing.FiringKind.{FiringKind}
use Rattle.protocol.specs.Rules.{Stations}
use Rattle.protocol.specs.State.{State, Outcome}
use Rattle.coherence.specs.declared.refusal.Refusal.{Refusal}
use Rattle.calls.specs.declared.lent.Lent.{Lent}
use Rattle.calls.specs.Memory.{Memory, memory, meaning, plain}
use Rattle.calls.specs.Plans.{Planned}

module _ {V D L : Type 0} {l : Ghosts L (Message V)} where
  -- what a memory means that is lent to be looked at
  abbrev pub looked_at : Lent V D L l → Memory V D
  looked_at m = memory m.home.now m.cells.now (l.view m.links.now) (view_of m.queues.now)

  -- the state that it means to the round, where v stands for the value of pages past the last
  abbrev pub state_in : (D → Stations) → V → Lent V D L l → State V
  state_in names v m = meaning names (plain m.sizes) v (looked_at m)

  -- the step of a firing of station s, or the first question answered no
  abbrev pub PlannedOn : {X : Type 0} → (D → Stations) → Lent V D L l → ℕ → FiringKind → (State V → ℕ → X → Outcome V) → Result X Refusal → Type 0
  PlannedOn names m s kind outcome r = (v : V) → Planned (plain m.sizes) (state_in names v m) s kind (outcome (state_in names v m) s) r

-- What a firing comes to before anything is written: the outcome that will be carried out, or the first question that is
-- answered no. Assumes nothing.
use Rattle.std.specs.Prelude.{◌≡◌, ℕ, Bool, ◌<◌, ◌≤◌, ◌⊎◌, List, Some, None, Option, Ok, Err, Result}
use Rattle.messages.specs.declared.message.Kind.{Kind}
use Rattle.messages.specs.declared.message.Message.{Message}
use Rattle.links.specs.View.{LaneView}
use Rattle.links.specs.declared.lane.Lane.{Lane}
use Rattle.links.specs.declared.lane.Lane.TheVariants.{Request, Reply, Down}
use Rattle.protocol.specs.declared.cell.Cell.{Cell}
use Rattle.protocol.specs.declared.deed.Deed.{Deed}
use Rattle.protocol.specs.declared.firing.FiringKind.{FiringKind}
use Rattle.protocol.specs.declared.instruction.Instruction.{Instruction}
use Rattle.protocol.specs.declared.pages.HomeStep.{HomeStep as HomeStepOver}
use Rattle.protocol.specs.declared.sizes.Sizes.{Sizes}
use Rattle.protocol.specs.declared.station.StationStep.{StationStep}
use Rattle.protocol.specs.Machines.{step_meaning, sends_meaning}
use Rattle.protocol.specs.Rules.{Stations, HomePage}
use Rattle.protocol.specs.State.{State, Extents, Outcome, message, station_outcome, home_outcome, leaves_queue, leaves_lane, Fits, Space}
use Rattle.coherence.specs.declared.refusal.Refusal.{Refusal}
use Rattle.coherence.specs.declared.refusal.Refusal.TheVariants.{NothingWaits, Page}
use Rattle.coherence.specs.Questions.{firing_questions, FirstNo}
use Rattle.calls.specs.declared.step.Plan.{Plan}
use Rattle.calls.specs.declared.step.Plan.TheVariants.{Work, Receive, Collect, Serve}
use Rattle.calls.specs.Lanes.{space_to_send, space_for_all}

abbrev pub state_of : {V : Type 0} → (ℕ → HomePage V) → (ℕ → ℕ → Cell V) → (Lane → ℕ → List (Message V)) → (ℕ → List (Instruction V)) → Extents → State V
state_of home cell lane queue extents = record { home = home; cell = cell; lane = lane; queue = queue; extents = extents }

-- the outcome of a step at a page, for each kind of firing of station s
module _ {V : Type 0} where
  abbrev pub work_outcome : State V → ℕ → ℕ × StationStep V → Outcome V
  work_outcome st s x = station_outcome s x.0 x.1 Request (leaves_queue x.1.deed s st)

  abbrev pub receive_outcome : State V → ℕ → ℕ × StationStep V → Outcome V
  receive_outcome st s x = station_outcome s x.0 x.1 Reply (leaves_lane x.1.deed Down s st)

module _ {V D : Type 0} (names : D → Stations) where
  abbrev pub collect_outcome : State V → ℕ → ℕ × HomeStepOver V D → Outcome V
  collect_outcome st s x = home_outcome x.0 (step_meaning names x.1) (leaves_lane x.1.deed Reply s st)

  abbrev pub serve_outcome : State V → ℕ → ℕ × HomeStepOver V D → Outcome V
  serve_outcome st s x = home_outcome x.0 (step_meaning names x.1) (leaves_lane x.1.deed Request s st)

  abbrev pub plan_outcome : State V → ℕ → Plan V D → Outcome V
  plan_outcome st s (Work p step) = work_outcome st s (p, step)
  plan_outcome st s (Receive p step) = receive_outcome st s (p, step)
  plan_outcome st s (Collect p step) = collect_outcome st s (p, step)
  plan_outcome st s (Serve p step) = serve_outcome st s (p, step)

  -- whether there is space for what a plan sends
  abbrev pub plan_space : LaneView (Message V) → ℕ → Plan V D → Bool
  plan_space v s (Work p step) = space_to_send v Request s step.sends
  plan_space v s (Receive p step) = space_to_send v Reply s step.sends
  plan_space v s (Collect p step) = space_for_all v (sends_meaning names step.sends)
  plan_space v s (Serve p step) = space_for_all v (sends_meaning names step.sends)

-- the page and the deed of a plan
abbrev pub page_of : {V D : Type 0} → Plan V D → ℕ
page_of (Work p step) = p
page_of (Receive p step) = p
page_of (Collect p step) = p
page_of (Serve p step) = p

abbrev pub deed_of : {V D : Type 0} → Plan V D → Deed V
deed_of (Work p step) = step.deed
deed_of (Receive p step) = step.deed
deed_of (Collect p step) = step.deed
deed_of (Serve p step) = step.deed

module _ {V : Type 0} (z : Sizes) (st : State V) (s : ℕ) (kind : FiringKind) where
  -- a rule fits the oldest entry with this outcome, and there is space for it; or the first question answered no
  abbrev pub Planned : {X : Type 0} → (X → Outcome V) → Result X Refusal → Type 0
  Planned outcome (Ok x) = Fits st s kind (outcome x) × ((outcome x).page < z.pages) × Space z st (outcome x)
  Planned outcome (Err refusal) = FirstNo (firing_questions z st kind s) refusal

-- a fact of what was found
abbrev pub Found : {X : Type 0} → (X → Type 0) → Result X Refusal → Type 0
Found P (Ok x) = P x
Found P (Err refusal) = Unit {0}

-- the page and the kind of the oldest message of a lane, or nothing waits there, or its page is past the last
abbrev pub Looked : {V : Type 0} → Option (Message V) → ℕ → Result (ℕ × Kind V) Refusal → Type 0
Looked oldest pages (Ok x) = (oldest ≡ Some (message x.0 x.1)) × (x.0 < pages)
Looked {V} oldest pages (Err refusal) =
    ((oldest ≡ None) × (refusal ≡ NothingWaits)) ⊎ ((m : Message V) × (oldest ≡ Some m) × (pages ≤ m.page) × (refusal ≡ Page))

-- The histories of a round: a granted prepare, and then any list of calls that its states allow, granted or denied, each
-- beginning with what the calls before it left. Assumes nothing.
use Rattle.std.specs.Prelude.{◌≡◌, ℕ, ◌<◌, ◌≢◌, ◌⊎◌, List, [], ◌∷◌, ◌++◌}
use Rattle.registers.specs.Sets.{nobody}
use Rattle.protocol.specs.declared.cell.Cell.TheVariants.{None as none, Ex}
use Rattle.protocol.specs.declared.deed.Deed.{Deed}
use Rattle.protocol.specs.declared.firing.FiringKind.{FiringKind}
use Rattle.protocol.specs.declared.instruction.Instruction.{Instruction}
use Rattle.protocol.specs.declared.pages.HomeState.TheVariants.{R}
use Rattle.protocol.specs.declared.sizes.Sizes.{Sizes}
use Rattle.protocol.specs.Rules.{page}
use Rattle.protocol.specs.State.{State, with_entry, extents_of, Fires}
use Rattle.coherence.specs.declared.call.Call.{Call}
use Rattle.coherence.specs.declared.call.Call.TheVariants.{Prepare, Set, Start, Issue, Fire, Close, Readout}
use Rattle.coherence.specs.declared.event.Event.{Event}
use Rattle.coherence.specs.declared.event.Event.TheVariants.{Prepared, Set as WasSet, Started, Issued, Fired, Closed as WasClosed, ReadOut, Denied}
use Rattle.coherence.specs.declared.phase.Phase.{Phase}
use Rattle.coherence.specs.declared.phase.Phase.TheVariants.{Preparation, Field, Closed}
use Rattle.coherence.specs.declared.refusal.Refusal.{Refusal}
use Rattle.coherence.specs.Questions.{questions, AllYes, FirstNo}

module _ {V : Type 0} where
  -- the call that an event is of
  abbrev pub call_of : Event V → Call V
  call_of (Prepared sizes v) = Prepare sizes v
  call_of (WasSet p v) = Set p v
  call_of Started = Start
  call_of (Issued s i) = Issue s i
  call_of (Fired kind s p deed) = Fire kind s
  call_of WasClosed = Close
  call_of (ReadOut p v) = Readout p
  call_of (Denied call refusal) = call

  -- the calls that each state of a round allows, and the state that a granted call leads to
  pub data Goes : Phase → Call V → Phase → Type 0 where
    sets : {p : ℕ} {v : V} → Goes Preparation (Set p v) Preparation
    starts : Goes Preparation Start Field
    issues : {s : ℕ} {i : Instruction V} → Goes Field (Issue s i) Field
    fires : {kind : FiringKind} {s : ℕ} → Goes Field (Fire kind s) Field
    closes : Goes Field Close Closed
    reads_out : {p : ℕ} → Goes Closed (Readout p) Closed

  -- after prepare every page has the value and names nobody, no station has a copy, and nothing waits
  abbrev pub opening : Sizes → V → State V
  opening sizes v =
      record {
        home = λ _. page v (R nobody);
        cell = λ _ _. none;
        lane = λ _ _. [];
        queue = λ _. [];
        extents = extents_of sizes;
      }

  -- one page has another value
  abbrev pub with_value : ℕ → V → State V → State V
  with_value p v st =
      record {
        home = with_entry st.home p (page v (st.home p).state);
        cell = st.cell;
        lane = st.lane;
        queue = st.queue;
        extents = st.extents;
      }

  -- one more instruction waits at a station, behind the others
  abbrev pub with_instruction : ℕ → Instruction V → State V → State V
  with_instruction s i st =
      record {
        home = st.home;
        cell = st.cell;
        lane = st.lane;
        queue = with_entry st.queue s (st.queue s ++ i ∷ []);
        extents = st.extents;
      }

  -- station s is the lowest with a writing copy of the page, and its value is v
  abbrev pub LowestWriter : State V → ℕ → V → ℕ → Type 0
  LowestWriter st p v s = (st.cell s p ≡ Ex v) × ((t : ℕ) (w : V) → t < s → st.cell t p ≢ Ex w)

  -- the value of a page at its readout: the lowest writing copy's, else the home's
  abbrev pub Shows : State V → ℕ → V → Type 0
  Shows st p v =
      ((s : ℕ) × LowestWriter st p v s) ⊎ (((s : ℕ) (w : V) → st.cell s p ≢ Ex w) × ((st.home p).value ≡ v))

  -- what a granted call answers and leaves
  pub data Does (sizes : Sizes) (before : State V) : Event V → State V → Type 0 where
    sets : {p : ℕ} {v : V} → Does sizes before (WasSet p v) (with_value p v before)
    starts : Does sizes before Started before
    issues : {s : ℕ} {i : Instruction V} → Does sizes before (Issued s i) (with_instruction s i before)
    fires : {kind : FiringKind} {s p : ℕ} {deed : Deed V} {after : State V} → Fires sizes before s kind p deed after →
        Does sizes before (Fired kind s p deed) after
    closes : Does sizes before WasClosed before
    reads_out : {p : ℕ} {v : V} → Shows before p v → Does sizes before (ReadOut p v) before

  -- which history, the newest event first, leads to which state of a round prepared with these sizes and this value
  pub data Leads (sizes : Sizes) (v : V) : List (Event V) → Phase → State V → Type 0 where
    prepared : (before : State V) → AllYes (questions sizes before (Prepare sizes v)) →
        Leads sizes v (Prepared sizes v ∷ []) Preparation (opening sizes v)
    granted : {e : Event V} {h : List (Event V)} {phase next : Phase} {before after : State V} → Leads sizes v h phase before →
        Goes phase (call_of e) next → AllYes (questions sizes before (call_of e)) → Does sizes before e after →
        Leads sizes v (e ∷ h) next after
    denied : {h : List (Event V)} {phase next : Phase} {before : State V} {call : Call V} {refusal : Refusal} →
        Leads sizes v h phase before → Goes phase call next → FirstNo (questions sizes before call) refusal →
        Leads sizes v (Denied call refusal ∷ h) phase before

-- What is left of the lanes and queues once an entry has left, and that a step which was planned and then carried out is a
-- firing of the rules.
use Rattle.std.proofs.Common.{◌≡◌, ℕ, zero, suc, ◌<◌, Bool, true, false, cond, ◌&&◌, ltb, ◌≢◌, List, length, drop, Some, None, Option, sym, refl, ap, ◌∙◌, subst, inl, inr}
use mathlib.Core.Path.{fun_ext}
use Rattle.std.proofs.lemmas.Bool.{ne_eqb, cond-true, cond-false, cases_Bool}
use Rattle.messages.specs.declared.message.Kind.{Kind}
use Rattle.messages.specs.declared.message.Message.{Message}
use Rattle.registers.specs.Sets.{station_limit}
use Rattle.queues.specs.View.{RowsView, changed, can_drop, after_drop}
use Rattle.links.specs.declared.lane.Lane.{Lane}
use Rattle.links.specs.declared.lane.Lane.TheVariants.{Down}
use Rattle.links.specs.View.{LaneView, has_space, same_lane}
use Rattle.protocol.specs.declared.firing.FiringKind.{FiringKind}
use Rattle.protocol.specs.declared.instruction.Instruction.{Instruction}
use Rattle.protocol.specs.declared.pages.HomeStep.{HomeStep as HomeStepOver}
use Rattle.protocol.specs.declared.pages.Sends.TheVariants.{Nothing, To, ToAll}
use Rattle.protocol.specs.declared.sizes.Sizes.{Sizes}
use Rattle.protocol.specs.Deeds.{account_of}
use Rattle.protocol.specs.Machines.{page_meaning, sends_meaning, step_meaning}
use Rattle.protocol.specs.Rules.{Stations, Sends}
use Rattle.protocol.specs.State.{State, Outcome, home_outcome, leaves_lane, with_entry, left_queue, left_lane, posted, from_home, Fits, Space, Fires, fires}
use Rattle.coherence.proofs.Tables.{at_and_beside, eqb_same, left_lane_lem, left_same, left_other}
use Rattle.coherence.proofs.Runs.{page_answered}
use Rattle.protocol.specs.declared.pages.HomePage.{HomePage as HomePageOver}
use Rattle.calls.specs.Memory.{Memory, memory, meaning, pages_of}
use Rattle.calls.specs.Lanes.{with_lanes, with_rows, space_to_send, space_below, space_for_all}
use Rattle.coherence.specs.Questions.{firing_questions, AllYes}
use Rattle.calls.proofs.Sending.{nothing_waits}

-- an instruction that leaves
module _ {V : Type 0} (v : RowsView (Instruction V)) (s : ℕ) where
  changed_here : (l : List (Instruction V)) → changed v.row s l s ≡ l
  unfolding changed
  changed_here l = simp eqb_same

  changed_elsewhere : (l : List (Instruction V)) (t : ℕ) → t ≢ s → changed v.row s l t ≡ v.row t
  unfolding changed
  changed_elsewhere l t n = simp ne_eqb

  dropped_row : (t : ℕ) → changed v.row s (drop 1 (v.row s)) t ≡ left_queue true s v.row t
  dropped_row = at_and_beside (λ t. changed v.row s (drop 1 (v.row s)) t ≡ left_queue true s v.row t) s (changed_here _ ∙ sym (left_same v.row true s)) (λ t n. changed_elsewhere _ t n ∙ sym (left_other v.row true s t n))

  kept_row : ltb 0 (length (v.row s)) ≡ false → (t : ℕ) → v.row t ≡ left_queue true s v.row t
  kept_row e = at_and_beside (λ t. v.row t ≡ left_queue true s v.row t) s (nothing_waits (v.row s) e ∙ sym (left_same v.row true s)) (λ t n. sym (left_other v.row true s t n))

  pub row_left : (w : RowsView (Instruction V)) (leaves : Bool) → leaves ≡ true → w ≡ after_drop v s → w ≡ with_rows v (left_queue leaves s v.row)
  row_left w leaves y e =
      e
      ∙ elim (cases_Bool (can_drop v s)) [ inl waits ↦ cond-true _ _ _ waits ∙ ap (with_rows v) (fun_ext dropped_row) | inr none ↦ cond-false _ _ _ none ∙ ap (with_rows v) (fun_ext (kept_row none)) ]
      ∙ ap (λ b. with_rows v (left_queue b s v.row)) (sym y)

  pub row_stays : (leaves : Bool) → leaves ≡ false → v ≡ with_rows v (left_queue leaves s v.row)
  unfolding left_queue
  row_stays leaves y = ap (λ b. with_rows v (left_queue b s v.row)) (sym y)

-- a message that leaves one lane takes no space from another
module _ {V : Type 0} (v : LaneView (Message V)) (leaves : Bool) (from : Lane) (s : ℕ) where
  abbrev Left : LaneView (Message V)
  Left = with_lanes v (left_lane leaves from s v.waiting)

  space_kept : (lane : Lane) (t : ℕ) → same_lane lane from ≡ false → has_space Left lane t ≡ has_space v lane t
  space_kept lane t e = ap (λ l. ltb t v.count && ltb (length l) v.room) (left_lane_lem v.waiting leaves from s lane t e)

  pub send_kept : (lane : Lane) (t : ℕ) (k : Option (Kind V)) → same_lane lane from ≡ false → space_to_send Left lane t k ≡ space_to_send v lane t k
  send_kept lane t None e = refl
  send_kept lane t (Some kind) e = space_kept lane t e

  below_kept : (n : ℕ) (set : Stations) → same_lane Down from ≡ false → space_below Left n set ≡ space_below v n set
  unfolding space_below
  below_kept zero set e = refl
  below_kept (suc n) set e = λ i. below_kept n set e i && cond (set n) (space_kept Down n e i) true

  pub all_kept : (sends : Sends V) → same_lane Down from ≡ false → space_for_all Left sends ≡ space_for_all v sends
  all_kept Nothing e = refl
  all_kept (To t kind) e = space_kept Down t e
  all_kept (ToAll set kind) e = below_kept station_limit set e

-- what was planned and carried out
pub granted : {V : Type 0} (z : Sizes) (st : State V) (s : ℕ) (kind : FiringKind) (o : Outcome V) (after : State V) → Fits st s kind o → o.page < z.pages → Space z st o → after ≡ o.after → AllYes (firing_questions z st kind s) × Fires z st s kind o.page o.deed after
granted z st s kind o after fits inside space e =
    let p = page_answered fits in
    (((o.page, p), ((o.page, p, inside), ((o, fits), ((o, fits, space), tt)))), subst (Fires z st s kind o.page o.deed) (sym e) (fires fits space))

-- what a step of the home leaves in the memory
pub home_after : {V D : Type 0} (names : D → Stations) (z : Sizes) (v : V) (m : Memory V D) (s : ℕ) (from : Lane) (p : ℕ) (step : HomeStepOver V D) (home : List (HomePageOver V D)) (links : LaneView (Message V)) →
    pages_of names v home ≡ with_entry (pages_of names v m.home) p (page_meaning names step.page) → length home ≡ length m.home →
    links ≡ with_lanes m.links (posted (left_lane (account_of step.deed).leaves from s m.links.waiting) (from_home p (sends_meaning names step.sends))) →
    meaning names z v (memory home m.cells links m.queues) ≡ (home_outcome p (step_meaning names step) (leaves_lane step.deed from s (meaning names z v m))).after
home_after names z v m s from p step home links wrote len lanes =
    λ i.
    record {
      home = wrote i;
      cell = (meaning names z v m).cell;
      lane = (lanes i).waiting;
      queue = m.queues.row;
      extents = record {
        pages = len i;
        cells = length m.cells;
        stations = (lanes i).count;
        room = (lanes i).room;
        rows = m.queues.rows;
        places = m.queues.places;
      };
    }

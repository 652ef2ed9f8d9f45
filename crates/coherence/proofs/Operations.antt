-- The answers of every history are a sequential order.
use Rattle.std.proofs.Common.{◌≡◌, ℕ, Bool, true, false, cond, eqb, List, [], ◌∷◌, ◌++◌, Some, Option, sym, refl, ap, ◌∙◌, append_assoc}
use Rattle.std.proofs.lemmas.Bool.{ne_eqb}
use Rattle.std.specs.List.{slice_get}
use Rattle.protocol.specs.declared.deed.Deed.{Deed}
use Rattle.protocol.specs.declared.firing.FiringKind.{FiringKind}
use Rattle.protocol.specs.declared.instruction.Access.{Access}
use Rattle.protocol.specs.declared.instruction.Instruction.{Instruction}
use Rattle.protocol.specs.declared.sizes.Sizes.{Sizes}
use Rattle.protocol.specs.Deeds.{account_of}
use Rattle.protocol.specs.State.{State, Outcome, with_entry, left_queue, Fits, works, receives, collects, serves, fires as fires-so}
use Rattle.coherence.specs.declared.event.Event.{Event}
use Rattle.coherence.specs.declared.event.Event.TheVariants.{Prepared, Set, Started, Issued, Fired, Closed as WasClosed, ReadOut, Denied}
use Rattle.coherence.specs.declared.phase.Phase.{Phase}
use Rattle.coherence.specs.declared.phase.Phase.TheVariants.{Preparation}
use Rattle.coherence.specs.Histories.{sets as set-goes, starts as start-goes, issues as issue-goes, fires as fire-goes, closes as close-goes, reads_out as readout-goes, sets, starts, issues, fires, closes, reads_out, Leads, prepared, granted, denied}
use Rattle.coherence.specs.Promise.{nothing, brings, issues_of, answers_of, opening_values, next_to_answer, stored_by, latest, Tells, loads as tells-load, loaded, stored}
use Rattle.coherence.specs.Sequential.{Operation, loading, storing, memory_after, OneAtATime, performed_by, Performs, loads, stores, passes, HistoriesAreSequential}
use Rattle.coherence.proofs.Tables.{at_and_beside, eqb_same, entry_same, entry_other, oldest_first, left_same, left_other}
use Rattle.coherence.proofs.Orders.{next_waits, Working, answers_it, asks_for_it, working, receives_answers, collects_answers, serves_answers, unstored}
use Rattle.coherence.proofs.Runs.{still, good}

-- more than is promised, for the induction: the one memory after the operations holds the latest values too
record Performed {V : Type 0} (opened now : ℕ → V) (program waiting : ℕ → List (Instruction V)) (h : List (Event V)) : Type 0 where
  operations : List (Operation V)
  are_the_answers : Performs h operations
  one_at_a_time : OneAtATime opened operations
  memory : memory_after opened operations ≡ now
  in_program_order : (s : ℕ) → performed_by s operations ++ waiting s ≡ program s

module _ {V : Type 0} {opened now : ℕ → V} {program waiting : ℕ → List (Instruction V)} {h : List (Event V)} (g : Performed opened now program waiting h) where
  issued : (s : ℕ) (i : Instruction V) → Performed opened now (λ t. cond (eqb t s) (program t ++ i ∷ []) (program t)) (with_entry waiting s (waiting s ++ i ∷ [])) (Issued s i ∷ h)
  issued s i =
      record {
        operations = g.operations;
        are_the_answers = passes refl g.are_the_answers;
        one_at_a_time = g.one_at_a_time;
        memory = g.memory;
        in_program_order = at_and_beside (λ t. performed_by t g.operations ++ with_entry waiting s (waiting s ++ i ∷ []) t ≡ cond (eqb t s) (program t ++ i ∷ []) (program t)) s
            (simp (eqb_same, entry_same) (sym (append_assoc _ (waiting s) _) ∙ ap (λ l. l ++ i ∷ []) (g.in_program_order s)))
            (λ t n. simp (ne_eqb, entry_other) (g.in_program_order t));
      }

  -- an event that answers nothing: it brings nothing, or is such a firing
  passed : {e : Event V} → Performs (e ∷ h) g.operations → Performed opened now program waiting (e ∷ h)
  passed x = record { operations = g.operations; are_the_answers = x; one_at_a_time = g.one_at_a_time; memory = g.memory; in_program_order = g.in_program_order }

  quiet : {e : Event V} → brings e ≡ nothing → Performed opened now program waiting (e ∷ h)
  quiet b = passed (passes (rw b refl) g.are_the_answers)

  unanswered : {kind : FiringKind} {s p : ℕ} (deed : Deed V) (otherwise : ℕ → V) → (account_of deed).answers ≡ false → Performed opened (cond (account_of deed).stores otherwise now) program waiting (Fired kind s p deed ∷ h)
  unanswered deed otherwise f = rw (unstored deed f) (passed (passes f g.are_the_answers))

  -- one operation more, for the oldest instruction of its station
  answered : {e : Event V} {after : ℕ → V} (o : Operation V) → Performs (e ∷ h) (o ∷ g.operations) → slice_get (waiting o.station) 0 ≡ Some o.instruction → o.value ≡ memory_after opened (o ∷ g.operations) o.instruction.page → memory_after opened (o ∷ g.operations) ≡ after → Performed opened after program (left_queue true o.station waiting) (e ∷ h)
  answered o x oldest value memory =
      let s = o.station in
      let i = o.instruction in
      let before = performed_by s g.operations in
      record {
        operations = o ∷ g.operations;
        are_the_answers = x;
        one_at_a_time = (value, g.one_at_a_time);
        memory = memory;
        in_program_order = at_and_beside (λ t. cond (eqb t s) (performed_by t g.operations ++ i ∷ []) (performed_by t g.operations) ++ left_queue true s waiting t ≡ program t) s
            (simp (eqb_same, left_same) (append_assoc before (i ∷ []) _ ∙ ap (λ l. before ++ l) (sym (oldest_first (waiting s) i oldest)) ∙ g.in_program_order s))
            (λ t n. simp (ne_eqb, left_other) (g.in_program_order t));
      }

  -- a station has worked its oldest instruction: answered it, or asked for a copy
  worked : {kind : FiringKind} {s p : ℕ} {next : Option (Instruction V)} {deed : Deed V} {x : Access V} {answers leaves : Bool} → Working deed x answers leaves → (account_of deed).answers ≡ answers → slice_get (waiting s) 0 ≡ Some (record { page = p; access = x }) → next ≡ slice_get (waiting s) 0 → ((q : ℕ) (w : V) → Tells (Fired kind s p deed) q w → w ≡ now q) → Performed opened (cond (account_of deed).stores (stored_by p next now) now) program (left_queue leaves s waiting) (Fired kind s p deed ∷ h)
  unfolding left_queue
  worked {s = s} {p = p} (answers_it (loaded {v = w})) f oldest n told = answered (loading s p w) (loads g.are_the_answers) oldest (told p w tells-load ∙ ap (λ values. values p) (sym g.memory)) g.memory
  worked {s = s} {p = p} (answers_it (stored {v = w})) f oldest n told = answered (storing s p w) (stores g.are_the_answers) oldest (sym (entry_same _ p w)) (ap (λ values. with_entry values p w) g.memory ∙ ap (λ x. stored_by p x now) (sym (n ∙ oldest)))
  worked {deed = deed} asks_for_it f oldest n told = unanswered deed _ f

module _ {V : Type 0} (sizes : Sizes) (v : V) where
  -- that of a history and its state
  abbrev SoFar : List (Event V) → State V → Type 0
  SoFar h st = Performed (opening_values v h) (latest v h) (λ s. issues_of s h) st.queue h

  -- a set changes the opening values, and then nothing is performed yet
  in_preparation : {h : List (Event V)} {st : State V} → Leads sizes v h Preparation st → SoFar h st
  in_preparation {h} {st} r =
      let g = still sizes v r in
      record {
        operations = [];
        are_the_answers = g.performed_nothing;
        one_at_a_time = tt;
        memory = sym (g.stored_nothing (opening_values v h));
        in_program_order = λ s. ap (λ x. x.queue s) g.state ∙ sym (g.issued_nothing s);
      }

  fired : {h : List (Event V)} {st : State V} {s : ℕ} {kind : FiringKind} {o : Outcome V} → Fits st s kind o → next_to_answer s h ≡ slice_get (st.queue s) 0 → ((q : ℕ) (w : V) → Tells (Fired kind s o.page o.deed) q w → w ≡ latest v h q) → SoFar h st → SoFar (Fired kind s o.page o.deed ∷ h) o.after
  fired (works oldest rule) next told g = worked g (working rule) refl oldest next told
  fired (receives {step = does} oldest rule) next told g = unanswered g does.deed _ (receives_answers rule)
  fired (collects {step = does} oldest rule) next told g = unanswered g does.deed _ (collects_answers rule)
  fired (serves {step = does} oldest rule) next told g = unanswered g does.deed _ (serves_answers rule)

  performed : {h : List (Event V)} {phase : Phase} {st : State V} → Leads sizes v h phase st → SoFar h st
  performed (prepared before pass) = in_preparation (prepared before pass)
  performed (granted {e = Prepared z w} r goes pass does) = elim goes [ ]
  performed (granted {e = Set p w} r set-goes pass sets) = in_preparation (granted {e = Set p w} r set-goes pass sets)
  performed (granted {e = Started} r start-goes pass starts) = quiet (performed r) refl
  performed (granted {e = Issued s i} r issue-goes pass issues) = issued (performed r) s i
  performed (granted {e = Fired kind s p deed} {h = h} {before = st} r fire-goes pass (fires (fires-so fits space))) =
      fired fits
      (next_waits (answers_of s h) (issues_of s h) (st.queue s) ((good sizes v r).ordered s))
      (good sizes v (granted {e = Fired kind s p deed} r fire-goes pass (fires (fires-so fits space)))).told.0
      (performed r)
  performed (granted {e = WasClosed} r close-goes pass closes) = quiet (performed r) refl
  performed (granted {e = ReadOut p w} r readout-goes pass (reads_out x)) = quiet (performed r) refl
  performed (granted {e = Denied c k} r goes pass does) = elim does [ ]
  performed (denied r goes first) = quiet (performed r) refl

pub histories_are_sequential_lem : (V : Type 0) → HistoriesAreSequential V
histories_are_sequential_lem V sizes v h phase st r =
    let g = performed sizes v r in
    record { operations = g.operations; are_the_answers = g.are_the_answers; one_at_a_time = g.one_at_a_time; in_program_order = g.in_program_order }

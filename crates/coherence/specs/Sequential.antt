-- Sequential consistency, after Lamport: what a round answers is what one memory answers that performs the accesses of all
-- stations one at a time, those of each station in the order of its program. Assumes nothing.
use Rattle.std.specs.Prelude.{◌≡◌, ℕ, Bool, false, cond, List, [], ◌∷◌, ◌++◌, ◌==◌}
use Rattle.protocol.specs.declared.deed.Deed.TheVariants.{Loaded, Stored}
use Rattle.protocol.specs.declared.firing.FiringKind.{FiringKind}
use Rattle.protocol.specs.declared.instruction.Access.TheVariants.{Load, Store}
use Rattle.protocol.specs.declared.instruction.Instruction.{Instruction}
use Rattle.protocol.specs.declared.sizes.Sizes.{Sizes}
use Rattle.protocol.specs.Deeds.{account_of}
use Rattle.protocol.specs.State.{State}
use Rattle.coherence.specs.declared.event.Event.{Event}
use Rattle.coherence.specs.declared.event.Event.TheVariants.{Fired}
use Rattle.coherence.specs.declared.phase.Phase.{Phase}
use Rattle.coherence.specs.Histories.{Leads}
use Rattle.coherence.specs.Promise.{Brings, opens, issues, does, nothing, brings, stored_value, issues_of, opening_values}

-- one access performed: by which station, for which instruction, and the value that it loaded or stored
pub record Operation (V : Type 0) : Type 0 where
  pub station : ℕ
  pub instruction : Instruction V
  pub value : V

module _ {V : Type 0} where
  abbrev pub loading : ℕ → ℕ → V → Operation V
  loading s p v = record { station = s; instruction = record { page = p; access = Load }; value = v }

  abbrev pub storing : ℕ → ℕ → V → Operation V
  storing s p v = record { station = s; instruction = record { page = p; access = Store v }; value = v }

  -- one memory after the operations, the newest first
  abbrev pub memory_after : (ℕ → V) → List (Operation V) → ℕ → V
  memory_after values [] = values
  memory_after values (o ∷ earlier) = stored_value o.instruction.page o.instruction.access (memory_after values earlier)

  -- each operation has the value that the memory then holds at its page: a load finds it there, a store puts it there
  abbrev pub OneAtATime : (ℕ → V) → List (Operation V) → Type 0
  OneAtATime values [] = Unit {0}
  OneAtATime values (o ∷ earlier) =
      (o.value ≡ memory_after values (o ∷ earlier) o.instruction.page) × OneAtATime values earlier

  -- a station's instructions among the operations, in the order performed
  abbrev pub performed_by : ℕ → List (Operation V) → List (Instruction V)
  performed_by s [] = []
  performed_by s (o ∷ earlier) = cond (s == o.station) (performed_by s earlier ++ o.instruction ∷ []) (performed_by s earlier)

  -- whether an event answers an instruction
  abbrev answering : Brings V → Bool
  answering (opens p v) = false
  answering (issues s i) = false
  answering (does s p deed) = (account_of deed).answers
  answering nothing = false

  -- the operations are the answers of a history, in that order
  pub data Performs : List (Event V) → List (Operation V) → Type 0 where
    none_yet : Performs [] []
    loads : {h : List (Event V)} {done : List (Operation V)} {kind : FiringKind} {s p : ℕ} {v : V} → Performs h done →
        Performs (Fired kind s p (Loaded v) ∷ h) (loading s p v ∷ done)
    stores : {h : List (Event V)} {done : List (Operation V)} {kind : FiringKind} {s p : ℕ} {v : V} → Performs h done →
        Performs (Fired kind s p Stored ∷ h) (storing s p v ∷ done)
    passes : {h : List (Event V)} {done : List (Operation V)} {e : Event V} → answering (brings e) ≡ false → Performs h done →
        Performs (e ∷ h) done

-- the answers of a history, in the order in which they came, are a sequential order
pub record Sequential {V : Type 0} (v : V) (h : List (Event V)) (st : State V) : Type 0 where
  pub operations : List (Operation V)
  pub are_the_answers : Performs h operations
  pub one_at_a_time : OneAtATime (opening_values v h) operations
  -- what a station has performed, and then what waits there, is its program
  pub in_program_order : (s : ℕ) → performed_by s operations ++ st.queue s ≡ issues_of s h

abbrev pub HistoriesAreSequential : Type 0 → Type 0
HistoriesAreSequential V =
    (sizes : Sizes) (v : V) (h : List (Event V)) (phase : Phase) (st : State V) → Leads sizes v h phase st → Sequential v h st

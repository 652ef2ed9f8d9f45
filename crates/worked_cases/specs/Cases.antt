-- Cases worked by hand from the rules of page sharing, over the definitions of protocol and coherence. Assumes nothing.
use Rattle.std.specs.Prelude.{◌≡◌, ℕ, List, [], ◌∷◌, Some}
use Rattle.messages.specs.declared.message.Kind.TheVariants.{ExReq, ExRep, InvReq, InvRep}
use Rattle.registers.specs.Sets.{nobody, including}
use Rattle.protocol.specs.declared.cell.Cell.TheVariants.{Pend}
use Rattle.protocol.specs.declared.deed.Deed.TheVariants.{Loaded, Stored, Asked, Received, Yielded, WrittenBack, Shared, Exclusive, Recalling}
use Rattle.protocol.specs.declared.deed.Fold.TheVariants.{NoCopy, OwnCopy}
use Rattle.protocol.specs.declared.firing.FiringKind.TheVariants.{Work, Receive, Collect, Serve}
use Rattle.protocol.specs.declared.instruction.Access.TheVariants.{Load, Store}
use Rattle.protocol.specs.declared.pages.HomeState.TheVariants.{R, W, TR}
use Rattle.protocol.specs.declared.pages.Sends.TheVariants.{To, ToAll}
use Rattle.protocol.specs.declared.sizes.Sizes.{Sizes}
use Rattle.protocol.specs.Deeds.{account_of}
use Rattle.protocol.specs.Rules.{step, page, home_step, Receives, Serves}
use Rattle.protocol.specs.State.{State}
use Rattle.coherence.specs.declared.call.Call.TheVariants.{Fire}
use Rattle.coherence.specs.declared.event.Event.{Event}
use Rattle.coherence.specs.declared.event.Event.TheVariants.{Prepared, Set, Started, Issued, Fired, Closed as WasClosed, ReadOut, Denied}
use Rattle.coherence.specs.declared.phase.Phase.TheVariants.{Closed}
use Rattle.coherence.specs.declared.refusal.Refusal.TheVariants.{NoSpace}
use Rattle.coherence.specs.Histories.{Leads}

-- two stations and one page, and a lane has room for one message
abbrev pub sizes : Sizes
sizes = record { stations = 2; pages = 1; room = 1 }

-- a round of two stations, its newest event first: the home waits for space before it recalls station 0's writing copy,
-- so that station 1 loads what station 0 stored
abbrev pub listing : List (Event ℕ)
listing =
    ReadOut 0 11
    ∷ WasClosed
    ∷ Fired Work 1 0 (Loaded 11)
    ∷ Fired Receive 1 0 Received
    ∷ Fired Serve 1 0 (Shared NoCopy)
    ∷ Fired Collect 0 0 WrittenBack
    ∷ Fired Receive 0 0 Yielded
    ∷ Fired Serve 1 0 (Recalling NoCopy)
    ∷ Fired Work 0 0 Stored
    ∷ Fired Receive 0 0 Received
    ∷ Denied (Fire Serve 1) NoSpace
    ∷ Fired Serve 0 0 (Exclusive NoCopy)
    ∷ Fired Work 1 0 Asked
    ∷ Fired Work 0 0 Asked
    ∷ Issued 1 (record { page = 0; access = Load })
    ∷ Issued 0 (record { page = 0; access = Store 11 })
    ∷ Started
    ∷ Set 0 10
    ∷ Prepared sizes 0
    ∷ []

pub record WorkedCases (V : Type 0) : Type 0 where
  -- the only reader asks to write: it is granted at once, and its reading copy is folded
  pub upgrade_alone : (v : V) →
      Serves 0 (page v (R (including nobody 0))) ExReq (home_step (page v (W 0)) (To 0 (ExRep v)) (Exclusive OwnCopy))
  pub upgrade_alone_folds : (account_of {V = V} (Exclusive OwnCopy)).folds ≡ 1
  -- one of two readers asks to write: the other's copy is recalled, and its own is folded
  pub upgrade_beside_reader : (v : V) →
      Serves 0 (page v (R (including (including nobody 0) 1))) ExReq
      (home_step (page v (TR (including nobody 1))) (ToAll (including nobody 1) InvReq) (Recalling OwnCopy))
  pub upgrade_beside_reader_folds : (account_of {V = V} (Recalling OwnCopy)).folds ≡ 1
  -- a station that waits for a copy answers the recall of the copy that it had, and still waits
  pub pending_stays_pending : Receives {V = V} Pend InvReq (step Pend (Some InvRep) Yielded)
  pub listing_is_a_history : (st : State ℕ) × Leads sizes 0 listing Closed st

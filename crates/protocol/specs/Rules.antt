-- The rules of page sharing, a constructor each: what a station makes of an instruction or a message at one cell, and what
-- the home makes of a reply or a request at one page. Every other pair is refused. Assumes nothing.
use Rattle.std.specs.Prelude.{◌≡◌, ℕ, Bool, true, false, ◌≢◌, Some, None, Option}
use Rattle.messages.specs.declared.message.Kind.{Kind}
use Rattle.messages.specs.declared.message.Kind.TheVariants.{ShReq, ExReq, ShRep, ExRep, WbReq, FlushReq, InvReq, WbRep, FlushRep, InvRep}
use Rattle.registers.specs.Sets.{nobody, including, without}
use Rattle.protocol.specs.declared.cell.Cell.{Cell}
use Rattle.protocol.specs.declared.cell.Cell.TheVariants.{None as none, Sh, Ex, Pend}
use Rattle.protocol.specs.declared.deed.Deed.{Deed}
use Rattle.protocol.specs.declared.deed.Deed.TheVariants.{Loaded, Stored, Asked, Received, Yielded, WrittenBack, Returned, Shared, Exclusive, Recalling}
use Rattle.protocol.specs.declared.deed.Fold.TheVariants.{NoCopy}
use Rattle.protocol.specs.declared.instruction.Access.{Access}
use Rattle.protocol.specs.declared.instruction.Access.TheVariants.{Load, Store}
use Rattle.protocol.specs.declared.pages.HomeState.{HomeState}
use Rattle.protocol.specs.declared.pages.HomeState.TheVariants.{R, W, TR, TW}
use Rattle.protocol.specs.declared.pages.HomePage.{HomePage as HomePageOver}
use Rattle.protocol.specs.declared.pages.Sends.{Sends as SendsOver}
use Rattle.protocol.specs.declared.pages.Sends.TheVariants.{Nothing, To, ToAll}
use Rattle.protocol.specs.declared.pages.HomeStep.{HomeStep as HomeStepOver}
use Rattle.protocol.specs.declared.station.StationStep.{StationStep}
use Rattle.protocol.specs.Deeds.{fold_of}

-- a set of stations: for each number, whether that station is in it
abbrev pub Stations : Type 0
Stations = ℕ → Bool

abbrev pub Empty : Stations → Type 0
Empty set = (station : ℕ) → set station ≡ false

abbrev pub Someone : Stations → Type 0
Someone set = (station : ℕ) × (set station ≡ true)

-- home pages and their steps, whose registers are taken for the sets that they mean
abbrev pub HomePage : Type 0 → Type 0
HomePage V = HomePageOver V Stations

abbrev pub Sends : Type 0 → Type 0
Sends V = SendsOver V Stations

abbrev pub HomeStep : Type 0 → Type 0
HomeStep V = HomeStepOver V Stations

module _ {V : Type 0} where
  abbrev pub step : Cell V → Option (Kind V) → Deed V → StationStep V
  step cell sends deed = record { cell = cell; sends = sends; deed = deed }

  abbrev pub page : V → HomeState Stations → HomePage V
  page value state = record { value = value; state = state }

  abbrev pub home_step : HomePage V → Sends V → Deed V → HomeStep V
  home_step after sends deed = record { page = after; sends = sends; deed = deed }

  -- a station works an instruction: its cell, the access, and the step
  pub data Works : Cell V → Access V → StationStep V → Type 0 where
    loads_reading_copy : {v : V} → Works (Sh v) Load (step (Sh v) None (Loaded v))
    loads_writing_copy : {v : V} → Works (Ex v) Load (step (Ex v) None (Loaded v))
    stores : {v w : V} → Works (Ex w) (Store v) (step (Ex v) None Stored)
    asks_to_read : Works none Load (step Pend (Some ShReq) Asked)
    asks_to_write : {v : V} → Works none (Store v) (step Pend (Some ExReq) Asked)
    asks_to_upgrade : {v w : V} → Works (Sh w) (Store v) (step Pend (Some ExReq) Asked)

  -- a station receives a message from its down lane: its cell, the message, and the step
  pub data Receives : Cell V → Kind V → StationStep V → Type 0 where
    takes_reading_copy : {v : V} → Receives Pend (ShRep v) (step (Sh v) None Received)
    takes_writing_copy : {v : V} → Receives Pend (ExRep v) (step (Ex v) None Received)
    writes_back : {v : V} → Receives (Ex v) WbReq (step (Sh v) (Some (WbRep v)) Yielded)
    flushes : {v : V} → Receives (Ex v) FlushReq (step none (Some (FlushRep v)) Yielded)
    invalidates : {v : V} → Receives (Sh v) InvReq (step none (Some InvRep) Yielded)
    stays_pending : Receives Pend InvReq (step Pend (Some InvRep) Yielded)

  -- the home reads from the reply lane of station s: its page, the message, and the step
  pub data Collects (s : ℕ) : HomePage V → Kind V → HomeStep V → Type 0 where
    is_written_back : {v w : V} → Collects s (page w (TW s)) (WbRep v) (home_step (page v (R (including nobody s))) Nothing WrittenBack)
    is_flushed : {v w : V} → Collects s (page w (TW s)) (FlushRep v) (home_step (page v (R nobody)) Nothing Returned)
    strikes : {w : V} {D : Stations} → D s ≡ true → Someone (without D s) →
        Collects s (page w (TR D)) InvRep (home_step (page w (TR (without D s))) Nothing Returned)
    strikes_last : {w : V} {D : Stations} → D s ≡ true → Empty (without D s) →
        Collects s (page w (TR D)) InvRep (home_step (page w (R nobody)) Nothing Returned)

  -- the home takes the request of station s: its page, the message, and the step
  pub data Serves (s : ℕ) : HomePage V → Kind V → HomeStep V → Type 0 where
    shares : {v : V} {D : Stations} → D s ≡ false →
        Serves s (page v (R D)) ShReq (home_step (page v (R (including D s))) (To s (ShRep v)) (Shared NoCopy))
    gives_alone : {v : V} {D : Stations} → Empty (without D s) →
        Serves s (page v (R D)) ExReq (home_step (page v (W s)) (To s (ExRep v)) (Exclusive (fold_of (D s))))
    recalls_readers : {v : V} {D : Stations} → Someone (without D s) →
        Serves s (page v (R D)) ExReq (home_step (page v (TR (without D s))) (ToAll (without D s) InvReq) (Recalling (fold_of (D s))))
    recalls_writer_to_read : {v : V} {t : ℕ} → s ≢ t →
        Serves s (page v (W t)) ShReq (home_step (page v (TW t)) (To t WbReq) (Recalling NoCopy))
    recalls_writer_to_write : {v : V} {t : ℕ} → s ≢ t →
        Serves s (page v (W t)) ExReq (home_step (page v (TW t)) (To t FlushReq) (Recalling NoCopy))

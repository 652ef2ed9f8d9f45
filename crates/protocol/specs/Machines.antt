-- The rules as functions, which the code is held to; `MachinesFollowRules` says that they are the rules, at the home for
-- the sets that a register can mean. Assumes nothing.
use Rattle.std.specs.Prelude.{◌≡◌, ℕ, ◌≤◌, Bool, false, cond, ◌⊎◌, Some, None, Option, MatchOption, ◌==◌}
use Rattle.messages.specs.declared.message.Kind.{Kind}
use Rattle.messages.specs.declared.message.Kind.TheVariants.{ShReq, ExReq, ShRep, ExRep, WbReq, FlushReq, InvReq, WbRep, FlushRep, InvRep}
use Rattle.registers.specs.Sets.{station_limit, nobody, including, without, how_many}
use Rattle.protocol.specs.declared.cell.Cell.{Cell}
use Rattle.protocol.specs.declared.cell.Cell.TheVariants.{None as none, Sh, Ex, Pend}
use Rattle.protocol.specs.declared.deed.Deed.TheVariants.{Loaded, Stored, Asked, Received, Yielded, WrittenBack, Returned, Shared, Exclusive, Recalling}
use Rattle.protocol.specs.declared.deed.Fold.TheVariants.{NoCopy}
use Rattle.protocol.specs.declared.instruction.Access.{Access}
use Rattle.protocol.specs.declared.instruction.Access.TheVariants.{Load, Store}
use Rattle.protocol.specs.declared.pages.HomeState.{HomeState}
use Rattle.protocol.specs.declared.pages.HomeState.TheVariants.{R, W, TR, TW}
use Rattle.protocol.specs.declared.pages.HomePage.{HomePage as HomePageOver}
use Rattle.protocol.specs.declared.pages.Sends.{Sends as SendsOver}
use Rattle.protocol.specs.declared.pages.Sends.TheVariants.{Nothing, To, ToAll}
use Rattle.protocol.specs.declared.pages.HomeStep.{HomeStep as HomeStepOver}
use Rattle.protocol.specs.declared.station.StationStep.{StationStep}
use Rattle.protocol.specs.Deeds.{fold_of}
use Rattle.protocol.specs.Rules.{Stations, HomePage, HomeStep, step, page, home_step, Works, Receives, Collects, Serves}

-- a page and a step of the home, each register taken for what it means
abbrev pub state_meaning : {D E : Type 0} → (D → E) → HomeState D → HomeState E
state_meaning means (R d) = R (means d)
state_meaning means (W t) = W t
state_meaning means (TR d) = TR (means d)
state_meaning means (TW t) = TW t

abbrev pub page_meaning : {V D E : Type 0} → (D → E) → HomePageOver V D → HomePageOver V E
page_meaning means p = record { value = p.value; state = state_meaning means p.state }

abbrev pub sends_meaning : {V D E : Type 0} → (D → E) → SendsOver V D → SendsOver V E
sends_meaning means Nothing = Nothing
sends_meaning means (To t kind) = To t kind
sends_meaning means (ToAll d kind) = ToAll (means d) kind

abbrev pub step_meaning : {V D E : Type 0} → (D → E) → HomeStepOver V D → HomeStepOver V E
step_meaning means x =
    record { page = page_meaning means x.page; sends = sends_meaning means x.sends; deed = x.deed }

-- an answer that only a cell that waits gives, or only one with a writing copy
abbrev when_pending : {V X : Type 0} → Cell V → X → Option X
when_pending none x = None
when_pending (Sh v) x = None
when_pending (Ex v) x = None
when_pending Pend x = Some x

abbrev when_writing : {V X : Type 0} → Cell V → (V → X) → Option X
when_writing none x = None
when_writing (Sh v) x = None
when_writing (Ex v) x = Some (x v)
when_writing Pend x = None

-- an answer that only a page gives that recalls its writing copy from station s
abbrev when_recalled_from : {X : Type 0} → ℕ → HomeState Stations → X → Option X
when_recalled_from s (R D) x = None
when_recalled_from s (W t) x = None
when_recalled_from s (TR D) x = None
when_recalled_from s (TW t) x = cond (s == t) (Some x) None

abbrev is_empty : Stations → Bool
is_empty set = (how_many set) == 0

-- whom a recalled page still waits for; once for nobody, the recall is over
abbrev pub after_strike : Stations → HomeState Stations
after_strike rest = cond (is_empty rest) (R nobody) (TR rest)

module _ {V : Type 0} where
  abbrev pub worked : Cell V → Access V → Option (StationStep V)
  worked none Load = Some (step Pend (Some ShReq) Asked)
  worked none (Store v) = Some (step Pend (Some ExReq) Asked)
  worked (Sh w) Load = Some (step (Sh w) None (Loaded w))
  worked (Sh w) (Store v) = Some (step Pend (Some ExReq) Asked)
  worked (Ex w) Load = Some (step (Ex w) None (Loaded w))
  worked (Ex w) (Store v) = Some (step (Ex v) None Stored)
  worked Pend access = None

  abbrev invalidated : Cell V → Option (StationStep V)
  invalidated none = None
  invalidated (Sh w) = Some (step none (Some InvRep) Yielded)
  invalidated (Ex w) = None
  invalidated Pend = Some (step Pend (Some InvRep) Yielded)

  abbrev pub received : Cell V → Kind V → Option (StationStep V)
  received cell ShReq = None
  received cell ExReq = None
  received cell (ShRep v) = when_pending cell (step (Sh v) None Received)
  received cell (ExRep v) = when_pending cell (step (Ex v) None Received)
  received cell WbReq = when_writing cell (λ v. step (Sh v) (Some (WbRep v)) Yielded)
  received cell FlushReq = when_writing cell (λ v. step none (Some (FlushRep v)) Yielded)
  received cell InvReq = invalidated cell
  received cell (WbRep v) = None
  received cell (FlushRep v) = None
  received cell InvRep = None

  -- a reader's copy is back; the last one ends the recall
  abbrev struck : ℕ → V → HomeState Stations → Option (HomeStep V)
  struck s v (R D) = None
  struck s v (W t) = None
  struck s v (TR D) =
      cond (D s) (Some (home_step (page v (after_strike (without D s))) Nothing Returned)) None
  struck s v (TW t) = None

  abbrev pub collected : ℕ → HomePage V → Kind V → Option (HomeStep V)
  collected s p ShReq = None
  collected s p ExReq = None
  collected s p (ShRep v) = None
  collected s p (ExRep v) = None
  collected s p WbReq = None
  collected s p FlushReq = None
  collected s p InvReq = None
  collected s p (WbRep v) = when_recalled_from s p.state (home_step (page v (R (including nobody s))) Nothing WrittenBack)
  collected s p (FlushRep v) = when_recalled_from s p.state (home_step (page v (R nobody)) Nothing Returned)
  collected s p InvRep = struck s p.value p.state

  abbrev pub recalled_writer : V → ℕ → Kind V → HomeStep V
  recalled_writer v t kind = home_step (page v (TW t)) (To t kind) (Recalling NoCopy)

  -- the writing copy, if no other station has a copy; else the others' copies are recalled
  abbrev pub given_or_recalled : ℕ → V → Stations → HomeStep V
  given_or_recalled s v D =
      cond (is_empty (without D s))
      (home_step (page v (W s)) (To s (ExRep v)) (Exclusive (fold_of (D s))))
      (home_step (page v (TR (without D s))) (ToAll (without D s) InvReq) (Recalling (fold_of (D s))))

  abbrev served_to_read : ℕ → V → HomeState Stations → Option (HomeStep V)
  served_to_read s v (R D) = cond (D s) None (Some (home_step (page v (R (including D s))) (To s (ShRep v)) (Shared NoCopy)))
  served_to_read s v (W t) = cond (s == t) None (Some (recalled_writer v t WbReq))
  served_to_read s v (TR D) = None
  served_to_read s v (TW t) = None

  abbrev served_to_write : ℕ → V → HomeState Stations → Option (HomeStep V)
  served_to_write s v (R D) = Some (given_or_recalled s v D)
  served_to_write s v (W t) = cond (s == t) None (Some (recalled_writer v t FlushReq))
  served_to_write s v (TR D) = None
  served_to_write s v (TW t) = None

  abbrev pub served : ℕ → HomePage V → Kind V → Option (HomeStep V)
  served s p ShReq = served_to_read s p.value p.state
  served s p ExReq = served_to_write s p.value p.state
  served s p (ShRep v) = None
  served s p (ExRep v) = None
  served s p WbReq = None
  served s p FlushReq = None
  served s p InvReq = None
  served s p (WbRep v) = None
  served s p (FlushRep v) = None
  served s p InvRep = None

-- a function gives exactly what a relation gives: nothing where nothing fits, else the one thing that fits
abbrev pub Gives : {X : Type 0} → Option X → (X → Type 0) → Type 0
Gives {X} answer Fits =
    MatchOption answer ((x : X) → Fits x → ⊥) Fits × ((x y : X) → Fits x → Fits y → x ≡ y)

-- a page whose sets name no number that is no station's, as those of every register
abbrev pub Proper : {V : Type 0} → HomePage V → Type 0
Proper p = (D : Stations) (number : ℕ) → (p.state ≡ R D) ⊎ (p.state ≡ TR D) → station_limit ≤ number → D number ≡ false

pub record MachinesFollowRules (V : Type 0) : Type 0 where
  pub work : (cell : Cell V) (access : Access V) → Gives (worked cell access) (Works cell access)
  pub receive : (cell : Cell V) (kind : Kind V) → Gives (received cell kind) (Receives cell kind)
  pub collect : (s : ℕ) (p : HomePage V) (kind : Kind V) → Proper p → Gives (collected s p kind) (Collects s p kind)
  pub serve : (s : ℕ) (p : HomePage V) (kind : Kind V) → Proper p → Gives (served s p kind) (Serves s p kind)

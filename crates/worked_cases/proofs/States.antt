-- The states that the calls of the listing lead through, numbered as the calls are in the order they happen.
use Rattle.std.proofs.Common.{ℕ, Some, None}
use Rattle.messages.specs.declared.message.Kind.TheVariants.{ShReq, ExReq, ShRep, ExRep, WbReq, WbRep}
use Rattle.registers.specs.Sets.{nobody, including}
use Rattle.protocol.specs.declared.cell.Cell.TheVariants.{Sh, Ex, Pend}
use Rattle.protocol.specs.declared.deed.Deed.TheVariants.{Loaded, Stored, Asked, Received, Yielded, WrittenBack, Shared, Exclusive, Recalling}
use Rattle.protocol.specs.declared.deed.Fold.TheVariants.{NoCopy}
use Rattle.protocol.specs.declared.instruction.Access.TheVariants.{Load, Store}
use Rattle.protocol.specs.declared.instruction.Instruction.{Instruction}
use Rattle.protocol.specs.declared.pages.HomeState.TheVariants.{R, W, TW}
use Rattle.protocol.specs.declared.pages.Sends.TheVariants.{Nothing, To}
use Rattle.protocol.specs.declared.station.StationStep.{StationStep}
use Rattle.protocol.specs.Rules.{HomeStep, step, page, home_step}
use Rattle.protocol.specs.State.{State, message}
use Rattle.coherence.specs.Histories.{opening, with_value, with_instruction}
use Rattle.worked_cases.specs.Cases.{sizes}
use Rattle.worked_cases.proofs.Firings.{worked, received, collected, served}

abbrev pub storing : Instruction ℕ
storing = record { page = 0; access = Store 11 }

abbrev pub loading : Instruction ℕ
loading = record { page = 0; access = Load }

-- the step of the rule that fits, by the number of the call
abbrev pub step_6 : StationStep ℕ
step_6 = step Pend (Some ExReq) Asked

abbrev pub step_7 : StationStep ℕ
step_7 = step Pend (Some ShReq) Asked

abbrev pub step_8 : HomeStep ℕ
step_8 = home_step (page 10 (W 0)) (To 0 (ExRep 10)) (Exclusive NoCopy)

abbrev pub step_10 : StationStep ℕ
step_10 = step (Ex 10) None Received

abbrev pub step_11 : StationStep ℕ
step_11 = step (Ex 11) None Stored

abbrev pub step_12 : HomeStep ℕ
step_12 = home_step (page 10 (TW 0)) (To 0 WbReq) (Recalling NoCopy)

abbrev pub step_13 : StationStep ℕ
step_13 = step (Sh 11) (Some (WbRep 11)) Yielded

abbrev pub step_14 : HomeStep ℕ
step_14 = home_step (page 11 (R (including nobody 0))) Nothing WrittenBack

abbrev pub step_15 : HomeStep ℕ
step_15 = home_step (page 11 (R (including (including nobody 0) 1))) (To 1 (ShRep 11)) (Shared NoCopy)

abbrev pub step_16 : StationStep ℕ
step_16 = step (Sh 11) None Received

abbrev pub step_17 : StationStep ℕ
step_17 = step (Sh 11) None (Loaded 11)

-- the state after each call; a start and a denied call change nothing
abbrev pub state_1 : State ℕ
state_1 = opening sizes 0

abbrev pub state_2 : State ℕ
state_2 = with_value 0 10 state_1

abbrev pub state_4 : State ℕ
state_4 = with_instruction 0 storing state_2

abbrev pub state_5 : State ℕ
state_5 = with_instruction 1 loading state_4

abbrev pub state_6 : State ℕ
state_6 = (worked state_5 0 storing step_6).after

abbrev pub state_7 : State ℕ
state_7 = (worked state_6 1 loading step_7).after

abbrev pub state_8 : State ℕ
state_8 = (served state_7 0 (message 0 ExReq) step_8).after

abbrev pub state_10 : State ℕ
state_10 = (received state_8 0 (message 0 (ExRep 10)) step_10).after

abbrev pub state_11 : State ℕ
state_11 = (worked state_10 0 storing step_11).after

abbrev pub state_12 : State ℕ
state_12 = (served state_11 1 (message 0 ShReq) step_12).after

abbrev pub state_13 : State ℕ
state_13 = (received state_12 0 (message 0 WbReq) step_13).after

abbrev pub state_14 : State ℕ
state_14 = (collected state_13 0 (message 0 (WbRep 11)) step_14).after

abbrev pub state_15 : State ℕ
state_15 = (served state_14 1 (message 0 ShReq) step_15).after

abbrev pub state_16 : State ℕ
state_16 = (received state_15 1 (message 0 (ShRep 11)) step_16).after

abbrev pub state_17 : State ℕ
state_17 = (worked state_16 1 loading step_17).after

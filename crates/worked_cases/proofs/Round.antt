-- The listing call by call: the calls until each one lead to its state, from the call before.
use Rattle.std.proofs.Common.{◌≡◌, ℕ, ◌<◌, ◌≢◌, List, [], ◌∷◌, refl, inl, inr, arith}
use Rattle.std.proofs.lemmas.Bool.{ne_eqb}
use Rattle.messages.specs.declared.message.Kind.TheVariants.{ShReq, ExReq, ShRep, ExRep, WbReq, WbRep}
use Rattle.links.specs.declared.lane.Lane.{Lane}
use Rattle.links.specs.declared.lane.Lane.TheVariants.{Request, Reply, Down}
use Rattle.protocol.specs.declared.cell.Cell.{Cell}
use Rattle.protocol.specs.declared.cell.Cell.TheVariants.{None as none, Ex}
use Rattle.protocol.specs.declared.deed.Deed.TheVariants.{Loaded, Stored, Asked, Received, Yielded, WrittenBack, Shared, Exclusive, Recalling}
use Rattle.protocol.specs.declared.deed.Fold.TheVariants.{NoCopy}
use Rattle.protocol.specs.declared.firing.FiringKind.TheVariants.{Work, Receive, Collect, Serve}
use Rattle.protocol.specs.Rules.Works.{loads_reading_copy, stores, asks_to_read, asks_to_write}
use Rattle.protocol.specs.Rules.Receives.{takes_reading_copy, takes_writing_copy, writes_back}
use Rattle.protocol.specs.Rules.Collects.{is_written_back}
use Rattle.protocol.specs.Rules.Serves.{shares, gives_alone, recalls_writer_to_read}
use Rattle.protocol.specs.State.{State, Outcome, Fits, Space, message, with_entry, with_cell, from_station, from_home, posted, left_queue, left_lane, extents_of}
use Rattle.protocol.specs.State.Fits.{serves}
use Rattle.coherence.specs.declared.call.Call.TheVariants.{Fire}
use Rattle.coherence.specs.declared.event.Event.{Event}
use Rattle.coherence.specs.declared.event.Event.TheVariants.{Prepared, Set, Started, Issued, Fired, Closed as WasClosed, Denied}
use Rattle.coherence.specs.declared.phase.Phase.TheVariants.{Preparation, Field, Closed}
use Rattle.coherence.specs.declared.refusal.Refusal.TheVariants.{NoSpace}
use Rattle.coherence.specs.Histories.{Leads}
use Rattle.coherence.specs.Histories.Goes.{sets as may-set, starts as may-start, issues as may-issue, fires as may-fire, closes as may-close, reads_out as may-read-out}
use Rattle.coherence.specs.Histories.Does.{sets, starts, issues, closes, reads_out}
use Rattle.coherence.specs.Histories.Leads.{prepared, granted, denied}
use Rattle.coherence.proofs.Tables.{at_and_beside}
use Rattle.worked_cases.specs.Cases.{sizes, listing}
use Rattle.worked_cases.proofs.States.{storing, loading, step_6, step_7, step_8, step_10, step_11, step_12, step_13, step_14, step_15, step_16, step_17, state_1, state_2, state_5, state_6, state_7, state_8, state_10, state_11, state_12, state_13, state_14, state_15, state_16, state_17}
use Rattle.worked_cases.proofs.Spaces.{recall_needs_space}
use Rattle.worked_cases.proofs.Firings.{served, Asks, works_next, receives_next, collects_next, serves_next}

-- what is looked up in a state of the round is computed
tables : Unit {0}
unfolding with_entry with_cell from_station from_home posted left_queue left_lane
tables = tt

station_0 : 0 < sizes.stations
station_0 = omega arith

station_1 : 1 < sizes.stations
station_1 = omega arith

page_0 : 0 < sizes.pages
page_0 = omega arith

-- what every firing of the round is asked, but for its lane and its rule
asks : (before : State ℕ) (s : ℕ) → before.extents ≡ extents_of sizes → s < sizes.stations → Asks sizes before s
asks before s memory station = record { memory = memory; station = station; room = omega arith }

-- the calls until each one, the newest first
abbrev calls_5 : List (Event ℕ)
calls_5 = Issued 1 loading ∷ Issued 0 storing ∷ Started ∷ Set 0 10 ∷ Prepared sizes 0 ∷ []

abbrev calls_9 : List (Event ℕ)
calls_9 = Denied (Fire Serve 1) NoSpace ∷ Fired Serve 0 0 (Exclusive NoCopy) ∷ Fired Work 1 0 Asked ∷ Fired Work 0 0 Asked ∷ calls_5

abbrev calls_12 : List (Event ℕ)
calls_12 = Fired Serve 1 0 (Recalling NoCopy) ∷ Fired Work 0 0 Stored ∷ Fired Receive 0 0 Received ∷ calls_9

abbrev calls_15 : List (Event ℕ)
calls_15 = Fired Serve 1 0 (Shared NoCopy) ∷ Fired Collect 0 0 WrittenBack ∷ Fired Receive 0 0 Yielded ∷ calls_12

led_1 : Leads sizes 0 (Prepared sizes 0 ∷ []) Preparation state_1
led_1 = prepared state_1 ((omega arith, omega arith), ((omega arith, omega arith), ((omega arith, omega arith), ((refl, ((λ _. refl), (λ _ _. refl))), tt))))

led_2 : Leads sizes 0 (Set 0 10 ∷ Prepared sizes 0 ∷ []) Preparation state_2
led_2 = granted led_1 may-set (refl, (page_0, tt)) sets

led_5 : Leads sizes 0 calls_5 Field state_5
unfolding tables
led_5 =
    granted (granted (granted led_2 may-start tt starts) may-issue (refl, (station_0, (page_0, (omega arith, tt)))) issues) may-issue
    (refl, (station_1, (page_0, (omega arith, tt))))
    issues

led_6 : Leads sizes 0 (Fired Work 0 0 Asked ∷ calls_5) Field state_6
unfolding tables
led_6 = works_next led_5 0 (asks state_5 0 refl station_0) storing step_6 refl page_0 asks_to_write refl

led_7 : Leads sizes 0 (Fired Work 1 0 Asked ∷ Fired Work 0 0 Asked ∷ calls_5) Field state_7
unfolding tables
led_7 = works_next led_6 1 (asks state_6 1 refl station_1) loading step_7 refl page_0 asks_to_read refl

led_8 : Leads sizes 0 (Fired Serve 0 0 (Exclusive NoCopy) ∷ Fired Work 1 0 Asked ∷ Fired Work 0 0 Asked ∷ calls_5) Field state_8
unfolding tables
led_8 = serves_next led_7 0 (asks state_7 0 refl station_0) (message 0 ExReq) step_8 refl page_0 (gives_alone (λ _. refl)) 0 (ExRep 10) refl station_0 refl

1≢0 : ◌≢◌ {A = ℕ} 1 0
1≢0 = omega arith

-- the recall fits, and finds the down lane of station 0 full
recall_9 : Outcome ℕ
recall_9 = served state_8 1 (message 0 ShReq) step_12

fits_9 : Fits state_8 1 Serve recall_9
unfolding tables recall_9
fits_9 = serves refl (recalls_writer_to_read 1≢0)

full_9 : (o : Outcome ℕ) × Fits state_8 1 Serve o × Space sizes state_8 o → ⊥
unfolding tables
full_9 other = omega (arith, recall_needs_space sizes state_8 1 0 10 0 other.0 other.1 refl refl other.2)

led_9 : Leads sizes 0 calls_9 Field state_8
unfolding tables
led_9 =
    denied led_8 may-fire
    (inr (refl, inr (station_1, inr ((0, refl), inr ((0, refl, page_0), inr ((recall_9, fits_9), inl (full_9, refl)))))))

led_10 : Leads sizes 0 (Fired Receive 0 0 Received ∷ calls_9) Field state_10
unfolding tables
led_10 = receives_next led_9 0 (asks state_8 0 refl station_0) (message 0 (ExRep 10)) step_10 refl page_0 takes_writing_copy refl

led_11 : Leads sizes 0 (Fired Work 0 0 Stored ∷ Fired Receive 0 0 Received ∷ calls_9) Field state_11
unfolding tables
led_11 = works_next led_10 0 (asks state_10 0 refl station_0) storing step_11 refl page_0 stores refl

led_12 : Leads sizes 0 calls_12 Field state_12
unfolding tables
led_12 = serves_next led_11 1 (asks state_11 1 refl station_1) (message 0 ShReq) step_12 refl page_0 (recalls_writer_to_read 1≢0) 0 WbReq refl station_0 refl

led_13 : Leads sizes 0 (Fired Receive 0 0 Yielded ∷ calls_12) Field state_13
unfolding tables
led_13 = receives_next led_12 0 (asks state_12 0 refl station_0) (message 0 WbReq) step_13 refl page_0 writes_back refl

led_14 : Leads sizes 0 (Fired Collect 0 0 WrittenBack ∷ Fired Receive 0 0 Yielded ∷ calls_12) Field state_14
unfolding tables
led_14 = collects_next led_13 0 (asks state_13 0 refl station_0) (message 0 (WbRep 11)) step_14 refl page_0 is_written_back refl

led_15 : Leads sizes 0 calls_15 Field state_15
unfolding tables
led_15 = serves_next led_14 1 (asks state_14 1 refl station_1) (message 0 ShReq) step_15 refl page_0 (shares refl) 1 (ShRep 11) refl station_1 refl

led_16 : Leads sizes 0 (Fired Receive 1 0 Received ∷ calls_15) Field state_16
unfolding tables
led_16 = receives_next led_15 1 (asks state_15 1 refl station_1) (message 0 (ShRep 11)) step_16 refl page_0 takes_reading_copy refl

led_17 : Leads sizes 0 (Fired Work 1 0 (Loaded 11) ∷ Fired Receive 1 0 Received ∷ calls_15) Field state_17
unfolding tables
led_17 = works_next led_16 1 (asks state_16 1 refl station_1) loading step_17 refl page_0 loads_reading_copy refl

-- a fact of every station, from that of the two served stations and of the others
each_station : (P : ℕ → Type 0) → P 0 → P 1 → ((t : ℕ) → t ≢ 0 → t ≢ 1 → P t) → (t : ℕ) → P t
each_station P first second others = at_and_beside P 0 first (λ t n. at_and_beside (λ u. u ≢ 0 → P u) 1 (λ _. second) (λ u m k. others u k m) t n)

queues_empty : (t : ℕ) → state_17.queue t ≡ []
unfolding tables
queues_empty = each_station (λ t. state_17.queue t ≡ []) refl refl (λ t n m. simp (ne_eqb t 0 n, ne_eqb t 1 m))

lanes_empty : (lane : Lane) (t : ℕ) → state_17.lane lane t ≡ []
unfolding tables
lanes_empty Request = each_station (λ t. state_17.lane Request t ≡ []) refl refl (λ t n m. simp (ne_eqb t 0 n, ne_eqb t 1 m))
lanes_empty Reply = each_station (λ t. state_17.lane Reply t ≡ []) refl refl (λ t n m. simp (ne_eqb t 0 n, ne_eqb t 1 m))
lanes_empty Down = each_station (λ t. state_17.lane Down t ≡ []) refl refl (λ t n m. simp (ne_eqb t 0 n, ne_eqb t 1 m))

led_18 : Leads sizes 0 (WasClosed ∷ Fired Work 1 0 (Loaded 11) ∷ Fired Receive 1 0 Received ∷ calls_15) Closed state_17
led_18 = granted led_17 may-close (refl, ((queues_empty, lanes_empty), tt)) closes

none_is_no_copy : (w : ℕ) → ◌≢◌ {A = Cell ℕ} none (Ex w)
none_is_no_copy w e = cc

no_writer : (t : ℕ) (w : ℕ) → state_17.cell t 0 ≢ Ex w
unfolding tables
no_writer = each_station (λ t. (w : ℕ) → state_17.cell t 0 ≢ Ex w) (λ w e. cc) (λ w e. cc) (λ t n m w e. none_is_no_copy w (simp (ne_eqb t 0 n, ne_eqb t 1 m) at e))

led_19 : Leads sizes 0 listing Closed state_17
unfolding tables
led_19 = granted led_18 may-read-out (refl, (page_0, tt)) (reads_out (inr (no_writer, refl)))

pub round : (st : State ℕ) × Leads sizes 0 listing Closed st
round = (state_17, led_19)

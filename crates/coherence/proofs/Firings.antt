-- Every firing keeps the invariant.
use Rattle.std.proofs.Common.{◌≡◌, ℕ, ◌<◌, Bool, true, false, cond, ◌≢◌, ◌∷◌, drop, Some, None, refl, ap, ◌∙◌, append-nil}
use Rattle.std.specs.List.{slice_get}
use Rattle.messages.specs.declared.message.Message.{Message}
use Rattle.registers.specs.Sets.{station_limit}
use Rattle.links.specs.declared.lane.Lane.TheVariants.{Request, Reply, Down}
use Rattle.protocol.specs.declared.cell.Cell.{Cell}
use Rattle.protocol.specs.declared.cell.Cell.TheVariants.{Ex}
use Rattle.protocol.specs.declared.deed.Deed.TheVariants.{Stored}
use Rattle.protocol.specs.declared.firing.FiringKind.{FiringKind}
use Rattle.protocol.specs.declared.instruction.Access.{Access}
use Rattle.protocol.specs.declared.station.StationStep.{StationStep}
use Rattle.protocol.specs.Deeds.{account_of}
use Rattle.protocol.specs.Rules.{HomeStep, step, Works, loads_reading_copy, loads_writing_copy, stores, asks_to_read, asks_to_write, asks_to_upgrade, Receives, Collects, Serves}
use Rattle.protocol.specs.State.{State, Outcome, with_entry, from_station, from_home, station_does, home_does, leaves_queue, leaves_lane, left_lane, Fits, works, receives, collects, serves}
use Rattle.coherence.specs.Promise.{stored_value, stored_by}
use Rattle.coherence.proofs.Tables.{at_and_beside, on, entry_same, entry_other, cell_same, cell_station, cell_page, on_oldest, sent_here, sent_lane, sent_station, sent_page, told_here, told_lane, told_page, left_here, left_lane_lem, left_station, left_page}
use Rattle.coherence.proofs.Standing.{Standing, seen, At, HomeHolds, Invariant}
use Rattle.coherence.proofs.Steps.{works_here, receives_here, receives_leaves, may_write, alone, store_here, store_beside, home_free, collects_here, collects_beside, collects_home, collects_leaves, collects_silent, serves_here, serves_beside, serves_home}
use Rattle.coherence.proofs.Orders.{receives_answers, collects_answers, serves_answers, unstored}

ruleset right-here = (cell_same, entry_same, sent_here, sent_lane)

ruleset at-another-station = (cell_station, sent_station)

ruleset at-another-page = (cell_page, entry_other, sent_page)

-- the page p at the station s, at another station, and at another page; what the home holds of p, and of another page
kept : {V : Type 0} {L : ℕ → V} {st : State V} (s p : ℕ) → At (L p) st p s → ((t : ℕ) → t ≢ s → At (L p) st p t) → ((q : ℕ) → q ≢ p → (t : ℕ) → At (L q) st q t) → HomeHolds (L p) (st.home p) → ((q : ℕ) → q ≢ p → HomeHolds (L q) (st.home q)) → Invariant L st
kept {V} {L} {st} s p here beside others home homes =
    record {
      at = at_and_beside (λ q. (t : ℕ) → At (L q) st q t) p (at_and_beside (At (L p) st p) s here beside) others;
      homes = at_and_beside (λ q. HomeHolds (L q) (st.home q)) p home homes;
    }

module _ {V : Type 0} (L : ℕ → V) (st : State V) (i : Invariant L st) (s p : ℕ) where
  -- a station works an instruction that stores nothing, or a store
  keeps_asked : {c : Cell V} {x : Access V} {does : StationStep V} → Works c x does → st.cell s p ≡ c → (account_of does.deed).stores ≡ false → Invariant L (station_does s p does (from_station Request s p does.sends) (leaves_queue does.deed s st))
  keeps_asked rule e f =
      kept s p
      (simp right-here (works_here rule f (rw e at (i.at p s))))
      (λ t n. simp at-another-station (i.at p t))
      (λ q n t. simp at-another-page (i.at q t))
      (i.homes p)
      (λ q n. i.homes q)

  keeps_stored : (v w : V) → st.cell s p ≡ Ex w → Invariant (with_entry L p v) (station_does s p (step (Ex v) None Stored) (from_station Request s p None) (leaves_queue Stored s st))
  keeps_stored v w c =
      let x : Standing (L p) (seen (st.home p).state s) (Ex w) (on p (st.lane Request s)) (on p (st.lane Down s)) (on p (st.lane Reply s)) = rw c at (i.at p s) in
      kept s p
      (simp (right-here, append-nil) (store_here x))
      (λ t n. simp (at-another-station, entry_same, alone (st.home p).state s t (may_write x) n) (store_beside (simp (alone (st.home p).state s t (may_write x) n) at (i.at p t))))
      (λ q n t. simp at-another-page (i.at q t))
      (simp entry_same (home_free v (st.home p) s (may_write x)))
      (λ q n. simp entry_other (i.homes q))

  keeps_works : {c : Cell V} {x : Access V} {does : StationStep V} → Works c x does → st.cell s p ≡ c → Invariant (cond (account_of does.deed).stores (stored_value p x L) L) (station_does s p does (from_station Request s p does.sends) (leaves_queue does.deed s st))
  keeps_works loads_reading_copy e = keeps_asked loads_reading_copy e refl
  keeps_works loads_writing_copy e = keeps_asked loads_writing_copy e refl
  keeps_works (stores {v = v} {w = w}) e = keeps_stored v w e
  keeps_works asks_to_read e = keeps_asked asks_to_read e refl
  keeps_works (asks_to_write {v = v}) e = keeps_asked (asks_to_write {v = v}) e refl
  keeps_works (asks_to_upgrade {v = v}) e = keeps_asked (asks_to_upgrade {v = v}) e refl

module _ {V : Type 0} (L : ℕ → V) (st : State V) (i : Invariant L st) (s : ℕ) (m : Message V) where
  keeps_receives : (does : StationStep V) → slice_get (st.lane Down s) 0 ≡ Some m → Receives (st.cell s m.page) m.kind does → Invariant L (station_does s m.page does (from_station Reply s m.page does.sends) (leaves_lane does.deed Down s st))
  keeps_receives does e rule =
      kept s m.page
      (simp (right-here, left_here, left_lane_lem, receives_leaves rule) (receives_here rule (simp (on_oldest _ _ e) at (i.at m.page s))))
      (λ t n. simp (at-another-station, left_station) (i.at m.page t))
      (λ q n t. simp (at-another-page, left_page st.lane (account_of does.deed).leaves Down s m) (i.at q t))
      (i.homes m.page)
      (λ q n. i.homes q)

  keeps_collects : (does : HomeStep V) → s < station_limit → slice_get (st.lane Reply s) 0 ≡ Some m → Collects s (st.home m.page) m.kind does → Invariant L (home_does m.page does (from_home m.page does.sends) (leaves_lane does.deed Reply s st))
  keeps_collects does low e rule =
      let x : Standing (L m.page) (seen (st.home m.page).state s) (st.cell s m.page) (on m.page (st.lane Request s)) (on m.page (st.lane Down s)) (m.kind ∷ on m.page (drop 1 (st.lane Reply s))) = simp (on_oldest _ _ e) at (i.at m.page s) in
      kept s m.page
      (simp (entry_same, told_here, told_lane, left_here, left_lane_lem, collects_leaves rule, collects_silent rule, append-nil) (collects_here low rule x))
      (λ t n. simp (entry_same, told_here, told_lane, left_station, collects_silent rule, append-nil) (collects_beside low t n rule (i.at m.page t)))
      (λ q n t. simp (entry_other, told_page, left_page st.lane (account_of does.deed).leaves Reply s m) (i.at q t))
      (simp entry_same (collects_home low rule (i.homes m.page) x))
      (λ q n. simp entry_other (i.homes q))

  keeps_serves : (does : HomeStep V) → s < station_limit → slice_get (st.lane Request s) 0 ≡ Some m → Serves s (st.home m.page) m.kind does → Invariant L (home_does m.page does (from_home m.page does.sends) (leaves_lane does.deed Request s st))
  keeps_serves does low e rule =
      let x : Standing (L m.page) (seen (st.home m.page).state s) (st.cell s m.page) (m.kind ∷ on m.page (drop 1 (st.lane Request s))) (on m.page (st.lane Down s)) (on m.page (st.lane Reply s)) = simp (on_oldest _ _ e) at (i.at m.page s) in
      kept s m.page
      (simp (entry_same, told_here, told_lane, left_lane_lem, on_left (account_of does.deed).leaves e) (serves_here low rule (i.homes m.page) x))
      (λ t n. simp (entry_same, told_here, told_lane, left_station) (serves_beside low t n rule (i.at m.page t)))
      (λ q n t. simp (entry_other, told_page, left_page st.lane (account_of does.deed).leaves Request s m) (i.at q t))
      (simp entry_same (serves_home _ rule (i.homes m.page)))
      (λ q n. simp entry_other (i.homes q))
    where
      on_left : (b : Bool) → slice_get (st.lane Request s) 0 ≡ Some m → on m.page (left_lane b Request s st.lane Request s) ≡ cond b (on m.page (drop 1 (st.lane Request s))) (m.kind ∷ on m.page (drop 1 (st.lane Request s)))
      on_left true e = ap (on m.page) (left_here st.lane true Request s)
      on_left false e = ap (on m.page) (left_here st.lane false Request s) ∙ on_oldest _ _ e

pub keeps : {V : Type 0} {L : ℕ → V} {st : State V} {s : ℕ} {kind : FiringKind} {o : Outcome V} → Invariant L st → s < station_limit → Fits st s kind o → Invariant (cond (account_of o.deed).stores (stored_by o.page (slice_get (st.queue s) 0) L) L) o.after
keeps {L = L} {st = st} {s = s} i low (works {i = x} e rule) = rw e (keeps_works L st i s x.page rule refl)
keeps {L = L} {st = st} {s = s} i low (receives {m = m} {step = does} e rule) = rw (unstored does.deed (receives_answers rule)) (keeps_receives L st i s m does e rule)
keeps {L = L} {st = st} {s = s} i low (collects {m = m} {step = does} e rule) = rw (unstored does.deed (collects_answers rule)) (keeps_collects L st i s m does low e rule)
keeps {L = L} {st = st} {s = s} i low (serves {m = m} {step = does} e rule) = rw (unstored does.deed (serves_answers rule)) (keeps_serves L st i s m does low e rule)

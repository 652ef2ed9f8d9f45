-- While anything waits, some firing would be granted: a reply first, else a message on a down lane, else a request, else
-- an instruction.
use Rattle.std.proofs.Common.{◌≡◌, ℕ, zero, suc, ◌<◌, ◌≤◌, true, false, ◌&&◌, eqb, ◌≢◌, ◌⊎◌, List, [], ◌∷◌, length, Some, None, Option, refl, ap, ◌∙◌, subst, inl, inr, arith}
use Rattle.std.specs.Option.{option_map}
use Rattle.std.specs.List.{AllByRecursion, slice_get}
use Rattle.std.proofs.lemmas.Bool.Decides.{nat_tests}
use Rattle.std.proofs.lemmas.Bool.{cases_lt, cases_Bool, eqb-true, eqb-false, and_parts, both_ways}
use Rattle.messages.specs.declared.message.Kind.{Kind}
use Rattle.messages.specs.declared.message.Kind.TheVariants.{ShReq, ExReq, WbRep, FlushRep}
use Rattle.messages.specs.declared.message.Message.{Message}
use Rattle.registers.specs.Sets.{station_limit, without}
use Rattle.links.specs.declared.lane.Lane.{Lane}
use Rattle.links.specs.declared.lane.Lane.TheVariants.{Request, Reply, Down}
use Rattle.links.specs.View.{same_lane}
use Rattle.protocol.specs.declared.cell.Cell.{Cell}
use Rattle.protocol.specs.declared.cell.Cell.TheVariants.{None as none}
use Rattle.protocol.specs.declared.firing.FiringKind.{FiringKind}
use Rattle.protocol.specs.declared.instruction.Access.{Access}
use Rattle.protocol.specs.declared.instruction.Access.TheVariants.{Load, Store}
use Rattle.protocol.specs.declared.instruction.Instruction.{Instruction}
use Rattle.protocol.specs.declared.pages.HomeState.{HomeState}
use Rattle.protocol.specs.declared.pages.HomeState.TheVariants.{R, W, TR, TW}
use Rattle.protocol.specs.declared.sizes.Sizes.{Sizes}
use Rattle.protocol.specs.declared.station.StationStep.{StationStep}
use Rattle.protocol.specs.Rules.{Stations, HomePage, Sends, HomeStep, page, Works, loads_reading_copy, loads_writing_copy, stores, asks_to_read, asks_to_write, asks_to_upgrade, Receives, takes_reading_copy, takes_writing_copy, writes_back, flushes, invalidates, stays_pending, Collects, is_written_back, is_flushed, strikes, strikes_last, Serves, shares, gives_alone, recalls_readers, recalls_writer_to_read, recalls_writer_to_write}
use Rattle.protocol.specs.State.{State, Outcome, sent_to, from_station, from_home, Fits, works, receives, collects, serves, Space}
use Rattle.protocol.proofs.Recalled.{Low, empty_or_someone, low_without}
use Rattle.coherence.specs.declared.call.Call.TheVariants.{Fire}
use Rattle.coherence.specs.Questions.{questions, AllYes, Idle, oldest_page}
use Rattle.coherence.specs.Promise.{named}
use Rattle.coherence.proofs.Tables.{at_and_beside, eqb_same, one_lane, on, on_nil, on_oldest}
use Rattle.coherence.proofs.Standing.{Seen, out, in_tr, in_tw, seen, Sees, unnamed, as_reader, as_recalled_reader, as_recalled_writer, sees, to_read, to_write, by_write_back, by_flush, Standing, absent, asks, reads, read_granted, upgrades, granted_recalled, reader_recalled, upgrade_recalled, invalidated, invalidated_asks, write_granted, writes, grant_recalled, writer_recalled, written_back, written_back_asks, flushed, flushed_asks, HomeStateHolds, Invariant}
use Rattle.coherence.proofs.Steps.{collects_silent}
use Rattle.coherence.proofs.Bounds.{Within}

-- whom the home names, as far as stations go
abbrev NamesStations : HomeState Stations → Type 0
NamesStations x = (t : ℕ) → station_limit ≤ t → named x t ≡ false

-- a rule fits each reply, each message on a down lane, and, where no other message waits, each request and instruction
module _ {V : Type 0} {L : V} where
  reply_fits : {a : Seen} {c : Cell V} {q d r : List (Kind V)} {k : Kind V} {x : HomeState Stations} (s : ℕ) (w : V) → NamesStations x → Standing L a c q d (k ∷ r) → Sees s x a → (step : HomeStep V) × Collects s (page w x) k step
  reply_fits s w low invalidated (as_recalled_reader {D = D} y) = elim (empty_or_someone (without D s) (low_without D s low)) [ inl h ↦ (_, strikes_last y h) | inr h ↦ (_, strikes y h) ]
  reply_fits s w low (invalidated_asks k) (as_recalled_reader {D = D} y) = elim (empty_or_someone (without D s) (low_without D s low)) [ inl h ↦ (_, strikes_last y h) | inr h ↦ (_, strikes y h) ]
  reply_fits s w low (written_back {w = v} e f) (as_recalled_writer y) = subst (λ t. (step : HomeStep V) × Collects s (page w (TW t)) (WbRep v) step) y (_, is_written_back)
  reply_fits s w low (written_back_asks {w = v} f) (as_recalled_writer y) = subst (λ t. (step : HomeStep V) × Collects s (page w (TW t)) (WbRep v) step) y (_, is_written_back)
  reply_fits s w low (flushed {w = v} f) (as_recalled_writer y) = subst (λ t. (step : HomeStep V) × Collects s (page w (TW t)) (FlushRep v) step) y (_, is_flushed)
  reply_fits s w low (flushed_asks {w = v} k f) (as_recalled_writer y) = subst (λ t. (step : HomeStep V) × Collects s (page w (TW t)) (FlushRep v) step) y (_, is_flushed)

  down_fits : {a : Seen} {c : Cell V} {q d r : List (Kind V)} {k : Kind V} → Standing L a c q (k ∷ d) r → (step : StationStep V) × Receives c k step
  down_fits (read_granted e) = (_, takes_reading_copy)
  down_fits (granted_recalled e) = (_, takes_reading_copy)
  down_fits (reader_recalled e) = (_, invalidates)
  down_fits upgrade_recalled = (_, stays_pending)
  down_fits (write_granted e) = (_, takes_writing_copy)
  down_fits (grant_recalled k e) = (_, takes_writing_copy)
  down_fits (writer_recalled by_write_back e) = (_, writes_back)
  down_fits (writer_recalled by_flush e) = (_, flushes)

-- a home page that recalls nobody
data Settled : HomeState Stations → Type 0 where
  for_readers : {D : Stations} → Settled (R D)
  for_writer : {t : ℕ} → Settled (W t)

module _ {V : Type 0} (s : ℕ) (w : V) where
  give_or_recall : (D : Stations) → Low D → (step : HomeStep V) × Serves s (page w (R D)) ExReq step
  give_or_recall D low = elim (empty_or_someone (without D s) (low_without D s low)) [ inl h ↦ (_, gives_alone h) | inr h ↦ (_, recalls_readers h) ]

  read_request_fits : {x : HomeState Stations} → Settled x → named x s ≡ false → (step : HomeStep V) × Serves s (page w x) ShReq step
  read_request_fits for_readers e = (_, shares e)
  read_request_fits (for_writer {t = t}) e = (_, recalls_writer_to_read (eqb-false s t e))

  write_request_fits : {x : HomeState Stations} → Settled x → NamesStations x → named x s ≡ false → (step : HomeStep V) × Serves s (page w x) ExReq step
  write_request_fits (for_readers {D = D}) low e = give_or_recall D low
  write_request_fits (for_writer {t = t}) low e = (_, recalls_writer_to_write (eqb-false s t e))

  request_fits : {L : V} {a : Seen} {c : Cell V} {q : List (Kind V)} {k : Kind V} {x : HomeState Stations} → NamesStations x → Standing L a c (k ∷ q) [] [] → Sees s x a → Settled x → (step : HomeStep V) × Serves s (page w x) k step
  request_fits low (asks to_read) (unnamed e) settled = read_request_fits settled e
  request_fits low (asks to_write) (unnamed e) settled = write_request_fits settled low e
  request_fits low upgrades (as_reader {D = D} e) settled = give_or_recall D low

instruction_fits : {V : Type 0} {L : V} {a : Seen} {c : Cell V} → Standing L a c [] [] [] → (x : Access V) → (step : StationStep V) × Works c x step
instruction_fits absent Load = (_, asks_to_read)
instruction_fits absent (Store v) = (_, asks_to_write)
instruction_fits (reads e) Load = (_, loads_reading_copy)
instruction_fits (reads e) (Store v) = (_, asks_to_upgrade)
instruction_fits (writes e) Load = (_, loads_writing_copy)
instruction_fits (writes e) (Store v) = (_, stores)

-- where a recalled page's station would stand with no message, there is none
module _ {V : Type 0} {L : V} where
  no_recalled_reader : {c : Cell V} {q : List (Kind V)} → Standing L in_tr c q [] [] → ⊥
  no_recalled_reader x = elim x [ ]

  no_recalled_writer : {c : Cell V} {q : List (Kind V)} → Standing L in_tw c q [] [] → ⊥
  no_recalled_writer x = elim x [ ]

  -- at a page that no station is named for, and where a station has nothing, no message of it waits
  nothing_waits : {q d r : List (Kind V)} → Standing L out none q d r → (q ≡ []) × (d ≡ []) × (r ≡ [])
  nothing_waits absent = (refl, refl, refl)

  nothing_named : {a : Seen} {x : HomeState Stations} {s : ℕ} → Standing L a none [] [] [] → Sees s x a → named x s ≡ false
  nothing_named absent (unnamed e) = e

-- whom a home's step sends to: the station concerned, or one that the page names
sent_to_named : {V : Type 0} {s : ℕ} {h : HomePage V} {k : Kind V} {step : HomeStep V} → Serves s h k step → (t : ℕ) → sent_to step.sends t ≢ None → (t ≡ s) ⊎ (named h.state t ≡ true)
sent_to_named rule t n = grind (arith, nat_tests)

-- where a post is not empty
module _ {V : Type 0} where
  pub posted_by_station : (to : Lane) (s p : ℕ) (k : Option (Kind V)) (lane : Lane) (t : ℕ) → from_station to s p k lane t ≢ [] → (lane ≡ to) × (t ≡ s)
  unfolding from_station
  posted_by_station to s p k lane t n = elim (cases_Bool (same_lane lane to && eqb t s)) [ inl e ↦ (one_lane lane to (and_parts _ _ e).0, eqb-true t s (and_parts (same_lane lane to) _ e).1) | inr e ↦ absurd (n (rw e)) ]

  pub posted_by_home : (p : ℕ) (sends : Sends V) (lane : Lane) (t : ℕ) → from_home p sends lane t ≢ [] → (lane ≡ Down) × (sent_to sends t ≢ None)
  unfolding from_home
  posted_by_home p sends lane t n = elim (cases_Bool (same_lane lane Down)) [ inl e ↦ (one_lane lane Down e, λ f. n (rw (e, f))) | inr e ↦ absurd (n (rw e)) ]

-- the first list that is not empty, or all are
record Waiting {X : Type 0} (f : ℕ → List X) : Type 0 where
  place : ℕ
  first : X
  is : slice_get (f place) 0 ≡ Some first

some_waiting : {X : Type 0} (f : ℕ → List X) (n : ℕ) → Waiting f ⊎ ((s : ℕ) → s < n → f s ≡ [])
some_waiting f zero = inr (λ s h. absurd (omega arith))
some_waiting {X} f (suc n) = elim (some_waiting f n) [ inl h ↦ inl h | inr none_below ↦ by (f n) refl none_below ]
  where
    by : (l : List X) → f n ≡ l → ((s : ℕ) → s < n → f s ≡ []) → Waiting f ⊎ ((s : ℕ) → s < suc n → f s ≡ [])
    by [] e b = inr (at_and_beside (λ s. s < suc n → f s ≡ []) n (λ _. e) (λ s d h. b s (omega arith)))
    by (x ∷ l) e b = inl (record { place = n; first = x; is = ap (λ m. slice_get m 0) e })

first_asks_in : {V : Type 0} {pages : ℕ} (l : List (Instruction V)) (x : Instruction V) → AllByRecursion (λ i. i.page < pages) l → slice_get l 0 ≡ Some x → x.page < pages
first_asks_in [] x a e = absurd (cc)
first_asks_in {pages = pages} (y ∷ l) x a e = let same : y ≡ x = cc in subst (λ i. i.page < pages) same a.0

module _ {V : Type 0} (sizes : Sizes) (L : ℕ → V) (st : State V) (i : Invariant L st) (w : Within sizes st) (few : sizes.stations ≤ station_limit) (one : 0 < sizes.room) where
  -- named stations are served
  pub named_served : (p s : ℕ) → named (st.home p).state s ≡ true → s < sizes.stations
  named_served p s y = elim (cases_lt s sizes.stations) [
    | inl h ↦ h
    | inr h ↦ absurd (both_ways _ (nothing_named (simp (w.far_cell s p h, w.far_lane Request s h, w.far_lane Down s h, w.far_lane Reply s h, on_nil) at (i.at p s)) (sees (st.home p).state s)) y)
  ]

  names_stations : (p : ℕ) → NamesStations (st.home p).state
  names_stations p t h = elim (cases_Bool (named (st.home p).state t)) [ inl y ↦ let x : t < sizes.stations = named_served p t y in absurd (omega arith) | inr y ↦ y ]

  -- a firing would be granted at a station where a rule fits the oldest entry and there is space
  WouldFire : Type 0
  WouldFire = (kind : FiringKind) × (s : ℕ) × AllYes (questions sizes st (Fire kind s))

  fire_there : {s : ℕ} {kind : FiringKind} (o : Outcome V) → Fits st s kind o → oldest_page st kind s ≡ Some o.page → s < sizes.stations → o.page < sizes.pages → Space sizes st o → WouldFire
  unfolding WouldFire
  fire_there {s} {kind} o fits e x z space = (kind, s, (w.extents, (x, ((o.page, e), ((o.page, e, z), ((o, fits), ((o, fits, space), tt)))))))

  served : {X : Type 0} (f : ℕ → List X) → ((s : ℕ) → sizes.stations ≤ s → f s ≡ []) → (s : ℕ) (x : X) → slice_get (f s) 0 ≡ Some x → s < sizes.stations
  served f far s x e = elim (cases_lt s sizes.stations) [ inl h ↦ h | inr h ↦ absurd (cc (far s h)) ]

  -- the page of a message that waits is one of the round's
  off_page : (lane : Lane) (s p : ℕ) → sizes.pages ≤ p → on p (st.lane lane s) ≡ []
  off_page lane s p h = by lane (nothing_waits (simp (w.off_home p h, w.off_cell s p h) at (i.at p s)))
    where
      by : (lane : Lane) → (on p (st.lane Request s) ≡ []) × (on p (st.lane Down s) ≡ []) × (on p (st.lane Reply s) ≡ []) → on p (st.lane lane s) ≡ []
      by Request none_wait = none_wait.0
      by Down none_wait = none_wait.1
      by Reply none_wait = none_wait.2

  page_waiting : (lane : Lane) (s : ℕ) (m : Message V) → slice_get (st.lane lane s) 0 ≡ Some m → m.page < sizes.pages
  page_waiting lane s m e = elim (cases_lt m.page sizes.pages) [ inl h ↦ h | inr h ↦ absurd (cc (off_page lane s m.page h, on_oldest _ _ e)) ]

  -- an empty lane has space for what a station sends on it
  space_for_one : (to : Lane) (s p : ℕ) (k : Option (Kind V)) → s < sizes.stations → st.lane to s ≡ [] → (lane : Lane) (t : ℕ) → from_station to s p k lane t ≢ [] → (t < sizes.stations) × (length (st.lane lane t) < sizes.room)
  space_for_one to s p k x e lane t n =
      let here = posted_by_station to s p k lane t n in
      let same : st.lane lane t ≡ [] = (λ j. st.lane (here.0 j) (here.1 j)) ∙ e in
      (rw here.1 x, rw same one)

  fire_reply : Waiting (st.lane Reply) → WouldFire
  fire_reply h =
      let s = h.place in
      let m = h.first in
      let found = reply_fits s (st.home m.page).value (names_stations m.page) (simp (on_oldest _ _ h.is) at (i.at m.page s)) (sees (st.home m.page).state s) in
      fire_there _ (collects h.is found.1) (ap (option_map (λ x. x.page)) h.is) (served (st.lane Reply) (w.far_lane Reply) s m h.is) (page_waiting Reply s m h.is)
      (λ lane t n. absurd ((posted_by_home m.page found.0.sends lane t n).1 (collects_silent found.1 t)))

  fire_down : ((s : ℕ) → st.lane Reply s ≡ []) → Waiting (st.lane Down) → WouldFire
  fire_down no-replies h =
      let s = h.place in
      let m = h.first in
      let x = served (st.lane Down) (w.far_lane Down) s m h.is in
      let found = down_fits (simp (on_oldest _ _ h.is) at (i.at m.page s)) in
      fire_there _ (receives h.is found.1) (ap (option_map (λ x. x.page)) h.is) x (page_waiting Down s m h.is)
      (space_for_one Reply s m.page found.0.sends x (no-replies s))

  module _ (no-replies : (s : ℕ) → st.lane Reply s ≡ []) (no-downs : (s : ℕ) → st.lane Down s ≡ []) where
    with_requests : (p s : ℕ) → Standing (L p) (seen (st.home p).state s) (st.cell s p) (on p (st.lane Request s)) [] []
    with_requests p s = simp (no-replies s, no-downs s, on_nil) at (i.at p s)

    -- no page recalls then
    settled : (p : ℕ) → Settled (st.home p).state
    settled p = by (st.home p).state (with_requests p) (i.homes p)
      where
        by : (x : HomeState Stations) → ((s : ℕ) → Standing (L p) (seen x s) (st.cell s p) (on p (st.lane Request s)) [] []) → HomeStateHolds (L p) (st.home p).value x → Settled x
        by (R D) stand o = for_readers
        by (W t) stand o = for_writer
        by (TR D) stand o = absurd (no_recalled_reader (simp o.1.1 at (stand o.1.0)))
        by (TW t) stand o = absurd (no_recalled_writer (simp eqb_same at (stand t)))

    fire_request : Waiting (st.lane Request) → WouldFire
    fire_request h =
        let s = h.place in
        let m = h.first in
        let x = served (st.lane Request) (w.far_lane Request) s m h.is in
        let found = request_fits s (st.home m.page).value (names_stations m.page) (simp (on_oldest _ _ h.is) at (with_requests m.page s)) (sees (st.home m.page).state s) (settled m.page) in
        fire_there _ (serves h.is found.1) (ap (option_map (λ x. x.page)) h.is) x (page_waiting Request s m h.is)
        (λ lane t n. space_down m.page s x found.1 lane t (posted_by_home m.page found.0.sends lane t n))
      where
        space_down : (p s : ℕ) → s < sizes.stations → {k : Kind V} {step : HomeStep V} → Serves s (st.home p) k step → (lane : Lane) (t : ℕ) → (lane ≡ Down) × (sent_to step.sends t ≢ None) → (t < sizes.stations) × (length (st.lane lane t) < sizes.room)
        space_down p s x rule lane t sent =
            (elim (sent_to_named rule t sent.1) [ inl e ↦ rw e x | inr e ↦ named_served p t e ], rw (sent.0, no-downs t) one)

    fire_instruction : ((s : ℕ) → st.lane Request s ≡ []) → Waiting st.queue → WouldFire
    fire_instruction no-requests h =
        let s = h.place in
        let x = h.first in
        let inside = served st.queue w.far_queue s x h.is in
        let found = instruction_fits (simp (no-requests s, on_nil) at (with_requests x.page s)) x.access in
        fire_there _ (works h.is found.1) (ap (option_map (λ x. x.page)) h.is) inside (first_asks_in (st.queue s) x (w.asks_in s) h.is)
        (space_for_one Request s x.page found.0.sends inside (no-requests s))

  everywhere : {X : Type 0} (f : ℕ → List X) → ((s : ℕ) → sizes.stations ≤ s → f s ≡ []) → ((s : ℕ) → s < sizes.stations → f s ≡ []) → (s : ℕ) → f s ≡ []
  everywhere f far near s = elim (cases_lt s sizes.stations) [ inl h ↦ near s h | inr h ↦ far s h ]

  all_idle : ((s : ℕ) → st.lane Reply s ≡ []) → ((s : ℕ) → st.lane Down s ≡ []) → ((s : ℕ) → st.lane Request s ≡ []) → ((s : ℕ) → st.queue s ≡ []) → Idle st
  all_idle replies downs requests queues = (queues, λ lane. by lane)
    where
      by : (lane : Lane) (s : ℕ) → st.lane lane s ≡ []
      by Request = requests
      by Reply = replies
      by Down = downs

  pub progress : (Idle st → ⊥) → (kind : FiringKind) × (s : ℕ) × AllYes (questions sizes st (Fire kind s))
  unfolding WouldFire
  progress busy =
      elim (some_waiting (st.lane Reply) sizes.stations) [
        | inl h ↦ fire_reply h
        | inr a ↦ let replies = everywhere (st.lane Reply) (w.far_lane Reply) a in
            elim (some_waiting (st.lane Down) sizes.stations) [
              | inl h ↦ fire_down replies h
              | inr b ↦ let downs = everywhere (st.lane Down) (w.far_lane Down) b in
                  elim (some_waiting (st.lane Request) sizes.stations) [
                    | inl h ↦ fire_request replies downs h
                    | inr c ↦ let requests = everywhere (st.lane Request) (w.far_lane Request) c in
                        elim (some_waiting st.queue sizes.stations) [
                          | inl h ↦ fire_instruction replies downs requests h
                          | inr d ↦ absurd (busy (all_idle replies downs requests (everywhere st.queue w.far_queue d)))
                        ]
                  ]
            ]
      ]

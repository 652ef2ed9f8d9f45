-- Every history keeps the invariant, and so keeps the promise.
use Rattle.std.proofs.Common.{◌≡◌, ℕ, ◌+◌, ◌<◌, ◌≤◌, ◌≢◌, List, [], ◌∷◌, ◌++◌, Some, Option, sym, refl, ap, ◌∙◌, subst, inl, inr, lt_of_lt_of_le, arith}
use Rattle.std.proofs.lemmas.Bool.{ne_eqb}
use mathlib.Core.Path.{fun_ext}
use Rattle.std.specs.List.{AllByRecursion}
use Rattle.std.proofs.ByRecursion.{All-push}
use Rattle.registers.specs.Sets.{station_limit, nobody, how_many}
use Rattle.registers.proofs.Counting.{nobody_is_none}
use Rattle.protocol.specs.declared.cell.Cell.{Cell}
use Rattle.protocol.specs.declared.cell.Cell.TheVariants.{None as none, Ex}
use Rattle.protocol.specs.declared.deed.Deed.{Deed}
use Rattle.protocol.specs.declared.deed.Deed.TheVariants.{Loaded}
use Rattle.protocol.specs.declared.firing.FiringKind.{FiringKind}
use Rattle.protocol.specs.declared.instruction.Instruction.{Instruction}
use Rattle.protocol.specs.declared.pages.HomeState.{HomeState}
use Rattle.protocol.specs.declared.pages.HomeState.TheVariants.{R, W, TR, TW}
use Rattle.protocol.specs.declared.sizes.Sizes.{Sizes}
use Rattle.protocol.specs.Deeds.{Account}
use Rattle.protocol.specs.Rules.{Stations, page}
use Rattle.protocol.specs.State.{State, Outcome, with_entry, extents_of, Fits, Space, fires as fires-so}
use Rattle.coherence.specs.declared.event.Event.{Event}
use Rattle.coherence.specs.declared.event.Event.TheVariants.{Prepared, Set, Started, Issued, Fired, Closed as WasClosed, ReadOut, Denied}
use Rattle.coherence.specs.declared.phase.Phase.{Phase}
use Rattle.coherence.specs.declared.phase.Phase.TheVariants.{Preparation, Closed}
use Rattle.coherence.specs.Questions.{Idle, oldest_page}
use Rattle.coherence.specs.Histories.{sets as set-goes, starts as start-goes, issues as issue-goes, fires as fire-goes, closes as close-goes, reads_out as readout-goes, with_value, with_instruction, Shows, Does, sets, starts, issues, fires, closes, reads_out, Leads, prepared, granted, denied}
use Rattle.coherence.specs.Promise.{nothing, brings, issues_of, answers_of, opening_values, last_stored, with_deed, with_opening, latest, total, Tells, loads, reads_out as tells-readout, AllTold, InOrder, writing, named, EveryHistoryKeepsThePromise}
use Rattle.coherence.specs.Sequential.{Performs, none_yet, passes}
use Rattle.coherence.proofs.Tables.{at_and_beside, eqb_same, entry_same, entry_other, on_nil}
use Rattle.coherence.proofs.Standing.{in_w, in_tw, seen, Standing, absent, writes, HomeStateHolds, Invariant}
use Rattle.coherence.proofs.Firings.{keeps}
use Rattle.coherence.proofs.Bounds.{Within, stays}
use Rattle.coherence.proofs.Copies.{copies_latest, single_writer, holders_named, no_other_named}
use Rattle.coherence.proofs.Balance.{balances, same_home}
use Rattle.coherence.proofs.Progress.{progress}
use Rattle.coherence.proofs.Orders.{next_waits, one_issued, fired_in_order, loaded_copy}

-- what holds of every history and its state
pub record Good {V : Type 0} (sizes : Sizes) (v : V) (h : List (Event V)) (st : State V) : Type 0 where
  pub few : sizes.stations ≤ station_limit
  pub one : 0 < sizes.room
  pub invariant : Invariant (latest v h) st
  pub within : Within sizes st
  pub told : AllTold v h
  pub ordered : (s : ℕ) → InOrder (answers_of s h) (issues_of s h) (st.queue s)
  pub balanced : (p : ℕ) → total (λ a. a.grants) p h ≡ how_many (named (st.home p).state) + total (λ a. a.returns) p h + total (λ a. a.folds) p h

-- the page of the oldest entry is one of the round's
page_inside : (oldest : Option ℕ) (p pages : ℕ) → oldest ≡ Some p → (q : ℕ) × (oldest ≡ Some q) × (q < pages) → p < pages
page_inside oldest p pages e inside = let f = inside.1 in let same : inside.0 ≡ p = cc in subst (λ x. x < pages) same inside.2

-- the oldest entry's page is the one that the rule answers
pub page_answered : {V : Type 0} {st : State V} {s : ℕ} {kind : FiringKind} {o : Outcome V} → Fits st s kind o → oldest_page st kind s ≡ Some o.page
page_answered fits = grind arith

module _ {V : Type 0} (sizes : Sizes) (v : V) where
  -- in preparation there have been sets only
  abbrev PreparedWith : (ℕ → V) → State V
  PreparedWith values =
      record {
        home = λ p. page (values p) (R nobody);
        cell = λ _ _. none;
        lane = λ _ _. [];
        queue = λ _. [];
        extents = extents_of sizes;
      }

  pub record Still (h : List (Event V)) (st : State V) : Type 0 where
    pub stored_nothing : (values : ℕ → V) → last_stored values h ≡ values
    pub state : st ≡ PreparedWith (opening_values v h)
    pub issued_nothing : (s : ℕ) → issues_of s h ≡ []
    pub performed_nothing : Performs h []
    answered_nothing : (s : ℕ) → answers_of s h ≡ []
    counted_nothing : (column : Account → ℕ) (p : ℕ) → total column p h ≡ 0
    told_nothing : AllTold v h

  set_in_preparation : (values : ℕ → V) (p : ℕ) (w : V) → with_value p w (PreparedWith values) ≡ PreparedWith (with_entry values p w)
  set_in_preparation values p w =
      λ i.
      record {
        home = fun_ext {f = with_entry (λ q. page (values q) (R nobody)) p (page w (R nobody))} {g = λ q. page (with_entry values p w q) (R nobody)} (at_and_beside (λ q. with_entry (λ q. page (values q) (R nobody)) p (page w (R nobody)) q ≡ page (with_entry values p w q) (R nobody)) p (entry_same _ p _ ∙ ap (λ x. page x (R nobody)) (sym (entry_same values p w))) (λ q n. entry_other _ p _ q n ∙ ap (λ x. page x (R nobody)) (sym (entry_other values p w q n)))) i;
        cell = λ _ _. none;
        lane = λ _ _. [];
        queue = λ _. [];
        extents = extents_of sizes;
      }

  still_set : {h : List (Event V)} {p : ℕ} {w : V} {before after : State V} → Does sizes before (Set p w) after → Still h before → Still (Set p w ∷ h) after
  still_set {p = p} {w = w} sets g =
      record {
        stored_nothing = g.stored_nothing;
        state = ap (with_value p w) g.state ∙ set_in_preparation _ p w;
        issued_nothing = g.issued_nothing;
        performed_nothing = passes refl g.performed_nothing;
        answered_nothing = g.answered_nothing;
        counted_nothing = g.counted_nothing;
        told_nothing = (λ q u x. elim x [ ], g.told_nothing);
      }

  still_denied : {h : List (Event V)} {st : State V} {e : Event V} → brings e ≡ nothing → ((p : ℕ) (w : V) → Tells e p w → w ≡ latest v h p) → Still h st → Still (e ∷ h) st
  still_denied {h} {st} {e} b t g =
      record {
        stored_nothing = rw b g.stored_nothing;
        state = rw b g.state;
        issued_nothing = rw b g.issued_nothing;
        performed_nothing = passes (rw b refl) g.performed_nothing;
        answered_nothing = rw b g.answered_nothing;
        counted_nothing = rw b g.counted_nothing;
        told_nothing = (t, g.told_nothing);
      }

  pub still : {h : List (Event V)} {st : State V} → Leads sizes v h Preparation st → Still h st
  still (prepared before pass) =
      record { stored_nothing = λ _. refl; state = refl; issued_nothing = λ _. refl; performed_nothing = passes refl none_yet; answered_nothing = λ _. refl; counted_nothing = λ _ _. refl; told_nothing = (λ p w x. elim x [ ], tt) }
  still (granted {e = Set p w} r set-goes pass does) = still_set does (still r)
  still (granted {e = Started} r goes pass does) = elim goes [ ]
  still (granted {e = Issued s i} r goes pass does) = elim goes [ ]
  still (granted {e = Fired kind s p deed} r goes pass does) = elim goes [ ]
  still (granted {e = WasClosed} r goes pass does) = elim goes [ ]
  still (granted {e = ReadOut p w} r goes pass does) = elim goes [ ]
  still (granted {e = Prepared z w} r goes pass does) = elim goes [ ]
  still (granted {e = Denied c k} r goes pass does) = elim does [ ]
  still (denied r goes first) = still_denied refl (λ p w x. elim x [ ]) (still r)

  -- the sizes passed prepare's questions
  allowed : {h : List (Event V)} {phase : Phase} {st : State V} → Leads sizes v h phase st → (sizes.stations ≤ station_limit) × (0 < sizes.room)
  allowed (prepared before pass) = (pass.0.1, pass.1.1.0.0)
  allowed (granted r goes pass does) = allowed r
  allowed (denied r goes first) = allowed r

  -- nothing waits once a round is closed
  closed_idle : {h : List (Event V)} {st : State V} → Leads sizes v h Closed st → Idle st
  closed_idle (granted {e = Prepared z w} r goes pass does) = elim goes [ ]
  closed_idle (granted {e = Set p w} r goes pass does) = elim goes [ ]
  closed_idle (granted {e = Started} r goes pass does) = elim goes [ ]
  closed_idle (granted {e = Issued s i} r goes pass does) = elim goes [ ]
  closed_idle (granted {e = Fired kind s p deed} r goes pass does) = elim goes [ ]
  closed_idle (granted {e = WasClosed} r close-goes pass closes) = pass.1.0
  closed_idle (granted {e = ReadOut p w} r readout-goes pass (reads_out x)) = closed_idle r
  closed_idle (granted {e = Denied c k} r goes pass does) = elim does [ ]
  closed_idle (denied r goes first) = closed_idle r

  good_in_preparation : {h : List (Event V)} {st : State V} → Leads sizes v h Preparation st → Good sizes v h st
  good_in_preparation {h} {st} r =
      let g = still r in
      let a = allowed r in
      let L : latest v h ≡ opening_values v h = g.stored_nothing (opening_values v h) in
      let i : Invariant (opening_values v h) (PreparedWith (opening_values v h)) = record { at = λ p s. simp on_nil absent; homes = λ p. refl } in
      let w : Within sizes (PreparedWith (opening_values v h)) = record { extents = refl; far_cell = λ _ _ _. refl; off_cell = λ _ _ _. refl; off_home = λ _ _. refl; far_lane = λ _ _ _. refl; far_queue = λ _ _. refl; asks_in = λ _. tt } in
      record {
        few = a.0;
        one = a.1;
        invariant = subst (λ x. Invariant x st) (sym L) (subst (Invariant (opening_values v h)) (sym g.state) i);
        within = subst (Within sizes) (sym g.state) w;
        told = g.told_nothing;
        ordered = λ s. rw (g.answered_nothing s, g.issued_nothing s) (ap (λ x. x.queue s) (sym g.state));
        balanced = λ p. simp (g.counted_nothing, g.state) (omega (arith, nobody_is_none));
      }

  quiet_latest : (e : Event V) (h : List (Event V)) → brings e ≡ nothing → latest v (e ∷ h) ≡ latest v h
  quiet_latest e h b = λ i. with_deed h (b i) (last_stored (with_opening (b i) (opening_values v h)) h)

  -- an event that brings nothing
  good_quiet : {h : List (Event V)} {st : State V} {e : Event V} → brings e ≡ nothing → ((p : ℕ) (w : V) → Tells e p w → w ≡ latest v h p) → Good sizes v h st → Good sizes v (e ∷ h) st
  good_quiet {h} {st} {e} b t g =
      record {
        few = g.few;
        one = g.one;
        invariant = subst (λ L. Invariant L st) (sym (quiet_latest e h b)) g.invariant;
        within = g.within;
        told = (t, g.told);
        ordered = rw b g.ordered;
        balanced = rw b g.balanced;
      }

  good_issue : {h : List (Event V)} {st : State V} {s : ℕ} {i : Instruction V} → s < sizes.stations → i.page < sizes.pages → Good sizes v h st → Good sizes v (Issued s i ∷ h) (with_instruction s i st)
  good_issue {h} {st} {s} {i} x z g =
      let w = g.within in
      record {
        few = g.few;
        one = g.one;
        invariant = record { at = g.invariant.at; homes = g.invariant.homes };
        within = record {
          extents = w.extents;
          far_cell = w.far_cell;
          off_cell = w.off_cell;
          off_home = w.off_home;
          far_lane = w.far_lane;
          far_queue = λ t far. let n : t ≢ s = omega arith in entry_other st.queue s _ t n ∙ w.far_queue t far;
          asks_in = at_and_beside (λ t. AllByRecursion (λ i. i.page < sizes.pages) (with_entry st.queue s (st.queue s ++ i ∷ []) t)) s (simp entry_same (All-push _ (st.queue s) i (w.asks_in s) z)) (λ t n. simp entry_other (w.asks_in t));
        };
        told = (λ p u y. elim y [ ], g.told);
        ordered = at_and_beside (λ t. InOrder (answers_of t h) (issues_of t (Issued s i ∷ h)) (with_entry st.queue s (st.queue s ++ i ∷ []) t)) s (simp (eqb_same, entry_same) (one_issued (answers_of s h) (issues_of s h) (st.queue s) i (g.ordered s))) (λ t n. simp (ne_eqb, entry_other) (g.ordered t));
        balanced = g.balanced;
      }

  -- a firing that tells a value has loaded it
  tells_loaded : {e : Event V} {q p s : ℕ} {w : V} {kind : FiringKind} {deed : Deed V} → Tells e q w → e ≡ Fired kind s p deed → (deed ≡ Loaded w) × (q ≡ p)
  tells_loaded loads e = (cc, cc)
  tells_loaded tells-readout e = absurd (cc)

  good_fire : {h : List (Event V)} {st : State V} {s : ℕ} {kind : FiringKind} {o : Outcome V} → Fits st s kind o → Space sizes st o → s < sizes.stations → o.page < sizes.pages → Good sizes v h st → Good sizes v (Fired kind s o.page o.deed ∷ h) o.after
  good_fire {h} {st} {s} {kind} {o} fits space x z g =
      let low : s < station_limit = lt_of_lt_of_le x g.few in
      record {
        few = g.few;
        one = g.one;
        invariant = rw (next_waits (answers_of s h) (issues_of s h) (st.queue s) (g.ordered s)) (keeps g.invariant low fits);
        within = stays g.within fits x z space;
        told = (λ q w y. let t = tells_loaded y refl in subst (λ k. w ≡ latest v h k) (sym t.1) (copies_latest (latest v h) st g.invariant o.page s w (loaded_copy fits t.0)), g.told);
        ordered = fired_in_order st (λ t. answers_of t h) (λ t. issues_of t h) g.ordered fits;
        balanced = at_and_beside (λ q. total (λ a. a.grants) q (Fired kind s o.page o.deed ∷ h) ≡ how_many (named (o.after.home q).state) + total (λ a. a.returns) q (Fired kind s o.page o.deed ∷ h) + total (λ a. a.folds) q (Fired kind s o.page o.deed ∷ h)) o.page
            (simp eqb_same (omega (arith, balances fits low, g.balanced o.page)))
            (λ q n. simp (ne_eqb, same_home fits q n) (omega (arith, g.balanced q)));
      }

  -- a readout of an idle state: the one writing copy, or the home's value
  module _ {h : List (Event V)} {st : State V} (g : Good sizes v h st) (idle : Idle st) where
    quiet : (p s : ℕ) → Standing (latest v h p) (seen (st.home p).state s) (st.cell s p) [] [] []
    quiet p s = simp (idle.1, on_nil) at (g.invariant.at p s)

    quiet_writer : {L : V} {c : Cell V} → Standing L in_w c [] [] [] → (w : V) × (c ≡ Ex w)
    quiet_writer (writes {v = w} e) = (w, refl)

    quiet_recalled : {L : V} {c : Cell V} → Standing L in_tw c [] [] [] → ⊥
    quiet_recalled x = elim x [ ]

    home_latest : (p : ℕ) → ((s : ℕ) (w : V) → st.cell s p ≢ Ex w) → (st.home p).value ≡ latest v h p
    home_latest p alone = by (st.home p).state (quiet p) (g.invariant.homes p)
      where
        by : (x : HomeState Stations) → ((s : ℕ) → Standing (latest v h p) (seen x s) (st.cell s p) [] [] []) → HomeStateHolds (latest v h p) (st.home p).value x → (st.home p).value ≡ latest v h p
        by (R D) stand o = o
        by (W t) stand o = let c = quiet_writer (simp eqb_same at (stand t)) in absurd (alone t c.0 c.1)
        by (TR D) stand o = o.0
        by (TW t) stand o = absurd (quiet_recalled (simp eqb_same at (stand t)))

    shown_latest : (p : ℕ) (w : V) → Shows st p w → w ≡ latest v h p
    shown_latest p w (inl x) = copies_latest (latest v h) st g.invariant p x.0 w (rw x.1.0 writing)
    shown_latest p w (inr x) = sym x.1 ∙ home_latest p x.0

  tells_shown : {e : Event V} {q p : ℕ} {w u : V} → Tells e q w → e ≡ ReadOut p u → (w ≡ u) × (q ≡ p)
  tells_shown loads e = absurd (cc)
  tells_shown tells-readout e = (cc, cc)

  pub good : {h : List (Event V)} {phase : Phase} {st : State V} → Leads sizes v h phase st → Good sizes v h st
  good (prepared before pass) = good_in_preparation (prepared before pass)
  good (granted {e = Prepared z w} r goes pass does) = elim goes [ ]
  good (granted {e = Set p w} r set-goes pass sets) = good_in_preparation (granted {e = Set p w} r set-goes pass sets)
  good (granted {e = Started} r start-goes pass starts) = good_quiet refl (λ p w x. elim x [ ]) (good r)
  good (granted {e = Issued s i} r issue-goes pass issues) = good_issue pass.1.0 pass.1.1.0 (good r)
  good (granted {e = Fired kind s p deed} r fire-goes pass (fires (fires-so fits space))) =
      good_fire fits space pass.1.0 (page_inside _ p sizes.pages (page_answered fits) pass.1.1.1.0) (good r)
  good (granted {e = WasClosed} r close-goes pass closes) = good_quiet refl (λ p w x. elim x [ ]) (good r)
  good (granted {e = ReadOut p u} {h = h} r readout-goes pass (reads_out x)) = good_quiet refl (λ q w y. let t = tells_shown y refl in t.0 ∙ shown_latest (good r) (closed_idle r) p u x ∙ ap (latest v h) (sym t.1)) (good r)
  good (granted {e = Denied c k} r goes pass does) = elim does [ ]
  good (denied r goes first) = good_quiet refl (λ p w x. elim x [ ]) (good r)

pub every_history_lem : (V : Type 0) → EveryHistoryKeepsThePromise V
every_history_lem V sizes v h phase st r =
    let g = good sizes v r in
    let L = latest v h in
    record {
      copies_latest = copies_latest L st g.invariant;
      reads_latest = g.told;
      single_writer = single_writer L st g.invariant;
      program_order = g.ordered;
      holders_named = holders_named L st g.invariant;
      no_other_named = no_other_named L st g.invariant;
      grants_balance = g.balanced;
      no_deadlock = progress sizes L st g.invariant g.within g.few g.one;
    }

-- What prepare, set, issue, close and readout answer and leave.
use Rattle.std.proofs.Common.{◌≡◌, ℕ, ◌<◌, ◌≤◌, Bool, true, false, ltb, List, [], length, Some, None, Ok, Err, Option, Result, sym, refl, ap, ◌∙◌, subst, inl, inr, arith}
use mathlib.Core.Path.{fun_ext}
use Rattle.std.proofs.lemmas.Option.{MatchOption-at_some, MatchOption-at_none}
use Rattle.std.proofs.lemmas.Bool.{cond-true, cond-false, and_parts, and_from, ltb-true, lt-ltb, true≢false}
use Rattle.queues.specs.declared.denied.Denied.{Denied as Refused}
use Rattle.queues.specs.View.{RowsView, changed, can_put, after_put, granted_if}
use Rattle.registers.specs.Sets.{nobody}
use Rattle.links.specs.declared.lane.Lane.{Lane}
use Rattle.protocol.specs.declared.cell.Cell.TheVariants.{None as none}
use Rattle.protocol.specs.declared.pages.HomeState.TheVariants.{R}
use Rattle.protocol.specs.declared.sizes.Sizes.{Sizes}
use Rattle.protocol.specs.declared.instruction.Instruction.{Instruction}
use Rattle.protocol.specs.declared.pages.HomePage.{HomePage as HomePageOver}
use Rattle.protocol.specs.Machines.{page_meaning}
use Rattle.protocol.specs.Rules.{Stations, page}
use Rattle.protocol.specs.State.{with_entry, places}
use Rattle.coherence.specs.declared.call.Call.TheVariants.{Set, Issue, Close, Readout}
use Rattle.coherence.specs.declared.event.Event.TheVariants.{Set as WasSet, Issued, Closed as WasClosed, ReadOut}
use Rattle.std.specs.Result.{MatchResult}
use Rattle.coherence.specs.declared.refusal.Refusal.{Refusal}
use Rattle.coherence.specs.declared.refusal.Refusal.TheVariants.{Page, FullQueue, Unfinished}
use Rattle.coherence.specs.Histories.{opening, with_value, with_instruction, Does, sets, issues, closes, reads_out}
use Rattle.calls.specs.declared.sizes.RoundSizes.{RoundSizes}
use Rattle.calls.specs.declared.record.CellRecord.{CellRecord}
use Rattle.calls.specs.Memory.{Memory, memory, meaning, plain, cells_of, pages_of, fitting}
use Rattle.calls.specs.Closing.{LowestWriter}
use Rattle.calls.specs.Calls.{CallAnswered, PrepareAnswered}
use Rattle.calls.proofs.Answering.{fit, fit_extents}

-- what a put's answer says
pub put_granted : (b : Bool) (r : Result (Unit {0}) Refused) → r ≡ granted_if b → r ≡ Ok tt → b ≡ true
put_granted true r e f = refl
put_granted false r e f = let w : ◌≡◌ {A = ℕ} 0 1 = cc in let n : ⊥ = omega arith in absurd n

pub put_denied : (b : Bool) (r : Result (Unit {0}) Refused) (d : Refused) → r ≡ granted_if b → r ≡ Err d → b ≡ false
put_denied true r d e f = let w : ◌≡◌ {A = ℕ} 0 1 = cc in let n : ⊥ = omega arith in absurd n
put_denied false r d e f = refl

module _ {V D : Type 0} (names : D → Stations) (z : RoundSizes) (m : Memory V D) (fits : fitting z m ≡ true) where
  module _ (p : ℕ) (w : V) where
    pub set_done : (home : List (HomePageOver V D)) (old : HomePageOver V D) → p < z.pages → length home ≡ length m.home →
        ((v : V) → pages_of names v m.home p ≡ page_meaning names old) →
        ((v : V) → pages_of names v home ≡ with_entry (pages_of names v m.home) p (page_meaning names (record { value = w; state = old.state }))) →
        CallAnswered {X = Unit {0}} names z m (memory home m.cells m.links m.queues) (Set p w) (λ _. WasSet p w) (Ok tt)
    set_done home old inside len read wrote =
        λ v.
        let after = meaning names (plain z) v (memory home m.cells m.links m.queues) in
        let same : with_value p w (meaning names (plain z) v m) ≡ after =
        λ i.
        record {
          home = sym (wrote v ∙ ap (λ x. with_entry (pages_of names v m.home) p (page w x.state)) (sym (read v))) i;
          cell = after.cell;
          lane = after.lane;
          queue = after.queue;
          extents = record {
            pages = sym len i;
            cells = after.extents.cells;
            stations = after.extents.stations;
            room = after.extents.room;
            rows = after.extents.rows;
            places = after.extents.places;
          };
        } in
        ((fit_extents z m (fit z m fits), (inside, tt)), subst (Does (plain z) (meaning names (plain z) v m) (WasSet p w)) same sets)

  module _ (s : ℕ) (x : Instruction V) where
    module _ (served : s < z.stations) where
      -- a put is denied exactly where eight wait
      can_put_lem : length (m.queues.row s) < places → can_put m.queues s ≡ true
      can_put_lem h =
          let f = fit z m fits in
          let rows = f.rows in
          let places' = f.places' in
          let a : s < m.queues.rows = omega arith in
          let b : length (m.queues.row s) < m.queues.places = omega arith in
          and_from _ _ (lt-ltb _ _ a) (lt-ltb _ _ b)

      has_place : can_put m.queues s ≡ true → length (m.queues.row s) < places
      has_place e = let f = fit z m fits in let p = f.places' in let h : length (m.queues.row s) < m.queues.places = ltb-true _ _ (and_parts (ltb s m.queues.rows) _ e).1 in omega arith

      pub issue_full : (queues : RowsView (Instruction V)) → x.page < z.pages → can_put m.queues s ≡ false → queues ≡ after_put m.queues s x → CallAnswered {X = Unit {0}} names z m (memory m.home m.cells m.links queues) (Issue s x) (λ _. Issued s x) (Err FullQueue)
      issue_full queues inside full put = ((λ i. memory m.home m.cells m.links ((put ∙ cond-false _ _ _ full) i)), λ v. inr (fit_extents z m (fit z m fits), inr (served, inr (inside, inl ((λ h. true≢false (sym (can_put_lem h) ∙ full)), refl)))))

      row_put : (l : List (Instruction V)) (t : ℕ) → with_entry m.queues.row s l t ≡ changed m.queues.row s l t
      unfolding with_entry changed
      row_put l t = refl

      pub issue_done : (queues : RowsView (Instruction V)) → x.page < z.pages → can_put m.queues s ≡ true → queues ≡ after_put m.queues s x → CallAnswered {X = Unit {0}} names z m (memory m.home m.cells m.links queues) (Issue s x) (λ _. Issued s x) (Ok tt)
      issue_done queues inside can put =
          let put' = put ∙ cond-true _ _ _ can in
          λ v.
          let after = meaning names (plain z) v (memory m.home m.cells m.links queues) in
          let same : with_instruction s x (meaning names (plain z) v m) ≡ after =
          λ i.
          record {
            home = after.home;
            cell = after.cell;
            lane = after.lane;
            queue = (fun_ext (row_put _) ∙ sym (ap (λ q. q.row) put')) i;
            extents = record {
              pages = after.extents.pages;
              cells = after.extents.cells;
              stations = after.extents.stations;
              room = after.extents.room;
              rows = sym (ap (λ q. q.rows) put') i;
              places = sym (ap (λ q. q.places) put') i;
            };
          } in
          ((fit_extents z m (fit z m fits), (served, (inside, (has_place can, tt)))), subst (Does (plain z) (meaning names (plain z) v m) (Issued s x)) same issues)

  -- a put and its answer as the call gives it
  pub issued : (s : ℕ) (x : Instruction V) (served : s < z.stations) (queues : RowsView (Instruction V)) (put : Result (Unit {0}) Refused) (r : Result (Unit {0}) Refusal) → x.page < z.pages → put ≡ granted_if (can_put m.queues s) → queues ≡ after_put m.queues s x → MatchResult put (λ y. r ≡ Ok y) (λ _. r ≡ Err FullQueue) → CallAnswered {X = Unit {0}} names z m (memory m.home m.cells m.links queues) (Issue s x) (λ _. Issued s x) r
  issued s x served queues (Ok tt) r inside e after is = subst (CallAnswered {X = Unit {0}} names z m (memory m.home m.cells m.links queues) (Issue s x) (λ _. Issued s x)) (sym is) (issue_done s x served queues inside (put_granted _ _ e refl) after)
  issued s x served queues (Err d) r inside e after is = subst (CallAnswered {X = Unit {0}} names z m (memory m.home m.cells m.links queues) (Issue s x) (λ _. Issued s x)) (sym is) (issue_full s x served queues inside (put_denied _ _ d e refl) after)

  -- close
  pub close_unfinished : (((s : ℕ) → m.queues.row s ≡ []) × ((lane : Lane) (s : ℕ) → m.links.waiting lane s ≡ []) → ⊥) → CallAnswered {X = Unit {0}} names z m m Close (λ _. WasClosed) (Err Unfinished)
  close_unfinished busy = (refl, λ v. inr (fit_extents z m (fit z m fits), inl (busy, refl)))

  pub close_done : ((s : ℕ) → m.queues.row s ≡ []) × ((lane : Lane) (s : ℕ) → m.links.waiting lane s ≡ []) → CallAnswered {X = Unit {0}} names z m m Close (λ _. WasClosed) (Ok tt)
  close_done idle = λ v. ((fit_extents z m (fit z m fits), (idle, tt)), closes)

  -- readout
  module _ (p : ℕ) where
    pub readout_off : z.pages ≤ p → CallAnswered {X = V} names z m m (Readout p) (λ w. ReadOut p w) (Err Page)
    readout_off far = (refl, λ v. inr (fit_extents z m (fit z m fits), inl ((λ h. let n : ⊥ = omega arith in n), refl)))

    pub readout_found : (r : Option V) → p < z.pages → LowestWriter (λ s. cells_of z.stations z.pages m.cells s p) r → (w : V) → r ≡ Some w → CallAnswered {X = V} names z m m (Readout p) (λ u. ReadOut p u) (Ok w)
    readout_found r inside lowest w e =
        let found = MatchOption-at_some _ _ w e lowest in
        λ v. ((fit_extents z m (fit z m fits), (inside, tt)), reads_out (inl (found.0, (found.1, λ t u h. found.2 t h u))))

    pub readout_home : (r : Option V) (h : HomePageOver V D) → p < z.pages → LowestWriter (λ s. cells_of z.stations z.pages m.cells s p) r → r ≡ None → ((v : V) → pages_of names v m.home p ≡ page_meaning names h) → CallAnswered {X = V} names z m m (Readout p) (λ u. ReadOut p u) (Ok h.value)
    readout_home r h inside lowest e read =
        let none-writes = MatchOption-at_none _ _ e lowest in
        λ v. ((fit_extents z m (fit z m fits), (inside, tt)), reads_out (inr (none-writes, ap (λ x. x.value) (read v))))

-- prepare
prepared_so : {V D : Type 0} (names : D → Stations) (z : RoundSizes) (v : V) (m : Memory V D) (home : List (HomePageOver V D)) (cells : List (CellRecord V)) → fitting z m ≡ true →
    ((s : ℕ) → m.queues.row s ≡ []) × ((lane : Lane) (s : ℕ) → m.links.waiting lane s ≡ []) → length home ≡ length m.home → length cells ≡ length m.cells →
    ((q : ℕ) → pages_of names v home q ≡ page v (R nobody)) → ((n pages s p : ℕ) → cells_of n pages cells s p ≡ none) →
    PrepareAnswered names (plain z) v m (memory home cells m.links m.queues) (Ok z)
prepared_so names z v m home cells fits idle a b pages-are cells_are =
    let f = fit z m fits in
    let same : meaning names (plain z) v (memory home cells m.links m.queues) ≡ opening (plain z) v =
    λ i.
    record {
      home = fun_ext pages-are i;
      cell = λ s p. cells_are z.stations z.pages s p i;
      lane = λ lane s. idle.1 lane s i;
      queue = λ s. idle.0 s i;
      extents = record {
        pages = (a ∙ f.home) i;
        cells = (b ∙ f.cells) i;
        stations = f.count i;
        room = f.room i;
        rows = f.rows i;
        places = f.places' i;
      };
    } in
    (refl, ((z.manned, z.few), ((z.paged, z.short), ((z.roomy, z.narrow), ((fit_extents z m f, idle), tt)))), same)

pub prepared : {V D : Type 0} (names : D → Stations) (sizes : Sizes) (z : RoundSizes) (v : V) (m : Memory V D) (home : List (HomePageOver V D)) (cells : List (CellRecord V)) → plain z ≡ sizes → fitting z m ≡ true →
    ((s : ℕ) → m.queues.row s ≡ []) × ((lane : Lane) (s : ℕ) → m.links.waiting lane s ≡ []) → length home ≡ length m.home → length cells ≡ length m.cells →
    ((q : ℕ) → pages_of names v home q ≡ page v (R nobody)) → ((n pages s p : ℕ) → cells_of n pages cells s p ≡ none) →
    PrepareAnswered names sizes v m (memory home cells m.links m.queues) (Ok z)
prepared names sizes z v m home cells e fits idle a b pages-are cells_are =
    subst (λ x. PrepareAnswered names x v m (memory home cells m.links m.queues) (Ok z)) e (prepared_so names z v m home cells fits idle a b pages-are cells_are)

-- What the calls of a table do to the lanes of any list of messages. Assumes nothing.
use Rattle.std.proofs.Common.{◌≡◌, ℕ, ◌*◌, ◌<◌, ◌≤◌, Bool, true, false, cond, leb, List, length, get_or, set, Some, None, sym, refl, ap, ◌∙◌, ⊎_elim, arith}
use Rattle.std.specs.List.{slice_get}
use Rattle.std.proofs.lemmas.Bool.{cond-true, cond-false, cases_Bool, le-leb, leb-true}
use Rattle.std.proofs.lemmas.List.{length-set}
use Rattle.std.proofs.lemmas.Result.{err_from_is_err_and}
use Rattle.queues.specs.View.{RowsView, with_row, can_put, can_drop, after_drop, empty_rows}
use Rattle.queues.specs.Places.{places_of, places_in, view_in, Taken, NotTaken}
use Rattle.queues.specs.declared.table.Table.{Table}
use Rattle.queues.proofs.Entries.{waiting_view, oldest_inside, oldest_view, oldest_none, can_put_view, can_drop_view, put_view, denied_view, drop_view}
use Rattle.links.specs.declared.lane.Lane.{Lane}
use Rattle.links.specs.View.{has_space, sent, some_wait, dropped}
use Rattle.links.specs.Lanes.{row_of, lanes_of}
use Rattle.links.specs.Slots.{served}
use Rattle.links.proofs.Slots.{slots_length}
use Rattle.links.proofs.Lanes.{none_some, row_out, list_is, can_send, send_lanes, can_drop_lem, drop_lanes}

-- how many rows are served
module _ {X : Type 0} (xs : List X) (t : Table) where
  pub rows_counted : (many : ℕ) → many ≡ length xs → (places_in many t).rows ≡ (served xs t).rows
  rows_counted many e = ap (λ n. (places_in n t).rows) e ∙ by_test (leb (t.rows * t.places) (length xs))
    where
      by_test : (test : Bool) → (cond test (places_of t) (empty_rows 0 t.places)).rows ≡ (cond test (view_in xs t) (empty_rows 0 t.places)).rows
      by_test true = refl
      by_test false = refl

-- a table whose places all lie among the messages
pub served_whole : {X : Type 0} (xs : List X) (t : Table) (many : ℕ) → many ≡ length xs → t.rows * t.places ≤ many → served xs t ≡ view_in xs t
served_whole xs t many e h = cond-true _ _ _ (le-leb (t.rows * t.places) (length xs) (omega arith))

-- a table over the messages `xs`, `n` of whose rows are served, and a lane
module _ {X : Type 0} (xs : List X) (t : Table) (lane : Lane) (s n : ℕ) (served_rows : n ≡ (served xs t).rows) where
  -- a lane that has the row `row`: so all rows are served
  module _ (row : ℕ) (e : Some row ≡ row_of n lane s) where
    enough : t.rows * t.places ≤ length xs
    enough =
        ⊎_elim
        (λ all. leb-true _ _ all)
        (λ few. none_some (sym (e ∙ ap (λ rows. row_of rows lane s) (served_rows ∙ ap (λ (v : RowsView X). v.rows) (cond-false _ _ _ few)) ∙ row_out 0 lane s (omega arith))))
        (cases_Bool (leb (t.rows * t.places) (length xs)))

    all_served : served xs t ≡ view_in xs t
    all_served = served_whole xs t (length xs) refl enough

    row_there : Some row ≡ row_of t.rows lane s
    row_there = e ∙ ap (λ rows. row_of rows lane s) (served_rows ∙ ap (λ (v : RowsView X). v.rows) all_served)

    pub lane_waiting : length ((places_of t).row row) ≡ length ((lanes_of (served xs t)).waiting lane s)
    lane_waiting =
        waiting_view xs t enough row
        ∙ ap length (list_is (view_in xs t) lane s row row_there)
        ∙ sym (ap (λ (v : RowsView X). length ((lanes_of v).waiting lane s)) all_served)

    pub lane_inside : (place : ℕ) → Some place ≡ slice_get ((places_of t).row row) 0 → place < length xs
    lane_inside place p = oldest_inside xs t enough row place p

    pub lane_oldest : (place : ℕ) (x : X) → Some place ≡ slice_get ((places_of t).row row) 0 → x ≡ get_or xs place x → Some x ≡ slice_get ((lanes_of (served xs t)).waiting lane s) 0
    lane_oldest place x p f =
        oldest_view xs t enough row place x p f
        ∙ ap (λ list. slice_get list 0) (list_is (view_in xs t) lane s row row_there)
        ∙ sym (ap (λ (v : RowsView X). slice_get ((lanes_of v).waiting lane s) 0) all_served)

    pub lane_none : None ≡ slice_get ((places_of t).row row) 0 → None ≡ slice_get ((lanes_of (served xs t)).waiting lane s) 0
    lane_none p =
        oldest_none xs t enough row p
        ∙ ap (λ list. slice_get list 0) (list_is (view_in xs t) lane s row row_there)
        ∙ sym (ap (λ (v : RowsView X). slice_get ((lanes_of v).waiting lane s) 0) all_served)

    pub lane_can_send : can_put (places_of t) row ≡ has_space (lanes_of (served xs t)) lane s
    lane_can_send =
        can_put_view xs t enough row
        ∙ can_send (view_in xs t) lane s row row_there
        ∙ sym (ap (λ (v : RowsView X). has_space (lanes_of v) lane s) all_served)

    pub lane_can_drop : can_drop (places_of t) row ≡ some_wait (lanes_of (served xs t)) lane s
    lane_can_drop =
        can_drop_view xs t enough row
        ∙ can_drop_lem (view_in xs t) lane s row row_there
        ∙ sym (ap (λ (v : RowsView X). some_wait (lanes_of v) lane s) all_served)

    -- a table with as many rows and places, over as many messages
    module _ (t' : Table) where
      still_served : (ys : List X) → t'.rows ≡ t.rows → t'.places ≡ t.places → length ys ≡ length xs → served ys t' ≡ view_in ys t'
      still_served ys rows places long =
          let same : t'.rows * t'.places ≡ t.rows * t.places = λ i. rows i * places i in
          let h = enough in
          served_whole ys t' (length ys) refl (omega arith)

      pub lane_place : (place : ℕ) → Taken row place (places_of t) (places_of t') → place < length xs
      lane_place place k = let h = enough in omega (arith, k.inside)

      pub lane_sent : (place : ℕ) (x : X) (ys : List X) → ys ≡ set xs place x → Taken row place (places_of t) (places_of t') → lanes_of (served ys t') ≡ sent (lanes_of (served xs t)) lane s x
      lane_sent place x ys w k =
          let after : places_of t' ≡ with_row (places_of t) row _ = k.newest ∙ cond-true _ _ _ k.room in
          ap lanes_of (still_served ys (ap (λ (v : RowsView ℕ). v.rows) after) (ap (λ (v : RowsView ℕ). v.places) after) (ap length w ∙ length-set xs place x))
          ∙ send_lanes (view_in xs t) lane s row row_there (view_in ys t') x (put_view xs t enough row t' place x ys w k)
          ∙ sym (ap (λ (v : RowsView X). sent (lanes_of v) lane s x) all_served)

      pub lane_full : (x : X) → NotTaken row (places_of t) (places_of t') → lanes_of (served xs t') ≡ sent (lanes_of (served xs t)) lane s x
      lane_full x k =
          ap lanes_of (still_served xs (ap (λ (v : RowsView ℕ). v.rows) k.same) (ap (λ (v : RowsView ℕ). v.places) k.same) refl)
          ∙ send_lanes (view_in xs t) lane s row row_there (view_in xs t') x (denied_view xs t enough row t' x k)
          ∙ sym (ap (λ (v : RowsView X). sent (lanes_of v) lane s x) all_served)

      pub lane_dropped : places_of t' ≡ after_drop (places_of t) row → lanes_of (served xs t') ≡ dropped (lanes_of (served xs t)) lane s
      lane_dropped k =
          ap lanes_of (still_served xs (ap (λ (v : RowsView ℕ). v.rows) k ∙ (drop_sizes (can_drop (places_of t) row) _).0) (ap (λ (v : RowsView ℕ). v.places) k ∙ (drop_sizes (can_drop (places_of t) row) _).1) refl)
          ∙ drop_lanes (view_in xs t) lane s row row_there (view_in xs t') (drop_view xs t enough row t' k)
          ∙ sym (ap (λ (v : RowsView X). dropped (lanes_of v) lane s) all_served)
        where
          drop_sizes : (test : Bool) (list : List ℕ) → ((cond test (with_row (places_of t) row list) (places_of t)).rows ≡ t.rows) × ((cond test (with_row (places_of t) row list) (places_of t)).places ≡ t.places)
          drop_sizes true list = (refl, refl)
          drop_sizes false list = (refl, refl)

-- what the calls of byte links stand on
pub ruleset rows_served = (rows_counted, slots_length)

pub ruleset lane_waits = (lane_waiting)

pub ruleset lane_oldests = (lane_oldest, lane_none, lane_inside)

pub ruleset lane_sends = (lane_can_send, lane_sent, lane_full, lane_place, err_from_is_err_and)

pub ruleset lane_drops = (lane_can_drop, lane_dropped)

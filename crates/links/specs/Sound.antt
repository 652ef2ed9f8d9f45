-- The proof that links over any table are sound, which they give as their `sound`. Assumes nothing.
use Rattle.std.proofs.Common.{ℕ, ◌*◌, ◌≤◌, Bool, true, false, cond, refl, ap, arith}
use Rattle.std.specs.Prelude.{◌/◌, List, length, Some, None, Option, nat_le}
use Rattle.std.proofs.lemmas.Bool.{cond-false, le-ltb}
use Rattle.queues.specs.View.{RowsView, empty_rows}
use Rattle.queues.specs.Places.{view_in}
use Rattle.queues.specs.declared.table.Table.{Table}
use Rattle.queues.proofs.Entries.{Sound as SoundRows, view_sound}
use Rattle.links.specs.View.{Sound}
use Rattle.links.specs.Lanes.{row_of, row_list, lanes_of}
use Rattle.links.specs.Slots.{served}

list_fits : {X : Type 0} (v : RowsView X) → SoundRows v → (row : Option ℕ) → length (row_list v row) ≤ v.places
list_fits v s None = omega arith
list_fits v s (Some r) = s.fits r

pub sound_lanes : {X : Type 0} (v : RowsView X) → SoundRows v → Sound (lanes_of v)
sound_lanes v s =
    record {
      few = let h = s.few in omega arith;
      narrow = s.narrow;
      fits = λ lane station. list_fits v s (row_of v.rows lane station);
      missing = λ lane station h. ap (row_list v) (cond-false _ _ _ (le-ltb station (v.rows / 3) h));
    }

pub table_sound : {X : Type 0} (entries : List X) (t : Table) → Sound (lanes_of (view_in entries t))
table_sound entries t = sound_lanes (view_in entries t) (view_sound entries t)

pub served_sound : {X : Type 0} (entries : List X) (t : Table) → Sound (lanes_of (served entries t))
served_sound {X} entries t = by_test (nat_le (t.rows * t.places) (length entries))
  where
    no_rows : SoundRows {X = X} (empty_rows 0 t.places)
    no_rows = record { few = omega arith; narrow = t.narrow; fits = λ row. omega arith; missing = λ row h. refl }

    by_test : (test : Bool) → Sound (lanes_of {X = X} (cond test (view_in entries t) (empty_rows 0 t.places)))
    by_test true = table_sound entries t
    by_test false = sound_lanes (empty_rows 0 t.places) no_rows

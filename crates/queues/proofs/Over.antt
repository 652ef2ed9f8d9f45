-- What a table's calls over so many entries stand on. Assumes nothing.
use Rattle.std.proofs.Common.{◌≡◌, ℕ, ◌*◌, ◌≤◌, leb, [], ap, ◌∙◌, ⊎_elim, arith}
use Rattle.std.proofs.lemmas.Bool.{cond-true, cond-false, cases_Bool}
use Rattle.queues.specs.View.{RowsView, empty_rows}
use Rattle.queues.specs.Places.{places_of, places_in}
use Rattle.queues.specs.declared.table.Table.{Table}
use Rattle.queues.proofs.Tables.{row_missing}

-- in a row past the last of those that there are over so many entries nothing waits
pub over_missing : (entries : ℕ) (t : Table) (row : ℕ) → (places_in entries t).rows ≤ row → (places_in entries t).row row ≡ []
over_missing entries t row h =
    ⊎_elim
    (λ all.
    let same = cond-true _ (places_of t) (empty_rows 0 t.places) all in
    let rows : (places_in entries t).rows ≡ t.rows = ap (λ (v : RowsView ℕ). v.rows) same in
    ap (λ (v : RowsView ℕ). v.row row) same ∙ row_missing t row (omega arith))
    (λ few. ap (λ (v : RowsView ℕ). v.row row) (cond-false _ (places_of t) (empty_rows 0 t.places) few))
    (cases_Bool (leb (t.rows * t.places) entries))

use Rattle.std.proofs.Common.{◌≡◌, Some, None, ap, ◌∙◌, arith}
use Rattle.std.proofs.lemmas.Result.{err_from_is_err_and}
use Rattle.queues.specs.Positions.{next_column}
use Rattle.queues.specs.declared.table.Table.{Table}
use Rattle.queues.proofs.Tables.{taken, row_full}
use Rattle.queues.proofs.table.Table.take_next.Goals as goal

pub returns-in_err-column : goal.returns-in_err-column
returns-in_err-column c =
    let t : Table = c.args.self.now in
    let none : None ≡ c.next_column.result = grind arith in
    let err = err_from_is_err_and c.from_residual.result c.from_residual.ensures.1 in
    rw err.1 (row_full t c.args.row (none ∙ c.next_column.ensures ∙ ap (next_column t.places) c.position.ensures.is))

pub returns : goal.returns
returns c =
    let t : Table = c.args.self.now in
    let some : Some c.in_ok-column.column ≡ c.next_column.result = grind arith in
    taken t c.args.row (omega arith) c.grow.new.self c.in_ok-column.column c.place.result (some ∙ c.next_column.ensures ∙ ap (next_column t.places) c.position.ensures.is)
    c.place.ensures c.grow.ensures.oldest c.grow.ensures.waiting

use Rattle.std.proofs.Common.{ap, ◌∙◌}
use Rattle.queues.specs.Positions.{oldest_column}
use Rattle.queues.proofs.Tables.{oldest_is}
use Rattle.queues.proofs.table.Table.oldest.Goals as goal

pub returns : goal.returns
returns c =
    oldest_is c.args.self.now c.args.row c.in_ok-column.column c.place.result (c.in_ok-column.ensures ∙ ap oldest_column c.position.ensures.is) c.place.ensures

use Rattle.std.proofs.Common.{◌≡◌, rules}
use Rattle.queues.specs.Positions.{position_of, position_in}
use Rattle.queues.specs.declared.table.Table.{Table}
use Rattle.queues.proofs.Tables.{waiting_of}
use Rattle.queues.proofs.table.Table.position.Goals as goal

pub returns-then-row-self-clause-count : goal.returns-then-row-self-clause-count
returns-then-row-self-clause-count c =
    let t : Table = c.args.self.now in
    let is : position_of t.positions c.args.row ≡ position_in t.rows t.positions c.args.row = search rules in
    waiting_of t.rows t.places t.positions c.args.row _ is

pub returns-else-row-self-clause-count : goal.returns-else-row-self-clause-count
returns-else-row-self-clause-count c =
    let t : Table = c.args.self.now in
    let is : c.empty.result ≡ position_in t.rows t.positions c.args.row = search rules in
    waiting_of t.rows t.places t.positions c.args.row _ is

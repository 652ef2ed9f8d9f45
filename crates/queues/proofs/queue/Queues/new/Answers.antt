use Rattle.queues.proofs.Entries.{made_view}
use Rattle.queues.proofs.queue.Queues.new.Goals as goal

pub returns : goal.returns
returns g c = made_view c.args.entries.now _ c.new-table.result c.args.rows c.args.places c.new-table.ensures.made

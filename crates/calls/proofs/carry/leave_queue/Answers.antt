use Rattle.calls.proofs.Carrying.{row_left, row_stays}
use Rattle.calls.proofs.carry.leave_queue.Goals as goal

pub returns-then-leaves : goal.returns-then-leaves
returns-then-leaves g c = row_left _ c.args.station _ c.args.leaves c.if-leaves.true c.drop_oldest.ensures.after

pub returns-else-leaves : goal.returns-else-leaves
returns-else-leaves g c = row_stays _ c.args.station c.args.leaves c.if-leaves.false

use Rattle.calls.proofs.Sending.{left_by_drop, left_not}
use Rattle.calls.proofs.lanes.leave.Goals as goal

pub returns-then-leaves : goal.returns-then-leaves
returns-then-leaves g c = left_by_drop _ c.args.from c.args.station _ c.args.leaves c.if-leaves.true c.drop_oldest.ensures.after

pub returns-else-leaves : goal.returns-else-leaves
returns-else-leaves g c = left_not _ c.args.from c.args.station c.args.leaves c.if-leaves.false

use Rattle.std.proofs.Common.{◌≡◌, Some, arith}
use Rattle.queues.specs.Places.{view_of}
use Rattle.links.specs.Lanes.{row_of}
use Rattle.links.proofs.Lanes.{drop_lanes}
use Rattle.links.proofs.record.QueuesMessageLinksMessage.drop_oldest.Goals as goal

pub returns-clause-after : goal.returns-clause-after
returns-clause-after g c =
    let row : Some c.in_ok-row.row ≡ row_of (view_of c.args.self.now).rows c.args.lane c.args.station = grind arith in
    drop_lanes (view_of c.args.self.now) c.args.lane c.args.station c.in_ok-row.row row _ c.drop_oldest.ensures.after

use Rattle.std.proofs.Common.{ap}
use Rattle.protocol.specs.Machines.{sends_meaning}
use Rattle.calls.proofs.Sending.{down_none, down_one}
use Rattle.calls.proofs.lanes.send_down.Goals as goal

pub returns-in-Nothing : goal.returns-in-Nothing
returns-in-Nothing g c = down_none _ c.args.page _ (ap (sends_meaning g.D.Register.names) c.in-Nothing.is)

pub returns-in-To : goal.returns-in-To
returns-in-To g c = down_one _ c.args.page _ _ c.in-To.station c.in-To.kind (ap (sends_meaning g.D.Register.names) c.in-To.is) c.requires c.send.ensures.after

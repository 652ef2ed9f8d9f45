use Rattle.calls.proofs.Sending.{up_one, up_none}
use Rattle.calls.proofs.lanes.send_up.Goals as goal

pub returns-in-Some : goal.returns-in-Some
returns-in-Some g c = up_one _ c.args.lane c.args.station c.args.page c.args.sends _ c.in-Some.kind c.in-Some.is c.requires c.send.ensures.after

pub returns-in_default : goal.returns-in_default
returns-in_default g c = up_none _ c.args.lane c.args.station c.args.page c.args.sends c.in_default.is

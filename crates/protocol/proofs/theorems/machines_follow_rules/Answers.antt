use Rattle.protocol.proofs.Machines.{follow}
use Rattle.protocol.proofs.theorems.machines_follow_rules.Goals as goal

pub returns : goal.returns
returns g c = follow _

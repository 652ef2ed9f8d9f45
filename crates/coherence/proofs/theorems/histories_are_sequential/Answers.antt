use Rattle.coherence.proofs.Operations.{histories_are_sequential_lem}
use Rattle.coherence.proofs.theorems.histories_are_sequential.Goals as goal

pub returns : goal.returns
returns g c = histories_are_sequential_lem _

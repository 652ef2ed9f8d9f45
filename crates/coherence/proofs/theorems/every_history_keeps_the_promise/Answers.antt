use Rattle.coherence.proofs.Runs.{every_history_lem}
use Rattle.coherence.proofs.theorems.every_history_keeps_the_promise.Goals as goal

pub returns : goal.returns
returns g c = every_history_lem _

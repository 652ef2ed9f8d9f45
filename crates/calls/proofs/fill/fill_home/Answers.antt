use Rattle.std.proofs.Common.{rules}
use Rattle.calls.proofs.Fills.{pages_filled}
use Rattle.calls.proofs.fill.fill_home.Goals as goal

pub returns : goal.returns
returns g c = pages_filled g.D.Register.names c.args.value _ _ (λ x h r. search rules) _ c.fill_with.ensures.ran.0 c.fill_with.ensures.ran.1

use Rattle.links.proofs.InOrder.{in_order}
use Rattle.links.proofs.order.first_in_first_out.Goals as goal

pub returns : goal.returns
returns g c = in_order

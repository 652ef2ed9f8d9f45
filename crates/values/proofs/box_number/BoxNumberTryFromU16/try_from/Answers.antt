use Rattle.std.proofs.Common.{sym, ap}
use Rattle.std.specs.Option.{ok_or}
use Rattle.values.specs.Boxes.{box_some}
use Rattle.values.proofs.box_number.BoxNumberTryFromU16.try_from.Goals as goal

pub returns-then-contains : goal.returns-then-contains
returns-then-contains c = sym (ap (λ found. ok_or found (record { number = c.args.number })) (box_some _))

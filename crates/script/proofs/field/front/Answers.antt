use Rattle.std.proofs.Common.{refl}
use Rattle.script.proofs.Fronts.{body_cut}
use Rattle.script.proofs.field.front.Goals as goal

pub returns-in-None-clause-fault : goal.returns-in-None-clause-fault
returns-in-None-clause-fault c =
    rw c.at-in-None.ensures
    (refl, (c.if-left-lt-HEADER.false, body_cut c.args.left.now (λ i. (c.type_inv.left i).fits) c.if-left-lt-HEADER.false (λ tag body rest is. c.in-None.ensures (tag, body, rest) is)))

use Rattle.std.proofs.Common.{refl, ap, arith}
use Rattle.queues.specs.declared.position.Position.{Position}
use Rattle.queues.proofs.Tables.{fresh_is}
use Rattle.queues.proofs.table.Table.empty.Goals as goal

pub invariant_of-result : goal.invariant_of-result
invariant_of-result c =
    record {
      few = c.requires.few;
      narrow = c.requires.narrow;
      sized = refl;
      oldest_within = λ row. omega (arith, ap (λ (p : Position). p.oldest) (fresh_is c.empty.result c.empty.ensures row));
      waiting_within = λ row. omega (arith, ap (λ (p : Position). p.waiting) (fresh_is c.empty.result c.empty.ensures row));
    }

use Rattle.std.proofs.Common.{eqb, rules, tests}
use Rattle.std.proofs.lemmas.Iterator.Consumers.{YieldsList-from_first}
use Rattle.std.proofs.lemmas.Iterator.Search.{any_from_yields_List}
use Rattle.registers.specs.Packed.{numbers, in_list}
use Rattle.registers.proofs.packed.PackedRegisterRegister.names.Goals as goal

pub returns : goal.returns
unfolding in_list
returns c =
    any_from_yields_List (λ number. eqb number c.args.station) _ _ _ c.any.ensures.ran (YieldsList-from_first (λ number. number) (λ left. numbers left.count left.list) _ c.numbers.ensures) (λ x b q k. search (rules, tests))

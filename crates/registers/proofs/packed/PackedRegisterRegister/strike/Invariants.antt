use Rattle.std.proofs.Common.{◌≡◌}
use Rattle.registers.specs.Sets.{without}
use Rattle.registers.specs.Packed.{numbers, in_list}
use Rattle.registers.proofs.Listed.{copied}
use Rattle.registers.proofs.packed.PackedRegisterRegister.strike.Given as goal

-- what is to be named is named already or is still to come
abbrev pub invariant-loop-number : goal.invariant-loop-number
invariant-loop-number l =
    copied (in_list l.copy.count l.copy.list) (numbers l.number-iterator.count l.number-iterator.list) l.station ≡ without (in_list l.fn.self.count l.fn.self.list) l.station

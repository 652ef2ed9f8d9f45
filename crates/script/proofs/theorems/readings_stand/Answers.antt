use Rattle.script.proofs.Readings.{one_thing, read_back}
use Rattle.script.proofs.theorems.readings_stand.Goals as goal

pub returns : goal.returns
returns c = record { single = one_thing; back = read_back }

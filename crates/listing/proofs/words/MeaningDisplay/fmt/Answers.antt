use Rattle.std.specs.Fmt.{WritesOnOk}
use Rattle.listing.proofs.Said.{store_said}
use Rattle.listing.proofs.words.MeaningDisplay.fmt.Goals as goal

pub returns-in-Load-clause-writes : goal.returns-in-Load-clause-writes
returns-in-Load-clause-writes g c = rw c.in-Load.is c.write-in-Load.ensures.writes

pub returns-in-Store-clause-writes : goal.returns-in-Store-clause-writes
returns-in-Store-clause-writes g c =
    rw c.in-Store.is
    (store_said (λ text. WritesOnOk g.W.Write.write_str_gives c.args.f.now c.write-in-Store.result text c.write-in-Store.new.self) c.in-Store.station c.in-Store.page (g.V.Display.output c.in-Store.value) c.write-in-Store.ensures.writes)

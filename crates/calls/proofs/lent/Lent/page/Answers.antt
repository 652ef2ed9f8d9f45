use Rattle.std.proofs.Common.{ap, ◌∙◌, arith}
use Rattle.protocol.specs.Machines.{page_meaning}
use Rattle.calls.proofs.Writes.{page_at}
use Rattle.calls.proofs.lent.Lent.page.Goals as goal

pub returns : goal.returns
returns g c v =
    page_at g.D.Register.names v c.args.self.now.home.now c.args.page c.index-self-page.result (omega arith) c.index-self-page.is
    ∙ ap (page_meaning g.D.Register.names) c.index-self-page.is

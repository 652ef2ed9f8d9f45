use Rattle.std.proofs.Common.{ap, ◌∙◌, arith}
use Rattle.protocol.specs.Machines.{sends_meaning}
use Rattle.calls.specs.Lanes.{space_for_all}
use Rattle.calls.proofs.Carrying.{all_kept}
use Rattle.calls.proofs.Writes.{page_written}
use Rattle.calls.proofs.carry.home_does.Goals as goal

pub send_down-requires : goal.send_down-requires
send_down-requires g c =
    let sends = sends_meaning g.D.Register.names c.args.step.sends in
    ap (λ v. space_for_all v sends) c.leave.ensures
    ∙ all_kept (g.L.Links.view c.args.links.now) _ c.args.from c.args.station sends c.requires.above
    ∙ c.requires.space

pub returns-clause-home : goal.returns-clause-home
returns-clause-home g c v = page_written g.D.Register.names v c.args.home.now c.args.page c.args.step.page (omega arith)

use Rattle.std.proofs.Common.{◌≡◌, true, sym, refl, ap, ◌∙◌, subst}
use Rattle.links.specs.declared.lane.Lane.TheVariants.{Request, Reply, Down}
use Rattle.queues.specs.Places.{view_of}
use Rattle.calls.specs.Memory.{memory, meaning, plain}
use Rattle.calls.specs.Lanes.{space_to_send}
use Rattle.calls.specs.Plans.{plan_outcome, plan_space}
use Rattle.calls.proofs.Carrying.{send_kept, home_after}
use Rattle.calls.proofs.carry.carry_out.Goals as goal

pub station_does-requires-in-Receive-clause-space : goal.station_does-requires-in-Receive-clause-space
station_does-requires-in-Receive-clause-space g c =
    let v = g.L.Links.view c.args.links.now in
    let s = c.args.station in
    let sends = c.in-Receive.step.sends in
    ap (λ w. space_to_send w Reply s sends) c.leave.ensures
    ∙ send_kept v _ Down s Reply s sends refl
    ∙ subst (λ plan. plan_space g.D.Register.names v s plan ≡ true) c.in-Receive.is c.requires.space

pub returns-in-Collect-clause-after : goal.returns-in-Collect-clause-after
returns-in-Collect-clause-after g c v =
    let names = g.D.Register.names in
    let m = memory c.args.home.now c.args.cells.now (g.L.Links.view c.args.links.now) (view_of c.args.queues.now) in
    home_after names (plain c.args.sizes) v m c.args.station Reply c.in-Collect.page c.in-Collect.step c.home_does.new.home (g.L.Links.view c.home_does.new.links) (c.home_does.ensures.home v) c.home_does.auto.home c.home_does.ensures.links
    ∙ ap (λ plan. (plan_outcome names (meaning names (plain c.args.sizes) v m) c.args.station plan).after) (sym c.in-Collect.is)

pub returns-in-Serve-clause-after : goal.returns-in-Serve-clause-after
returns-in-Serve-clause-after g c v =
    let names = g.D.Register.names in
    let m = memory c.args.home.now c.args.cells.now (g.L.Links.view c.args.links.now) (view_of c.args.queues.now) in
    home_after names (plain c.args.sizes) v m c.args.station Request c.in-Serve.page c.in-Serve.step c.home_does-in-Serve.new.home (g.L.Links.view c.home_does-in-Serve.new.links) (c.home_does-in-Serve.ensures.home v) c.home_does-in-Serve.auto.home c.home_does-in-Serve.ensures.links
    ∙ ap (λ plan. (plan_outcome names (meaning names (plain c.args.sizes) v m) c.args.station plan).after) (sym c.in-Serve.is)

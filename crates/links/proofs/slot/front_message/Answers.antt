use Rattle.std.proofs.Common.{◌∙◌}
use Rattle.links.proofs.Fronts.{front_whole, front_rest}
use Rattle.links.proofs.slot.front_message.Goals as goal

pub returns-in-Some : goal.returns-in-Some
returns-in-Some g c = front_whole g.V.Value.bytes g.V.Value.reads g.V.Value.width g.met.V.Value.back g.met.V.Value.fixed c.args.slot.now c.requires c.in-Some.message c.in-Some.ensures

pub returns : goal.returns
returns g c =
    c.unwrap_or.ensures
    ∙ front_rest g.V.Value.bytes g.V.Value.reads g.V.Value.width g.met.V.Value.back g.met.V.Value.fixed c.args.slot.now c.requires c.in_default.ensures _ c.read-2.ensures

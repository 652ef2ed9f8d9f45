use Rattle.links.proofs.Slots.{part_long, slot_read}
use Rattle.links.proofs.slot.read_slot.Goals as goal

pub front_message-requires : goal.front_message-requires
front_message-requires g c = part_long g.V.Value.bytes g.V.Value.reads g.V.Value.width c.args.memory.now _ _ c.max_size-size.ensures c.requires

pub returns : goal.returns
returns g c = slot_read g.V.Value.bytes g.V.Value.reads g.V.Value.width c.args.memory.now c.args.place c.max_size-size.result c.max_size-size.ensures c.requires c.front_message.result c.front_message.ensures

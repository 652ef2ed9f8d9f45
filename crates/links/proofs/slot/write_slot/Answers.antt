use Rattle.std.proofs.Common.{sym, ◌∙◌}
use Rattle.links.proofs.Slots.{part_long, slot_written, written_front}
use Rattle.links.proofs.slot.write_slot.Goals as goal

pub returns : goal.returns
returns g c =
    let long = part_long g.V.Value.bytes g.V.Value.reads g.V.Value.width c.args.memory.now c.args.place c.max_size-size.result c.max_size-size.ensures c.requires in
    slot_written g.V.Value.bytes g.V.Value.reads g.V.Value.width c.args.memory.now c.args.place c.max_size-size.result c.max_size-size.ensures c.requires c.write.new.out c.args.message.now
    (c.write.auto.out ∙ long ∙ sym c.max_size-size.ensures)
    (written_front g.V.Value.bytes g.V.Value.reads g.V.Value.width g.met.V.Value.back g.met.V.Value.fixed _ c.write.new.out c.args.message.now long c.write.ensures.buffer)

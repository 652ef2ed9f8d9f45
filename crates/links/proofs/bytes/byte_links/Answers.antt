use Rattle.std.proofs.Common.{◌≡◌, ℕ, ◌*◌, ◌/◌, leb, List, length, ap, ◌∙◌, arith}
use Rattle.messages.specs.declared.message.Message.{Message}
use Rattle.messages.specs.Bytes.{max_size}
use Rattle.queues.specs.declared.table.Table.{Table}
use Rattle.queues.specs.Places.{view_in}
use Rattle.queues.proofs.Entries.{made_view}
use Rattle.links.specs.Lanes.{lanes_of}
use Rattle.links.specs.Slots.{slots}
use Rattle.links.proofs.Lanes.{made_lanes}
use Rattle.links.proofs.Slots.{slots_many, slots_fit}
use Rattle.links.proofs.Tabled.{served_whole}
use Rattle.links.proofs.bytes.byte_links.Goals as goal

enough : (stations room bytes width count : ℕ) → count ≡ bytes / max_size width → leb (stations * 3 * room) count ≡ leb (3 * stations * room * max_size width) bytes
enough stations room bytes width count e =
    let same : stations * 3 * room ≡ 3 * stations * room = omega arith in
    (λ i. leb (same i) (e i)) ∙ slots_fit (3 * stations * room) bytes (max_size width) (omega arith)

pub returns : goal.returns
returns g c =
    let xs : List (Message g.row.V.Denot) = slots g.V.Value.bytes g.V.Value.reads g.V.Value.width c.args.memory.now in
    let t : Table = c.new-table.result in
    let sizes : ℕ × ℕ = c.unwrap_or-rows.result in
    ap lanes_of (served_whole xs t c.slot_count.result (slots_many g.V.Value.bytes g.V.Value.reads g.V.Value.width c.args.memory.now _ c.slot_count.ensures) c.new-table.ensures.enough)
    ∙ made_lanes (view_in xs t) c.slot_count.result (length c.args.memory.now) (max_size g.V.Value.width) c.args.stations c.args.room c.sizes.result sizes
    (enough c.args.stations c.args.room (length c.args.memory.now) g.V.Value.width c.slot_count.result c.slot_count.ensures)
    c.sizes.ensures c.unwrap_or-rows.ensures
    (made_view xs c.slot_count.result t sizes.0 sizes.1 c.new-table.ensures.made)

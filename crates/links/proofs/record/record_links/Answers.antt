use Rattle.std.proofs.Common.{◌≡◌, ℕ, ◌*◌, leb, length, ap, arith}
use Rattle.queues.specs.Places.{view_of}
use Rattle.links.proofs.Lanes.{made_lanes}
use Rattle.links.proofs.record.record_links.Goals as goal

-- each message takes one place of the slice
of_one : (stations room n : ℕ) → leb (stations * 3 * room) n ≡ leb (3 * stations * room * 1) n
of_one stations room n = ap (λ k. leb k n) (let e : stations * 3 * room ≡ 3 * stations * room * 1 = omega arith in e)

pub returns : goal.returns
returns g c =
    made_lanes (view_of c.new.result) _ (length c.args.entries.now) 1 c.args.stations c.args.room c.sizes.result c.unwrap_or-rows.result (of_one c.args.stations c.args.room _)
    c.sizes.ensures c.unwrap_or-rows.ensures
    c.new.ensures

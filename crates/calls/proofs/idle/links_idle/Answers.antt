use Rattle.std.proofs.Common.{◌≡◌, [], refl, rules}
use borrow.Author.Tests.{tests}
use Rattle.links.specs.declared.lane.Lane.{Lane}
use Rattle.calls.proofs.Ranges.{all_below}
use Rattle.calls.proofs.Waits.{lanes_idle}
use Rattle.calls.proofs.idle.links_idle.Goals as goal

pub returns : goal.returns
returns g c =
    let v = g.L.Links.view c.args.links.now in
    lanes_idle v c.all.result (g.L.Links.sound c.args.links.now)
    (all_below v.count (λ s. (lane : Lane) → v.waiting lane s ≡ []) (λ s. ((lane : Lane) → v.waiting lane s ≡ []) → ⊥) c.count.result c.all.result refl c.count.ensures c.all.ensures.ran (λ x q k. search (rules, tests)) (λ x q k. search (rules, tests)))

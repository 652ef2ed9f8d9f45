use Rattle.std.proofs.Common.{◌≡◌, true, false, refl, rules}
use borrow.Author.Tests.{tests}
use Rattle.registers.specs.Sets.{station_limit}
use Rattle.links.specs.declared.lane.Lane.TheVariants.{Down}
use Rattle.links.specs.View.{has_space}
use Rattle.calls.proofs.Ranges.{all_below}
use Rattle.calls.proofs.Sending.{space_decided}
use Rattle.calls.proofs.lanes.all_space.Goals as goal

pub returns : goal.returns
returns g c =
    let v = g.L.Links.view c.args.links.now in
    let set = g.D.Register.names c.args.set in
    space_decided v set station_limit c.all.result
    (all_below station_limit (λ k. set k ≡ true → has_space v Down k ≡ true) (λ k. (set k ≡ true) × (has_space v Down k ≡ false)) station_limit c.all.result refl refl c.all.ensures.ran (λ x q k. search (rules, tests)) (λ x q k. search (rules, tests)))

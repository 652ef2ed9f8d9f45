use Rattle.std.proofs.Common.{◌≡◌, [], ◌∷◌, rules}
use Rattle.std.proofs.lemmas.List.{nil_from_length}
use borrow.Author.Tests.{tests}
use Rattle.std.proofs.lemmas.Iterator.{YieldsList-from_slice, cases_from_all}
use Rattle.links.specs.declared.lane.Lane.TheVariants.{Request, Reply, Down}
use Rattle.calls.proofs.Waits.{some_if_longer, lanes_decide}
use Rattle.calls.proofs.idle.lanes_idle.Goals as goal

pub returns : goal.returns
returns g c =
    let v = g.L.Links.view c.args.links.now in
    let s = c.args.station in
    lanes_decide (λ lane. v.waiting lane s) c.all.result
    (cases_from_all _ _ _ (λ lane. v.waiting lane s ≡ []) (λ lane. v.waiting lane s ≡ [] → ⊥) c.all.ensures.ran (YieldsList-from_slice (Request ∷ Reply ∷ Down ∷ []) c.iter.ensures.rest) (λ x q k. search (rules, tests, nil_from_length)) (λ x q k. search (rules, tests, some_if_longer)))

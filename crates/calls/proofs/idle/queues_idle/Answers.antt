use Rattle.std.proofs.Common.{◌≡◌, [], refl, rules}
use Rattle.std.proofs.lemmas.List.{nil_from_length}
use borrow.Author.Tests.{tests}
use Rattle.queues.specs.Places.{view_of}
use Rattle.queues.proofs.Entries.{view_sound}
use Rattle.calls.proofs.Ranges.{all_below}
use Rattle.calls.proofs.Waits.{some_if_longer, rows_idle}
use Rattle.calls.proofs.idle.queues_idle.Goals as goal

pub returns : goal.returns
returns g c =
    let v = view_of c.args.queues.now in
    rows_idle v c.all.result (view_sound c.args.queues.now.entries.now c.args.queues.now.table)
    (all_below v.rows (λ s. v.row s ≡ []) (λ s. v.row s ≡ [] → ⊥) c.rows.result c.all.result refl c.rows.ensures c.all.ensures.ran (λ x q k. search (rules, tests, nil_from_length)) (λ x q k. search (rules, tests, some_if_longer)))

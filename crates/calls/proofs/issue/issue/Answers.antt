use Rattle.std.proofs.Common.{◌≡◌, Ok, Err, sym, arith, rules}
use Rattle.std.specs.Result.{MatchResult}
use Rattle.queues.specs.Places.{view_of}
use Rattle.coherence.specs.declared.refusal.Refusal.TheVariants.{FullQueue}
use Rattle.calls.specs.Memory.{memory}
use Rattle.calls.proofs.Calling.{issued}
use Rattle.calls.proofs.issue.issue.Goals as goal

pub returns : goal.returns
returns g c =
    let m = memory c.args.home.now c.args.cells.now (g.L.Links.view c.args.links.now) (view_of c.args.queues.now) in
    let mapped : MatchResult c.put.result (λ x. c.map_err.result ≡ Ok x) (λ _. c.map_err.result ≡ Err FullQueue) = search rules in
    issued g.D.Register.names c.args.sizes m (sym c.if-not-fits.ensures) c.args.station c.args.instruction (omega arith) (view_of c.put.new.self) c.put.result c.map_err.result (omega arith) c.put.ensures.answer c.put.ensures.after mapped

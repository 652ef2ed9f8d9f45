use Rattle.std.proofs.Common.{◌≡◌}
use Rattle.calls.proofs.Sending.{told_below}
use Rattle.calls.proofs.lanes.send_to_all.Given as goal

abbrev pub invariant-loop-station : goal.invariant-loop-station
invariant-loop-station g l = g.L.Links.view l.links ≡ told_below (g.L.Links.view l.initial.links) l.page (g.D.Register.names l.set) l.kind l.station

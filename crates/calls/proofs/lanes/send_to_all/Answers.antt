use Rattle.std.proofs.Common.{sym, ap, ◌∙◌}
use Rattle.calls.proofs.Sending.{told_none, told_past, told_next}
use Rattle.calls.proofs.lanes.send_to_all.Goals as goal
use Rattle.calls.proofs.lanes.send_to_all.Goals.{then-names, else-names}

pub loop-station-init : goal.loop-station-init
loop-station-init g c = told_none _ _ _ _

pub loop-station-preserved : goal.loop-station-preserved
loop-station-preserved g c =
    elim c.if-names.branch [
      | then-names w ↦
          ap g.L.Links.view w.links-is
          ∙ told_next _ c.args.page (g.D.Register.names c.args.set) c.args.kind _ _ c.loop-station.station c.loop-station-test.true c.requires (sym c.names.ensures ∙ w.if-names.true) c.loop-station.invariant w.send.ensures.after
      | else-names w ↦
          ap g.L.Links.view w.links-is
          ∙ told_past _ c.args.page (g.D.Register.names c.args.set) c.args.kind _ c.loop-station.station (sym c.names.ensures ∙ w.if-names.false) c.loop-station.invariant
    ]

-- A granted firing whose lane is empty where it sends, as one more event of a history.
use Rattle.std.proofs.Common.{◌≡◌, ℕ, ◌<◌, List, [], ◌∷◌, length, Some, sym, ap, subst}
use Rattle.std.specs.Option.{option_map}
use Rattle.std.specs.List.{slice_get}
use Rattle.messages.specs.declared.message.Kind.{Kind}
use Rattle.messages.specs.declared.message.Message.{Message}
use Rattle.links.specs.declared.lane.Lane.{Lane}
use Rattle.links.specs.declared.lane.Lane.TheVariants.{Request, Reply, Down}
use Rattle.protocol.specs.declared.firing.FiringKind.{FiringKind}
use Rattle.protocol.specs.declared.firing.FiringKind.TheVariants.{Work, Receive, Collect, Serve}
use Rattle.protocol.specs.declared.instruction.Instruction.{Instruction}
use Rattle.protocol.specs.declared.pages.Sends.TheVariants.{Nothing, To}
use Rattle.protocol.specs.declared.sizes.Sizes.{Sizes}
use Rattle.protocol.specs.declared.station.StationStep.{StationStep}
use Rattle.protocol.specs.Rules.{HomeStep, Works, Receives, Collects, Serves}
use Rattle.protocol.specs.State.{State, Outcome, Space, Fits, extents_of, station_outcome, home_outcome, leaves_queue, leaves_lane}
use Rattle.protocol.specs.State.Fits.{works, receives, collects, serves}
use Rattle.protocol.specs.State.Fires.{fires}
use Rattle.coherence.specs.declared.event.Event.{Event}
use Rattle.coherence.specs.declared.event.Event.TheVariants.{Fired}
use Rattle.coherence.specs.declared.phase.Phase.TheVariants.{Field}
use Rattle.coherence.specs.Questions.{oldest_page}
use Rattle.coherence.specs.Histories.{Leads}
use Rattle.coherence.specs.Histories.Goes.{fires as may-fire}
use Rattle.coherence.specs.Histories.Does.{fires as does-fire}
use Rattle.coherence.specs.Histories.Leads.{granted}
use Rattle.worked_cases.proofs.Spaces.{HasSpace, station_space, home_space, no_send_space}

module _ {V : Type 0} where
  -- what each firing comes to, from the oldest entry and the step of the rule
  abbrev pub worked : State V → ℕ → Instruction V → StationStep V → Outcome V
  worked before s i step = station_outcome s i.page step Request (leaves_queue step.deed s before)

  abbrev pub received : State V → ℕ → Message V → StationStep V → Outcome V
  received before s m step = station_outcome s m.page step Reply (leaves_lane step.deed Down s before)

  abbrev pub collected : State V → ℕ → Message V → HomeStep V → Outcome V
  collected before s m step = home_outcome m.page step (leaves_lane step.deed Reply s before)

  abbrev pub served : State V → ℕ → Message V → HomeStep V → Outcome V
  served before s m step = home_outcome m.page step (leaves_lane step.deed Request s before)

  -- the firing of station s is asked for in a round of these sizes, whose memory fits and whose lanes have room
  pub record Asks (sizes : Sizes) (before : State V) (s : ℕ) : Type 0 where
    pub memory : before.extents ≡ extents_of sizes
    pub station : s < sizes.stations
    pub room : 0 < sizes.room

  empty_has_space : (sizes : Sizes) (before : State V) (lane : Lane) (t : ℕ) → t < sizes.stations → 0 < sizes.room →
      before.lane lane t ≡ [] → HasSpace sizes before lane t
  empty_has_space sizes before lane t served some empty = (served, subst (λ l. length l < sizes.room) (sym empty) some)

  module _ {sizes : Sizes} {v : V} {h : List (Event V)} {before : State V} (led : Leads sizes v h Field before) (s : ℕ) (asks : Asks sizes before s) where
    fired : (kind : FiringKind) (p : ℕ) → oldest_page before kind s ≡ Some p → p < sizes.pages →
        (o : Outcome V) → Fits before s kind o → Space sizes before o → Leads sizes v (Fired kind s o.page o.deed ∷ h) Field o.after
    fired kind p oldest page o fits space =
        granted led may-fire
        (asks.memory, (asks.station, ((p, oldest), ((p, oldest, page), ((o, fits), ((o, fits, space), tt))))))
        (does-fire (fires fits space))

    pub works_next : (i : Instruction V) (step : StationStep V) → slice_get (before.queue s) 0 ≡ Some i → i.page < sizes.pages →
        Works (before.cell s i.page) i.access step → before.lane Request s ≡ [] →
        Leads sizes v (Fired Work s i.page step.deed ∷ h) Field (worked before s i step).after
    works_next i step oldest page rule empty =
        fired Work i.page (ap (option_map (λ x. x.page)) oldest) page (worked before s i step) (works oldest rule)
        (station_space sizes before s i.page step Request (leaves_queue step.deed s before) (empty_has_space sizes before Request s asks.station asks.room empty))

    pub receives_next : (m : Message V) (step : StationStep V) → slice_get (before.lane Down s) 0 ≡ Some m → m.page < sizes.pages →
        Receives (before.cell s m.page) m.kind step → before.lane Reply s ≡ [] →
        Leads sizes v (Fired Receive s m.page step.deed ∷ h) Field (received before s m step).after
    receives_next m step oldest page rule empty =
        fired Receive m.page (ap (option_map (λ x. x.page)) oldest) page (received before s m step) (receives oldest rule)
        (station_space sizes before s m.page step Reply (leaves_lane step.deed Down s before) (empty_has_space sizes before Reply s asks.station asks.room empty))

    pub collects_next : (m : Message V) (step : HomeStep V) → slice_get (before.lane Reply s) 0 ≡ Some m → m.page < sizes.pages →
        Collects s (before.home m.page) m.kind step → step.sends ≡ Nothing →
        Leads sizes v (Fired Collect s m.page step.deed ∷ h) Field (collected before s m step).after
    collects_next m step oldest page rule nothing =
        fired Collect m.page (ap (option_map (λ x. x.page)) oldest) page (collected before s m step) (collects oldest rule)
        (no_send_space sizes before s m.page step (leaves_lane step.deed Reply s before) nothing)

    pub serves_next : (m : Message V) (step : HomeStep V) → slice_get (before.lane Request s) 0 ≡ Some m → m.page < sizes.pages →
        Serves s (before.home m.page) m.kind step → (u : ℕ) (kind : Kind V) → step.sends ≡ To u kind → u < sizes.stations →
        before.lane Down u ≡ [] → Leads sizes v (Fired Serve s m.page step.deed ∷ h) Field (served before s m step).after
    serves_next m step oldest page rule u kind to served-station empty =
        fired Serve m.page (ap (option_map (λ x. x.page)) oldest) page (served before s m step) (serves oldest rule)
        (home_space sizes before s m.page step (leaves_lane step.deed Request s before) u kind to (empty_has_space sizes before Down u served-station asks.room empty))

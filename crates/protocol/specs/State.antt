-- The state of a round, and what a firing makes of it. A firing looks at the oldest entry of a queue or a lane; the rule
-- that fits says what is written and sent. Assumes nothing.
use Rattle.std.specs.Prelude.{◌≡◌, ℕ, ◌*◌, ◌<◌, Bool, cond, ◌&&◌, ◌≢◌, List, [], ◌∷◌, ◌++◌, length, drop, Some, None, Option, ◌==◌}
use Rattle.std.specs.List.{slice_get}
use Rattle.messages.specs.declared.message.Kind.{Kind}
use Rattle.messages.specs.declared.message.Message.{Message}
use Rattle.links.specs.declared.lane.Lane.{Lane}
use Rattle.links.specs.declared.lane.Lane.TheVariants.{Request, Reply, Down}
use Rattle.links.specs.View.{same_lane}
use Rattle.protocol.specs.declared.cell.Cell.{Cell}
use Rattle.protocol.specs.declared.deed.Deed.{Deed}
use Rattle.protocol.specs.declared.firing.FiringKind.{FiringKind}
use Rattle.protocol.specs.declared.firing.FiringKind.TheVariants.{Work, Receive, Collect, Serve}
use Rattle.protocol.specs.declared.instruction.Instruction.{Instruction}
use Rattle.protocol.specs.declared.pages.Sends.TheVariants.{Nothing, To, ToAll}
use Rattle.protocol.specs.declared.sizes.Sizes.{Sizes}
use Rattle.protocol.specs.declared.station.StationStep.{StationStep}
use Rattle.protocol.specs.Deeds.{account_of}
use Rattle.protocol.specs.Rules.{HomePage, Sends, HomeStep, Works, Receives, Collects, Serves}

-- a table with another entry at one place
unfoldable pub with_entry : {X : Type 0} → (ℕ → X) → ℕ → X → ℕ → X
with_entry before place x other = cond (other == place) x (before other)

unfoldable pub with_cell : {X : Type 0} → (ℕ → ℕ → X) → ℕ → ℕ → X → ℕ → ℕ → X
with_cell before station page x s p = cond (s == station && p == page) x (before s p)

-- how large the memory of a round is: the tables of home pages and of cells, the links and the queues
pub record Extents : Type 0 where
  pub pages : ℕ
  pub cells : ℕ
  pub stations : ℕ
  pub room : ℕ
  pub rows : ℕ
  pub places : ℕ

abbrev pub places : ℕ
places = 8

abbrev pub extents_of : Sizes → Extents
extents_of sizes =
    record {
      pages = sizes.pages;
      cells = sizes.stations * sizes.pages;
      stations = sizes.stations;
      room = sizes.room;
      rows = sizes.stations;
      places = places;
    }

-- the home's pages, each station's cells, what waits on each lane of each station and in each station's queue of
-- instructions, the oldest first; and how large the memory is
pub record State (V : Type 0) : Type 0 where
  pub home : ℕ → HomePage V
  pub cell : ℕ → ℕ → Cell V
  pub lane : Lane → ℕ → List (Message V)
  pub queue : ℕ → List (Instruction V)
  pub extents : Extents

-- what is put on each lane of each station
abbrev pub Posts : Type 0 → Type 0
Posts V = Lane → ℕ → List (Message V)

module _ {V : Type 0} where
  abbrev pub message : ℕ → Kind V → Message V
  message page kind = record { page = page; kind = kind }

  abbrev pub listed : ℕ → Option (Kind V) → List (Message V)
  listed page None = []
  listed page (Some kind) = message page kind ∷ []

  -- what a station sends on a lane of its own
  unfoldable pub from_station : Lane → ℕ → ℕ → Option (Kind V) → Posts V
  from_station out s page sends lane t = cond (same_lane lane out && t == s) (listed page sends) []

  -- what the home sends to a station, if anything
  abbrev pub sent_to : Sends V → ℕ → Option (Kind V)
  sent_to Nothing t = None
  sent_to (To u kind) t = cond (t == u) (Some kind) None
  sent_to (ToAll set kind) t = cond (set t) (Some kind) None

  -- what the home sends, on the down lanes
  unfoldable pub from_home : ℕ → Sends V → Posts V
  from_home page sends lane t = cond (same_lane lane Down) (listed page (sent_to sends t)) []

  unfoldable pub posted : (Lane → ℕ → List (Message V)) → Posts V → Lane → ℕ → List (Message V)
  posted before posts lane s = before lane s ++ posts lane s

  -- the queues and the lanes once the entry that was looked at has left, or has stayed
  unfoldable pub left_queue : Bool → ℕ → (ℕ → List (Instruction V)) → ℕ → List (Instruction V)
  left_queue leaves s before t = cond (leaves && t == s) (drop 1 (before t)) (before t)

  unfoldable pub left_lane : Bool → Lane → ℕ → (Lane → ℕ → List (Message V)) → Lane → ℕ → List (Message V)
  left_lane leaves from s before lane t = cond (leaves && (same_lane lane from && t == s)) (drop 1 (before lane t)) (before lane t)

  abbrev pub leaves_queue : Deed V → ℕ → State V → State V
  leaves_queue deed s st =
      record {
        home = st.home;
        cell = st.cell;
        lane = st.lane;
        queue = left_queue (account_of deed).leaves s st.queue;
        extents = st.extents;
      }

  abbrev pub leaves_lane : Deed V → Lane → ℕ → State V → State V
  leaves_lane deed from s st =
      record {
        home = st.home;
        cell = st.cell;
        lane = left_lane (account_of deed).leaves from s st.lane;
        queue = st.queue;
        extents = st.extents;
      }

  -- a station writes one cell and sends
  abbrev pub station_does : ℕ → ℕ → StationStep V → Posts V → State V → State V
  station_does s page step posts st =
      record {
        home = st.home;
        cell = with_cell st.cell s page step.cell;
        lane = posted st.lane posts;
        queue = st.queue;
        extents = st.extents;
      }

  -- the home writes one page and sends
  abbrev pub home_does : ℕ → HomeStep V → Posts V → State V → State V
  home_does page step posts st =
      record {
        home = with_entry st.home page step.page;
        cell = st.cell;
        lane = posted st.lane posts;
        queue = st.queue;
        extents = st.extents;
      }

-- what a firing comes to: the page and the deed that it answers, what it sends, and the state after
pub record Outcome (V : Type 0) : Type 0 where
  pub page : ℕ
  pub deed : Deed V
  pub posts : Posts V
  pub after : State V

-- a step of station s, which sends on one of its lanes, once the entry that was looked at has left or stayed
abbrev pub station_outcome : {V : Type 0} → ℕ → ℕ → StationStep V → Lane → State V → Outcome V
station_outcome {V} s page step out left =
    let posts : Posts V = from_station out s page step.sends in
    record { page = page; deed = step.deed; posts = posts; after = station_does s page step posts left }

-- a step of the home, likewise
abbrev pub home_outcome : {V : Type 0} → ℕ → HomeStep V → State V → Outcome V
home_outcome {V} page step left =
    let posts : Posts V = from_home page step.sends in
    record { page = page; deed = step.deed; posts = posts; after = home_does page step posts left }

module _ {V : Type 0} (before : State V) (s : ℕ) where
  -- a rule fits the oldest entry, whether or not there is space for what it sends
  pub data Fits : FiringKind → Outcome V → Type 0 where
    works : {i : Instruction V} {step : StationStep V} → slice_get (before.queue s) 0 ≡ Some i →
        Works (before.cell s i.page) i.access step →
        Fits Work (station_outcome s i.page step Request (leaves_queue step.deed s before))
    receives : {m : Message V} {step : StationStep V} → slice_get (before.lane Down s) 0 ≡ Some m →
        Receives (before.cell s m.page) m.kind step →
        Fits Receive (station_outcome s m.page step Reply (leaves_lane step.deed Down s before))
    collects : {m : Message V} {step : HomeStep V} → slice_get (before.lane Reply s) 0 ≡ Some m →
        Collects s (before.home m.page) m.kind step →
        Fits Collect (home_outcome m.page step (leaves_lane step.deed Reply s before))
    serves : {m : Message V} {step : HomeStep V} → slice_get (before.lane Request s) 0 ≡ Some m →
        Serves s (before.home m.page) m.kind step →
        Fits Serve (home_outcome m.page step (leaves_lane step.deed Request s before))

-- every lane that is sent on is a served station's, with space
abbrev pub Space : {V : Type 0} → Sizes → State V → Outcome V → Type 0
Space sizes before o =
    (lane : Lane) (t : ℕ) → o.posts lane t ≢ [] → (t < sizes.stations) × (length (before.lane lane t) < sizes.room)

-- a firing of station s that a rule and the lanes allow: its kind, the page and the deed answered, and the state after
pub data Fires {V : Type 0} (sizes : Sizes) (before : State V) (s : ℕ) (kind : FiringKind) : ℕ → Deed V → State V → Type 0 where
  fires : {o : Outcome V} → Fits before s kind o → Space sizes before o → Fires sizes before s kind o.page o.deed o.after

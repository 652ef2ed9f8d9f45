-- What links mean: the messages that wait on each lane, and what the calls do to them. Assumes nothing.
use Rattle.std.specs.Prelude.{◌≡◌, ℕ, ◌*◌, ◌≤◌, Bool, cond, ◌&&◌, List, [], ◌∷◌, ◌++◌, length, take, drop, ◌==◌, nat_le, nat_lt}
use Rattle.links.specs.declared.lane.Lane.{Lane}
use Rattle.links.specs.declared.lane.Lane.TheVariants.{Request, Reply, Down}

-- how many stations are served, how many messages a lane has room for, and what waits on each lane of each station,
-- the oldest first
pub record LaneView (X : Type 0) : Type 0 where
  pub count : ℕ
  pub room : ℕ
  pub waiting : Lane → ℕ → List X

abbrev pub lane_number : Lane → ℕ
lane_number Request = 0
lane_number Reply = 1
lane_number Down = 2

abbrev pub same_lane : Lane → Lane → Bool
same_lane one other = lane_number one == lane_number other

-- the lanes with another list on one of them
unfoldable pub changed : {X : Type 0} → (Lane → ℕ → List X) → Lane → ℕ → List X → Lane → ℕ → List X
changed before lane station list other s = cond (same_lane other lane && s == station) list (before other s)

abbrev pub with_lane : {X : Type 0} → LaneView X → Lane → ℕ → List X → LaneView X
with_lane v lane station list = record { count = v.count; room = v.room; waiting = changed v.waiting lane station list }

-- whether the station is served and its lane has space
abbrev pub has_space : {X : Type 0} → LaneView X → Lane → ℕ → Bool
has_space v lane station = nat_lt station v.count && nat_lt (length (v.waiting lane station)) v.room

-- with the message last on the lane; as it was where the send is denied
abbrev pub sent : {X : Type 0} → LaneView X → Lane → ℕ → X → LaneView X
sent v lane station message = cond (has_space v lane station) (with_lane v lane station (v.waiting lane station ++ message ∷ [])) v

-- whether anything waits on the lane
abbrev pub some_wait : {X : Type 0} → LaneView X → Lane → ℕ → Bool
some_wait v lane station = nat_lt 0 (length (v.waiting lane station))

-- without the oldest message of the lane; as it was where the drop is denied
abbrev pub dropped : {X : Type 0} → LaneView X → Lane → ℕ → LaneView X
dropped v lane station = cond (some_wait v lane station) (with_lane v lane station (drop 1 (v.waiting lane station))) v

-- whether there is a message to pass from one lane of a station to another, and space for it
abbrev pub can_forward : {X : Type 0} → LaneView X → Lane → Lane → ℕ → Bool
can_forward v from to station = some_wait v from station && has_space v to station

-- with the oldest message of one lane last on the other; as it was where that is denied
abbrev pub forwarded : {X : Type 0} → LaneView X → Lane → Lane → ℕ → LaneView X
forwarded v from to station =
    cond (can_forward v from to station) (dropped (with_lane v to station (v.waiting to station ++ take 1 (v.waiting from station))) from station) v

abbrev pub most_stations : ℕ
most_stations = 16

abbrev pub most_room : ℕ
most_room = 16

-- whether links may have these sizes
abbrev pub allowed : ℕ → ℕ → Bool
allowed stations room = (nat_le 1 stations && nat_le stations most_stations) && (nat_le 1 room && nat_le room most_room)

-- whether the memory is enough for three lanes of each station, where each message takes so much of it
abbrev pub fitting : ℕ → ℕ → ℕ → ℕ → Bool
fitting memory size stations room = allowed stations room && nat_le (3 * stations * room * size) memory

abbrev pub empty : {X : Type 0} → ℕ → ℕ → LaneView X
empty count room = record { count = count; room = room; waiting = λ _ _. [] }

-- links that were just made: nothing waits, and no station is served where the sizes do not fit
abbrev pub made : {X : Type 0} → ℕ → ℕ → ℕ → ℕ → LaneView X
made memory size stations room = cond (fitting memory size stations room) (empty stations room) (empty 0 0)

-- what holds of all links
pub record Sound {X : Type 0} (v : LaneView X) : Type 0 where
  pub few : v.count ≤ most_stations
  pub narrow : v.room ≤ most_room
  pub fits : (lane : Lane) (station : ℕ) → length (v.waiting lane station) ≤ v.room
  pub missing : (lane : Lane) (station : ℕ) → v.count ≤ station → v.waiting lane station ≡ []

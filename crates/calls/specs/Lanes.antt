-- Whether there is space on the lanes for what a step sends, and lanes and queues with other entries. Assumes nothing.
use Rattle.std.specs.Prelude.{ℕ, zero, suc, Bool, true, cond, ◌&&◌, List, Some, None, Option}
use Rattle.messages.specs.declared.message.Kind.{Kind}
use Rattle.messages.specs.declared.message.Message.{Message}
use Rattle.registers.specs.Sets.{station_limit}
use Rattle.queues.specs.View.{RowsView}
use Rattle.links.specs.declared.lane.Lane.{Lane}
use Rattle.links.specs.declared.lane.Lane.TheVariants.{Down}
use Rattle.links.specs.View.{LaneView, has_space}
use Rattle.protocol.specs.declared.pages.Sends.TheVariants.{Nothing, To, ToAll}
use Rattle.protocol.specs.Rules.{Stations, Sends}

abbrev pub with_lanes : {X : Type 0} → LaneView X → (Lane → ℕ → List X) → LaneView X
with_lanes v lanes = record { count = v.count; room = v.room; waiting = lanes }

abbrev pub with_rows : {X : Type 0} → RowsView X → (ℕ → List X) → RowsView X
with_rows v rows = record { rows = v.rows; places = v.places; row = rows }

module _ {V : Type 0} (v : LaneView (Message V)) where
  -- what a station sends on one of its lanes
  abbrev pub space_to_send : Lane → ℕ → Option (Kind V) → Bool
  space_to_send lane s None = true
  space_to_send lane s (Some kind) = has_space v lane s

  -- each station of a set with a number below n
  unfoldable pub space_below : ℕ → Stations → Bool
  space_below zero set = true
  space_below (suc n) set = space_below n set && cond (set n) (has_space v Down n) true

  -- what the home sends
  abbrev pub space_for_all : Sends V → Bool
  space_for_all Nothing = true
  space_for_all (To t kind) = has_space v Down t
  space_for_all (ToAll set kind) = space_below station_limit set

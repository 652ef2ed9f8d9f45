-- What comes out of a lane over any row of sends and drops: what went in, in that order. Assumes nothing.
use Rattle.std.specs.Prelude.{◌≡◌, ℕ, cond, ◌&&◌, List, [], ◌∷◌, ◌++◌, take, ◌==◌}
use Rattle.links.specs.declared.lane.Lane.{Lane}
use Rattle.links.specs.View.{LaneView, same_lane, has_space, sent, dropped}

-- one call that may change links
pub data Move (X : Type 0) : Type 0 where
  sends : Lane → ℕ → X → Move X
  drops : Lane → ℕ → Move X

module _ {X : Type 0} where
  abbrev pub after : LaneView X → Move X → LaneView X
  after v (sends lane station message) = sent v lane station message
  after v (drops lane station) = dropped v lane station

  -- what a move puts on a lane, and what it takes from it
  module _ (lane : Lane) (station : ℕ) where
    abbrev pub enters : LaneView X → Move X → List X
    enters v (sends to s message) = cond ((same_lane lane to && station == s) && has_space v to s) (message ∷ []) []
    enters v (drops from s) = []

    abbrev pub leaves : LaneView X → Move X → List X
    leaves v (sends to s message) = []
    leaves v (drops from s) = cond (same_lane lane from && station == s) (take 1 (v.waiting lane station)) []

    -- all that went in over a row of moves, and all that came out
    abbrev pub entered : LaneView X → List (Move X) → List X
    entered v [] = []
    entered v (m ∷ more) = enters v m ++ entered (after v m) more

    abbrev pub left : LaneView X → List (Move X) → List X
    left v [] = []
    left v (m ∷ more) = leaves v m ++ left (after v m) more

  abbrev pub after_all : LaneView X → List (Move X) → LaneView X
  after_all v [] = v
  after_all v (m ∷ more) = after_all (after v m) more

-- on every lane: what waited and then went in is what came out and then still waits
abbrev pub FirstInFirstOut : Type 0 → Type 0
FirstInFirstOut X =
    (v : LaneView X) (moves : List (Move X)) (lane : Lane) (station : ℕ) →
    v.waiting lane station ++ entered lane station v moves ≡ left lane station v moves ++ (after_all v moves).waiting lane station

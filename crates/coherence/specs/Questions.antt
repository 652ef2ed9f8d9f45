-- What each call asks, in order. A call is granted where every question is answered yes; else it is denied with the first
-- that is answered no. Assumes nothing.
use Rattle.std.specs.Prelude.{◌≡◌, ℕ, ◌<◌, ◌≤◌, ◌⊎◌, List, [], ◌∷◌, ◌++◌, length, Some, Option}
use Rattle.std.specs.Option.{option_map}
use Rattle.std.specs.List.{slice_get}
use Rattle.registers.specs.Sets.{station_limit}
use Rattle.links.specs.declared.lane.Lane.{Lane}
use Rattle.links.specs.declared.lane.Lane.TheVariants.{Request, Reply, Down}
use Rattle.links.specs.View.{most_room}
use Rattle.protocol.specs.declared.firing.FiringKind.{FiringKind}
use Rattle.protocol.specs.declared.firing.FiringKind.TheVariants.{Work, Receive, Collect, Serve}
use Rattle.protocol.specs.declared.sizes.Sizes.{Sizes}
use Rattle.protocol.specs.State.{State, Outcome, extents_of, places, Fits, Space}
use Rattle.coherence.specs.declared.call.Call.{Call}
use Rattle.coherence.specs.declared.call.Call.TheVariants.{Prepare, Set, Start, Issue, Fire, Close, Readout}
use Rattle.coherence.specs.declared.refusal.Refusal.{Refusal}
use Rattle.coherence.specs.declared.refusal.Refusal.TheVariants.{Stations, Pages, Room, Memory, Station, Page, FullQueue, NothingWaits, NoRule, NoSpace, Unfinished}

-- a question: the fact that it asks for, and the refusal where the answer is no
pub record Question : Type 1 where
  pub refusal : Refusal
  pub fact : Type 0

abbrev pub AllYes : List Question → Type 0
AllYes [] = Unit {0}
AllYes (q ∷ more) = q.fact × AllYes more

-- the first question that is answered no gives this refusal
abbrev pub FirstNo : List Question → Refusal → Type 0
FirstNo [] refusal = ⊥
FirstNo (q ∷ more) refusal = ((q.fact → ⊥) × (refusal ≡ q.refusal)) ⊎ (q.fact × FirstNo more refusal)

abbrev ask : Refusal → Type 0 → Question
ask refusal fact = record { refusal = refusal; fact = fact }

abbrev pub most_pages : ℕ
most_pages = 4096

-- the questions of a prepare about the sizes alone
abbrev pub size_questions : Sizes → List Question
size_questions sizes =
    ask Stations ((1 ≤ sizes.stations) × (sizes.stations ≤ station_limit))
    ∷ ask Pages ((1 ≤ sizes.pages) × (sizes.pages ≤ most_pages))
    ∷ ask Room ((1 ≤ sizes.room) × (sizes.room ≤ most_room))
    ∷ []

module _ {V : Type 0} where
  -- no instruction and no message waits
  abbrev pub Idle : State V → Type 0
  Idle st = ((s : ℕ) → st.queue s ≡ []) × ((lane : Lane) (s : ℕ) → st.lane lane s ≡ [])

  -- the page of the oldest entry where a firing of station s looks
  abbrev pub oldest_page : State V → FiringKind → ℕ → Option ℕ
  oldest_page st Work s = option_map (λ i. i.page) (slice_get (st.queue s) 0)
  oldest_page st Receive s = option_map (λ m. m.page) (slice_get (st.lane Down s) 0)
  oldest_page st Collect s = option_map (λ m. m.page) (slice_get (st.lane Reply s) 0)
  oldest_page st Serve s = option_map (λ m. m.page) (slice_get (st.lane Request s) 0)

  -- what a firing of a station asks of the oldest entry, the rules and the lanes
  abbrev pub firing_questions : Sizes → State V → FiringKind → ℕ → List Question
  firing_questions z st kind s =
      ask NothingWaits ((p : ℕ) × (oldest_page st kind s ≡ Some p))
      ∷ ask Page ((p : ℕ) × (oldest_page st kind s ≡ Some p) × (p < z.pages))
      ∷ ask NoRule ((o : Outcome V) × Fits st s kind o)
      ∷ ask NoSpace ((o : Outcome V) × Fits st s kind o × Space z st o)
      ∷ []

  -- the questions of a call, of a round of these sizes
  abbrev pub questions : Sizes → State V → Call V → List Question
  questions z st (Prepare sizes value) = size_questions sizes ++ ask Memory ((st.extents ≡ extents_of sizes) × Idle st) ∷ []
  questions z st (Set p value) =
      ask Memory (st.extents ≡ extents_of z)
      ∷ ask Page (p < z.pages)
      ∷ []
  questions z st Start = []
  questions z st (Issue s i) =
      ask Memory (st.extents ≡ extents_of z)
      ∷ ask Station (s < z.stations)
      ∷ ask Page (i.page < z.pages)
      ∷ ask FullQueue (length (st.queue s) < places)
      ∷ []
  questions z st (Fire kind s) =
      ask Memory (st.extents ≡ extents_of z)
      ∷ ask Station (s < z.stations)
      ∷ firing_questions z st kind s
  questions z st Close =
      ask Memory (st.extents ≡ extents_of z)
      ∷ ask Unfinished (Idle st)
      ∷ []
  questions z st (Readout p) =
      ask Memory (st.extents ≡ extents_of z)
      ∷ ask Page (p < z.pages)
      ∷ []

-- The state of a round that a lent memory means. Assumes nothing.
use Rattle.std.specs.Prelude.{ℕ, ◌+◌, ◌*◌, Bool, cond, ◌&&◌, List, map, length, ◌==◌, nat_lt, slice_index_or}
use Rattle.messages.specs.declared.message.Message.{Message}
use Rattle.registers.specs.Sets.{nobody}
use Rattle.queues.specs.View.{RowsView}
use Rattle.links.specs.View.{LaneView}
use Rattle.protocol.specs.declared.cell.Cell.{Cell}
use Rattle.protocol.specs.declared.cell.Cell.TheVariants.{None as none, Sh, Ex, Pend}
use Rattle.protocol.specs.declared.instruction.Instruction.{Instruction}
use Rattle.protocol.specs.declared.pages.HomePage.{HomePage as HomePageOver}
use Rattle.protocol.specs.declared.pages.HomeState.TheVariants.{R}
use Rattle.protocol.specs.declared.sizes.Sizes.{Sizes}
use Rattle.protocol.specs.Machines.{page_meaning}
use Rattle.protocol.specs.Rules.{Stations, HomePage, page}
use Rattle.protocol.specs.State.{State, Extents, places}
use Rattle.calls.specs.declared.record.CellRecord.{CellRecord}
use Rattle.calls.specs.declared.record.CellState.{CellState}
use Rattle.calls.specs.declared.record.CellState.TheVariants.{None as NoCopy, Sh as Reading, Ex as Writing, Pend as Waiting}
use Rattle.calls.specs.declared.sizes.RoundSizes.{RoundSizes}

abbrev copy_of : {V : Type 0} → CellState → V → Cell V
copy_of NoCopy v = none
copy_of Reading v = Sh v
copy_of Writing v = Ex v
copy_of Waiting v = Pend

-- the cell that a record means
abbrev pub cell_of : {V : Type 0} → CellRecord V → Cell V
cell_of r = copy_of r.state r.value

-- the cells, station after station; past the counts there is no copy
unfoldable pub cells_of : {V : Type 0} → ℕ → ℕ → List (CellRecord V) → ℕ → ℕ → Cell V
cells_of stations pages cells s p = cond (nat_lt s stations && nat_lt p pages) (slice_index_or (map cell_of cells) (s * pages + p) none) none

-- the home's pages; past the last one a page names nobody and has the given value
unfoldable pub pages_of : {V D : Type 0} → (D → Stations) → V → List (HomePageOver V D) → ℕ → HomePage V
pages_of names v home p = slice_index_or (map (page_meaning names) home) p (page v (R nobody))

abbrev pub plain : RoundSizes → Sizes
plain z = record { stations = z.stations; pages = z.pages; room = z.room }

-- what is lent: the tables, and what the links and the queues mean
pub record Memory (V D : Type 0) : Type 0 where
  pub home : List (HomePageOver V D)
  pub cells : List (CellRecord V)
  pub links : LaneView (Message V)
  pub queues : RowsView (Instruction V)

abbrev pub memory : {V D : Type 0} → List (HomePageOver V D) → List (CellRecord V) → LaneView (Message V) → RowsView (Instruction V) → Memory V D
memory home cells links queues = record { home = home; cells = cells; links = links; queues = queues }

abbrev pub extents_in : {V D : Type 0} → Memory V D → Extents
extents_in m =
    record {
      pages = length m.home;
      cells = length m.cells;
      stations = m.links.count;
      room = m.links.room;
      rows = m.queues.rows;
      places = m.queues.places;
    }

-- the state that a memory means to a round of these sizes; v stands for the value of pages past the last
abbrev pub meaning : {V D : Type 0} → (D → Stations) → Sizes → V → Memory V D → State V
meaning names z v m =
    record {
      home = pages_of names v m.home;
      cell = cells_of z.stations z.pages m.cells;
      lane = m.links.waiting;
      queue = m.queues.row;
      extents = extents_in m;
    }

-- whether a memory has exactly the sizes of a round
abbrev pub tables_fit : {V D : Type 0} → RoundSizes → List (HomePageOver V D) → List (CellRecord V) → Bool
tables_fit z home cells = length home == z.pages && length cells == z.stations * z.pages

abbrev pub links_fit : {X : Type 0} → RoundSizes → LaneView X → Bool
links_fit z v = v.count == z.stations && v.room == z.room

abbrev pub queues_fit : {X : Type 0} → RoundSizes → RowsView X → Bool
queues_fit z v = v.rows == z.stations && v.places == places

abbrev pub fitting : {V D : Type 0} → RoundSizes → Memory V D → Bool
fitting z m = tables_fit z m.home m.cells && (links_fit z m.links && queues_fit z m.queues)

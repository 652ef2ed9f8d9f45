-- What page sharing promises of every history and the state that it leads to. Assumes nothing.
use Rattle.std.specs.Prelude.{◌≡◌, ℕ, ◌+◌, true, cond, ◌&&◌, ◌⊎◌, List, [], ◌∷◌, ◌++◌, length, Some, None, Option, ◌==◌}
use Rattle.std.specs.List.{slice_get}
use Rattle.messages.specs.declared.message.Kind.{Kind}
use Rattle.messages.specs.declared.message.Kind.TheVariants.{ExReq, ShRep, ExRep, FlushRep, InvRep}
use Rattle.messages.specs.declared.message.Message.{Message}
use Rattle.registers.specs.Sets.{how_many}
use Rattle.links.specs.declared.lane.Lane.TheVariants.{Request, Reply, Down}
use Rattle.protocol.specs.declared.cell.Cell.{Cell}
use Rattle.protocol.specs.declared.cell.Cell.TheVariants.{Sh, Ex}
use Rattle.protocol.specs.declared.deed.Deed.{Deed}
use Rattle.protocol.specs.declared.deed.Deed.TheVariants.{Loaded, Stored}
use Rattle.protocol.specs.declared.firing.FiringKind.{FiringKind}
use Rattle.protocol.specs.declared.instruction.Access.{Access}
use Rattle.protocol.specs.declared.instruction.Access.TheVariants.{Load, Store}
use Rattle.protocol.specs.declared.instruction.Instruction.{Instruction}
use Rattle.protocol.specs.declared.pages.HomeState.{HomeState}
use Rattle.protocol.specs.declared.pages.HomeState.TheVariants.{R, W, TR, TW}
use Rattle.protocol.specs.declared.sizes.Sizes.{Sizes}
use Rattle.protocol.specs.Deeds.{Account, account_of}
use Rattle.protocol.specs.Rules.{Stations}
use Rattle.protocol.specs.State.{State, with_entry}
use Rattle.coherence.specs.declared.call.Call.TheVariants.{Fire}
use Rattle.coherence.specs.declared.event.Event.{Event}
use Rattle.coherence.specs.declared.event.Event.TheVariants.{Prepared, Set, Started, Issued, Fired, Closed, ReadOut, Denied}
use Rattle.coherence.specs.declared.phase.Phase.{Phase}
use Rattle.coherence.specs.Questions.{questions, AllYes, Idle}
use Rattle.coherence.specs.Histories.{Leads}

-- what an event brings: an opening value of a page, an instruction of a station, a deed of a station at a page, or nothing
pub data Brings (V : Type 0) : Type 0 where
  opens : ℕ → V → Brings V
  issues : ℕ → Instruction V → Brings V
  does : ℕ → ℕ → Deed V → Brings V
  nothing : Brings V

module _ {V : Type 0} where
  abbrev pub brings : Event V → Brings V
  brings (Prepared sizes v) = nothing
  brings (Set p v) = opens p v
  brings Started = nothing
  brings (Issued s i) = issues s i
  brings (Fired kind s p deed) = does s p deed
  brings Closed = nothing
  brings (ReadOut p v) = nothing
  brings (Denied call refusal) = nothing

  -- a station's granted issues, in the order issued
  abbrev pub with_issue : ℕ → Brings V → List (Instruction V) → List (Instruction V)
  with_issue s (opens p v) list = list
  with_issue s (issues t i) list = cond (s == t) (list ++ i ∷ []) list
  with_issue s (does t p deed) list = list
  with_issue s nothing list = list

  abbrev pub issues_of : ℕ → List (Event V) → List (Instruction V)
  issues_of s [] = []
  issues_of s (e ∷ h) = with_issue s (brings e) (issues_of s h)

  -- a station's deeds that answer an instruction, each with its page, in order
  abbrev pub with_answer : ℕ → Brings V → List (ℕ × Deed V) → List (ℕ × Deed V)
  with_answer s (opens p v) list = list
  with_answer s (issues t i) list = list
  with_answer s (does t p deed) list = cond (s == t && (account_of deed).answers) (list ++ (p, deed) ∷ []) list
  with_answer s nothing list = list

  abbrev pub answers_of : ℕ → List (Event V) → List (ℕ × Deed V)
  answers_of s [] = []
  answers_of s (e ∷ h) = with_answer s (brings e) (answers_of s h)

  -- the opening values: the last that a granted set gave a page, else prepare's
  abbrev pub with_opening : Brings V → (ℕ → V) → ℕ → V
  with_opening (opens p v) values = with_entry values p v
  with_opening (issues s i) values = values
  with_opening (does s p deed) values = values
  with_opening nothing values = values

  abbrev pub opening_values : V → List (Event V) → ℕ → V
  opening_values v [] = λ _. v
  opening_values v (e ∷ h) = with_opening (brings e) (opening_values v h)

  -- the instruction that the next answer of a station is for: its k-th answer is for its k-th issue
  abbrev pub next_to_answer : ℕ → List (Event V) → Option (Instruction V)
  next_to_answer s h = slice_get (issues_of s h) (length (answers_of s h))

  -- the values of all pages once a store of the page is answered
  abbrev pub stored_value : ℕ → Access V → (ℕ → V) → ℕ → V
  stored_value p Load values = values
  stored_value p (Store v) values = with_entry values p v

  abbrev pub stored_by : ℕ → Option (Instruction V) → (ℕ → V) → ℕ → V
  stored_by p None values = values
  stored_by p (Some i) values = stored_value p i.access values

  abbrev pub with_deed : List (Event V) → Brings V → (ℕ → V) → ℕ → V
  with_deed h (opens p v) values = values
  with_deed h (issues s i) values = values
  with_deed h (does s p deed) values = cond (account_of deed).stores (stored_by p (next_to_answer s h) values) values
  with_deed h nothing values = values

  abbrev pub last_stored : (ℕ → V) → List (Event V) → ℕ → V
  last_stored values [] = values
  last_stored values (e ∷ h) = with_deed h (brings e) (last_stored values h)

  -- the latest values: that of the store which a page's last deed stored is for, else its opening value
  abbrev pub latest : V → List (Event V) → ℕ → V
  latest v h = last_stored (opening_values v h) h

  -- what the deeds of a page come to in one column of their account
  abbrev pub with_amount : (Account → ℕ) → ℕ → Brings V → ℕ → ℕ
  with_amount column p (opens q v) sum = sum
  with_amount column p (issues s i) sum = sum
  with_amount column p (does s q deed) sum = cond (p == q) (sum + column (account_of deed)) sum
  with_amount column p nothing sum = sum

  abbrev pub total : (Account → ℕ) → ℕ → List (Event V) → ℕ
  total column p [] = 0
  total column p (e ∷ h) = with_amount column p (brings e) (total column p h)

  -- an event tells the value of a page: it is loaded or read out
  pub data Tells : Event V → ℕ → V → Type 0 where
    loads : {kind : FiringKind} {s p : ℕ} {v : V} → Tells (Fired kind s p (Loaded v)) p v
    reads_out : {p : ℕ} {v : V} → Tells (ReadOut p v) p v

  -- every value told was the latest at that call
  abbrev pub AllTold : V → List (Event V) → Type 0
  AllTold v [] = Unit {0}
  AllTold v (e ∷ h) = ((p : ℕ) (w : V) → Tells e p w → w ≡ latest v h p) × AllTold v h

  -- a deed answers an access: loaded a load, stored a store
  pub data Answers : Deed V → Access V → Type 0 where
    loaded : {v : V} → Answers (Loaded v) Load
    stored : {v : V} → Answers Stored (Store v)

  -- the first issues are answered one by one, each at its page, and the others wait, in that order
  abbrev pub InOrder : List (ℕ × Deed V) → List (Instruction V) → List (Instruction V) → Type 0
  InOrder [] issued waiting = issued ≡ waiting
  InOrder (answer ∷ more) [] waiting = ⊥
  InOrder (answer ∷ more) (i ∷ issued) waiting =
      ((answer.0 ≡ i.page) × Answers answer.1 i.access) × InOrder more issued waiting

  -- a cell is a copy of a value, to read or to write
  pub data Copy : Cell V → V → Type 0 where
    reading : {v : V} → Copy (Sh v) v
    writing : {v : V} → Copy (Ex v) v

  -- a message about the page waits on the lane, of a kind that is meant
  abbrev pub Carries : (Kind V → Type 0) → ℕ → List (Message V) → Type 0
  Carries Meant p [] = ⊥
  Carries Meant p (m ∷ more) = ((p ≡ m.page) × Meant m.kind) ⊎ Carries Meant p more

  pub data Grant : Kind V → Type 0 where
    grants_reading : {v : V} → Grant (ShRep v)
    grants_writing : {v : V} → Grant (ExRep v)

  pub data Return : Kind V → Type 0 where
    returns_writing : {v : V} → Return (FlushRep v)
    returns_reading : Return InvRep

  pub data WriteRequest : Kind V → Type 0 where
    asks_to_write : WriteRequest ExReq

  -- a station has a copy of the page, a grant on its way or a return unread
  pub data Holder (st : State V) (p s : ℕ) : Type 0 where
    has_copy : {v : V} → Copy (st.cell s p) v → Holder st p s
    is_granted : Carries Grant p (st.lane Down s) → Holder st p s
    has_returned : Carries Return p (st.lane Reply s) → Holder st p s

-- the stations that a home page names
abbrev pub named : HomeState Stations → Stations
named (R D) = D
named (W t) = λ s. (s == t)
named (TR D) = D
named (TW t) = λ s. (s == t)

-- the promise, of a round with these sizes, prepared with this value
pub record Holds {V : Type 0} (sizes : Sizes) (v : V) (h : List (Event V)) (st : State V) : Type 0 where
  -- every copy holds the page's latest value
  pub copies_latest : (p s : ℕ) (w : V) → Copy (st.cell s p) w → w ≡ latest v h p
  -- every value loaded or read out was the latest at that call
  pub reads_latest : AllTold v h
  -- beside a writing copy of a page there is no other copy of it
  pub single_writer : (p s t : ℕ) (w u : V) → st.cell s p ≡ Ex w → Copy (st.cell t p) u → t ≡ s
  -- each station's loads and stores are answered in the order it issued them
  pub program_order : (s : ℕ) → InOrder (answers_of s h) (issues_of s h) (st.queue s)
  -- the home names every station with a copy, a grant on its way or a return unread
  pub holders_named : (p s : ℕ) → Holder st p s → named (st.home p).state s ≡ true
  -- it names no other, save one whose write request for that page still waits
  pub no_other_named : (p s : ℕ) → named (st.home p).state s ≡ true → Holder st p s ⊎ Carries WriteRequest p (st.lane Request s)
  -- for each page, grants = stations named + returns + folded copies
  pub grants_balance : (p : ℕ) →
      total (λ a. a.grants) p h ≡ how_many (named (st.home p).state) + total (λ a. a.returns) p h + total (λ a. a.folds) p h
  -- while an instruction or a message waits, which is so in the field alone, some firing would be granted
  pub no_deadlock : (Idle st → ⊥) → (kind : FiringKind) × (s : ℕ) × AllYes (questions sizes st (Fire kind s))

abbrev pub EveryHistoryKeepsThePromise : Type 0 → Type 0
EveryHistoryKeepsThePromise V =
    (sizes : Sizes) (v : V) (h : List (Event V)) (phase : Phase) (st : State V) → Leads sizes v h phase st → Holds sizes v h st

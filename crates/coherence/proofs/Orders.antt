-- A station's answers are for its issues in order: what an issue and what an answer make of that.
use Rattle.std.proofs.Common.{◌≡◌, ℕ, Bool, true, false, cond, ◌&&◌, eqb, List, [], ◌∷◌, ◌++◌, length, drop, Some, sym, ap, subst, arith}
use Rattle.std.proofs.lemmas.Bool.{ne_eqb}
use Rattle.std.specs.List.{slice_get}
use Rattle.std.proofs.Math.Bool.{and-false}
use Rattle.messages.specs.declared.message.Kind.{Kind}
use Rattle.protocol.specs.declared.cell.Cell.{Cell}
use Rattle.protocol.specs.declared.deed.Deed.{Deed}
use Rattle.protocol.specs.declared.deed.Deed.TheVariants.{Loaded}
use Rattle.protocol.specs.declared.firing.FiringKind.{FiringKind}
use Rattle.protocol.specs.declared.instruction.Access.{Access}
use Rattle.protocol.specs.declared.instruction.Instruction.{Instruction}
use Rattle.protocol.specs.declared.station.StationStep.{StationStep}
use Rattle.protocol.specs.Deeds.{account_of}
use Rattle.protocol.specs.Rules.{HomePage, HomeStep, Works, loads_reading_copy, loads_writing_copy, stores, asks_to_read, asks_to_write, asks_to_upgrade, Receives, Collects, Serves}
use Rattle.protocol.specs.State.{State, Outcome, left_queue, Fits, works, receives, collects, serves}
use Rattle.coherence.specs.Promise.{Answers, loaded, stored, InOrder, Copy, reading, writing}
use Rattle.coherence.proofs.Tables.{at_and_beside, eqb_same, left_same, left_other}

module _ {V : Type 0} where
  -- the next answer is for the oldest instruction that waits
  pub next_waits : (done : List (ℕ × Deed V)) (issued waiting : List (Instruction V)) → InOrder done issued waiting → slice_get issued (length done) ≡ slice_get waiting 0
  next_waits [] issued waiting e = ap (λ l. slice_get l 0) e
  next_waits (a ∷ done) [] waiting o = absurd o
  next_waits (a ∷ done) (i ∷ issued) waiting o = next_waits done issued waiting o.1

  pub one_issued : (done : List (ℕ × Deed V)) (issued waiting : List (Instruction V)) (x : Instruction V) → InOrder done issued waiting → InOrder done (issued ++ x ∷ []) (waiting ++ x ∷ [])
  one_issued [] issued waiting x e = ap (λ l. l ++ x ∷ []) e
  one_issued (a ∷ done) [] waiting x o = absurd o
  one_issued (a ∷ done) (i ∷ issued) waiting x o = (o.0, one_issued done issued waiting x o.1)

  pub one_answered : (done : List (ℕ × Deed V)) (issued waiting : List (Instruction V)) (x : Instruction V) (deed : Deed V) → Answers deed x.access → slice_get waiting 0 ≡ Some x → InOrder done issued waiting → InOrder (done ++ (x.page, deed) ∷ []) issued (drop 1 waiting)
  one_answered [] [] waiting x deed a e o = let n : slice_get waiting 0 ≡ slice_get {X = Instruction V} [] 0 = ap (λ l. slice_get l 0) (sym o) in absurd (cc)
  one_answered [] (i ∷ issued) waiting x deed a e o =
      let n : slice_get waiting 0 ≡ Some i = ap (λ l. slice_get l 0) (sym o) in
      let same : x ≡ i = cc in
      ((ap (λ y. y.page) same, subst (λ y. Answers deed y.access) same a), ap (drop 1) o)
  one_answered (b ∷ done) [] waiting x deed a e o = absurd o
  one_answered (b ∷ done) (i ∷ issued) waiting x deed a e o = (o.0, one_answered done issued waiting x deed a e o.1)

-- an instruction leaves where it is answered, and only there
pub data Working {V : Type 0} : Deed V → Access V → Bool → Bool → Type 0 where
  answers_it : {deed : Deed V} {x : Access V} → Answers deed x → Working deed x true true
  asks_for_it : {deed : Deed V} {x : Access V} → Working deed x false false

pub working : {V : Type 0} {c : Cell V} {x : Access V} {step : StationStep V} → Works c x step → Working step.deed x (account_of step.deed).answers (account_of step.deed).leaves
working loads_reading_copy = answers_it loaded
working loads_writing_copy = answers_it loaded
working stores = answers_it stored
working asks_to_read = asks_for_it
working asks_to_write = asks_for_it
working asks_to_upgrade = asks_for_it

-- no other firing answers an instruction
pub receives_answers : {V : Type 0} {c : Cell V} {k : Kind V} {step : StationStep V} → Receives c k step → (account_of step.deed).answers ≡ false
receives_answers rule = grind arith

pub collects_answers : {V : Type 0} {s : ℕ} {h : HomePage V} {k : Kind V} {step : HomeStep V} → Collects s h k step → (account_of step.deed).answers ≡ false
collects_answers rule = grind arith

pub serves_answers : {V : Type 0} {s : ℕ} {h : HomePage V} {k : Kind V} {step : HomeStep V} → Serves s h k step → (account_of step.deed).answers ≡ false
serves_answers rule = grind arith

-- a deed that answers nothing stores nothing
pub unstored : {V : Type 0} (deed : Deed V) → (account_of deed).answers ≡ false → (account_of deed).stores ≡ false
unstored deed f = grind arith

-- the answers of a station after a deed of station s at a page
abbrev AnswersAfter : {V : Type 0} → ℕ → ℕ → ℕ → Deed V → List (ℕ × Deed V) → List (ℕ × Deed V)
AnswersAfter t s p deed done = cond (eqb t s && (account_of deed).answers) (done ++ (p, deed) ∷ []) done

module _ {V : Type 0} (st : State V) (done : ℕ → List (ℕ × Deed V)) (issued : ℕ → List (Instruction V)) (o : (t : ℕ) → InOrder (done t) (issued t) (st.queue t)) where
  still_in_order : (s p : ℕ) (deed : Deed V) → (account_of deed).answers ≡ false → (t : ℕ) → InOrder (AnswersAfter t s p deed (done t)) (issued t) (st.queue t)
  still_in_order s p deed f t = simp (f, and-false) (o t)

  worked_in_order : (s : ℕ) (x : Instruction V) (deed : Deed V) (answers leaves : Bool) → slice_get (st.queue s) 0 ≡ Some x → Working deed x.access answers leaves → (t : ℕ) → InOrder (cond (eqb t s && answers) (done t ++ (x.page, deed) ∷ []) (done t)) (issued t) (left_queue leaves s st.queue t)
  worked_in_order s x deed answers leaves e w = at_and_beside (λ t. InOrder (cond (eqb t s && answers) (done t ++ (x.page, deed) ∷ []) (done t)) (issued t) (left_queue leaves s st.queue t)) s (simp (eqb_same, left_same) (here w)) (λ t n. simp (ne_eqb, left_other) (o t))
    where
      here : {answers leaves : Bool} → Working deed x.access answers leaves → InOrder (cond answers (done s ++ (x.page, deed) ∷ []) (done s)) (issued s) (cond leaves (drop 1 (st.queue s)) (st.queue s))
      here (answers_it a) = one_answered (done s) (issued s) (st.queue s) x deed a e (o s)
      here asks_for_it = o s

  pub fired_in_order : {s : ℕ} {kind : FiringKind} {out : Outcome V} → Fits st s kind out → (t : ℕ) → InOrder (AnswersAfter t s out.page out.deed (done t)) (issued t) (out.after.queue t)
  fired_in_order {s = s} (works {i = x} {step = does} e rule) = worked_in_order s x does.deed _ _ e (working rule)
  fired_in_order {s = s} (receives {m = m} {step = does} e rule) = still_in_order s m.page does.deed (receives_answers rule)
  fired_in_order {s = s} (collects {m = m} {step = does} e rule) = still_in_order s m.page does.deed (collects_answers rule)
  fired_in_order {s = s} (serves {m = m} {step = does} e rule) = still_in_order s m.page does.deed (serves_answers rule)

-- a value loaded is that of the station's copy
works_loaded : {V : Type 0} {c : Cell V} {x : Access V} {step : StationStep V} {v : V} → Works c x step → step.deed ≡ Loaded v → Copy c v
works_loaded rule e = grind (arith, reading, writing)

pub loaded_copy : {V : Type 0} {st : State V} {s : ℕ} {kind : FiringKind} {o : Outcome V} {v : V} → Fits st s kind o → o.deed ≡ Loaded v → Copy (st.cell s o.page) v
loaded_copy (works e rule) f = works_loaded rule f
loaded_copy (receives e rule) f = absurd (cc (receives_answers rule))
loaded_copy (collects e rule) f = absurd (cc (collects_answers rule))
loaded_copy (serves e rule) f = absurd (cc (serves_answers rule))

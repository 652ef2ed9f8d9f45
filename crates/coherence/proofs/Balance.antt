-- At each page, what a firing adds to the grants is what it adds to the stations named, the returns and the folded copies.
use Rattle.std.proofs.Common.{◌≡◌, ℕ, ◌+◌, ◌<◌, true, false, eqb, ◌≢◌, sym, refl, ap, ◌∙◌, inl, inr, arith}
use mathlib.Core.Path.{fun_ext}
use Rattle.std.proofs.lemmas.Bool.{cases_Bool, ne_eqb}
use Rattle.messages.specs.declared.message.Kind.{Kind}
use Rattle.registers.specs.Sets.{station_limit, nobody, including, without, how_many}
use Rattle.registers.proofs.Counting.{nobody_is_none, one_added}
use Rattle.protocol.specs.declared.cell.Cell.{Cell}
use Rattle.protocol.specs.declared.firing.FiringKind.{FiringKind}
use Rattle.protocol.specs.declared.instruction.Access.{Access}
use Rattle.protocol.specs.declared.station.StationStep.{StationStep}
use Rattle.protocol.specs.Deeds.{Account, account_of, fold_number, fold_of}
use Rattle.protocol.specs.Rules.{Stations, Empty, HomePage, HomeStep, Works, Receives, Collects, is_written_back, is_flushed, strikes, strikes_last, Serves, shares, gives_alone, recalls_readers, recalls_writer_to_read, recalls_writer_to_write}
use Rattle.protocol.specs.State.{State, Outcome, Fits, works, receives, collects, serves}
use Rattle.coherence.specs.Promise.{named}
use Rattle.coherence.proofs.Tables.{at_and_beside, eqb_same, included, included_other, struck, struck_other, entry_same, entry_other}

-- how many are in a set with one station more, one less, or with that one alone
module _ (s : ℕ) (low : s < station_limit) where
  count_included : (D : Stations) → D s ≡ false → how_many (including D s) ≡ how_many D + 1
  count_included D e = one_added D (including D s) s low e (included D s low) (λ k n. included_other D s k n)

  count_struck : (D : Stations) → D s ≡ true → how_many D ≡ how_many (without D s) + 1
  count_struck D e = one_added (without D s) D s low (struck D s) e (λ k n. sym (struck_other D s k n))

  count_alone : how_many (λ k. eqb k s) ≡ 1
  count_alone = one_added nobody (λ k. eqb k s) s low refl (eqb_same s) (λ k n. ne_eqb k s n) ∙ ap (λ k. k + 1) nobody_is_none

  -- the fold is 1 exactly where the station was in the set
  count_folded : (D : Stations) → how_many D ≡ how_many (without D s) + fold_number (fold_of (D s))
  count_folded D = elim (cases_Bool (D s)) [ inl e ↦ rw e (count_struck D e) | inr e ↦ rw e (unchanged e) ]
    where
      unchanged : D s ≡ false → how_many D ≡ how_many (without D s) + 0
      unchanged e =
          let same : D ≡ without D s = fun_ext (at_and_beside (λ k. D k ≡ without D s k) s (e ∙ sym (struck D s)) (λ k n. sym (struck_other D s k n))) in
          omega (arith, ap how_many same)

count_empty : (D : Stations) → Empty D → how_many D ≡ 0
count_empty D e = ap how_many (fun_ext e) ∙ nobody_is_none

-- a deed that takes no part in the balance
abbrev Aside : Account → Type 0
Aside a = (a.grants ≡ 0) × (a.returns ≡ 0) × (a.folds ≡ 0)

works_aside : {V : Type 0} {c : Cell V} {x : Access V} {step : StationStep V} → Works c x step → Aside (account_of step.deed)
works_aside rule = (grind arith, grind arith, grind arith)

receives_aside : {V : Type 0} {c : Cell V} {k : Kind V} {step : StationStep V} → Receives c k step → Aside (account_of step.deed)
receives_aside rule = (grind arith, grind arith, grind arith)

-- before and after, with what the deed adds
abbrev Balances : ℕ → ℕ → Account → Type 0
Balances before after a = after + a.returns + a.folds ≡ before + a.grants

module _ {V : Type 0} {s : ℕ} (low : s < station_limit) where
  collects_balances : {h : HomePage V} {k : Kind V} {step : HomeStep V} → Collects s h k step → Balances (how_many (named h.state)) (how_many (named step.page.state)) (account_of step.deed)
  collects_balances is_written_back = omega (arith, count_alone s low, count_included s low nobody refl, nobody_is_none)
  collects_balances is_flushed = omega (arith, count_alone s low, nobody_is_none)
  collects_balances (strikes {D = D} y z) = omega (arith, count_struck s low D y)
  collects_balances (strikes_last {D = D} y z) = omega (arith, count_struck s low D y, count_empty (without D s) z, nobody_is_none)

  serves_balances : {h : HomePage V} {k : Kind V} {step : HomeStep V} → Serves s h k step → Balances (how_many (named h.state)) (how_many (named step.page.state)) (account_of step.deed)
  serves_balances (shares {D = D} y) = omega (arith, count_included s low D y)
  serves_balances (gives_alone {D = D} y) = omega (arith, count_alone s low, count_folded s low D, count_empty (without D s) y)
  serves_balances (recalls_readers {D = D} y) = omega (arith, count_folded s low D)
  serves_balances (recalls_writer_to_read n) = omega arith
  serves_balances (recalls_writer_to_write n) = omega arith

-- a firing at its page, and at another
pub balances : {V : Type 0} {st : State V} {s : ℕ} {kind : FiringKind} {o : Outcome V} → Fits st s kind o → s < station_limit → Balances (how_many (named (st.home o.page).state)) (how_many (named (o.after.home o.page).state)) (account_of o.deed)
balances (works e rule) low = let a = works_aside rule in omega arith
balances (receives e rule) low = let a = receives_aside rule in omega arith
balances {st = st} (collects {m = m} {step = does} e rule) low = simp entry_same (collects_balances low rule)
balances {st = st} (serves {m = m} {step = does} e rule) low = simp entry_same (serves_balances low rule)

pub same_home : {V : Type 0} {st : State V} {s : ℕ} {kind : FiringKind} {o : Outcome V} → Fits st s kind o → (q : ℕ) → q ≢ o.page → o.after.home q ≡ st.home q
same_home (works e rule) q n = refl
same_home (receives e rule) q n = refl
same_home (collects e rule) q n = simp entry_other
same_home (serves e rule) q n = simp entry_other

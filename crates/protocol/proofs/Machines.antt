-- The functions that the machines compute give exactly what the rules give. Assumes nothing.
use Rattle.std.proofs.Common.{◌≡◌, ℕ, true, eqb, IfSome, Some, None, Option, refl, ap, ◌∙◌, inl, inr, arith}
use Rattle.std.proofs.lemmas.Option.{none-some}
use Rattle.std.proofs.lemmas.Bool.Decides.{nat_tests}
use Rattle.std.proofs.lemmas.Bool.{cond_both, cond-true, cond-false, eq-eqb, ne_eqb}
use Rattle.messages.specs.declared.message.Kind.{Kind}
use Rattle.messages.specs.declared.message.Kind.TheVariants.{ExReq, InvRep}
use Rattle.registers.specs.Sets.{nobody, without, how_many}
use Rattle.protocol.specs.declared.cell.Cell.{Cell}
use Rattle.protocol.specs.declared.deed.Deed.TheVariants.{Returned}
use Rattle.protocol.specs.declared.instruction.Access.{Access}
use Rattle.protocol.specs.declared.pages.HomeState.{HomeState}
use Rattle.protocol.specs.declared.pages.HomeState.TheVariants.{R, TR}
use Rattle.protocol.specs.declared.pages.Sends.TheVariants.{Nothing}
use Rattle.protocol.specs.declared.station.StationStep.{StationStep}
use Rattle.protocol.specs.Machines.{worked, received, collected, served, after_strike, given_or_recalled, Gives, Proper, MachinesFollowRules}
use Rattle.protocol.specs.Rules.{Stations, HomePage, HomeStep, page, home_step, Works, Receives, Collects, Serves}
use Rattle.protocol.specs.Rules.Works.{loads_reading_copy, loads_writing_copy, stores, asks_to_read, asks_to_write, asks_to_upgrade}
use Rattle.protocol.specs.Rules.Receives.{takes_reading_copy, takes_writing_copy, writes_back, flushes, invalidates, stays_pending}
use Rattle.protocol.specs.Rules.Collects.{is_written_back, is_flushed, strikes, strikes_last}
use Rattle.protocol.specs.Rules.Serves.{shares, gives_alone, recalls_readers, recalls_writer_to_read, recalls_writer_to_write}
use Rattle.protocol.proofs.Recalled.{low_without, counted_empty, counted_someone, empty_counted, someone_counted}

-- what fits is answered
abbrev Complete : {X : Type 0} → Option X → (X → Type 0) → Type 0
Complete {X} answer Fits = (x : X) → Fits x → answer ≡ Some x

-- that leaves no choice: what is answered is one thing
gives : {X : Type 0} (answer : Option X) (Fits : X → Type 0) → IfSome answer Fits → Complete answer Fits → Gives answer Fits
gives None Fits sound complete = ((λ x fits. none-some x (complete x fits)), (λ x y fits other. absurd (none-some x (complete x fits))))
gives (Some x) Fits sound complete = (sound, (λ y z fits other. cc (complete y fits, complete z other)))

module _ {V : Type 0} where
  work_sound : (cell : Cell V) (access : Access V) → IfSome (worked cell access) (Works cell access)
  work_sound cell access = grind (arith, loads_reading_copy, loads_writing_copy, stores, asks_to_read, asks_to_write, asks_to_upgrade)

  pub work_complete : {cell : Cell V} {access : Access V} {x : StationStep V} → Works cell access x → worked cell access ≡ Some x
  work_complete fits = grind arith

  receive_sound : (cell : Cell V) (kind : Kind V) → IfSome (received cell kind) (Receives cell kind)
  receive_sound cell kind = grind (arith, takes_reading_copy, takes_writing_copy, writes_back, flushes, invalidates, stays_pending)

  pub receive_complete : {cell : Cell V} {kind : Kind V} {x : StationStep V} → Receives cell kind x → received cell kind ≡ Some x
  receive_complete fits = grind arith

  struck_sound : (s : ℕ) (w : V) (state : HomeState Stations) (D : Stations) → state ≡ TR D → D s ≡ true → Proper (page w state) → Collects s (page w state) InvRep (home_step (page w (after_strike (without D s))) Nothing Returned)
  struck_sound s w state D is on proper =
      let rest = low_without D s (λ n h. proper D n (inr is) h) in
      rw is (cond_both (eqb (how_many (without D s)) 0) (R nobody) (TR (without D s)) (λ after. Collects s (page w (TR D)) InvRep (home_step (page w after) Nothing Returned)) (λ e. strikes_last on (counted_empty _ rest e)) (λ e. strikes on (counted_someone _ rest e)))

  collect_sound : (s : ℕ) (w : V) (state : HomeState Stations) (kind : Kind V) → Proper (page w state) → IfSome (collected s (page w state) kind) (Collects s (page w state) kind)
  collect_sound s w state kind proper = grind (arith, nat_tests, is_written_back, is_flushed, struck_sound)

  collect_complete : {s : ℕ} {p : HomePage V} {kind : Kind V} {x : HomeStep V} → Proper p → Collects s p kind x → collected s p kind ≡ Some x
  collect_complete {s} proper is_written_back = cond-true (eqb s s) _ None (eq-eqb s s refl)
  collect_complete {s} proper is_flushed = cond-true (eqb s s) _ None (eq-eqb s s refl)
  collect_complete {s} proper (strikes {w = w} {D = D} on found) =
      cond-true _ _ _ on ∙ ap (λ after. Some (home_step (page w after) Nothing Returned)) (cond-false _ _ _ (someone_counted _ (low_without D _ (λ n h. proper D n (inr refl) h)) found))
  collect_complete {s} proper (strikes_last {w = w} on empty) =
      cond-true _ _ _ on ∙ ap (λ after. Some (home_step (page w after) Nothing Returned)) (cond-true _ _ _ (empty_counted _ empty))

  given_sound : (s : ℕ) (v : V) (state : HomeState Stations) (D : Stations) → state ≡ R D → Proper (page v state) → Serves s (page v state) ExReq (given_or_recalled s v D)
  given_sound s v state D is proper =
      let rest = low_without D s (λ n h. proper D n (inl is) h) in
      rw is (cond_both (eqb (how_many (without D s)) 0) _ _ (Serves s (page v (R D)) ExReq) (λ e. gives_alone (counted_empty _ rest e)) (λ e. recalls_readers (counted_someone _ rest e)))

  serve_sound : (s : ℕ) (v : V) (state : HomeState Stations) (kind : Kind V) → Proper (page v state) → IfSome (served s (page v state) kind) (Serves s (page v state) kind)
  serve_sound s v state kind proper = grind (arith, nat_tests, shares, given_sound, recalls_writer_to_read, recalls_writer_to_write)

  serve_complete : {s : ℕ} {p : HomePage V} {kind : Kind V} {x : HomeStep V} → Proper p → Serves s p kind x → served s p kind ≡ Some x
  serve_complete proper (shares off) = cond-false _ _ _ off
  serve_complete proper (gives_alone empty) = ap Some (cond-true _ _ _ (empty_counted _ empty))
  serve_complete proper (recalls_readers {D = D} found) =
      ap Some (cond-false _ _ _ (someone_counted _ (low_without D _ (λ n h. proper D n (inl refl) h)) found))
  serve_complete proper (recalls_writer_to_read other) = cond-false _ _ _ (ne_eqb _ _ other)
  serve_complete proper (recalls_writer_to_write other) = cond-false _ _ _ (ne_eqb _ _ other)

pub follow : (V : Type 0) → MachinesFollowRules V
follow V =
    record {
      work = λ cell access. gives _ _ (work_sound cell access) (λ x fits. work_complete fits);
      receive = λ cell kind. gives _ _ (receive_sound cell kind) (λ x fits. receive_complete fits);
      collect = λ s p kind proper. gives _ _ (collect_sound s p.value p.state kind proper) (λ x fits. collect_complete proper fits);
      serve = λ s p kind proper. gives _ _ (serve_sound s p.value p.state kind proper) (λ x fits. serve_complete proper fits);
    }

-- The rules leave no choice: of one cell or page and one message they give at most one step, whatever the page names. Assumes
-- nothing.
use Rattle.std.proofs.Common.{◌≡◌, ℕ, sym, refl}
use Rattle.messages.specs.declared.message.Kind.{Kind}
use Rattle.messages.specs.declared.message.Kind.TheVariants.{WbRep, FlushRep}
use Rattle.registers.specs.Sets.{nobody, including}
use Rattle.protocol.specs.declared.cell.Cell.{Cell}
use Rattle.protocol.specs.declared.deed.Deed.TheVariants.{WrittenBack, Returned}
use Rattle.protocol.specs.declared.pages.HomeState.TheVariants.{R}
use Rattle.protocol.specs.declared.pages.Sends.TheVariants.{Nothing}
use Rattle.protocol.specs.declared.instruction.Access.{Access}
use Rattle.protocol.specs.declared.station.StationStep.{StationStep}
use Rattle.protocol.specs.Rules.{HomePage, HomeStep, page, home_step, Works, Receives, Collects, Serves}
use Rattle.protocol.specs.Rules.Collects.{is_written_back, is_flushed, strikes, strikes_last}
use Rattle.protocol.specs.Rules.Serves.{shares, gives_alone, recalls_readers, recalls_writer_to_read, recalls_writer_to_write}
use Rattle.protocol.proofs.Recalled.{not_both}
use Rattle.protocol.proofs.Machines.{work_complete, receive_complete}

pub works_unique : {V : Type 0} {c : Cell V} {a : Access V} {x y : StationStep V} → Works c a x → Works c a y → x ≡ y
works_unique one other = cc (work_complete one, work_complete other)

pub receives_unique : {V : Type 0} {c : Cell V} {k : Kind V} {x y : StationStep V} → Receives c k x → Receives c k y → x ≡ y
receives_unique one other = cc (receive_complete one, receive_complete other)

-- over any page, since a page that names s itself leaves an equation of s with s
step_of_write_back : {V : Type 0} {s : ℕ} {p : HomePage V} {v : V} {x : HomeStep V} → Collects s p (WbRep v) x → x ≡ home_step (page v (R (including nobody s))) Nothing WrittenBack
step_of_write_back is_written_back = refl

step_of_flush : {V : Type 0} {s : ℕ} {p : HomePage V} {v : V} {x : HomeStep V} → Collects s p (FlushRep v) x → x ≡ home_step (page v (R nobody)) Nothing Returned
step_of_flush is_flushed = refl

pub collects_unique : {V : Type 0} {s : ℕ} {p : HomePage V} {k : Kind V} {x y : HomeStep V} → Collects s p k x → Collects s p k y → x ≡ y
collects_unique is_written_back other = sym (step_of_write_back other)
collects_unique is_flushed other = sym (step_of_flush other)
collects_unique (strikes e found) (strikes f other) = refl
collects_unique (strikes e found) (strikes_last f none) = absurd (not_both _ none found)
collects_unique (strikes_last e none) (strikes f found) = absurd (not_both _ none found)
collects_unique (strikes_last e none) (strikes_last f other) = refl

pub serves_unique : {V : Type 0} {s : ℕ} {p : HomePage V} {k : Kind V} {x y : HomeStep V} → Serves s p k x → Serves s p k y → x ≡ y
serves_unique (shares e) (shares f) = refl
serves_unique (gives_alone none) (gives_alone other) = refl
serves_unique (gives_alone none) (recalls_readers found) = absurd (not_both _ none found)
serves_unique (recalls_readers found) (gives_alone none) = absurd (not_both _ none found)
serves_unique (recalls_readers found) (recalls_readers other) = refl
serves_unique (recalls_writer_to_read ne) (recalls_writer_to_read other) = refl
serves_unique (recalls_writer_to_write ne) (recalls_writer_to_write other) = refl

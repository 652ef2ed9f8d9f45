-- What each rule makes of the standing of the station concerned, and of the others, at its page.
use Rattle.std.proofs.Common.{◌≡◌, ℕ, ◌<◌, Bool, true, false, cond, eqb, ◌≢◌, List, [], ◌∷◌, ◌++◌, Some, None, sym, refl, ◌∙◌, inl, inr, append-nil, arith}
use Rattle.std.proofs.Math.Bool.{or-true, or-false}
use Rattle.std.proofs.lemmas.Bool.{cases_Bool, lt-ltb, ne_eqb}
use Rattle.messages.specs.declared.message.Kind.{Kind}
use Rattle.messages.specs.declared.message.Kind.TheVariants.{ShReq, ExReq, ShRep, ExRep, WbReq, FlushReq, InvReq, WbRep, FlushRep, InvRep}
use Rattle.registers.specs.Sets.{station_limit, nobody, without}
use Rattle.protocol.specs.declared.cell.Cell.{Cell}
use Rattle.protocol.specs.declared.cell.Cell.TheVariants.{None as none, Sh, Ex, Pend}
use Rattle.protocol.specs.declared.instruction.Access.{Access}
use Rattle.protocol.specs.declared.pages.HomeState.{HomeState}
use Rattle.protocol.specs.declared.station.StationStep.{StationStep}
use Rattle.protocol.specs.Deeds.{account_of}
use Rattle.protocol.specs.Rules.{Stations, Empty, HomePage, HomeStep, Works, loads_reading_copy, loads_writing_copy, stores, asks_to_read, asks_to_write, asks_to_upgrade, Receives, takes_reading_copy, takes_writing_copy, writes_back, flushes, invalidates, stays_pending, Collects, is_written_back, is_flushed, strikes, strikes_last, Serves, shares, gives_alone, recalls_readers, recalls_writer_to_read, recalls_writer_to_write}
use Rattle.protocol.specs.State.{sent_to}
use Rattle.coherence.proofs.Tables.{eqb_same, included, included_other, struck, struck_other, kinds}
use Rattle.coherence.proofs.Standing.{Seen, out, in_r, in_w, in_tr, in_tw, seen, Sees, as_writer, as_recalled_writer, sees, Asking, to_read, to_write, RecallsWriter, by_write_back, by_flush, Standing, absent, asks, reads, read_granted, upgrades, granted_recalled, reader_recalled, upgrade_recalled, invalidated, invalidated_asks, write_granted, writes, grant_recalled, writer_recalled, written_back, written_back_asks, flushed, flushed_asks, HomeStateHolds, HomeHolds}

module _ {V : Type 0} {L : V} where
  ask_at_none : {a : Seen} {k : Kind V} {q d r : List (Kind V)} → Asking k → Standing L a none q d r → Standing L a Pend (q ++ k ∷ []) d r
  ask_at_none k absent = asks k
  ask_at_none k invalidated = invalidated_asks k
  ask_at_none k (flushed e) = flushed_asks k e

  ask_at_reader : {w : V} {a : Seen} {q d r : List (Kind V)} → Standing L a (Sh w) q d r → Standing L a Pend (q ++ ExReq ∷ []) d r
  ask_at_reader (reads e) = upgrades
  ask_at_reader (reader_recalled e) = upgrade_recalled
  ask_at_reader (written_back e f) = written_back_asks f

-- a station works an instruction that stores nothing
pub works_here : {V : Type 0} {L : V} {a : Seen} {c : Cell V} {x : Access V} {step : StationStep V} {q d r : List (Kind V)} → Works c x step → (account_of step.deed).stores ≡ false → Standing L a c q d r → Standing L a step.cell (q ++ kinds step.sends) d r
works_here loads_reading_copy f k = rw append-nil k
works_here loads_writing_copy f k = rw append-nil k
works_here stores f k = absurd (cc)
works_here asks_to_read f k = ask_at_none to_read k
works_here asks_to_write f k = ask_at_none to_write k
works_here asks_to_upgrade f k = ask_at_reader k

-- a station receives a message
module _ {V : Type 0} {L : V} where
  get_reading : {v : V} {a : Seen} {q d r : List (Kind V)} → Standing L a Pend q (ShRep v ∷ d) r → Standing L a (Sh v) q d r
  get_reading (read_granted e) = reads e
  get_reading (granted_recalled e) = reader_recalled e

  get_writing : {v : V} {a : Seen} {q d r : List (Kind V)} → Standing L a Pend q (ExRep v ∷ d) r → Standing L a (Ex v) q d r
  get_writing (write_granted e) = writes e
  get_writing (grant_recalled k e) = writer_recalled k e

  write_back : {v : V} {a : Seen} {q d r : List (Kind V)} → Standing L a (Ex v) q (WbReq ∷ d) r → Standing L a (Sh v) q d (r ++ WbRep v ∷ [])
  write_back (writer_recalled k e) = written_back e e

  flush : {v : V} {a : Seen} {q d r : List (Kind V)} → Standing L a (Ex v) q (FlushReq ∷ d) r → Standing L a none q d (r ++ FlushRep v ∷ [])
  flush (writer_recalled k e) = flushed e

  invalidate : {v : V} {a : Seen} {q d r : List (Kind V)} → Standing L a (Sh v) q (InvReq ∷ d) r → Standing L a none q d (r ++ InvRep ∷ [])
  invalidate (reader_recalled e) = invalidated

  stay_pending : {a : Seen} {q d r : List (Kind V)} → Standing L a Pend q (InvReq ∷ d) r → Standing L a Pend q d (r ++ InvRep ∷ [])
  stay_pending upgrade_recalled = invalidated_asks to_write

pub receives_here : {V : Type 0} {L : V} {a : Seen} {c : Cell V} {k : Kind V} {step : StationStep V} {q d r : List (Kind V)} → Receives c k step → Standing L a c q (k ∷ d) r → Standing L a step.cell q d (r ++ kinds step.sends)
receives_here takes_reading_copy x = rw append-nil (get_reading x)
receives_here takes_writing_copy x = rw append-nil (get_writing x)
receives_here writes_back x = write_back x
receives_here flushes x = flush x
receives_here invalidates x = invalidate x
receives_here stays_pending x = stay_pending x

pub receives_leaves : {V : Type 0} {c : Cell V} {k : Kind V} {step : StationStep V} → Receives c k step → (account_of step.deed).leaves ≡ true
receives_leaves rule = grind arith

-- a station that may write, and those beside it
pub data MayWrite : Seen → Type 0 where
  has_it : MayWrite in_w
  gives_it_back : MayWrite in_tw

pub may_write : {V : Type 0} {L v : V} {a : Seen} {q d r : List (Kind V)} → Standing L a (Ex v) q d r → MayWrite a
may_write (writes e) = has_it
may_write (writer_recalled k e) = gives_it_back

alone_as_seen : {h : HomeState Stations} {a : Seen} {s : ℕ} → MayWrite a → Sees s h a → (t : ℕ) → t ≢ s → seen h t ≡ out
alone_as_seen has_it (as_writer {t = u} e) t n = simp (ne_eqb t u (λ h. n (h ∙ sym e)))
alone_as_seen gives_it_back (as_recalled_writer {t = u} e) t n = simp (ne_eqb t u (λ h. n (h ∙ sym e)))

pub alone : (h : HomeState Stations) (s t : ℕ) → MayWrite (seen h s) → t ≢ s → seen h t ≡ out
alone h s t m n = alone_as_seen m (sees h s) t n

-- a store is answered: it gives the page another latest value
module _ {V : Type 0} {L : V} where
  pub store_here : {v w : V} {a : Seen} {q d r : List (Kind V)} → Standing L a (Ex w) q d r → Standing v a (Ex v) q d r
  store_here (writes e) = writes refl
  store_here (writer_recalled k e) = writer_recalled k refl

  pub store_beside : {v : V} {c : Cell V} {q d r : List (Kind V)} → Standing L out c q d r → Standing v out c q d r
  store_beside absent = absent
  store_beside (asks k) = asks k

-- where a station may write, nothing is asked of the home's value
free_as_seen : {V : Type 0} (L v : V) {h : HomeState Stations} {a : Seen} {s : ℕ} → MayWrite a → Sees s h a → HomeStateHolds L v h
free_as_seen L v has_it (as_writer e) = tt
free_as_seen L v gives_it_back (as_recalled_writer e) = tt

pub home_free : {V : Type 0} (L : V) (h : HomePage V) (s : ℕ) → MayWrite (seen h.state s) → HomeHolds L h
home_free L h s m = free_as_seen L h.value m (sees h.state s)

-- the home reads a reply
module _ {V : Type 0} {L : V} where
  have_written_back : {v : V} {c : Cell V} {q d r : List (Kind V)} → Standing L in_tw c q d (WbRep v ∷ r) → Standing L in_r c q d r
  have_written_back (written_back e f) = reads e
  have_written_back (written_back_asks f) = upgrades

  value_written_back : {v : V} {c : Cell V} {q d r : List (Kind V)} → Standing L in_tw c q d (WbRep v ∷ r) → v ≡ L
  value_written_back stands = grind arith

  have_flushed : {v : V} {c : Cell V} {q d r : List (Kind V)} → Standing L in_tw c q d (FlushRep v ∷ r) → Standing L out c q d r
  have_flushed (flushed f) = absent
  have_flushed (flushed_asks k f) = asks k

  value_flushed : {v : V} {c : Cell V} {q d r : List (Kind V)} → Standing L in_tw c q d (FlushRep v ∷ r) → v ≡ L
  value_flushed stands = grind arith

  have_invalidated : {c : Cell V} {q d r : List (Kind V)} → Standing L in_tr c q d (InvRep ∷ r) → Standing L out c q d r
  have_invalidated invalidated = absent
  have_invalidated (invalidated_asks k) = asks k

-- whoever is in the set besides s is in it without s
pub nobody_beside : (D : Stations) (s t : ℕ) → Empty (without D s) → t ≢ s → D t ≡ false
nobody_beside D s t m n = sym (struck_other D s t n) ∙ m t

module _ {V : Type 0} {L : V} {s : ℕ} (low : s < station_limit) where
  pub collects_here : {h : HomePage V} {k : Kind V} {step : HomeStep V} {c : Cell V} {q d r : List (Kind V)} → Collects s h k step → Standing L (seen h.state s) c q d (k ∷ r) → Standing L (seen step.page.state s) c q d r
  collects_here is_written_back x = simp (included nobody s low) (have_written_back (simp eqb_same at x))
  collects_here is_flushed x = have_flushed (simp eqb_same at x)
  collects_here (strikes {D = D} y z) x = simp (struck D s) (have_invalidated (simp y at x))
  collects_here (strikes_last y z) x = have_invalidated (simp y at x)

  pub collects_beside : {h : HomePage V} {k : Kind V} {step : HomeStep V} {c : Cell V} {q d r : List (Kind V)} (t : ℕ) → t ≢ s → Collects s h k step → Standing L (seen h.state t) c q d r → Standing L (seen step.page.state t) c q d r
  collects_beside t n is_written_back x = simp (included_other nobody s t n) (simp ne_eqb at x)
  collects_beside t n is_flushed x = simp ne_eqb at x
  collects_beside t n (strikes {D = D} y z) x = simp (struck_other D s t n) x
  collects_beside t n (strikes_last {D = D} y z) x = simp (nobody_beside D s t z n) at x

  pub collects_home : {h : HomePage V} {k : Kind V} {step : HomeStep V} {c : Cell V} {q d r : List (Kind V)} → Collects s h k step → HomeHolds L h → Standing L (seen h.state s) c q d (k ∷ r) → HomeHolds L step.page
  collects_home is_written_back o x = value_written_back (simp eqb_same at x)
  collects_home is_flushed o x = value_flushed (simp eqb_same at x)
  collects_home (strikes y z) o x = (o.0, z)
  collects_home (strikes_last y z) o x = o.0

pub collects_leaves : {V : Type 0} {s : ℕ} {h : HomePage V} {k : Kind V} {step : HomeStep V} → Collects s h k step → (account_of step.deed).leaves ≡ true
collects_leaves rule = grind arith

-- a reply makes the home send nothing
pub collects_silent : {V : Type 0} {s : ℕ} {h : HomePage V} {k : Kind V} {step : HomeStep V} → Collects s h k step → (t : ℕ) → sent_to step.sends t ≡ None
collects_silent rule t = grind arith

-- the home takes a request
module _ {V : Type 0} {L : V} where
  share : {v : V} {c : Cell V} {q d r : List (Kind V)} → v ≡ L → Standing L out c (ShReq ∷ q) d r → Standing L in_r c q (d ++ ShRep v ∷ []) r
  share e (asks k) = read_granted e

  give : {v : V} {c : Cell V} {q d r : List (Kind V)} (b : Bool) → v ≡ L → Standing L (cond b in_r out) c (ExReq ∷ q) d r → Standing L in_w c q (d ++ ExRep v ∷ []) r
  give true e upgrades = write_granted e
  give false e (asks k) = write_granted e

  fold_in : {c : Cell V} {q d r : List (Kind V)} (b : Bool) → Standing L (cond b in_r out) c (ExReq ∷ q) d r → Standing L out c (ExReq ∷ q) d r
  fold_in true upgrades = asks to_write
  fold_in false (asks k) = asks k

  recall_reader : {c : Cell V} {q d r : List (Kind V)} → Standing L in_r c q d r → Standing L in_tr c q (d ++ InvReq ∷ []) r
  recall_reader (reads e) = reader_recalled e
  recall_reader (read_granted e) = granted_recalled e
  recall_reader upgrades = upgrade_recalled

  recall_writer : {k : Kind V} {c : Cell V} {q d r : List (Kind V)} → RecallsWriter k → Standing L in_w c q d r → Standing L in_tw c q (d ++ k ∷ []) r
  recall_writer k (write_granted e) = grant_recalled k e
  recall_writer k (writes e) = writer_recalled k e

module _ {V : Type 0} {L : V} {s : ℕ} (low : s < station_limit) where
  pub serves_here : {h : HomePage V} {k : Kind V} {step : HomeStep V} {c : Cell V} {q d r : List (Kind V)} → Serves s h k step → HomeHolds L h → Standing L (seen h.state s) c (k ∷ q) d r → Standing L (seen step.page.state s) c (cond (account_of step.deed).leaves q (k ∷ q)) (d ++ kinds (sent_to step.sends s)) r
  serves_here (shares y) o x = simp (eqb_same, lt-ltb s station_limit low, or-true) (share o (simp y at x))
  serves_here (gives_alone {D = D} y) o x = simp eqb_same (give (D s) o x)
  serves_here (recalls_readers {D = D} y) o x = simp (struck D s, append-nil) (fold_in (D s) x)
  serves_here (recalls_writer_to_read n) o x = simp (ne_eqb, append-nil) (simp ne_eqb at x)
  serves_here (recalls_writer_to_write n) o x = simp (ne_eqb, append-nil) (simp ne_eqb at x)

  writer_and_beside : {c : Cell V} {q d r : List (Kind V)} (t u : ℕ) {k : Kind V} → RecallsWriter k → Standing L (cond (eqb u t) in_w out) c q d r → Standing L (cond (eqb u t) in_tw out) c q (d ++ kinds (cond (eqb u t) (Some k) None)) r
  writer_and_beside t u m x = elim (cases_Bool (eqb u t)) [ inl e ↦ simp e (recall_writer m (simp e at x)) | inr e ↦ simp (e, append-nil) (simp e at x) ]

  pub serves_beside : {h : HomePage V} {k : Kind V} {step : HomeStep V} {c : Cell V} {q d r : List (Kind V)} (u : ℕ) → u ≢ s → Serves s h k step → Standing L (seen h.state u) c q d r → Standing L (seen step.page.state u) c q (d ++ kinds (sent_to step.sends u)) r
  serves_beside u n (shares y) x = simp (ne_eqb, or-false, append-nil) x
  serves_beside u n (gives_alone {D = D} y) x = simp (ne_eqb, append-nil) (simp (nobody_beside D s u y n) at x)
  serves_beside u n (recalls_readers {D = D} y) x = elim (cases_Bool (D u)) [ inl e ↦ simp (e, ne_eqb) (recall_reader (simp e at x)) | inr e ↦ simp (e, append-nil) (simp e at x) ]
  serves_beside u n (recalls_writer_to_read {t = t} m) x = writer_and_beside t u by_write_back x
  serves_beside u n (recalls_writer_to_write {t = t} m) x = writer_and_beside t u by_flush x

pub serves_home : {V : Type 0} (L : V) {s : ℕ} {h : HomePage V} {k : Kind V} {step : HomeStep V} → Serves s h k step → HomeHolds L h → HomeHolds L step.page
serves_home L (shares y) o = o
serves_home L (gives_alone y) o = tt
serves_home L (recalls_readers y) o = (o, y)
serves_home L (recalls_writer_to_read n) o = tt
serves_home L (recalls_writer_to_write n) o = tt

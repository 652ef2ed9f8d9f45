use Rattle.std.proofs.Common.{◌+◌, ◌≤◌, length, Ok, Err, string_bytes, sym, refl, ap, ◌∙◌, arith}
use Rattle.script.specs.Records.{record_as, piece_of, outcome}
use Rattle.listing.specs.Lines.{listed, too_long}
use Rattle.listing.proofs.Said.{has_meaning}
use Rattle.listing.proofs.Turns.{goes_on, never_unread, one_more, at_fault, at_end}
use Rattle.listing.proofs.lines.list.Given as given
use Rattle.listing.proofs.lines.list.Goals as goal

pub returns-in-Err : goal.returns-in-Err
returns-in-Err g c =
    let long = c.in-Err.ensures in
    rw (c.in_ok-write_fault-in-Err.ensures, c.new-text.ensures.bytes) (too_long c.in-Err.fault long.0 long.1)

pub returns-in-Err-next_record : goal.returns-in-Err-next_record
returns-in-Err-next_record g c =
    listed _ c.loop-found.invariant.short
    (at_fault g.V.Value.width g.V.Value.reads c.args.script.now c.loop-found.reader.script.now c.loop-found.invariant.same c.loop-found.reader.at c.next_record.new.self.at (outcome (Err c.in-Err-next_record.fault)) c.in-Err-next_record.ensures.next g.V.Display.output c.loop-found.number (string_bytes c.loop-found.text) _ c.loop-found.invariant.so_far c.in-Err-next_record.fault refl c.in_ok-write_fault-in-Err-next_record.ensures)

pub returns-in_default : goal.returns-in_default
returns-in_default g c =
    listed _ c.loop-found.invariant.short
    (at_end g.V.Value.width g.V.Value.reads c.args.script.now c.loop-found.reader.script.now c.loop-found.invariant.same c.loop-found.reader.at c.next_record.new.self.at (outcome (Ok c.in-Ok-next_record.found)) c.in-Ok-next_record.ensures.next g.V.Display.output c.loop-found.number (string_bytes c.loop-found.text) _ c.loop-found.invariant.so_far (ap (λ o. outcome (Ok o)) c.in_default.is) refl)

pub unreachable-requires : goal.unreachable-requires
unreachable-requires g c =
    never_unread g.V.Value.width g.V.Value.reads c.args.script.now c.loop-found.reader.script.now c.loop-found.invariant.same c.loop-found.reader.at c.next_record.new.self.at (outcome (Ok c.in-Ok-next_record.found)) c.in-Ok-next_record.ensures.next (record_as piece_of c.in-Some.next.record) c.in-Some.next.at (ap (λ o. outcome (Ok o)) c.in-Some.is)
    (sym c.decode.ensures ∙ c.in_default-decode.is)

ahead : (g : given.Over) (c : goal.In_ok-write_record g) → (c.loop-found.reader.at + 3 ≤ c.next_record.new.self.at) × (c.next_record.new.self.at ≤ length c.args.script.now)
ahead g c = goes_on g.V.Value.width g.V.Value.reads c.args.script.now c.loop-found.reader.script.now c.loop-found.invariant.same c.loop-found.reader.at c.next_record.new.self.at (outcome (Ok c.in-Ok-next_record.found)) c.in-Ok-next_record.ensures.next (record_as piece_of c.in-Some.next.record) c.in-Some.next.at (ap (λ o. outcome (Ok o)) c.in-Some.is) c.loop-found.invariant.within

pub loop-found-smaller : goal.loop-found-smaller
loop-found-smaller g c = let far = ahead g c in omega (arith, c.loop-found.invariant.within)

pub loop-found-preserved : goal.loop-found-preserved
loop-found-preserved g c =
    let far = ahead g c in
    record {
      same = c.next_record.ensures.script ∙ c.loop-found.invariant.same;
      within = far.1;
      short = c.loop-found.invariant.short;
      counted = omega (arith, c.loop-found.invariant.counted);
      so_far = let said = has_meaning g.V.Display.output g.met.V.Listed.prints c.in-Some-decode.record in one_more g.V.Value.width g.V.Value.reads c.args.script.now c.loop-found.reader.script.now c.loop-found.invariant.same c.loop-found.reader.at c.next_record.new.self.at (outcome (Ok c.in-Ok-next_record.found)) c.in-Ok-next_record.ensures.next g.V.Display.output c.loop-found.number (string_bytes c.loop-found.text) _ c.loop-found.invariant.so_far (record_as piece_of c.in-Some.next.record) c.in-Some.next.at (ap (λ o. outcome (Ok o)) c.in-Some.is) c.in-Some-decode.record (sym c.decode.ensures ∙ c.in-Some-decode.is) said.0 said.1 (c.in_ok-write_record.ensures said.0 said.1);
    }

use Rattle.std.proofs.Common.{Ok, Err, refl, ap, ◌∙◌, arith}
use Rattle.std.proofs.lemmas.Result.{err_from_is_err_and}
use Rattle.script.specs.Fields.{field_found}
use Rattle.script.specs.Records.{readable, seen}
use Rattle.script.proofs.Nexts.{at_end, at_cut, at_padding, at_record}
use Rattle.script.proofs.field.Reader.next_record.Goals as goal

pub returns-in_err-field-clause-next : goal.returns-in_err-field-clause-next
returns-in_err-field-clause-next g c =
    let p = err_from_is_err_and c.from_residual.result c.from_residual.ensures.1 in
    rw (p.1, p.2)
    (c.loop-field.invariant.1 _ _ (at_cut g.V.Value.width (readable g.V.Value.reads) c.args.self.now.script.now c.loop-field.self.script.now c.loop-field.invariant.0 c.loop-field.self.at c.next_field.new.self.at _ c.in_err-field.ensures.found c.in_err-field.ensures.at _ refl))

pub returns-in_err-record-clause-next : goal.returns-in_err-record-clause-next
returns-in_err-record-clause-next g c =
    let p = err_from_is_err_and c.from_residual-in_err-record.result c.from_residual-in_err-record.ensures.1 in
    rw (p.1, p.2)
    (c.loop-field.invariant.1 _ _ (at_record g.V.Value.width (readable g.V.Value.reads) c.args.self.now.script.now c.loop-field.self.script.now c.loop-field.invariant.0 c.loop-field.self.at c.next_field.new.self.at _ c.in_ok-field.ensures.found c.in_ok-field.ensures.at c.in-Some.field.tag c.in-Some.field.at c.in-Some.field.body.now (ap (λ o. field_found (Ok o)) c.in-Some.is) (Err c.in_err-record.field-0.0) _ refl (omega (arith, c.if-field-ne-PADDING.true)) (c.in_err-record.ensures (omega (arith, c.if-field-ne-PADDING.true)))))

pub returns-then-field-ne-PADDING-clause-next : goal.returns-then-field-ne-PADDING-clause-next
returns-then-field-ne-PADDING-clause-next g c =
    c.loop-field.invariant.1 _ _ (at_record g.V.Value.width (readable g.V.Value.reads) c.args.self.now.script.now c.loop-field.self.script.now c.loop-field.invariant.0 c.loop-field.self.at c.next_field.new.self.at _ c.in_ok-field.ensures.found c.in_ok-field.ensures.at c.in-Some.field.tag c.in-Some.field.at c.in-Some.field.body.now (ap (λ o. field_found (Ok o)) c.in-Some.is) (seen (Ok c.in_ok-record.record)) _ refl (omega (arith, c.if-field-ne-PADDING.true)) (c.in_ok-record.ensures (omega (arith, c.if-field-ne-PADDING.true))))

pub loop-field-preserved : goal.loop-field-preserved
loop-field-preserved g c =
    (c.next_field.ensures.script ∙ c.loop-field.invariant.0, λ next to later. c.loop-field.invariant.1 next to (at_padding g.V.Value.width (readable g.V.Value.reads) c.args.self.now.script.now c.loop-field.self.script.now c.loop-field.invariant.0 c.loop-field.self.at c.next_field.new.self.at _ c.in_ok-field.ensures.found c.in_ok-field.ensures.at c.in-Some.field.tag c.in-Some.field.at c.in-Some.field.body.now (ap (λ o. field_found (Ok o)) c.in-Some.is) c.if-field-ne-PADDING.false next to later))

pub returns-clause-next : goal.returns-clause-next
returns-clause-next g c =
    c.loop-field.invariant.1 _ _ (at_end g.V.Value.width (readable g.V.Value.reads) c.args.self.now.script.now c.loop-field.self.script.now c.loop-field.invariant.0 c.loop-field.self.at c.next_field.new.self.at _ c.in_ok-field.ensures.found c.in_ok-field.ensures.at (ap (λ o. field_found (Ok o)) c.in_default.is))

use Rattle.std.proofs.Common.{[], sym, ◌∙◌, append-nil, true-eqb}
use Rattle.std.proofs.lemmas.List.{nil_from_length}
use Rattle.messages.specs.Bytes.{field, value_tag}
use Rattle.messages.proofs.Parts.{value_read}
use Rattle.messages.proofs.codec.read_value.Goals as goal

pub returns-in_err-body : goal.returns-in_err-body
returns-in_err-body g c =
    rw c.from_residual.ensures
    (λ value is. c.in_err-body.ensures (g.V.Value.bytes value, []) (is ∙ sym (append-nil (field value_tag (g.V.Value.bytes value)))))

pub returns-then-is_empty : goal.returns-then-is_empty
returns-then-is_empty g c =
    value_read g.V.Value.bytes _ _ _ c.in_ok-body.ensures (nil_from_length _ (true-eqb _ 0 c.if-is_empty.ensures)) g.V.Value.reads g.met.V.Value.back g.met.V.Value.only (λ i. (c.type_inv.from i).fits) c.read.result c.read.ensures

use Rattle.messages.specs.Bytes.{kind_number, value_of, value_field}
use Rattle.messages.proofs.codec.read.Goals as goal

pub returns-in_err-number : goal.returns-in_err-number
returns-in_err-number g c =
    rw c.from_residual.ensures (λ m is. c.in_err-number.ensures (kind_number m.kind, m.page, value_field g.V.Value.bytes (value_of m.kind)) is)

use Rattle.messages.proofs.field.take_field.Goals as goal

pub returns-in_err-first : goal.returns-in_err-first
returns-in_err-first c = rw c.from_residual.ensures (λ p is. c.in_err-first.ensures (c.args.tag, p.0, p.1) is)

use Rattle.std.proofs.Common.{◌≡◌, [], ◌∷◌, ◌++◌, length, ap, arith}
use Rattle.messages.specs.Bytes.{word, field}
use Rattle.messages.proofs.Parts.{after_kind, page_is}
use Rattle.messages.proofs.codec.read_kind_and_page.Goals as goal

pub returns-in_err-number : goal.returns-in_err-number
returns-in_err-number c = rw c.from_residual.ensures (λ p is. c.in_err-number.ensures (p.0 ∷ [], field 2 (word p.1) ++ p.2) is)

pub returns-in_err-page : goal.returns-in_err-page
returns-in_err-page c =
    rw c.from_residual-in_err-page.ensures
    (λ p is. c.in_err-page.ensures (word p.1, p.2) (after_kind _ _ _ c.in_ok-number.ensures p.0 p.1 p.2 is))

pub returns-in_err-ok : goal.returns-in_err-ok
returns-in_err-ok c =
    rw c.from_residual-in_err-ok.ensures
    (λ p is.
    let two : length c.in_ok-page.page.now ≡ 2 = ap length (page_is _ _ _ c.in_ok-number.ensures _ _ c.in_ok-page.ensures p.0 p.1 p.2 is) in
    grind arith)

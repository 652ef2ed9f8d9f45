-- A reader asks to write: alone, and beside one other reader.
use Rattle.std.proofs.Common.{◌≡◌, false, refl, subst}
use Rattle.std.proofs.lemmas.Bool.{ne_eqb}
use mathlib.Core.Path.{fun_ext}
use Rattle.std.proofs.Math.Bool.{and-true}
use Rattle.messages.specs.declared.message.Kind.TheVariants.{ExReq, ExRep, InvReq}
use Rattle.registers.specs.Sets.{nobody, including, without}
use Rattle.protocol.specs.declared.deed.Deed.TheVariants.{Exclusive, Recalling}
use Rattle.protocol.specs.declared.deed.Fold.TheVariants.{OwnCopy}
use Rattle.protocol.specs.declared.pages.HomeState.TheVariants.{R, W, TR}
use Rattle.protocol.specs.declared.pages.Sends.TheVariants.{To, ToAll}
use Rattle.protocol.specs.Rules.{page, home_step, Serves, Empty}
use Rattle.protocol.specs.Rules.Serves.{gives_alone, recalls_readers}
use Rattle.coherence.proofs.Tables.{at_and_beside}

nobody_else : Empty (without (including nobody 0) 0)
nobody_else = at_and_beside (λ t. without (including nobody 0) 0 t ≡ false) 0 refl (λ t n. simp (ne_eqb t 0 n))

only_other : without (including (including nobody 0) 1) 0 ≡ including nobody 1
only_other = fun_ext (at_and_beside (λ t. without (including (including nobody 0) 1) 0 t ≡ including nobody 1 t) 0 refl (λ t n. simp (ne_eqb t 0 n, and-true)))

module _ {V : Type 0} where
  pub alone : (v : V) → Serves 0 (page v (R (including nobody 0))) ExReq (home_step (page v (W 0)) (To 0 (ExRep v)) (Exclusive OwnCopy))
  alone v = gives_alone nobody_else

  pub beside_reader : (v : V) →
      Serves 0 (page v (R (including (including nobody 0) 1))) ExReq
      (home_step (page v (TR (including nobody 1))) (ToAll (including nobody 1) InvReq) (Recalling OwnCopy))
  beside_reader v =
      subst
      (λ rest. Serves 0 (page v (R (including (including nobody 0) 1))) ExReq (home_step (page v (TR rest)) (ToAll rest InvReq) (Recalling OwnCopy)))
      only_other
      (recalls_readers (1, refl))

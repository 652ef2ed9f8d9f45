-- The message at the front of a slot. Assumes nothing.
use Rattle.std.proofs.Common.{◌≡◌, ℕ, ◌+◌, ◌*◌, ◌/◌, ◌%◌, true, List, [], ◌∷◌, ◌++◌, length, take, drop, Some, None, Option, unwrap_or, sym, refl, ap, ◌∙◌, ⊎_elim, append-nil, arith}
use Rattle.std.proofs.lemmas.Bool.{cond-true, cond-false, cases_Bool, and_parts, and_from, eqb-true, eq-eqb}
use Rattle.std.proofs.lemmas.List.{length-append, take-append-drop, take_at, nil_from_length}
use Rattle.messages.specs.declared.message.Kind.{Kind}
use Rattle.messages.specs.declared.message.Kind.TheVariants.{ShReq, ExReq, ShRep, ExRep, WbReq, FlushReq, InvReq, WbRep, FlushRep, InvRep}
use Rattle.messages.specs.declared.message.Message.{Message}
use Rattle.messages.specs.Bytes.{value_of, value_field, message_bytes, max_size}
use Rattle.messages.specs.Reading.{Reads}
use Rattle.links.specs.Slots.{begins, plain_kinds, value_kinds, message_of, among, front_message}

begins_self : (bs rest : List ℕ) → begins bs (bs ++ rest) ≡ true
unfolding begins
begins_self [] rest = refl
begins_self (b ∷ bs) rest = and_from _ _ (eq-eqb b b refl) (begins_self bs rest)

begins_with : (bs slot : List ℕ) → begins bs slot ≡ true → slot ≡ bs ++ drop (length bs) slot
unfolding begins
begins_with [] slot e = refl
begins_with (b ∷ bs) [] e = let z : ◌≡◌ {A = ℕ} 0 1 = cc in let w : ⊥ = omega arith in absurd w
begins_with (b ∷ bs) (s ∷ slot) e = let p = and_parts _ _ e in λ i. sym (eqb-true b s p.0) i ∷ begins_with bs slot p.1 i

whole : (page : ℕ) → page / 256 * 256 + page % 256 ≡ page
whole page = omega arith

module _ {V : Type 0} (bytes : V → List ℕ) (reads : List ℕ → Option V) (width : ℕ) (back : (v : V) → reads (bytes v) ≡ Some v) (fixed : (v : V) → length (bytes v) ≡ width) where
  value_at : (v : V) (rest : List ℕ) → reads (take width (bytes v ++ rest)) ≡ Some v
  value_at v rest = ap reads (take_at (bytes v) rest width (fixed v)) ∙ back v

  abbrev slot : ℕ → Kind V → List ℕ → List ℕ
  slot page kind rest = message_bytes bytes (message_of page kind) ++ rest

  -- the test at the message itself
  itself : (page : ℕ) (kind : Kind V) (rest : List ℕ) → begins (message_bytes bytes (message_of page kind)) (slot page kind rest) ≡ true
  itself page kind rest = begins_self (message_bytes bytes (message_of page kind)) rest

  abbrev choice : ℕ → Kind V → List ℕ → Option V → Message V
  choice page kind rest o = among bytes reads width page (slot page kind rest) (plain_kinds ++ value_kinds o)

  paged : (page : ℕ) (kind : Kind V) (rest : List ℕ) → front_message bytes reads width (slot page kind rest) ≡ choice page kind rest (reads (take width (drop 12 (slot page kind rest))))
  unfolding front_message
  paged page kind rest = ap (λ p. among bytes reads width p (slot page kind rest) (plain_kinds ++ value_kinds (reads (take width (drop 12 (slot page kind rest)))))) (whole page)

  kind_front : (page : ℕ) (kind : Kind V) (rest : List ℕ) → front_message bytes reads width (slot page kind rest) ≡ message_of page kind
  unfolding among begins
  kind_front page ShReq rest = paged page ShReq rest ∙ cond-true _ _ _ (itself page ShReq rest)
  kind_front page ExReq rest = paged page ExReq rest ∙ cond-true _ _ _ (itself page ExReq rest)
  kind_front page WbReq rest = paged page WbReq rest ∙ cond-true _ _ _ (itself page WbReq rest)
  kind_front page FlushReq rest = paged page FlushReq rest ∙ cond-true _ _ _ (itself page FlushReq rest)
  kind_front page InvReq rest = paged page InvReq rest ∙ cond-true _ _ _ (itself page InvReq rest)
  kind_front page InvRep rest = paged page InvRep rest ∙ cond-true _ _ _ (itself page InvRep rest)
  kind_front page (ShRep v) rest = paged page (ShRep v) rest ∙ ap (choice page (ShRep v) rest) (value_at v rest) ∙ cond-true _ _ _ (itself page (ShRep v) rest)
  kind_front page (ExRep v) rest = paged page (ExRep v) rest ∙ ap (choice page (ExRep v) rest) (value_at v rest) ∙ cond-true _ _ _ (itself page (ExRep v) rest)
  kind_front page (WbRep v) rest = paged page (WbRep v) rest ∙ ap (choice page (WbRep v) rest) (value_at v rest) ∙ cond-true _ _ _ (itself page (WbRep v) rest)
  kind_front page (FlushRep v) rest = paged page (FlushRep v) rest ∙ ap (choice page (FlushRep v) rest) (value_at v rest) ∙ cond-true _ _ _ (itself page (FlushRep v) rest)

  -- a slot that begins with the bytes of a message has that message at its front
  pub front_is : (bs : List ℕ) (m : Message V) (rest : List ℕ) → bs ≡ message_bytes bytes m ++ rest → front_message bytes reads width bs ≡ m
  front_is bs m rest e = ap (front_message bytes reads width) e ∙ kind_front m.page m.kind rest

  none_among : (page : ℕ) (bs : List ℕ) (kinds : List (Kind V)) → ((m : Message V) (rest : List ℕ) → bs ≡ message_bytes bytes m ++ rest → ⊥) → among bytes reads width page bs kinds ≡ message_of 0 ShReq
  unfolding among
  none_among page bs [] off = refl
  none_among page bs (kind ∷ more) off =
      ⊎_elim
      (λ yes. absurd (off (message_of page kind) _ (begins_with (message_bytes bytes (message_of page kind)) bs yes)))
      (λ not'. cond-false _ _ _ not' ∙ none_among page bs more off)
      (cases_Bool (begins (message_bytes bytes (message_of page kind)) bs))

  -- what the reader of a slot answers, at each of its ways
  module _ (bs : List ℕ) (long : length bs ≡ max_size width) where
    pub front_whole : (m : Message V) → bs ≡ message_bytes bytes m → m ≡ front_message bytes reads width bs
    front_whole m e = sym (front_is bs m [] (e ∙ sym (append-nil (message_bytes bytes m))))

    pub front_plain : (n : ℕ) (m : Message V) → take n bs ≡ message_bytes bytes m → m ≡ front_message bytes reads width bs
    front_plain n m e = sym (front_is bs m (drop n bs) (sym (take-append-drop n bs) ∙ ap (λ (front : List ℕ). front ++ drop n bs) e))

    long_by : (m : Message V) (o : Option V) → value_of m.kind ≡ o → length (message_bytes bytes m) ≡ 9 + length (value_field bytes o)
    long_by m o e = let z : length (message_bytes bytes m) ≡ 9 + length (value_field bytes (value_of m.kind)) = omega arith in z ∙ ap (λ (q : Option V). 9 + length (value_field bytes q)) e

    pub front_none : ((m : Message V) → bs ≡ message_bytes bytes m → ⊥) → ((m : Message V) → take 9 bs ≡ message_bytes bytes m → ⊥) → message_of 0 ShReq ≡ front_message bytes reads width bs
    unfolding front_message
    front_none no_whole no_plain = sym (none_among _ bs _ (λ m rest e. neither m rest e (value_of m.kind) refl))
      where
        neither : (m : Message V) (rest : List ℕ) → bs ≡ message_bytes bytes m ++ rest → (o : Option V) → value_of m.kind ≡ o → ⊥
        neither m rest e None none = no_plain m (ap (take 9) e ∙ take_at (message_bytes bytes m) rest 9 (long_by m None none))
        neither m rest e (Some v) some =
            let all : length bs ≡ length (message_bytes bytes m) + length rest = ap length e ∙ length-append (message_bytes bytes m) rest in
            let most = long_by m (Some v) some in
            let size = fixed v in
            let over : length rest ≡ 0 = omega arith in
            no_whole m (e ∙ ap (λ (more : List ℕ). message_bytes bytes m ++ more) (nil_from_length rest over) ∙ append-nil (message_bytes bytes m))

    -- after the whole slot was not a message
    pub front_rest : ((m : Message V) → bs ≡ message_bytes bytes m → ⊥) → (o : Option (Message V)) → Reads (message_bytes bytes) (take 9 bs) o → unwrap_or o (message_of 0 ShReq) ≡ front_message bytes reads width bs
    front_rest no_whole None no_plain = front_none no_whole no_plain
    front_rest no_whole (Some m) plain = front_plain 9 m plain

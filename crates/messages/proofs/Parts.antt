-- What the bytes of a message say of it. Assumes nothing.
use Rattle.std.proofs.Common.{◌≡◌, ℕ, ◌<◌, List, [], ◌∷◌, ◌++◌, get_or, Some, None, Option, sym, refl, ap, ◌∙◌, append-nil, arith}
use Rattle.std.specs.Int.Digits.{AllBelowBase}
use Rattle.messages.specs.declared.message.Kind.{Kind}
use Rattle.messages.specs.declared.message.Message.{Message}
use Rattle.messages.specs.Bytes.{word, field, kind_number, value_of, kind_and_page, value_tag, value_field, message_bytes}
use Rattle.messages.specs.Reading.{Reads}
use Rattle.messages.proofs.Fields.{unique, under_body, same_word}

-- the field of a kind and, at the front of what follows it, the field of a page
module _ (s kind rest : List ℕ) (is : s ≡ field 1 kind ++ rest) where
  pub after_kind : (n p : ℕ) (last : List ℕ) → s ≡ kind_and_page n p last → rest ≡ field 2 (word p) ++ last
  after_kind n p last e = (unique 1 kind (n ∷ []) rest (field 2 (word p) ++ last) (sym is ∙ e)).1

  module _ (page last : List ℕ) (rest-is : rest ≡ field 2 page ++ last) where
    pub page_is : (n p : ℕ) (last' : List ℕ) → s ≡ kind_and_page n p last' → page ≡ word p
    page_is n p last' e = (unique 2 page (word p) last last' (sym rest-is ∙ after_kind n p last' e)).0

module _ {V : Type 0} (bytes : V → List ℕ) where
  same_kind : (k l : Kind V) → kind_number k ≡ kind_number l → value_of k ≡ value_of l → k ≡ l
  same_kind k l a b = grind arith

  module _ (reads : List ℕ → Option V) (back : (v : V) → reads (bytes v) ≡ Some v) where
    same_value : (o q : Option V) → value_field bytes o ≡ value_field bytes q → o ≡ q
    same_value None None e = refl
    same_value None (Some w) e = cc
    same_value (Some v) None e = cc
    same_value (Some v) (Some w) e = let same : bytes v ≡ bytes w = cc in sym (back v) ∙ ap reads same ∙ back w

    pub same_message : (m n : Message V) → message_bytes bytes m ≡ message_bytes bytes n → m ≡ n
    same_message m n e =
        let kinds = same_kind m.kind n.kind (cc) (same_value (value_of m.kind) (value_of n.kind) (cc)) in
        let pages = same_word m.page n.page (cc) (cc) in
        λ i. record { page = pages i; kind = kinds i }

  -- what the value in a field reads as
  module _ (s body rest : List ℕ) (is : s ≡ field value_tag body ++ rest) (none : rest ≡ []) (reads : List ℕ → Option V) where
    alone : s ≡ field value_tag body
    alone = is ∙ (λ i. field value_tag body ++ none i) ∙ append-nil (field value_tag body)

    pub value_read : ((v : V) → reads (bytes v) ≡ Some v) → ((bs : List ℕ) (v : V) → AllBelowBase 256 bs → reads bs ≡ Some v → bytes v ≡ bs) → ((i : ℕ) → get_or s i 0 < 256) → (found : Option V) → found ≡ reads body → Reads (λ v. field value_tag (bytes v)) s found
    value_read back only small None e =
        λ v other.
        let same = unique value_tag body (bytes v) rest [] (sym is ∙ other ∙ sym (append-nil (field value_tag (bytes v)))) in
        let clash : None ≡ Some v = e ∙ ap reads same.0 ∙ back v in
        cc
    value_read back only small (Some v) e = alone ∙ ap (field value_tag) (sym (only body v (under_body value_tag s body rest small is) (sym e)))

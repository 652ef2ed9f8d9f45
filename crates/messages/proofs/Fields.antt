-- Fields at the front of a list of bytes. Assumes nothing.
use Rattle.std.proofs.Common.{◌≡◌, ℕ, suc, ◌+◌, ◌-◌, ◌*◌, ◌/◌, ◌%◌, ◌<◌, ◌≤◌, List, [], ◌∷◌, ◌++◌, length, get_or, take, drop, sym, refl, ap, ◌∙◌, subst, arith, take-append-drop}
use Rattle.std.proofs.lemmas.List.{take_at, drop_at, drop_more, take_rest, get_or_append_left}
use Rattle.std.proofs.ByRecursion.{All-from_get_or}
use Rattle.std.specs.Int.Digits.{AllBelowBase}
use Rattle.messages.specs.Bytes.{word, field}

-- the three bytes before a body, and the rest
pub opened : (s : List ℕ) → 3 ≤ length s → s ≡ get_or s 0 0 ∷ get_or s 1 0 ∷ get_or s 2 0 ∷ take (length s - 3) (drop 3 s)
opened s long = cc (drop_more s 0 0 (omega arith), drop_more s 1 0 (omega arith), drop_more s 2 0 (omega arith), take_rest s 3)

module _ (tag size high low : ℕ) (rest : List ℕ) (size_is : size ≡ high * 256 + low) where
  pub found : low < 256 → (body after : List ℕ) → length body ≡ size → body ≡ take size rest → after ≡ drop size rest → tag ∷ high ∷ low ∷ rest ≡ field tag body ++ after
  found small body after long b a =
      let upper : length body / 256 ≡ high = omega arith in
      let lower : length body % 256 ≡ low = omega arith in
      let whole : body ++ after ≡ rest = (λ i. b i ++ a i) ∙ take-append-drop size rest in
      cc

-- a list begins with one field of a tag at the most
pub unique : (tag : ℕ) (b b' r r' : List ℕ) → field tag b ++ r ≡ field tag b' ++ r' → (b ≡ b') × (r ≡ r')
unique tag b b' r r' e =
    let upper : length b / 256 ≡ length b' / 256 = cc in
    let lower : length b % 256 ≡ length b' % 256 = cc in
    let long : length b ≡ length b' = omega arith in
    let both : b ++ r ≡ b' ++ r' = cc in (
      sym (take_at b r _ long) ∙ ap (take (length b')) both ∙ take_at b' r' _ refl,
      sym (drop_at b r _ long) ∙ ap (drop (length b')) both ∙ drop_at b' r' _ refl,
    )

-- the body of a field in bytes is bytes
pub under_body : (tag : ℕ) (s body rest : List ℕ) → ((i : ℕ) → get_or s i 0 < 256) → s ≡ field tag body ++ rest → AllBelowBase 256 body
under_body tag s body rest small is =
    All-from_get_or (λ b. b < 256) body 0
    (λ i below. subst (λ b. b < 256) (ap (λ (l : List ℕ). get_or l (suc (suc (suc i))) 0) is ∙ get_or_append_left body rest 0 i below) (small (suc (suc (suc i)))))

pub two_bytes : (s : List ℕ) (n : ℕ) → length s ≡ 2 → n ≡ get_or s 0 0 * 256 + get_or s 1 0 → get_or s 1 0 < 256 → s ≡ word n
two_bytes [] n e is small = absurd (omega arith)
two_bytes (x ∷ []) n e is small = absurd (omega arith)
two_bytes (x ∷ y ∷ []) n e is small = let upper : n / 256 ≡ x = omega arith in let lower : n % 256 ≡ y = omega arith in cc
two_bytes (x ∷ y ∷ z ∷ s) n e is small = absurd (omega arith)

pub same_word : (p q : ℕ) → p / 256 ≡ q / 256 → p % 256 ≡ q % 256 → p ≡ q
same_word p q upper lower = omega arith

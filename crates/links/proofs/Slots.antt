-- The messages in the slots of a memory. Assumes nothing.
use Rattle.std.proofs.Common.{◌≡◌, ℕ, ◌+◌, ◌-◌, ◌*◌, ◌/◌, ◌<◌, ◌≤◌, leb, ◌≢◌, List, length, get_or, take, drop, set, Some, Option, sym, ap, ◌∙◌, subst, ⊎_elim, arith}
use borrow.Rule.Slice.PartMut.{put_mid}
use Rattle.std.specs.List.{between}
use Rattle.std.proofs.lemmas.Bool.{cond-true, cases_Bool, cases_eq, cases_lt, le-leb, leb-true, leb-false}
use Rattle.std.proofs.lemmas.List.{length-take, length-drop, length-append, same_lists, length-set, get_or-set_same, get_or-set_other}
use Rattle.std.proofs.lemmas.Slice.{between_is, between-put_mid, take-put_mid_below, drop-put_mid}
use Rattle.std.proofs.lemmas.List.FromFn.{length-map-range_with_len, get_or-map-range_with_len}
use Rattle.std.proofs.lemmas.Nat.{div-add-mod', mul-le, le-div}
use Rattle.values.specs.Writing.{written}
use Rattle.messages.specs.declared.message.Message.{Message}
use Rattle.messages.specs.Bytes.{message_bytes, max_size}
use Rattle.messages.proofs.Trips.{round_trip}
use Rattle.queues.proofs.Rounds.{row_below}
use Rattle.links.specs.Slots.{front_message, slots}
use Rattle.links.proofs.Fronts.{front_is}

-- a slot of `size` bytes lies within `n` bytes
pub slot_within : (n place size : ℕ) → place < n / size → place * size + size ≤ n
slot_within n place size h =
    let a = row_below place (n / size) size h in
    let b = div-add-mod' n size in
    omega arith

-- so many slots fit where their bytes do
pub slots_fit : (count n size : ℕ) → 0 < size → leb count (n / size) ≡ leb (count * size) n
slots_fit count n size h =
    ⊎_elim
    (λ e. e ∙ sym (le-leb (count * size) n (let x = mul-le count size (n / size) size (leb-true _ _ e) (omega arith) in let y = div-add-mod' n size in omega arith)))
    (λ e. e ∙ sym (⊎_elim (λ t. absurd (let x = le-div count n size h (leb-true (count * size) n t) in let y = leb-false count (n / size) e in omega arith)) (λ f. f) (cases_Bool (leb (count * size) n))))
    (cases_Bool (leb count (n / size)))

module _ {V : Type 0} (bytes : V → List ℕ) (reads : List ℕ → Option V) (width : ℕ) where
  abbrev kept : List ℕ → List (Message V)
  kept memory = slots bytes reads width memory

  abbrev slot : List ℕ → ℕ → ℕ → List ℕ
  slot memory size place = take size (drop (place * size) memory)

  pub slots_length : (memory : List ℕ) → length (slots bytes reads width memory) ≡ length memory / max_size width
  unfolding slots
  slots_length memory = length-map-range_with_len _ 0 (length memory / max_size width)

  pub slots_many : (memory : List ℕ) (n : ℕ) → n ≡ length memory / max_size width → n ≡ length (slots bytes reads width memory)
  slots_many memory n e = e ∙ sym (slots_length memory)

  slots_at : (memory : List ℕ) (place : ℕ) (d : Message V) → place < length memory / max_size width → get_or (kept memory) place d ≡ front_message bytes reads width (slot memory (max_size width) place)
  unfolding slots
  slots_at memory place d h = get_or-map-range_with_len (λ i. front_message bytes reads width (slot memory (max_size width) i)) 0 (length memory / max_size width) place place d h (omega arith)

  -- a place at which `size` is how many bytes a slot has
  module _ (memory : List ℕ) (place size : ℕ) (es : size ≡ max_size width) (h : place < length (slots bytes reads width memory)) where
    place_below : place < length memory / size
    place_below = subst (λ k. place < length memory / k) (sym es) (omega (arith, slots_length memory))

    pub slot_ends : place * size + size ≤ length memory
    slot_ends = slot_within (length memory) place size place_below

    part_is : take (place * size + size - place * size) (drop (place * size) memory) ≡ slot memory size place
    part_is = let e : place * size + size - place * size ≡ size = omega arith in ap (λ n. take n (drop (place * size) memory)) e

    pub part_long : length (take (place * size + size - place * size) (drop (place * size) memory)) ≡ max_size width
    part_long = let e = slot_ends in simp (length-take, length-drop) (omega arith)

    pub slot_read : (m : Message V) → m ≡ front_message bytes reads width (take (place * size + size - place * size) (drop (place * size) memory)) → m ≡ get_or (kept memory) place m
    slot_read m e =
        e
        ∙ ap (front_message bytes reads width) (part_is ∙ ap (λ k. slot memory k place) es)
        ∙ sym (slots_at memory place m (omega (arith, slots_length memory)))

    -- one slot written is one message changed
    module _ (ys : List ℕ) (m : Message V) (long : length ys ≡ size) (is : front_message bytes reads width ys ≡ m) where
      abbrev after : List ℕ
      after = put_mid (place * size) (place * size + size - place * size) memory ys

      as_long : length (put_mid (place * size) (place * size + size - place * size) memory ys) ≡ length memory
      as_long = let e = slot_ends in simp (length-append, length-take, length-drop) (omega arith)

      slot_here : slot after size place ≡ ys
      slot_here =
          let e = slot_ends in
          let part : between (place * size) (place * size + size) after ≡ ys = between-put_mid (place * size) (place * size + size - place * size) memory ys (place * size + size) (omega arith) (omega arith) in
          let same : size ≡ place * size + size - place * size = omega arith in
          ap (λ n. take n (drop (place * size) after)) same ∙ part

      slot_other : (other : ℕ) → other ≢ place → slot after size other ≡ slot memory size other
      slot_other other ne =
          let e = slot_ends in
          let same : size ≡ other * size + size - other * size = omega arith in
          ⊎_elim
          (λ lt.
          let below = row_below other place size lt in
          ap (λ n. take n (drop (other * size) after)) same
          ∙ between_is after (other * size) (other * size + size)
          ∙ ap (drop (other * size)) (take-put_mid_below (place * size) (place * size + size - place * size) memory ys (other * size + size) below (omega arith))
          ∙ sym (ap (λ n. take n (drop (other * size) memory)) same ∙ between_is memory (other * size) (other * size + size)))
          (λ ge.
          let above : place < other = omega arith in
          let below = row_below place other size above in
          ap (take size) (drop-put_mid (place * size) (place * size + size - place * size) memory ys (other * size) (omega arith) (omega arith) (omega arith)))
          (cases_lt other place)

      pub slot_written : kept (put_mid (place * size) (place * size + size - place * size) memory ys) ≡ set (kept memory) place m
      slot_written =
          let many : length (kept after) ≡ length (kept memory) = slots_length after ∙ ap (λ n. n / max_size width) as_long ∙ sym (slots_length memory) in
          let sized : (k : ℕ) (zs : List ℕ) → slot zs (max_size width) k ≡ slot zs size k = λ k zs. ap (λ n. slot zs n k) (sym es) in
          same_lists (kept after) (set (kept memory) place m) (many ∙ sym (length-set (kept memory) place m))
          (λ k d hk.
          let now-at : get_or (kept after) k d ≡ front_message bytes reads width (slot after size k) = slots_at after k d (omega (arith, slots_length after)) ∙ ap (front_message bytes reads width) (sized k after) in
          ⊎_elim
          (λ (same : k ≡ place).
          now-at
          ∙ ap (front_message bytes reads width) (ap (slot after size) same ∙ slot_here)
          ∙ is
          ∙ sym (ap (λ n. get_or (set (kept memory) place m) n d) same ∙ get_or-set_same (kept memory) place m d h))
          (λ (apart : k ≢ place).
          now-at
          ∙ ap (front_message bytes reads width) (slot_other k apart ∙ sym (sized k memory))
          ∙ sym (get_or-set_other (kept memory) place k m d apart ∙ slots_at memory k d (omega (arith, slots_length memory))))
          (cases_eq k place))

  -- a message written into a slot
  module _ (back : (v : V) → reads (bytes v) ≡ Some v) (fixed : (v : V) → length (bytes v) ≡ width) where
    pub written_front : (slot ys : List ℕ) (m : Message V) → length slot ≡ max_size width → ys ≡ written (message_bytes bytes m) slot → front_message bytes reads width ys ≡ m
    written_front slot ys m long e =
        let short = (round_trip bytes reads back width fixed).3 m in
        front_is bytes reads width back fixed ys m (drop (length (message_bytes bytes m)) slot) (e ∙ cond-true _ _ _ (le-leb (length (message_bytes bytes m)) (length slot) (omega arith)))

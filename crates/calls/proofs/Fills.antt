-- Tables that are filled, pages with what one closure makes, records one after the other.
use Rattle.std.proofs.Common.{◌≡◌, ℕ, zero, suc, ◌+◌, ◌*◌, ◌<◌, ◌≤◌, ◌&&◌, ltb, ◌≢◌, List, [], ◌∷◌, map, length, get_or, set, refl, ap, ◌∙◌, subst, inl, inr, arith}
use Rattle.std.specs.List.{FoldsTo}
use Rattle.std.proofs.lemmas.List.{get_or-set_same, get_or-set_other, get_or_past, length-map}
use Rattle.std.proofs.lemmas.Bool.{cases_lt, cond_both}
use Rattle.registers.specs.Sets.{nobody}
use Rattle.protocol.specs.declared.cell.Cell.TheVariants.{None as none}
use Rattle.protocol.specs.declared.pages.HomePage.{HomePage as HomePageOver}
use Rattle.protocol.specs.declared.pages.HomeState.TheVariants.{R}
use Rattle.protocol.specs.Machines.{page_meaning}
use Rattle.protocol.specs.Rules.{Stations, page}
use Rattle.calls.specs.declared.record.CellRecord.{CellRecord}
use Rattle.calls.specs.Memory.{cell_of, cells_of, pages_of}
use Rattle.calls.proofs.Below.{below_next, below_and_past}

-- each element means u where each call makes one that does, and leaves the closure as it was
module _ {F T U : Type 0} (Made : F → T → F → Type 0) (means : T → U) (u : U) (f : F) (made : (x : T) (h : F) → Made f x h → (h ≡ f) × (means x ≡ u)) where
  each_means : (xs : List T) (last : F) → FoldsTo Made f xs last → (i : ℕ) → i < length xs → get_or (map means xs) i u ≡ u
  each_means [] last r i h = absurd (omega arith)
  each_means (x ∷ xs) last r zero h = (made x r.0 r.1).1
  each_means (x ∷ xs) last r (suc i) h = each_means xs last (subst (λ q. FoldsTo Made q xs last) (made x r.0 r.1).0 r.2) i (omega arith)

  all_mean : (xs : List T) (last : F) → FoldsTo Made f xs last → (i : ℕ) → get_or (map means xs) i u ≡ u
  all_mean xs last r i = elim (cases_lt i (length xs)) [ inl h ↦ each_means xs last r i h | inr h ↦ get_or_past (map means xs) i u (omega (arith, length-map xs means)) ]

pub pages_filled : {V D F : Type 0} (names : D → Stations) (v : V) (Made : F → HomePageOver V D → F → Type 0) (f : F) → ((x : HomePageOver V D) (h : F) → Made f x h → (h ≡ f) × (page_meaning names x ≡ page v (R nobody))) → (hs : List (HomePageOver V D)) (last : F) → FoldsTo Made f hs last → (q : ℕ) → pages_of names v hs q ≡ page v (R nobody)
unfolding pages_of
pages_filled names v Made f made hs last r q = all_mean Made (page_meaning names) (page v (R nobody)) f made hs last r q

module _ {V : Type 0} where
  -- one record more means no copy
  pub record_next : (rs rs' : List (CellRecord V)) (n : ℕ) → map cell_of rs' ≡ set (map cell_of rs) n none → n < length rs →
      ((i : ℕ) → i < n → get_or (map cell_of rs) i none ≡ none) → (i : ℕ) → i < n + 1 → get_or (map cell_of rs') i none ≡ none
  record_next rs rs' n e x all =
      below_next (λ i. get_or (map cell_of rs') i none ≡ none) n
      (λ i y. let d : i ≢ n = omega arith in ap (λ l. get_or l i none) e ∙ get_or-set_other (map cell_of rs) n i none none d ∙ all i y)
      (ap (λ l. get_or l n none) e ∙ get_or-set_same (map cell_of rs) n none none (omega (arith, length-map rs cell_of)))

  pub cells_filled : (rs : List (CellRecord V)) (k : ℕ) → length rs ≤ k → ((i : ℕ) → i < k → get_or (map cell_of rs) i none ≡ none) → (n pages s p : ℕ) → cells_of n pages rs s p ≡ none
  unfolding cells_of
  cells_filled rs k x all n pages s p =
      cond_both (ltb s n && ltb p pages) _ _ (λ c. c ≡ none)
      (λ _. below_and_past (λ i. get_or (map cell_of rs) i none ≡ none) k all (λ i y. get_or_past (map cell_of rs) i none (omega (arith, length-map rs cell_of))) (s * pages + p))
      (λ _. refl)

-- What a write to the table of cells or of home pages makes of their meaning.
use Rattle.std.proofs.Common.{◌≡◌, ℕ, ◌+◌, ◌*◌, ◌/◌, ◌%◌, ◌<◌, ◌≤◌, ltb, ◌≢◌, List, map, length, get_or, set, sym, ap, ◌∙◌, inl, inr, arith}
use mathlib.Core.Path.{fun_ext}
use Rattle.std.proofs.lemmas.Nat.{mul-add-lt, div-mul-add, mod-mul-add}
use Rattle.std.proofs.lemmas.List.{get_or-set_same, get_or-set_other, map-set, get_or-map, length-map}
use Rattle.std.proofs.lemmas.Bool.{lt-ltb, le-ltb, cases_lt, and_right}
use Rattle.protocol.specs.declared.cell.Cell.TheVariants.{None as none}
use Rattle.protocol.specs.declared.pages.HomeState.TheVariants.{R}
use Rattle.protocol.specs.declared.pages.HomePage.{HomePage as HomePageOver}
use Rattle.protocol.specs.Machines.{page_meaning}
use Rattle.protocol.specs.Rules.{Stations, page}
use Rattle.protocol.specs.State.{with_entry, with_cell}
use Rattle.registers.specs.Sets.{nobody}
use Rattle.coherence.proofs.Tables.{at_and_beside, entry_same, entry_other, cell_same, cell_station, cell_page}
use Rattle.calls.specs.declared.record.CellRecord.{CellRecord}
use Rattle.calls.specs.Memory.{cell_of, cells_of, pages_of}

-- two places of the table are one only if station and page are
apart : (pages s t p q : ℕ) → p < pages → q < pages → t * pages + q ≡ s * pages + p → (t ≡ s) × (q ≡ p)
apart pages s t p q z y e =
    (sym (div-mul-add t pages q y) ∙ ap (λ x. x / pages) e ∙ div-mul-add s pages p z, sym (mod-mul-add t pages q y) ∙ ap (λ x. x % pages) e ∙ mod-mul-add s pages p z)

module _ {V : Type 0} (n pages : ℕ) where
  pub cell_inside : (cells : List (CellRecord V)) (s p : ℕ) → s < n → p < pages → cells_of n pages cells s p ≡ get_or (map cell_of cells) (s * pages + p) none
  unfolding cells_of
  cell_inside cells s p x z = simp (lt-ltb s n x, lt-ltb p pages z)

  -- a record that was read
  pub cell_found : (cells : List (CellRecord V)) (s p i : ℕ) (r : CellRecord V) → s < n → p < pages → length cells ≡ n * pages → i ≡ s * pages + p → i < n * pages → cell_of (get_or cells i r) ≡ cells_of n pages cells s p
  cell_found cells s p i r x z len e h =
      sym (get_or-map cell_of cells i r none (omega arith))
      ∙ ap (λ j. get_or (map cell_of cells) j none) e
      ∙ sym (cell_inside cells s p x z)

  cell_far : (cells : List (CellRecord V)) (s p : ℕ) → n ≤ s → cells_of n pages cells s p ≡ none
  unfolding cells_of
  cell_far cells s p x = simp (le-ltb s n x)

  cell_off : (cells : List (CellRecord V)) (s p : ℕ) → pages ≤ p → cells_of n pages cells s p ≡ none
  unfolding cells_of
  cell_off cells s p x = simp (and_right (ltb s n) (ltb p pages) (le-ltb p pages x))

  pub cell_missing : (cells : List (CellRecord V)) (s p : ℕ) → ((s < n) × (p < pages) → ⊥) → none ≡ cells_of n pages cells s p
  cell_missing cells s p none-there = elim (cases_lt s n) [
    | inr h ↦ sym (cell_far cells s p h)
    | inl h ↦ elim (cases_lt p pages) [ inr k ↦ sym (cell_off cells s p k) | inl k ↦ absurd (none-there (h, k)) ]
  ]

  written_at : (cells : List (CellRecord V)) (s p : ℕ) (r : CellRecord V) → length cells ≡ n * pages → s < n → p < pages → (t q : ℕ) → cells_of n pages (set cells (s * pages + p) r) t q ≡ with_cell (cells_of n pages cells) s p (cell_of r) t q
  written_at cells s p r len x z t q =
      elim (cases_lt t n) [
        | inr h ↦ let a : t ≢ s = omega arith in cell_far _ t q h ∙ sym (cell_station (cells_of n pages cells) s p (cell_of r) t q a ∙ cell_far cells t q h)
        | inl h ↦ elim (cases_lt q pages) [
          | inr k ↦ let a : q ≢ p = omega arith in cell_off _ t q k ∙ sym (cell_page (cells_of n pages cells) s p (cell_of r) t q a ∙ cell_off cells t q k)
          | inl k ↦ cell_inside _ t q h k ∙ ap (λ l. get_or l (t * pages + q) none) (map-set cell_of cells (s * pages + p) r) ∙ inside t q h k
        ]
      ]
    where
      inside : (t q : ℕ) → t < n → q < pages → get_or (set (map cell_of cells) (s * pages + p) (cell_of r)) (t * pages + q) none ≡ with_cell (cells_of n pages cells) s p (cell_of r) t q
      inside t q h k =
          at_and_beside (λ t. t < n → get_or (set (map cell_of cells) (s * pages + p) (cell_of r)) (t * pages + q) none ≡ with_cell (cells_of n pages cells) s p (cell_of r) t q) s
          (λ _. at_and_beside (λ q. q < pages → get_or (set (map cell_of cells) (s * pages + p) (cell_of r)) (s * pages + q) none ≡ with_cell (cells_of n pages cells) s p (cell_of r) s q) p
          (λ _. let b : s * pages + p < length (map cell_of cells) = omega (arith, mul-add-lt s pages p n x z, length-map cells cell_of) in get_or-set_same (map cell_of cells) (s * pages + p) (cell_of r) none b ∙ sym (cell_same (cells_of n pages cells) s p (cell_of r)))
          (λ q d y. let b : s * pages + q ≢ s * pages + p = λ e. d (apart pages s s p q z y e).1 in get_or-set_other (map cell_of cells) (s * pages + p) (s * pages + q) (cell_of r) none b ∙ sym (cell_page (cells_of n pages cells) s p (cell_of r) s q d ∙ cell_inside cells s q x y)) q k)
          (λ t d y. let b : t * pages + q ≢ s * pages + p = λ e. d (apart pages s t p q z k e).0 in get_or-set_other (map cell_of cells) (s * pages + p) (t * pages + q) (cell_of r) none b ∙ sym (cell_station (cells_of n pages cells) s p (cell_of r) t q d ∙ cell_inside cells t q y k)) t h

  pub cell_written : (cells : List (CellRecord V)) (s p : ℕ) (r : CellRecord V) → length cells ≡ n * pages → s < n → p < pages → cells_of n pages (set cells (s * pages + p) r) ≡ with_cell (cells_of n pages cells) s p (cell_of r)
  cell_written cells s p r len x z = fun_ext (λ t. fun_ext (λ q. written_at cells s p r len x z t q))

module _ {V D : Type 0} (names : D → Stations) (v : V) where
  pub page_at : (hs : List (HomePageOver V D)) (p : ℕ) (h : HomePageOver V D) → p < length hs → h ≡ get_or hs p h → pages_of names v hs p ≡ page_meaning names h
  unfolding pages_of
  page_at hs p h x e = get_or-map (page_meaning names) hs p h _ x ∙ ap (page_meaning names) (sym e)

  pub page_written : (hs : List (HomePageOver V D)) (p : ℕ) (h : HomePageOver V D) → p < length hs → pages_of names v (set hs p h) ≡ with_entry (pages_of names v hs) p (page_meaning names h)
  unfolding pages_of
  page_written hs p h x =
      let past : HomePageOver V Stations = page v (R nobody) in
      fun_ext (at_and_beside (λ q. pages_of names v (set hs p h) q ≡ with_entry (pages_of names v hs) p (page_meaning names h) q) p
      (ap (λ l. get_or l p past) (map-set (page_meaning names) hs p h) ∙ get_or-set_same (map (page_meaning names) hs) p (page_meaning names h) past (omega (arith, length-map hs (page_meaning names))) ∙ sym (entry_same (pages_of names v hs) p (page_meaning names h)))
      (λ q d. ap (λ l. get_or l q past) (map-set (page_meaning names) hs p h) ∙ get_or-set_other (map (page_meaning names) hs) p q (page_meaning names h) past d ∙ sym (entry_other (pages_of names v hs) p (page_meaning names h) q d)))

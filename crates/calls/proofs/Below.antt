-- A fact of all numbers below one, as a loop finds it.
use Rattle.std.proofs.Common.{◌≡◌, ℕ, ◌+◌, ◌<◌, ◌≤◌, sym, subst, inl, inr, arith}
use Rattle.std.proofs.lemmas.Bool.{cases_lt}

pub below_none : (P : ℕ → Type 0) (k : ℕ) → k < 0 → P k
below_none P k h = absurd (omega arith)

module _ (P : ℕ → Type 0) (n : ℕ) where
  pub below_next : ((k : ℕ) → k < n → P k) → P n → (k : ℕ) → k < n + 1 → P k
  below_next all here k h = elim (cases_lt k n) [ inl x ↦ all k x | inr x ↦ (let e : k ≡ n = omega arith in subst P (sym e) here) ]

  pub below_and_past : ((k : ℕ) → k < n → P k) → ((k : ℕ) → n ≤ k → P k) → (k : ℕ) → P k
  below_and_past all past k = elim (cases_lt k n) [ inl x ↦ all k x | inr x ↦ past k x ]

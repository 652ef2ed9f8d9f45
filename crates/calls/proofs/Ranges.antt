-- What `all` finds over the numbers below one.
use Rattle.std.proofs.Common.{◌≡◌, ℕ, ◌<◌, Bool, true, false, length, get_or, Decides, refl, subst, arith}
use Rattle.std.proofs.iter.Yields.{nat_range_steps}
use Rattle.std.proofs.lemmas.Iterator.{YieldsList-from_range, cases_from_all}
use Rattle.std.proofs.lemmas.List.FromFn.{length-range_with_len, get_or-range_with_len}
use Rattle.std.specs.Bool.{MatchBool}
use Rattle.std.specs.Fn.{Called}
use Rattle.std.specs.Iterator.{ChecksAll}
use Rattle.std.specs.List.{range_with_len, AllWithin, HoldsAt}
use Rattle.std.specs.declared.ops.Range.{Range}
use denote.Param.Members.{Mut}

-- all of them, or one of which it fails
abbrev pub AllBelow : ℕ → Bool → (ℕ → Type 0) → (ℕ → Type 0) → Type 0
AllBelow n r Yes No = MatchBool r ((k : ℕ) → k < n → Yes k) ((k : ℕ) × (k < n) × No k)

module _ (n : ℕ) (Yes No : ℕ → Type 0) where
  by_places : (b : Bool) → MatchBool b (AllWithin Yes (range_with_len 0 n) 0 (length (range_with_len 0 n))) ((k : ℕ) × (k < length (range_with_len 0 n)) × HoldsAt No (range_with_len 0 n) k) → AllBelow n b Yes No
  by_places true all = λ k h. let e : get_or (range_with_len 0 n) k 0 ≡ k = omega (arith, get_or-range_with_len 0 n k 0 h) in subst Yes e (all k 0 (omega arith) (omega (arith, length-range_with_len 0 n)))
  by_places false x =
      let h : x.0 < n = let y = x.1 in omega (arith, length-range_with_len 0 n) in
      let e : get_or (range_with_len 0 n) x.0 0 ≡ x.0 = omega (arith, get_or-range_with_len 0 n x.0 0 h) in
      (x.0, h, subst No e (x.2 0))

  pub all_below : {F : Type 0} {g : Mut F (ℕ × Unit {0}) Bool} {s u : Range ℕ} {f : F} (m : ℕ) (r : Bool) → s ≡ record { start = 0; end = m } → m ≡ n → ChecksAll nat_range_steps g s f r u → ((x : ℕ) (q : F) → Called g f (x, tt) true q → (q ≡ f) × Yes x) → ((x : ℕ) (q : F) → Called g f (x, tt) false q → No x) → AllBelow n r Yes No
  all_below {u = u} {f = f} m r e size ran yes' no' = by_places r (cases_from_all u f r Yes No ran (YieldsList-from_range 0 m n e (omega arith)) yes' no')

-- it decides a fact that is that of all of them
pub decided_below : (P : Type 0) (n : ℕ) (Yes : ℕ → Type 0) (r : Bool) → (((k : ℕ) → k < n → Yes k) → P) → (P → (k : ℕ) → Yes k) → AllBelow n r Yes (λ k. Yes k → ⊥) → Decides r P
decided_below P n Yes true f back all = (λ _. f all, λ _. refl)
decided_below P n Yes false f back x = (λ e. let w : ◌≡◌ {A = ℕ} 0 1 = cc in absurd (omega arith), λ p. absurd (x.2 (back p x.0)))

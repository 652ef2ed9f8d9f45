-- How many stations a set has, and what that says of the set. Assumes nothing.
use Rattle.std.proofs.Common.{◌≡◌, ℕ, zero, suc, ◌+◌, ◌<◌, ◌≤◌, Bool, true, false, cond, ◌≢◌, sym, refl, ap, ◌∙◌, ⊎_elim, zero-add, arith}
use Rattle.std.proofs.lemmas.Bool.{cases_Bool, cases_eq, cases_lt, cond-true, cond-false, both_ways}
use Rattle.registers.specs.Sets.{station_limit, nobody, how_many_below, how_many}

pub below_zero : (set : ℕ → Bool) → how_many_below zero set ≡ 0
unfolding how_many_below
below_zero set = refl

pub below_more : (n : ℕ) (set : ℕ → Bool) → how_many_below (suc n) set ≡ cond (set n) 1 0 + how_many_below n set
unfolding how_many_below
below_more n set = refl

-- one more number: it is in the set or it is not
more_in : (n : ℕ) (set : ℕ → Bool) → set n ≡ true → how_many_below (suc n) set ≡ 1 + how_many_below n set
more_in n set e = below_more n set ∙ ap (λ k. k + how_many_below n set) (cond-true {A = ℕ} (set n) 1 0 e)

more_out : (n : ℕ) (set : ℕ → Bool) → set n ≡ false → how_many_below (suc n) set ≡ how_many_below n set
more_out n set e = below_more n set ∙ ap (λ k. k + how_many_below n set) (cond-false {A = ℕ} (set n) 1 0 e) ∙ zero-add _

below_same : (n : ℕ) (a b : ℕ → Bool) → ((k : ℕ) → k < n → a k ≡ b k) → how_many_below n a ≡ how_many_below n b
below_same zero a b f = below_zero a ∙ sym (below_zero b)
below_same (suc n) a b f =
    below_more n a
    ∙ (λ i. cond (f n (omega arith) i) 1 0 + below_same n a b (λ k h. f k (omega arith)) i)
    ∙ sym (below_more n b)

at_most : (n : ℕ) (set : ℕ → Bool) → how_many_below n set ≤ n
at_most zero set = omega (arith, below_zero set)
at_most (suc n) set =
    let less = at_most n set in
    ⊎_elim (λ e. omega (arith, more_in n set e)) (λ e. omega (arith, more_out n set e)) (cases_Bool (set n))

-- one number more in a set
below_added : (n : ℕ) (set more : ℕ → Bool) (s : ℕ) → s < n → set s ≡ false → more s ≡ true → ((k : ℕ) → k ≢ s → more k ≡ set k) → how_many_below n more ≡ how_many_below n set + 1
below_added zero set more s h off on f = let z : ⊥ = omega arith in absurd z
below_added (suc n) set more s h off on f =
    ⊎_elim
    (λ here.
    let rest = below_same n more set (λ k b. f k (omega arith)) in
    omega (arith, more_in n more (ap more (sym here) ∙ on), more_out n set (ap set (sym here) ∙ off)))
    (λ other.
    let rest = below_added n set more s (omega arith) off on f in
    let same : set n ≡ more n = sym (f n (λ e. other (sym e))) in
    ⊎_elim (λ e. omega (arith, more_in n set e, more_in n more (sym same ∙ e))) (λ e. omega (arith, more_out n set e, more_out n more (sym same ∙ e))) (cases_Bool (set n)))
    (cases_eq s n)

-- where as many are in the set as there are numbers, each is
below_all : (n : ℕ) (set : ℕ → Bool) → how_many_below n set ≡ n → (k : ℕ) → k < n → set k ≡ true
below_all zero set e k h = let z : ⊥ = omega arith in absurd z
below_all (suc n) set e k h =
    let few = at_most n set in
    ⊎_elim
    (λ on.
    let rest : how_many_below n set ≡ n = omega (arith, more_in n set on) in
    ⊎_elim (λ here. ap set here ∙ on) (λ other. below_all n set rest k (omega arith)) (cases_eq k n))
    (λ off. let z : ⊥ = omega (arith, more_out n set off) in absurd z)
    (cases_Bool (set n))

-- where none is in the set, no number is
below_none : (n : ℕ) (set : ℕ → Bool) → how_many_below n set ≡ 0 → (k : ℕ) → k < n → set k ≡ false
below_none zero set e k h = let z : ⊥ = omega arith in absurd z
below_none (suc n) set e k h =
    ⊎_elim
    (λ on. let z : ⊥ = omega (arith, more_in n set on) in absurd z)
    (λ off.
    let rest : how_many_below n set ≡ 0 = omega (arith, more_out n set off) in
    ⊎_elim (λ here. ap set here ∙ off) (λ other. below_none n set rest k (omega arith)) (cases_eq k n))
    (cases_Bool (set n))

pub nobody_is_none : how_many nobody ≡ 0
unfolding how_many how_many_below
nobody_is_none = refl

pub one_added : (set more : ℕ → Bool) (s : ℕ) → s < station_limit → set s ≡ false → more s ≡ true → ((k : ℕ) → k ≢ s → more k ≡ set k) → how_many more ≡ how_many set + 1
unfolding how_many
one_added = below_added station_limit

-- a set without some station does not have them all
pub one_missing : (set : ℕ → Bool) (s : ℕ) → s < station_limit → set s ≡ false → how_many set < station_limit
unfolding how_many
one_missing set s h off =
    let few = at_most station_limit set in
    ⊎_elim (λ lt. lt) (λ ge. absurd (both_ways (set s) off (below_all station_limit set (omega arith) s h))) (cases_lt (how_many_below station_limit set) station_limit)

-- a register's set has no other numbers than stations, so where it has none of them it is empty
pub none_is_nobody : (set : ℕ → Bool) → ((k : ℕ) → station_limit ≤ k → set k ≡ false) → how_many set ≡ 0 → set ≡ nobody
unfolding how_many
none_is_nobody set high e = λ i k. ⊎_elim (λ h. below_none station_limit set e k h) (λ h. high k h) (cases_lt k station_limit) i

-- A set of stations is empty or names someone, and its count tells which. Assumes nothing.
use Rattle.std.proofs.Common.{◌≡◌, ℕ, zero, suc, ◌<◌, ◌≤◌, true, false, eqb, ◌⊎◌, ap, ◌∙◌, inl, inr, ⊎_elim, arith}
use Rattle.std.proofs.lemmas.Bool.{both_ways, cases_Bool, cases_eq, cases_lt, and_left, eq-eqb, ne_eqb, eqb-true, eqb-false}
use Rattle.registers.specs.Sets.{station_limit, nobody, without, how_many}
use Rattle.registers.proofs.Counting.{nobody_is_none, none_is_nobody}
use Rattle.protocol.specs.Rules.{Stations, Empty, Someone}

-- a set that names no number that is no station's
abbrev pub Low : Stations → Type 0
Low D = (number : ℕ) → station_limit ≤ number → D number ≡ false

among : (n : ℕ) (D : Stations) → ((k : ℕ) → k < n → D k ≡ false) ⊎ Someone D
among zero D = inl (λ k h. absurd (omega arith))
among (suc n) D =
    ⊎_elim
    (λ below.
    ⊎_elim
    (λ on. inr (n, on))
    (λ off. inl (λ k h. ⊎_elim (λ here. ap D here ∙ off) (λ other. below k (omega arith)) (cases_eq k n)))
    (cases_Bool (D n)))
    (λ found. inr found)
    (among n D)

pub empty_or_someone : (D : Stations) → Low D → Empty D ⊎ Someone D
empty_or_someone D high =
    ⊎_elim
    (λ below. inl (λ k. ⊎_elim (λ h. below k h) (λ h. high k h) (cases_lt k station_limit)))
    (λ found. inr found)
    (among station_limit D)

pub not_both : (D : Stations) → Empty D → Someone D → ⊥
not_both D none found = both_ways (D found.0) (none found.0) found.1

pub low_without : (D : Stations) (s : ℕ) → Low D → Low (without D s)
low_without D s high number h = and_left _ _ (high number h)

pub counted_empty : (D : Stations) → Low D → eqb (how_many D) 0 ≡ true → Empty D
counted_empty D high e station = ap (λ set. set station) (none_is_nobody D high (eqb-true _ _ e))

pub counted_someone : (D : Stations) → Low D → eqb (how_many D) 0 ≡ false → Someone D
counted_someone D high e =
    ⊎_elim
    (λ none. let same : D ≡ nobody = λ i k. none k i in absurd (eqb-false _ _ e (ap how_many same ∙ nobody_is_none)))
    (λ found. found)
    (empty_or_someone D high)

pub empty_counted : (D : Stations) → Empty D → eqb (how_many D) 0 ≡ true
empty_counted D none = let same : D ≡ nobody = λ i k. none k i in eq-eqb _ _ (ap how_many same ∙ nobody_is_none)

pub someone_counted : (D : Stations) → Low D → Someone D → eqb (how_many D) 0 ≡ false
someone_counted D high found = ne_eqb _ _ (λ e. not_both D (λ k. ap (λ set. set k) (none_is_nobody D high e)) found)

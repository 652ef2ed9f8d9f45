-- Whether anything waits, on the lanes of the links and in the rows of the queues.
use Rattle.std.proofs.Common.{◌≡◌, ℕ, ◌<◌, Bool, true, false, List, [], ◌∷◌, length, Decides, refl, ap, arith}
use Rattle.std.specs.Bool.{MatchBool}
use Rattle.std.specs.List.{AllWithin, HoldsAt}
use Rattle.queues.specs.View.{RowsView}
use Rattle.queues.proofs.Entries.{Sound as RowsSound}
use Rattle.links.specs.declared.lane.Lane.{Lane}
use Rattle.links.specs.declared.lane.Lane.TheVariants.{Request, Reply, Down}
use Rattle.links.specs.View.{LaneView, Sound}
use Rattle.calls.proofs.Below.{below_and_past}
use Rattle.calls.proofs.Ranges.{AllBelow, decided_below}

module _ {X : Type 0} where
  pub some_if_longer : (l : List X) → (length l ≡ 0 → ⊥) → l ≡ [] → ⊥
  some_if_longer l n e = n (ap length e)

  -- the three lanes of a station, one by one
  pub lanes_decide : (f : Lane → List X) (r : Bool) → MatchBool r (AllWithin (λ lane. f lane ≡ []) (Request ∷ Reply ∷ Down ∷ []) 0 3) ((k : ℕ) × (k < 3) × HoldsAt (λ lane. f lane ≡ [] → ⊥) (Request ∷ Reply ∷ Down ∷ []) k) → Decides r ((lane : Lane) → f lane ≡ [])
  lanes_decide f true all = (λ _. each, λ _. refl)
    where
      each : (lane : Lane) → f lane ≡ []
      each Request = all 0 Down (omega arith) (omega arith)
      each Reply = all 1 Down (omega arith) (omega arith)
      each Down = all 2 Down (omega arith) (omega arith)
  lanes_decide f false x = (λ e. let w : ◌≡◌ {A = ℕ} 0 1 = cc in absurd (omega arith), λ all. absurd (x.2 Down (all _)))

  -- nothing waits past the stations that are served
  pub lanes_idle : (v : LaneView X) (r : Bool) → Sound v → AllBelow v.count r (λ s. (lane : Lane) → v.waiting lane s ≡ []) (λ s. ((lane : Lane) → v.waiting lane s ≡ []) → ⊥) → Decides r ((lane : Lane) (s : ℕ) → v.waiting lane s ≡ [])
  lanes_idle v r sound =
      decided_below ((lane : Lane) (s : ℕ) → v.waiting lane s ≡ []) v.count (λ s. (lane : Lane) → v.waiting lane s ≡ []) r
      (λ all lane. below_and_past (λ s. v.waiting lane s ≡ []) v.count (λ s h. all s h lane) (λ s h. sound.missing lane s h))
      (λ idle s lane. idle lane s)

  -- nor past the last row
  pub rows_idle : (v : RowsView X) (r : Bool) → RowsSound v → AllBelow v.rows r (λ s. v.row s ≡ []) (λ s. v.row s ≡ [] → ⊥) → Decides r ((s : ℕ) → v.row s ≡ [])
  rows_idle v r sound =
      decided_below ((s : ℕ) → v.row s ≡ []) v.rows (λ s. v.row s ≡ []) r
      (λ all. below_and_past (λ s. v.row s ≡ []) v.rows all (λ s h. sound.missing s h))
      (λ idle s. idle s)

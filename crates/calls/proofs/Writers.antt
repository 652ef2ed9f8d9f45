-- Stations that have no writing copy of a page.
use Rattle.std.proofs.Common.{◌≡◌, ℕ, ◌<◌, ◌≤◌, List, arith}
use Rattle.std.proofs.lemmas.Bool.{le-ltb}
use Rattle.protocol.specs.declared.cell.Cell.TheVariants.{None as none}
use Rattle.calls.specs.declared.record.CellRecord.{CellRecord}
use Rattle.calls.specs.Memory.{cells_of}
use Rattle.calls.specs.Closing.{NoWriter}
use Rattle.calls.proofs.Below.{below_and_past}

module _ {V : Type 0} (n pages : ℕ) (cells : List (CellRecord V)) where
  no_writer_past : (s p : ℕ) → n ≤ s → NoWriter (cells_of n pages cells s p)
  unfolding cells_of
  no_writer_past s p x v e =
      let far : cells_of n pages cells s p ≡ none = simp (le-ltb s n x) in
      let never : ◌≡◌ {A = ℕ} 0 1 = cc in
      omega arith

  -- past the count no station has a copy
  pub no_writer : (p k : ℕ) → n ≤ k → ((s : ℕ) → s < k → NoWriter (cells_of n pages cells s p)) → (s : ℕ) → NoWriter (cells_of n pages cells s p)
  no_writer p k x all = below_and_past (λ s. NoWriter (cells_of n pages cells s p)) k all (λ s h. no_writer_past s p (omega arith))

-- What each deed is: one row for each case, which every promise about deeds cites. Assumes nothing.
use Rattle.std.specs.Prelude.{ℕ, Bool, true, false, cond}
use Rattle.protocol.specs.declared.deed.Fold.{Fold}
use Rattle.protocol.specs.declared.deed.Fold.TheVariants.{NoCopy, OwnCopy}
use Rattle.protocol.specs.declared.deed.Deed.{Deed}
use Rattle.protocol.specs.declared.deed.Deed.TheVariants.{Loaded, Stored, Asked, Received, Yielded, WrittenBack, Returned, Shared, Exclusive, Recalling}

abbrev pub fold_number : Fold → ℕ
fold_number NoCopy = 0
fold_number OwnCopy = 1

-- the fold of a request, by whether the home names its station
abbrev pub fold_of : Bool → Fold
fold_of named = cond named OwnCopy NoCopy

pub record Account : Type 0 where
  -- whether the entry that the firing looked at leaves its lane or queue
  pub leaves : Bool
  -- whether it answers an instruction, and whether that instruction then has stored its value
  pub answers : Bool
  pub stores : Bool
  -- what it adds to the grants, the returns and the folded copies of its page
  pub grants : ℕ
  pub returns : ℕ
  pub folds : ℕ

abbrev account : Bool → Bool → Bool → ℕ → ℕ → ℕ → Account
account leaves answers stores grants returns folds =
    record { leaves = leaves; answers = answers; stores = stores; grants = grants; returns = returns; folds = folds }

-- columns: leaves, answers, stores, grants, returns, folds
abbrev pub account_of : {V : Type 0} → Deed V → Account
account_of (Loaded value) = account true true false 0 0 0
account_of Stored = account true true true 0 0 0
account_of Asked = account false false false 0 0 0
account_of Received = account true false false 0 0 0
account_of Yielded = account true false false 0 0 0
account_of WrittenBack = account true false false 0 0 0
account_of Returned = account true false false 0 1 0
account_of (Shared fold) = account true false false 1 0 (fold_number fold)
account_of (Exclusive fold) = account true false false 1 0 (fold_number fold)
account_of (Recalling fold) = account false false false 0 0 (fold_number fold)

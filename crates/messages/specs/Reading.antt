-- What reading answers, whatever is read: that which has this form, or that nothing has it. Assumes nothing.
use Rattle.std.specs.Prelude.{◌≡◌, Some, None, Option, ◌≢◌}

-- the answer at `s`, where `form x` is how `x` is written
abbrev pub Reads : {X S : Type 0} → (X → S) → S → Option X → Type 0
Reads form s (Some x) = s ≡ form x
Reads {X} form s None = (x : X) → s ≢ form x

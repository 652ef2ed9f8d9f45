use Rattle.std.proofs.Common.{◌≡◌, ℕ, ◌+◌, ◌-◌, ◌≤◌, List, ◌++◌, length, string_bytes}
use Rattle.script.specs.Fields.{longest}
use Rattle.listing.specs.Lines.{Lines}
use Rattle.listing.proofs.lines.list.Given as goal

-- the lines so far, and then those from here on, are the lines of the script
abbrev pub invariant-loop-found : goal.invariant-loop-found
invariant-loop-found g l = record {
  same : l.reader.script.now ≡ l.script;
  within : l.reader.at ≤ length l.script;
  short : length l.script ≤ longest;
  counted : l.number ≤ l.reader.at + 1;
  so_far : (rest : List ℕ) → Lines g.V.Value.width g.V.Value.reads g.V.Display.output l.script l.number l.reader.at rest → Lines g.V.Value.width g.V.Value.reads g.V.Display.output l.script 1 0 (string_bytes l.text ++ rest);
}

abbrev pub decreases-loop-found : goal.decreases-loop-found
decreases-loop-found g l = length l.script - l.reader.at

use Rattle.std.proofs.Common.{◌≡◌, ℕ, ◌-◌, length}
use Rattle.script.specs.Records.{readable, Outcome, Next}
use Rattle.script.proofs.field.Reader.next_record.Given as goal

-- whatever comes from here on comes from where the reader stood at first
abbrev pub invariant-loop-field : goal.invariant-loop-field
invariant-loop-field g l =
    (l.self.script.now ≡ l.initial.self.script.now)
    × ((next : Outcome) (to : ℕ) → Next g.V.Value.width (readable g.V.Value.reads) l.initial.self.script.now l.self.at next to → Next g.V.Value.width (readable g.V.Value.reads) l.initial.self.script.now l.initial.self.at next to)

abbrev pub decreases-loop-field : goal.decreases-loop-field
decreases-loop-field g l = length l.self.script.now - l.self.at

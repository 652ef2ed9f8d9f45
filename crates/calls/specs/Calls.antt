-- What a call of a round answers and leaves, for every memory, also one that no history led to. Assumes nothing.
use Rattle.std.specs.Prelude.{◌≡◌, Ok, Err, Result}
use Rattle.protocol.specs.declared.sizes.Sizes.{Sizes}
use Rattle.protocol.specs.Rules.{Stations}
use Rattle.coherence.specs.declared.call.Call.{Call}
use Rattle.coherence.specs.declared.event.Event.{Event}
use Rattle.coherence.specs.declared.refusal.Refusal.{Refusal}
use Rattle.coherence.specs.declared.call.Call.TheVariants.{Prepare}
use Rattle.coherence.specs.Histories.{Does, opening}
use Rattle.coherence.specs.Questions.{questions, AllYes, FirstNo}
use Rattle.calls.specs.declared.sizes.RoundSizes.{RoundSizes}
use Rattle.calls.specs.Memory.{Memory, meaning, plain}

-- a granted call: every question is answered yes, and the call does what it is defined to do with this answer; a denied
-- one: the first question answered no decides, and nothing is changed
abbrev pub CallAnswered : {V D X : Type 0} → (D → Stations) → RoundSizes → Memory V D → Memory V D → Call V → (X → Event V) → Result X Refusal → Type 0
CallAnswered {V} names z before after call event (Ok x) =
    (v : V) → AllYes (questions (plain z) (meaning names (plain z) v before) call) × Does (plain z) (meaning names (plain z) v before) (event x) (meaning names (plain z) v after)
CallAnswered {V} names z before after call event (Err refusal) =
    (after ≡ before) × ((v : V) → FirstNo (questions (plain z) (meaning names (plain z) v before) call) refusal)

-- a prepare: the sizes pass, and the memory means an opening; or the first question answered no, and nothing is changed
abbrev pub PrepareAnswered : {V D : Type 0} → (D → Stations) → Sizes → V → Memory V D → Memory V D → Result RoundSizes Refusal → Type 0
PrepareAnswered names sizes v before after (Ok z) =
    (plain z ≡ sizes) × AllYes (questions sizes (meaning names sizes v before) (Prepare sizes v)) × (meaning names sizes v after ≡ opening sizes v)
PrepareAnswered names sizes v before after (Err refusal) =
    (after ≡ before) × FirstNo (questions sizes (meaning names sizes v before) (Prepare sizes v)) refusal

-- The numbers of the kinds of firing. Assumes nothing.
use Rattle.std.specs.Prelude.{◌≡◌, ℕ, ◌≢◌, Result, MatchResult}
use Rattle.protocol.specs.declared.firing.FiringKind.{FiringKind}
use Rattle.protocol.specs.declared.firing.FiringKind.TheVariants.{Work, Receive, Collect, Serve}
use Rattle.protocol.specs.declared.firing.UnknownFiring.{UnknownFiring}

abbrev pub firing_number : FiringKind → ℕ
firing_number Work = 1
firing_number Receive = 2
firing_number Collect = 3
firing_number Serve = 4

-- the kind that has this number, or else the number, which no kind has
abbrev pub ReadsAsFiring : ℕ → Result FiringKind UnknownFiring → Type 0
ReadsAsFiring number result = MatchResult result (λ kind. firing_number kind ≡ number) (λ unknown. (unknown.0 ≡ number) × ((kind : FiringKind) → firing_number kind ≢ number))

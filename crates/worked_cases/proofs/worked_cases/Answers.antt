use Rattle.std.proofs.Common.{refl}
use Rattle.protocol.specs.Rules.Receives.{stays_pending}
use Rattle.worked_cases.proofs.Upgrades.{alone, beside_reader}
use Rattle.worked_cases.proofs.Round.{round}
use Rattle.worked_cases.proofs.worked_cases.Goals as goal

pub returns : goal.returns
returns g c =
    record {
      upgrade_alone = alone;
      upgrade_alone_folds = refl;
      upgrade_beside_reader = beside_reader;
      upgrade_beside_reader_folds = refl;
      pending_stays_pending = stays_pending;
      listing_is_a_history = round;
    }

use Rattle.campaign_laws.proofs.PassedOver.{nobody_is_ever_passed_over, nobody_is_passed_over_without_boarding}
use Rattle.campaign_laws.proofs.laws.laws_of_turns.Goals as goal

pub returns : goal.returns
returns c = record {
  passed_over = nobody_is_ever_passed_over;
  without_boarding = nobody_is_passed_over_without_boarding;
}

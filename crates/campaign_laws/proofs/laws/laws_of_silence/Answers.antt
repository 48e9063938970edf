use Rattle.campaign_laws.proofs.Kept.{automatic_answers_climb, what_is_yours_stays}
use Rattle.campaign_laws.proofs.laws.laws_of_silence.Goals as goal

pub returns : goal.returns
returns c = record { yours = what_is_yours_stays; climb = automatic_answers_climb }

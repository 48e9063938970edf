use Rattle.outcome_laws.proofs.OwnTexts.{own_texts_are_proved}
use Rattle.outcome_laws.proofs.laws.laws_of_checks.Goals as goal

pub returns : goal.returns
returns c = record { proved = own_texts_are_proved }

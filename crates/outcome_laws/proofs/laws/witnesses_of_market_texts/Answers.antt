use Rattle.outcome_laws.proofs.Cases.{markets_tell_the_best_here}
use Rattle.outcome_laws.proofs.laws.witnesses_of_market_texts.Goals as goal

pub returns : goal.returns
returns c = record { best = markets_tell_the_best_here }

use Rattle.outcome_laws.proofs.BestMarkets.{markets_tell_the_best}
use Rattle.outcome_laws.proofs.laws.laws_of_market_texts.Goals as goal

pub returns : goal.returns
returns c = record { best = markets_tell_the_best }

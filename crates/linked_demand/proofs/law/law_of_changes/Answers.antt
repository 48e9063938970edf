use Rattle.linked_demand.proofs.TickLaw.{falls_spend_the_rest, the_rest_is_small, changes_are_few}
use Rattle.linked_demand.proofs.law.law_of_changes.Goals as goal

pub returns : goal.returns
returns c = record { spent = falls_spend_the_rest; small = the_rest_is_small; few = changes_are_few }

use Rattle.linked_demand.proofs.Rounding.{seen_within_bars, over_seen}
use Rattle.linked_demand.proofs.round.LinkedRoundFalling.over.Goals as goal

pub first_over-requires : goal.first_over-requires
first_over-requires c =
    seen_within_bars _ c.self.invariant.under c.self.view_is c.args.i c.requires

pub returns-clause-over : goal.returns-clause-over
returns-clause-over c =
    over_seen _ c.self.invariant.under c.self.view_is c.args.i c.first_over.result c.requires c.first_over.ensures

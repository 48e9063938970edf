use Rattle.std.proofs.Common.{◌∙◌, refl}
use Rattle.linked_demand.proofs.Rounding.{overfilled_seen}
use Rattle.linked_demand.proofs.round.LinkedRoundFalling.listed.Goals as goal

pub returns-clause-places : goal.returns-clause-places
returns-clause-places c =
    c.places.ensures
    ∙ overfilled_seen _ c.self.invariant.under c.self.view_is c.self.invariant.beds_each refl

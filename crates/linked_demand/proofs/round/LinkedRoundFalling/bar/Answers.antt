use Rattle.linked_demand.proofs.Rounding.{bar_read}
use Rattle.linked_demand.proofs.round.LinkedRoundFalling.bar.Goals as goal

pub returns : goal.returns
returns c =
    bar_read _ c.self.invariant.under c.self.view_is c.args.i c.index.result.now c.requires c.index.ensures

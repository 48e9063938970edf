use Rattle.std.proofs.Common.{◌∙◌, ◌<◌, arith, length, refl}
use Rattle.linked_demand.proofs.Rounding.{answer_within, answer_read}
use Rattle.linked_demand.proofs.round.LinkedRound.first_over.Goals as goal

pub get-requires : goal.get-requires
get-requires c =
    let r = c.self.inside in
    let lt : c.args.i < length r.overfilled =
    answer_within _ c.self.invariant.under c.self.view_is c.args.i c.requires in
    omega arith

pub returns : goal.returns
returns c =
    c.get.ensures ∙ answer_read _ c.self.invariant.under c.self.view_is c.self.invariant.beds_each refl c.args.i
    c.requires

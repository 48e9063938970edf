use Rattle.std.proofs.Common.{◌∙◌}
use Rattle.day_state.proofs.Change.{own_within}
use Rattle.proposals.proofs.OwnOpen.{has_open_own}
use Rattle.proposals.proofs.open.has_open_wish.Goals as goal

pub any_open-requires-clause-own : goal.any_open-requires-clause-own
any_open-requires-clause-own c = rw c.requires.own (own_within c.args.state.now.dossier c.args.candidate)

pub returns : goal.returns
returns c =
    c.any_open.ensures
    ∙ rw c.requires.own (has_open_own c.args.state.now c.args.bars.now c.args.programme c.args.candidate
    (rw c.marks.ensures.marks at c.marks.ensures.one_each))

use Rattle.std.proofs.Common.{◌∙◌, ap, sym}
use Rattle.day_state.specs.Marks.{statuses_of}
use Rattle.day_state.proofs.Paired.{statuses_there}
use Rattle.day_state.proofs.marks.Marks.statuses.Goals as goal

pub returns : goal.returns
returns c =
    c.as_slice.ensures.value
    ∙ sym (statuses_there c.self.inside.statuses.items c.self.inside.stamps.items c.self.invariant.long)
    ∙ ap statuses_of c.self.view_is

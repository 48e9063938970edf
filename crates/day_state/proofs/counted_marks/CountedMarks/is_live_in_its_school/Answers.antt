use Rattle.std.proofs.Common.{◌∙◌, ◌<◌, length, ap, sym}
use Rattle.admit_core.specs.State.{State}
use Rattle.day_state.specs.Kept.{has_bed_there}
use Rattle.day_state.proofs.Bundled.{has_number}
use Rattle.day_state.proofs.Telling.{has_bed_is}
use Rattle.day_state.proofs.counted_marks.CountedMarks.is_live_in_its_school.Goals as goal

pub is_live-requires : goal.is_live-requires
is_live-requires c =
    let in_range : c.args.wish < length c.self.inside.marks = rw (sym c.self.view_is) at c.requires in
    let has = has_number c.self.invariant.schools c.self.invariant.kept.marks in_range in
    record { place = has.place; mark = in_range }

pub returns : goal.returns
returns c =
    let in_range : c.args.wish < length c.self.inside.marks = rw (sym c.self.view_is) at c.requires in
    c.is_live.ensures
    ∙ has_bed_is c.self.invariant.schools c.self.invariant.kept.marks in_range
    ∙ ap (λ (s : State). has_bed_there s c.args.wish) c.self.view_is

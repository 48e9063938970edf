use Rattle.std.proofs.Common.{◌<◌, length, sym}
use Rattle.day_state.proofs.Bundled.{has_number}
use Rattle.day_state.proofs.counted_marks.CountedMarks.seat_bundle.Goals as goal

pub number-requires : goal.number-requires
number-requires c =
    let in_range : c.args.wish < length c.self.inside.marks = rw (sym c.self.view_is) at c.requires in
    (has_number c.self.invariant.programmes c.self.invariant.kept.marks in_range).place

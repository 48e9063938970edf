use Rattle.std.proofs.Common.{◌<◌, ◌∙◌, ap, sym, length, List, arith}
use Rattle.admit_core.specs.declared.state.Mark.{Mark}
use Rattle.day_state.specs.Kept.{mark_in}
use Rattle.day_state.specs.Marks.{marks_of}
use Rattle.day_state.proofs.Paired.{length-marks, status_read}
use Rattle.day_state.proofs.marks.Marks.status.Goals as goal

pub index-requires : goal.index-requires
index-requires c =
    let m = c.self.inside in
    let lt : c.args.wish < length (marks_of m.statuses.items m.stamps.items) = rw (sym c.self.view_is) at c.requires in
    omega (arith, lt, length-marks m.statuses.items m.stamps.items c.self.invariant.long, m.statuses.ok.0)

pub returns : goal.returns
returns c =
    let m = c.self.inside in
    let lt : c.args.wish < length (marks_of m.statuses.items m.stamps.items) = rw (sym c.self.view_is) at c.requires in
    status_read m.statuses.items m.stamps.items c.args.wish c.index.result.now c.self.invariant.long lt c.index.ensures
    ∙ ap (λ (ms : List Mark). (mark_in ms c.args.wish).status) c.self.view_is

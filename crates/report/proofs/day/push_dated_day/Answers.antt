use Rattle.std.proofs.Common.{flat_map}
use Rattle.report.specs.DayText.{evening_text, lapse_line, passes_text}
use Rattle.report.proofs.Pushing.{cut_before_two, cut_off, cut_off_first, cut_off_next, pushed_then, pushes_two}
use Rattle.report.proofs.day.push_dated_day.Goals as goal

pub returns-in_err-push_numbered : goal.returns-in_err-push_numbered
returns-in_err-push_numbered c =
    let d = c.args.dossier.now in
    let day = c.args.day.now in
    let lapses = flat_map (lapse_line d c.args.start c.args.terms.now.term) day.lapsed in
    cut_off c.from_residual.result c.from_residual.ensures.0
    (cut_before_two (passes_text d day.passes) (evening_text d day)
    (cut_off_first lapses c.in_err-push_numbered.ensures))

pub returns-in_err-push_lapses : goal.returns-in_err-push_lapses
returns-in_err-push_lapses c =
    let d = c.args.dossier.now in
    let day = c.args.day.now in
    let told = rw c.as_slice.ensures at c.in_err-push_lapses.ensures in
    cut_off c.from_residual-in_err-push_lapses.result c.from_residual-in_err-push_lapses.ensures.0
    (cut_before_two (passes_text d day.passes) (evening_text d day) (cut_off_next c.in_ok-push_numbered.ensures told))

pub returns : goal.returns
returns c =
    let d = c.args.dossier.now in
    let day = c.args.day.now in
    let told = rw c.as_slice.ensures at c.in_ok-push_lapses.ensures in
    pushes_two c.push_rest.result c.push_rest.new.text (passes_text d day.passes) (evening_text d day)
    (pushed_then c.in_ok-push_numbered.ensures told) c.push_rest.ensures

use Rattle.report.specs.DayText.{evening_text, passes_text}
use Rattle.report.proofs.Pushing.{cut_before_two, cut_off, pushes_two}
use Rattle.report.proofs.day.push_day.Goals as goal

pub returns-in_err-push_numbered : goal.returns-in_err-push_numbered
returns-in_err-push_numbered c =
    let d = c.args.dossier.now in
    let day = c.args.day.now in
    cut_off c.from_residual.result c.from_residual.ensures.0
    (cut_before_two (passes_text d day.passes) (evening_text d day) c.in_err-push_numbered.ensures)

pub returns : goal.returns
returns c =
    let d = c.args.dossier.now in
    let day = c.args.day.now in
    pushes_two c.push_rest.result c.push_rest.new.text (passes_text d day.passes) (evening_text d day)
    c.in_ok-push_numbered.ensures c.push_rest.ensures

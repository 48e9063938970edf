use Rattle.std.proofs.Common.{◌∙◌, ap}
use Rattle.calendar.specs.Texts.{text_of}
use Rattle.calendar.proofs.TextLaws.{short}
use Rattle.report.proofs.DateWords.{pushed_date}
use Rattle.report.proofs.Pushing.{pushes_as}
use Rattle.report.proofs.date.push_date.Goals as goal

pub returns : goal.returns
returns c =
    let date = c.parts-year.result in
    let years = c.parts-year.ensures.years in
    let (month, day) = short date.0 date.1 date.2 c.parts-year.ensures.is_date in
    let written = pushed_date date.0 date.1 date.2 c.dash_before.result.now c.dash_before-2.result.now years.0 years.1
    month day c.dash_before.ensures c.dash_before-2.ensures in
    pushes_as c.push_all.result c.args.text.now c.push_all.new.text
    (written ∙ ap text_of c.parts-year.ensures.value) c.push_all.ensures

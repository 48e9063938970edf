use Rattle.std.proofs.Common.{◌≡◌, Option, subst}
use Rattle.intake.specs.Input.{by_check, with_files}
use Rattle.intake.proofs.TakenIn.{of_files, stops_in, takes_in, tested_by}
use Rattle.request.specs.Modes.{named_by}
use Rattle.request.specs.declared.modes.Name.{Name}
use Rattle.intake.proofs.take.take_in.Goals as goal

pub returns-in_err-files : goal.returns-in_err-files
returns-in_err-files g c = stops_in c.args.request.now _ _ c.in_err-files.field-0.0 c.from_residual.result
    c.in_err-files.ensures.value c.in_err-files.ensures.slots c.from_residual.ensures.1

pub returns : goal.returns
returns g c =
    let mode = c.args.request.now.mode in
    let files = c.in_ok-files.files in
    let checked = c.check-checked.result in
    let by_name : Option Name → Type 0 = λ named. by_check named files checked ≡ with_files files c.input_of.result in
    let stops : by_name (named_by mode) = subst by_name c.named_by.ensures c.input_of.ensures.stops in
    takes_in c.args.request.now _ _ files c.input_of.result c.in_ok-files.ensures.value
    c.in_ok-files.ensures.made c.in_ok-files.ensures.slots
    (tested_by mode files checked c.input_of.result c.check-checked.ensures.fault stops)
    c.input_of.ensures.input
    (of_files (named_by mode) files checked c.input_of.result stops)

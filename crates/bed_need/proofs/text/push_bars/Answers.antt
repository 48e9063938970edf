use Rattle.std.proofs.Common.{arith}
use Rattle.admit_core.specs.declared.dossier.School.{School}
use Rattle.bed_need.specs.Text.{bar_line}
use Rattle.report.proofs.Pushing.{cut_off}
use Rattle.report.proofs.PushedItems.{cut_numbered, pushed_all_numbered, pushed_numbered}
use Rattle.bed_need.proofs.text.push_bars.Goals as goal

abbrev nowhere : School
nowhere = record { id = 0; beds = 0; ceiling = 0 }

pub returns-in_err-push_bar : goal.returns-in_err-push_bar
returns-in_err-push_bar c =
    let k = c.loop-place.place in
    cut_off c.from_residual.result c.from_residual.ensures.0
    (cut_numbered (bar_line c.args.before.now c.args.after.now) 0 c.args.schools.now k k nowhere (omega arith)
    (omega arith) c.loop-place.invariant c.in_err-push_bar.ensures)

pub loop-place-preserved : goal.loop-place-preserved
loop-place-preserved c =
    let k = c.loop-place.place in
    pushed_numbered (bar_line c.args.before.now c.args.after.now) 0 c.args.schools.now k k nowhere (omega arith)
    (omega arith) c.loop-place.invariant c.in_ok-push_bar.ensures

pub returns : goal.returns
returns c =
    pushed_all_numbered (bar_line c.args.before.now c.args.after.now) 0 c.args.schools.now c.loop-place.place
    (omega arith) c.loop-place.invariant

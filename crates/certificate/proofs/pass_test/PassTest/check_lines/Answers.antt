use Rattle.std.proofs.Common.{◌∙◌, ◌+◌, drop, ap}
use Rattle.std.proofs.lemmas.Result.{err_from_is_err_and}
use Rattle.admit_core.specs.Chains.{bars_by, lines_fault}
use Rattle.certificate.proofs.Lowering.{bars_pass, drop_item, keeps_round, line_passes, line_stops}
use Rattle.certificate.proofs.pass_test.PassTest.check_lines.Goals as goal

pub returns-in_err-school-clause-found : goal.returns-in_err-school-clause-found
returns-in_err-school-clause-found g c =
    let now = c.loop-line.self in
    let lines = c.args.lines.now in
    let i = c.loop-line.line-index in
    let here = drop_item lines i c.line-item.result c.loop-line-test.true c.line-item.is in
    let told = err_from_is_err_and c.from_residual.result c.from_residual.ensures.1 in
    let whole = c.loop-line.invariant.fault ∙ ap (lines_fault now.state now.orders now.ceilings now.bars) here in
    rw (told.1, told.2) (line_stops now c.line-item.result (drop (i + 1) lines) _ _ whole
    c.in_err-school.ensures.found)

pub loop-line-preserved : goal.loop-line-preserved
loop-line-preserved g c =
    let now = c.loop-line.self in
    let new = c.lower.new.self in
    let lines = c.args.lines.now in
    let i = c.loop-line.line-index in
    let line = c.line-item.result in
    let h = c.in_ok-school.school in
    let rest = drop (i + 1) lines in
    let here = drop_item lines i line c.loop-line-test.true c.line-item.is in
    let inv = c.loop-line.invariant in
    let school = c.in_ok-school.ensures.school in
    let fell = c.lower.ensures in
    record {
      fault = line_passes now new line h rest school fell _ (inv.fault
          ∙ ap (lines_fault now.state now.orders now.ceilings now.bars) here) c.in_ok-school.ensures.found;
      bars = bars_pass now new line h rest school fell _ (inv.bars ∙ ap (bars_by now.state now.bars) here);
      round = keeps_round c.args.self.now now new _ inv.round fell;
    }

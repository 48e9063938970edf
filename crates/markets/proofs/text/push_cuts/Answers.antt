use Rattle.std.proofs.Common.{arith}
use Rattle.admit_core.specs.declared.dossier.Programme.{Programme}
use Rattle.markets.specs.Text.{cut_line}
use Rattle.report.proofs.Pushing.{cut_off}
use Rattle.report.proofs.PushedItems.{cut_numbered, pushed_all_numbered, pushed_numbered}
use Rattle.markets.proofs.text.push_cuts.Goals as goal

pub returns-in_err-push_cut : goal.returns-in_err-push_cut
returns-in_err-push_cut c =
    let none : Programme = record { id = 0; group = 0; seats = 0; limit = 0 } in
    cut_off c.from_residual.result c.from_residual.ensures.0
    (cut_numbered (cut_line c.args.bars.now) 0 c.args.programmes.now c.loop-place.place c.loop-place.place none
    (omega arith) (omega arith) c.loop-place.invariant c.in_err-push_cut.ensures)

pub loop-place-preserved : goal.loop-place-preserved
loop-place-preserved c =
    let none : Programme = record { id = 0; group = 0; seats = 0; limit = 0 } in
    pushed_numbered (cut_line c.args.bars.now) 0 c.args.programmes.now c.loop-place.place c.loop-place.place none
    (omega arith) (omega arith) c.loop-place.invariant c.in_ok-push_cut.ensures

pub returns : goal.returns
returns c =
    pushed_all_numbered (cut_line c.args.bars.now) 0 c.args.programmes.now c.loop-place.place (omega arith)
    c.loop-place.invariant

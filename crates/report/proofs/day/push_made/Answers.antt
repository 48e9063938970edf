use Rattle.std.proofs.Common.{flat_map}
use Rattle.report.specs.DayText.{auto_line, freed_line}
use Rattle.report.proofs.Pushing.{cut_off, cut_off_first, cut_off_next, pushed_then, pushes_then}
use Rattle.report.proofs.day.push_made.Goals as goal

pub returns-in_err-push_offers : goal.returns-in_err-push_offers
returns-in_err-push_offers c =
    let end = c.args.end.now in
    cut_off c.from_residual.result c.from_residual.ensures.0
    (cut_off_first (freed_line end.freed) (cut_off_first (flat_map (auto_line c.args.dossier.now) end.autos)
    (rw c.as_slice.ensures at c.in_err-push_offers.ensures)))

pub returns-in_err-push_autos : goal.returns-in_err-push_autos
returns-in_err-push_autos c =
    cut_off c.from_residual-in_err-push_autos.result c.from_residual-in_err-push_autos.ensures.0
    (cut_off_first (freed_line c.args.end.now.freed) (cut_off_next
    (rw c.as_slice.ensures at c.in_ok-push_offers.ensures) (rw c.as_slice-2.ensures at c.in_err-push_autos.ensures)))

pub returns : goal.returns
returns c =
    pushes_then c.push_line.result c.push_line.new.text (freed_line c.args.end.now.freed)
    (pushed_then (rw c.as_slice.ensures at c.in_ok-push_offers.ensures)
    (rw c.as_slice-2.ensures at c.in_ok-push_autos.ensures))
    c.push_line.ensures

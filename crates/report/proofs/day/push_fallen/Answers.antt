use Rattle.std.proofs.Common.{◌≡◌, codes, rules}
use Rattle.report.specs.Ids.{numbers_text}
use Rattle.report.proofs.Pushing.{cut_off, cut_off_first, pushes_then}
use Rattle.report.proofs.day.push_fallen.Goals as goal

pub returns-in_err-push_falls : goal.returns-in_err-push_falls
returns-in_err-push_falls c =
    let bars = numbers_text (λ h. h.id) (codes "bar") c.args.dossier.now.schools c.args.pass.now.bars in
    cut_off c.from_residual.result c.from_residual.ensures.0
    (cut_off_first bars (rw c.as_slice.ensures at c.in_err-push_falls.ensures.all))

pub returns : goal.returns
returns c =
    let bars = numbers_text (λ h. h.id) (codes "bar") c.args.dossier.now.schools c.args.pass.now.bars in
    let schools : c.as_slice-2.result.now ≡ c.args.dossier.now.schools = search rules in
    pushes_then c.push_numbers.result c.push_numbers.new.text bars
    (rw c.as_slice.ensures at c.in_ok-push_falls.ensures.all)
    (rw (schools, c.as_slice-3.ensures) at c.push_numbers.ensures)

use Rattle.std.proofs.Common.{◌≡◌, codes, rules}
use Rattle.report.specs.DayText.{evening_text}
use Rattle.report.specs.Ids.{numbers_text}
use Rattle.report.proofs.Pushing.{cut_off, cut_off_first, cut_off_next, pushes_then}
use Rattle.report.proofs.day.push_rest.Goals as goal

pub returns-in_err-push_passes : goal.returns-in_err-push_passes
returns-in_err-push_passes c =
    cut_off c.from_residual.result c.from_residual.ensures.0
    (cut_off_first (evening_text c.args.dossier.now c.args.day.now)
    (rw c.as_slice.ensures at c.in_err-push_passes.ensures))

pub returns-in_err-push_numbers : goal.returns-in_err-push_numbers
returns-in_err-push_numbers c =
    let d = c.args.dossier.now in
    let free = numbers_text (λ h. h.id) (codes "free") d.schools c.args.day.now.free in
    let programmes : c.as_slice-2.result.now ≡ c.args.dossier.now.programmes = search rules in
    let left = rw (programmes, c.as_slice-3.ensures) at c.in_err-push_numbers.ensures in
    cut_off c.from_residual-in_err-push_numbers.result c.from_residual-in_err-push_numbers.ensures.0
    (cut_off_next (rw c.as_slice.ensures at c.in_ok-push_passes.ensures) (cut_off_first free left))

pub returns : goal.returns
returns c =
    let d = c.args.dossier.now in
    let r = c.push_numbers-2.result in
    let new = c.push_numbers-2.new.text in
    let programmes : c.as_slice-2.result.now ≡ c.args.dossier.now.programmes = search rules in
    let left = rw (programmes, c.as_slice-3.ensures) at c.in_ok-push_numbers.ensures in
    let schools : c.as_slice-4.result.now ≡ c.args.dossier.now.schools = search rules in
    let free = rw (schools, c.as_slice-5.ensures) at c.push_numbers-2.ensures in
    pushes_then r new (evening_text d c.args.day.now) (rw c.as_slice.ensures at c.in_ok-push_passes.ensures)
    (pushes_then r new (numbers_text (λ h. h.id) (codes "free") d.schools c.args.day.now.free) left free)

use Rattle.std.proofs.Common.{◌≡◌, ◌∙◌, ap, flat_map, length, rules, sym}
use Rattle.std.specs.List.{enumerate_from}
use Rattle.admit_core.specs.DossierRows.{DossierRows}
use Rattle.bed_need.specs.Text.{bar_line}
use Rattle.report.proofs.Pushing.{cut_off, cut_off_first, pushes_then}
use Rattle.bed_need.proofs.text.push_beds.Goals as goal

pub push_bars-requires-clause-before : goal.push_bars-requires-clause-before
push_bars-requires-clause-before c =
    let schools = ap length c.as_slice.ensures ∙ ap (λ (d : DossierRows). length d.schools) c.dossier.view_is in
    ap length c.as_slice-2.ensures.value ∙ c.requires.before ∙ sym schools

pub push_bars-requires-clause-after : goal.push_bars-requires-clause-after
push_bars-requires-clause-after c =
    let schools = ap length c.as_slice.ensures ∙ ap (λ (d : DossierRows). length d.schools) c.dossier.view_is in
    ap length c.as_slice-3.ensures.value ∙ c.requires.after ∙ sym schools

pub returns-in_err-push_need : goal.returns-in_err-push_need
returns-in_err-push_need c =
    let grown = c.args.growth.now in
    let bars = flat_map (bar_line grown.before.items grown.after.items) (enumerate_from 0 c.args.dossier.now.schools) in
    cut_off c.from_residual.result c.from_residual.ensures.0 (cut_off_first bars c.in_err-push_need.ensures)

pub returns : goal.returns
returns c =
    let grown = c.args.growth.now in
    let bars = flat_map (bar_line grown.before.items grown.after.items) (enumerate_from 0 c.args.dossier.now.schools) in
    let schools : c.as_slice.result.now ≡ c.args.dossier.now.schools = search rules in
    pushes_then c.push_bars.result c.push_bars.new.text bars c.in_ok-push_need.ensures
    (rw (schools, c.as_slice-2.ensures.value, c.as_slice-3.ensures.value) at c.push_bars.ensures)

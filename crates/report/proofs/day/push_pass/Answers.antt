use Rattle.std.proofs.Common.{◌≡◌, ◌++◌, ◌∷◌, [], ℕ, List, append_assoc, codes, decimal, flat_map}
use Rattle.admit_core.specs.DossierRows.{DossierRows}
use Rattle.admit_core.specs.declared.records.PassEnd.{PassEnd}
use Rattle.report.specs.DayText.{auto_line, fall_line, freed_line, offer_line, pass_text}
use Rattle.report.specs.Ids.{numbers_text}
use Rattle.report.specs.Words.{line}
use Rattle.report.proofs.Pushing.{cut_before_two, cut_off, cut_off_as, cut_off_first, cut_off_next, pushed_then}
use Rattle.report.proofs.Pushing.{pushes_as, pushes_then}
use Rattle.report.proofs.day.push_pass.Goals as goal

six_parts : (a b c d e f : List ℕ) → (a ++ (b ++ c)) ++ ((d ++ e) ++ f) ≡ ((((a ++ b) ++ c) ++ d) ++ e) ++ f
six_parts a b c d e f = simp append_assoc

module _ (d : DossierRows) (end : PassEnd) where
  abbrev fallen : List ℕ
  fallen = flat_map (fall_line d) end.pass.falls ++ numbers_text (λ h. h.id) (codes "bar") d.schools end.pass.bars

  abbrev made : List ℕ
  made = flat_map (offer_line d) end.pass.offers ++ flat_map (auto_line d) end.autos ++ freed_line end.freed

  parts : (number : ℕ) → (line (codes "pass" ∷ decimal number ∷ []) ++ fallen) ++ made ≡ pass_text d (number, end)
  parts number =
      six_parts (line (codes "pass" ∷ decimal number ∷ [])) (flat_map (fall_line d) end.pass.falls)
      (numbers_text (λ h. h.id) (codes "bar") d.schools end.pass.bars) (flat_map (offer_line d) end.pass.offers)
      (flat_map (auto_line d) end.autos) (freed_line end.freed)

pub returns-in_err-push_numbered : goal.returns-in_err-push_numbered
returns-in_err-push_numbered c =
    let d = c.args.dossier.now in
    let end = c.args.end.now in
    cut_off c.from_residual.result c.from_residual.ensures.0
    (cut_off_as (cut_before_two (fallen d end) (made d end) c.in_err-push_numbered.ensures)
    (parts d end c.args.number))

pub returns-in_err-push_fallen : goal.returns-in_err-push_fallen
returns-in_err-push_fallen c =
    let d = c.args.dossier.now in
    let end = c.args.end.now in
    cut_off c.from_residual-in_err-push_fallen.result c.from_residual-in_err-push_fallen.ensures.0
    (cut_off_as (cut_off_first (made d end)
    (cut_off_next c.in_ok-push_numbered.ensures c.in_err-push_fallen.ensures)) (parts d end c.args.number))

pub returns : goal.returns
returns c =
    let d = c.args.dossier.now in
    let end = c.args.end.now in
    pushes_as c.push_made.result c.args.text.now c.push_made.new.text (parts d end c.args.number)
    (pushes_then c.push_made.result c.push_made.new.text (made d end)
    (pushed_then c.in_ok-push_numbered.ensures c.in_ok-push_fallen.ensures) c.push_made.ensures)

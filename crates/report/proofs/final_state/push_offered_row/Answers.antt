use Rattle.std.proofs.Common.{◌≡◌, ◌++◌, [], ◌∷◌, ℕ, List, append_assoc, codes, decimal}
use Rattle.calendar.specs.Texts.{date_text}
use Rattle.report.proofs.Pushing.{cut_off, cut_off_as, cut_off_first, cut_off_next, pushed_then, pushes_as, pushes_then}
use Rattle.report.proofs.final_state.push_offered_row.Goals as goal

row_of : (id date : List ℕ) → ((id ++ codes ",offered,") ++ date) ++ (10 ∷ [])
    ≡ id ++ (codes ",offered," ++ (date ++ (10 ∷ [])))
row_of id date = simp append_assoc

pub returns-in_err-push_both : goal.returns-in_err-push_both
returns-in_err-push_both c =
    let id = decimal c.args.id in
    let date = date_text c.args.since in
    cut_off c.from_residual.result c.from_residual.ensures.0
    (cut_off_as (cut_off_first (10 ∷ []) (cut_off_first date (rw c.format.ensures.text at c.in_err-push_both.ensures)))
    (row_of id date))

pub returns-in_err-push_date : goal.returns-in_err-push_date
returns-in_err-push_date c =
    let id = decimal c.args.id in
    let date = date_text c.args.since in
    let before = rw c.format.ensures.text at c.in_ok-push_both.ensures in
    cut_off c.from_residual-in_err-push_date.result c.from_residual-in_err-push_date.ensures.0
    (cut_off_as (cut_off_first (10 ∷ []) (cut_off_next before c.in_err-push_date.ensures)) (row_of id date))

pub returns : goal.returns
returns c =
    let id = decimal c.args.id in
    let date = date_text c.args.since in
    let r = c.push_end.result in
    let new = c.push_end.new.text in
    let before = rw c.format.ensures.text at c.in_ok-push_both.ensures in
    pushes_as r c.args.text.now new (row_of id date)
    (pushes_then r new (10 ∷ []) (pushed_then before c.in_ok-push_date.ensures) c.push_end.ensures)

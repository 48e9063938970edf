use Rattle.std.proofs.Common.{◌≡◌, ◌++◌, [], ◌∷◌, ℕ, List, append_assoc, codes, decimal, rules}
use Rattle.calendar.specs.Texts.{date_text}
use Rattle.report.specs.DayText.{last_date}
use Rattle.report.specs.Ids.{wish_id}
use Rattle.report.proofs.Pushing.{cut_off, cut_off_as, cut_off_first, cut_off_next, pushed_then, pushes_as, pushes_then}
use Rattle.report.proofs.day.push_lapse.Goals as goal

line_of : (id date : List ℕ) → ((codes "lapse " ++ (id ++ (32 ∷ []))) ++ date) ++ (10 ∷ [])
    ≡ codes "lapse " ++ (id ++ (32 ∷ (date ++ (10 ∷ []))))
line_of id date = simp append_assoc

pub returns-in_err-push_all : goal.returns-in_err-push_all
returns-in_err-push_all c =
    let id = decimal (wish_id c.args.dossier.now c.args.lapse.wish) in
    let date = date_text (last_date c.args.start c.args.term c.args.lapse.offered) in
    let before = rw c.wish_id.ensures at c.in_err-push_all.ensures in
    cut_off c.from_residual.result c.from_residual.ensures.0
    (cut_off_as (cut_off_first (10 ∷ []) (cut_off_first date before)) (line_of id date))

pub returns-in_err-push_date : goal.returns-in_err-push_date
returns-in_err-push_date c =
    let id = decimal (wish_id c.args.dossier.now c.args.lapse.wish) in
    let date = date_text (last_date c.args.start c.args.term c.args.lapse.offered) in
    let before = rw c.wish_id.ensures at c.in_ok-push_all.ensures in
    let falls : c.deadline.result ≡ last_date c.args.start c.args.term c.args.lapse.offered = search rules in
    let dated = rw falls at c.in_err-push_date.ensures in
    cut_off c.from_residual-in_err-push_date.result c.from_residual-in_err-push_date.ensures.0
    (cut_off_as (cut_off_first (10 ∷ []) (cut_off_next before dated)) (line_of id date))

pub returns : goal.returns
returns c =
    let id = decimal (wish_id c.args.dossier.now c.args.lapse.wish) in
    let date = date_text (last_date c.args.start c.args.term c.args.lapse.offered) in
    let r = c.push_end.result in
    let new = c.push_end.new.text in
    let before = rw c.wish_id.ensures at c.in_ok-push_all.ensures in
    let falls : c.deadline.result ≡ last_date c.args.start c.args.term c.args.lapse.offered = search rules in
    let dated = rw falls at c.in_ok-push_date.ensures in
    pushes_as r c.args.text.now new (line_of id date)
    (pushes_then r new (10 ∷ []) (pushed_then before dated) c.push_end.ensures)

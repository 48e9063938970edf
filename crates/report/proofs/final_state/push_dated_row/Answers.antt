use Rattle.std.proofs.Common.{◌≡◌, ◌∙◌, ℕ, ℤ, [], ◌∷◌, List, codes, decimal, refl, sym}
use Rattle.admit_core.specs.Answers.{status_at}
use Rattle.admit_core.specs.State.{State}
use Rattle.admit_core.specs.declared.dossier.Wish.{Wish}
use Rattle.admit_core.specs.declared.state.Status.TheVariants.{Offered}
use Rattle.calendar.specs.Texts.{date_text}
use Rattle.report.specs.DayText.{date_on}
use Rattle.report.specs.FinalText.{dated_row, offer_day_at}
use Rattle.report.specs.Words.{row}
use Rattle.report.proofs.Pushing.{pushes_as}
use Rattle.report.proofs.final_state.push_dated_row.Goals as goal

offered_row : (s : State) (start : ℤ) (before : List ℤ) (place : ℕ) (wish : Wish) (date : ℤ)
    → status_at s place ≡ Offered → date ≡ date_on start (offer_day_at s before place)
    → row (decimal wish.id ∷ codes "offered" ∷ date_text date ∷ []) ≡ dated_row s start before (place, wish)
offered_row s start before place wish date is dated = rw (is, dated) refl

pub returns-in-Offered : goal.returns-in-Offered
returns-in-Offered c =
    pushes_as c.push_offered_row.result c.args.text.now c.push_offered_row.new.text
    (offered_row c.args.state.now c.args.start c.args.terms.now.before c.args.place c.args.wish.now c.offer_date.result
    (sym c.status-status.ensures ∙ c.in-Offered.is) c.offer_date.ensures) c.push_offered_row.ensures

-- The worked texts, computed.
use Rattle.std.proofs.Common.{refl}
use Rattle.std.specs.Fmt.{digits}
use Rattle.calendar.specs.Dates.{date_of, days_of_months, last_started}
use Rattle.report.specs.WorkedTexts.{AutomaticDays, CascadeDay, DatedFinals, EdgesOfBars, Explanations, LapsingDays}
use Rattle.report.specs.WorkedTexts.{OrderTexts, RealisticDays, RealisticFinal, Refusals, Samples}

pub order_texts : OrderTexts
unfolding digits
order_texts = (refl, refl, refl)

pub realistic_days_text : RealisticDays
unfolding digits
realistic_days_text = refl

pub realistic_final : RealisticFinal
unfolding digits
realistic_final = refl

pub cascade_day_text : CascadeDay
unfolding digits
cascade_day_text = refl

pub edges_of_bars : EdgesOfBars
unfolding digits
edges_of_bars = refl

pub automatic_days : AutomaticDays
unfolding digits
automatic_days = (refl, refl)

pub explanation_texts : Explanations
unfolding digits
explanation_texts = (refl, refl, refl, refl, refl, refl)

pub refusal_lines : Refusals
unfolding digits
refusal_lines = (
  refl,
  refl,
  refl,
  refl,
  refl,
  refl,
  refl,
  refl,
  refl,
  refl,
  refl,
  refl,
  refl,
  refl,
  refl,
  refl,
  refl,
  refl,
  refl,
)

pub lapsing_days : LapsingDays
unfolding digits date_of last_started days_of_months
lapsing_days = (refl, refl)

pub dated_finals : DatedFinals
unfolding digits date_of last_started days_of_months
dated_finals = (refl, refl)

pub samples : Samples
unfolding digits
samples = (refl, refl)

use Rattle.std.proofs.Common.{◌∙◌, ap, sym, arith}
use Rattle.desk_day.proofs.DaysAnswers.{unfit_applied, fit_applied, front_dossier}
use Rattle.desk_day.proofs.answers_on.answer.Goals as goal

pub apply_day-requires-clause-targets : goal.apply_day-requires-clause-targets
apply_day-requires-clause-targets c = rw (← c.dossier.ensures) c.answers_on-today.ensures.targets

pub apply_day-requires-clause-count : goal.apply_day-requires-clause-count
apply_day-requires-clause-count c = omega (arith, c.answers_on-today.ensures.few)

pub unfit-requires : goal.unfit-requires
unfit-requires c = omega (arith, c.answers_on-today.ensures.few)

pub returns-in-Ok-clause-applied : goal.returns-in-Ok-clause-applied
returns-in-Ok-clause-applied c =
    let are = rw c.dossier.ensures at c.answers_on-today.ensures in
    fit_applied c.args.state.now c.apply_day.new.self c.args.day c.answers_on-today.result.first
    c.answers_on-today.result.answers.now are
    (sym c.in-Ok.is ∙ c.apply_day.ensures.result) c.apply_day.ensures.state

pub returns-in-Ok-clause-dossier : goal.returns-in-Ok-clause-dossier
returns-in-Ok-clause-dossier c = ap (λ s. s.dossier) c.apply_day.ensures.state
    ∙ front_dossier c.args.state.now _ c.answers_on-today.result.answers.now

pub returns-in-Err-clause-applied : goal.returns-in-Err-clause-applied
returns-in-Err-clause-applied c =
    let are = rw c.dossier.ensures at c.answers_on-today.ensures in
    unfit_applied c.args.state.now c.apply_day.new.self c.args.day c.answers_on-today.result.first
    c.answers_on-today.result.answers.now
    c.in-Err.at c.unfit.result are (sym c.in-Err.is ∙ c.apply_day.ensures.result) c.unfit.ensures

pub returns-in-Err-clause-dossier : goal.returns-in-Err-clause-dossier
returns-in-Err-clause-dossier c = ap (λ s. s.dossier) c.apply_day.ensures.state
    ∙ front_dossier c.args.state.now _ c.answers_on-today.result.answers.now

use Rattle.std.proofs.Common.{◌∙◌, ap, sym, ℕ, List, length}
use Rattle.admit_core.specs.declared.records.PassEnd.{PassEnd}
use Rattle.admit_core.specs.DossierRows.{DossierRows}
use Rattle.admit_core.specs.State.{State}
use Rattle.admit_core.specs.EveningLaws.{last_bars}
use Rattle.desk_day.proofs.LastBars.{last_bars_long}
use Rattle.day_run.proofs.DayEnds.{next_ran, next_refused, next_stopped}
use Rattle.desk_day.proofs.PassEnds.{desk_ends_so}
use Rattle.day_run.proofs.course.Course.next_day.Goals as goal

pub run_day_along-requires-clause-ceilings : goal.run_day_along-requires-clause-ceilings
run_day_along-requires-clause-ceilings g c =
    ap (λ (l : List ℕ). length l) c.as_slice.ensures.value
    ∙ c.in-Ok.ensures.one_each
    ∙ ap (λ (d : DossierRows). length d.schools) (c.dossier.ensures ∙ ap (λ (s : State). s.dossier) c.now.ensures)

pub keep_bars-requires : goal.keep_bars-requires
keep_bars-requires g c =
    let schools =
    ap (λ (l : List ℕ). length l) c.as_slice.ensures.value
    ∙ c.in-Ok.ensures.one_each
    ∙ ap (λ (d : DossierRows). length d.schools) (c.dossier.ensures ∙ ap (λ (s : State). s.dossier) c.now.ensures) in
    c.self.invariant.progress.bars
    ∙ sym (ap (λ (l : List PassEnd). length (last_bars l)) c.as_slice-2.ensures
    ∙ last_bars_long _ _ _ _ _ _ c.in_ok-done.done.passes c.in_ok-done.ensures.done.rule.is_day.passes ∙ schools)

pub invariant_of-self-2 : goal.invariant_of-self-2
invariant_of-self-2 g c =
    let schools =
    ap (λ (l : List ℕ). length l) c.as_slice.ensures.value
    ∙ c.in-Ok.ensures.one_each
    ∙ ap (λ (d : DossierRows). length d.schools) (c.dossier.ensures ∙ ap (λ (s : State). s.dossier) c.now.ensures) in
    record {
      progress = record {
        orders = rw c.run_day_along.ensures.dossier c.self.invariant.progress.orders;
        before = rw c.run_day_along.ensures.dossier c.self.invariant.progress.before;
        bars =
            ap (λ (l : List ℕ). length l) c.keep_bars.ensures
            ∙ ap (λ (l : List PassEnd). length (last_bars l)) c.as_slice-2.ensures
            ∙ last_bars_long _ _ _ _ _ _ c.in_ok-done.done.passes c.in_ok-done.ensures.done.rule.is_day.passes
            ∙ schools
            ∙ ap (λ (d : DossierRows). length d.schools) (sym c.run_day_along.ensures.dossier);
        last = λ _.
            desk_ends_so _ _ _ _ _ _ _ _ _ c.self.invariant.progress.orders schools c.in_ok-done.ensures.done
            c.as_slice.ensures.value (c.keep_bars.ensures ∙ ap last_bars c.as_slice-2.ensures);
      };
      same = c.self.invariant.same ∙ sym c.run_day_along.ensures.dossier;
    }

pub returns : goal.returns
returns g c =
    next_ran c.args.self.now _ _ c.as_slice.result.now c.in-Ok.ceilings.items _ c.dossier.result.now
    c.run_day_along.new.desk _ _ _
    _ c.in_ok-done.done c.self.view_is
    c.as_ref-2.ensures.value c.as_slice.ensures.value c.in-Ok.ensures.ceilings
    (c.dossier.ensures ∙ ap (λ (s : State). s.dossier) c.now.ensures)
    c.in_ok-done.ensures.done c.run_day_along.ensures.dossier (c.keep_bars.ensures ∙ ap last_bars c.as_slice-2.ensures)
    c.run_day_along.ensures.choice

pub returns-in_default : goal.returns-in_default
returns-in_default g c =
    next_refused c.args.self.now _ c.refused.new.self _ _ _ c.refused.result c.self.view_is c.as_ref.ensures.value
    c.refused.ensures.refusal c.refused.ensures.present c.refused.ensures.opening

pub returns-in_err-done : goal.returns-in_err-done
returns-in_err-done g c =
    next_stopped c.args.self.now _ _ c.as_slice.result.now c.in-Ok.ceilings.items c.dossier.result.now
    c.run_day_along.new.desk _ _ _ _ c.self.view_is c.as_ref-2.ensures.value c.as_slice.ensures.value
    c.in-Ok.ensures.ceilings (c.dossier.ensures ∙ ap (λ (s : State). s.dossier) c.now.ensures)
    c.in_err-done.field-0.0 c.from_residual.result c.from_residual.ensures.1 c.in_err-done.ensures

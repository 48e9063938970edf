use Rattle.std.proofs.Common.{◌≡◌, ◌∙◌, IfErr, ap, length, subst, sym}
use Rattle.std.specs.Option.{option_copied}
use Rattle.std.proofs.lemmas.Result.{err_from_is_err_and, on_ok_weaker}
use Rattle.admit_core.specs.Days.{ceilings_of}
use Rattle.admit_core.specs.DossierRows.{DossierRows}
use Rattle.admit_core.specs.State.{State}
use Rattle.modes.specs.CheckedDays.{KeepsIn}
use Rattle.modes.specs.declared.unproved.Unproved.TheVariants as unproved
use Rattle.modes.proofs.CheckedDay.{chain_tells, fits_begun, is_evening, not_empty}
use Rattle.modes.proofs.checked.check_next.Goals as goal

pub check_morning-requires-clause-same : goal.check_morning-requires-clause-same
check_morning-requires-clause-same c = c.requires.same ∙ sym c.begin_day.ensures.dossier

pub check_morning-requires-clause-ceilings : goal.check_morning-requires-clause-ceilings
check_morning-requires-clause-ceilings c =
    ap length c.deref.ensures.value ∙ c.in_ok-ceilings.ensures.one_each
    ∙ ap (λ (d : DossierRows). length d.schools)
    (c.dossier.ensures ∙ ap (λ (t : State). t.dossier) c.now.ensures)

pub returns-clause-found : goal.returns-clause-found
returns-clause-found c =
    let under = c.deref.ensures.value ∙ c.in_ok-ceilings.ensures.ceilings
    ∙ ap (λ (d : DossierRows). ceilings_of d c.args.day)
    (c.dossier.ensures ∙ ap (λ (t : State). t.dossier) c.now.ensures ∙ c.begin_day.ensures.dossier) in
    chain_tells (option_copied c.args.terms) c.args.grounds.now.orders c.args.day c.args.present.now
    c.begin_day.new.self
    c.deref.result.now c.args.chain.now
    c.in_ok-begin_day.ensures.begun.fits c.in_ok-begin_day.ensures.begun.state under c.check_morning.result
    c.check_morning.ensures.found

pub returns-clause-school : goal.returns-clause-school
returns-clause-school c =
    subst (λ (d : DossierRows). IfErr c.check_morning.result (KeepsIn (length d.schools)))
    c.begin_day.ensures.dossier
    c.check_morning.ensures.school

pub returns-clause-evening : goal.returns-clause-evening
returns-clause-evening c =
    let under = c.deref.ensures.value ∙ c.in_ok-ceilings.ensures.ceilings
    ∙ ap (λ (d : DossierRows). ceilings_of d c.args.day)
    (c.dossier.ensures ∙ ap (λ (t : State). t.dossier) c.now.ensures ∙ c.begin_day.ensures.dossier) in
    on_ok_weaker c.check_morning.result
    (is_evening (option_copied c.args.terms) c.args.grounds.now.orders c.args.day c.args.present.now
    c.begin_day.new.self c.deref.result.now c.args.chain.now
    c.in_ok-begin_day.ensures.begun.fits c.in_ok-begin_day.ensures.begun.state under c.check_morning.new.present)
    c.check_morning.ensures.valid

pub returns-in_err-begin_day-clause-memory : goal.returns-in_err-begin_day-clause-memory
returns-in_err-begin_day-clause-memory c =
    let told = err_from_is_err_and c.from_residual.result c.from_residual.ensures.1 in
    λ ended. let none : told.0 ≡ unproved.OutOfMemory = cc (sym told.1 ∙ ended) in
    record {
      fits = fits_begun c.args.present.now.dossier c.args.day _ _ c.in_err-begin_day.ensures.unfit (sym told.2 ∙ none);
      has_pass = not_empty c.args.chain.now.passes c.is_empty.result c.is_empty.ensures c.if-is_empty.false;
    }

pub returns-in_err-ceilings-clause-memory : goal.returns-in_err-ceilings-clause-memory
returns-in_err-ceilings-clause-memory c = λ _. record {
  fits = c.in_ok-begin_day.ensures.begun.fits;
  has_pass = not_empty c.args.chain.now.passes c.is_empty.result c.is_empty.ensures c.if-is_empty.false;
}

pub returns-clause-memory : goal.returns-clause-memory
returns-clause-memory c = λ _. record {
  fits = c.in_ok-begin_day.ensures.begun.fits;
  has_pass = not_empty c.args.chain.now.passes c.is_empty.result c.is_empty.ensures c.if-is_empty.false;
}

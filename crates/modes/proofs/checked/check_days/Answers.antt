use Rattle.std.proofs.Common.{◌∙◌, ◌+◌, ◌≤◌, Err, ap, arith, drop, subst, sym}
use Rattle.std.proofs.lemmas.List.{drop_all}
use Rattle.std.proofs.lemmas.Result.{err_from_is_err_and}
use Rattle.std.specs.Option.{option_copied}
use Rattle.admit_core.specs.DossierRows.{DossierRows}
use Rattle.admit_core.specs.Lapses.{AreTermsFor}
use Rattle.admit_core.specs.State.{State}
use Rattle.certificate.proofs.Lowering.{drop_item}
use Rattle.certificate.specs.ProvedDays.{evening_after}
use Rattle.modes.specs.Checking.{DaysMayLackMemory, why_not_all}
use Rattle.modes.proofs.CheckedDay.{days_go_on, evening_goes_on, evening_stays, may_lack}
use Rattle.modes.proofs.checked.check_days.Goals as goal

pub check_next-requires-clause-same : goal.check_next-requires-clause-same
check_next-requires-clause-same c = c.requires.same ∙ sym c.loop-place.invariant.dossier

pub check_next-requires-clause-terms : goal.check_next-requires-clause-terms
check_next-requires-clause-terms c =
    subst (λ (d : DossierRows). AreTermsFor d (option_copied c.args.terms))
    (sym c.loop-place.invariant.dossier) c.requires.terms

pub loop-place-preserved : goal.loop-place-preserved
loop-place-preserved c =
    let terms = option_copied c.args.terms in
    let orders = c.args.grounds.now.orders in
    let days = c.args.days.now in
    let i = c.loop-place.place in
    let s = c.loop-place.present in
    let next = c.check_next.new.present in
    let chain = c.index-days-place.result in
    let rest = drop (i + 1) days in
    let inv = c.loop-place.invariant in
    let here = drop_item days i chain (omega arith) c.index-days-place.is in
    let after = c.in_ok-check_next.ensures in
    let within : i + 1 ≤ 366 = omega (arith, c.requires.days) in
    record {
      why = days_go_on terms orders (i + 1) s next chain rest _
          (inv.why ∙ ap (why_not_all terms orders (i + 1) s) here) after.found after.evening.is;
      evening = evening_goes_on terms orders (i + 1) s next chain rest _
          (inv.evening ∙ ap (evening_after terms orders (i + 1) s) here) after.evening.is;
      dossier = ap (λ (t : State). t.dossier) after.evening.is
          ∙ evening_stays terms orders (i + 1) s chain ∙ inv.dossier;
      stamped = λ all. after.evening.stamps 366 within (inv.stamped all);
      lacks = λ more. inv.lacks (subst (DaysMayLackMemory terms (i + 1) s) (sym here)
          (may_lack terms orders (i + 1) s chain after.found));
    }

pub returns-clause-evening : goal.returns-clause-evening
returns-clause-evening c =
    let k = c.loop-place.place in
    let after = evening_after (option_copied c.args.terms) c.args.grounds.now.orders (k + 1) c.loop-place.present in
    record {
      is = sym (c.loop-place.invariant.evening ∙ ap after (drop_all k c.args.days.now c.loop-place-test.false));
      stamps = c.loop-place.invariant.stamped;
    }

pub check_next-requires-clause-day : goal.check_next-requires-clause-day
check_next-requires-clause-day c =
    let within = c.loop-place-test.true in
    record { from_one = omega arith; at_most = omega (arith, c.requires.days) }

pub returns-in_err-check_next-clause-memory : goal.returns-in_err-check_next-clause-memory
returns-in_err-check_next-clause-memory c =
    let here = drop_item c.args.days.now c.loop-place.place c.index-days-place.result c.loop-place-test.true
    c.index-days-place.is in
    let told = err_from_is_err_and c.from_residual.result c.from_residual.ensures.1 in
    λ ended. c.loop-place.invariant.lacks
    (subst (DaysMayLackMemory (option_copied c.args.terms) (c.loop-place.place + 1) c.loop-place.present) (sym here)
    (c.in_err-check_next.ensures.memory (ap Err (sym told.2) ∙ sym told.1 ∙ ended)))

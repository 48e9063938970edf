use Rattle.std.proofs.Common.{◌≡◌, ◌∙◌, None, Some, length, subst, sym}
use Rattle.admit_core.specs.Chains.{day_fault}
use Rattle.admit_core.specs.State.{State}
use Rattle.certificate.specs.Checked.{Stops}
use Rattle.certificate.specs.ProvedDays.{IsProvedDay}
use Rattle.certificate.specs.Verdicts.{KeepsSchool, StopsAt}
use Rattle.certificate.specs.declared.stop.CheckStop.{CheckStop}
use Rattle.certificate.proofs.check.check_day_along.Goals as goal

pub returns-in-Ok-clause-exact : goal.returns-in-Ok-clause-exact
returns-in-Ok-clause-exact c =
    subst (λ (s : State). day_fault c.args.grounds.now.orders c.args.ceilings.now c.args.day s c.args.chain.now ≡ None)
    (c.begin-present.ensures ∙ c.in_ok-copy.ensures) c.in-Ok.ensures.found

pub returns-in-Ok-clause-proved : goal.returns-in-Ok-clause-proved
returns-in-Ok-clause-proved c =
    let Is = IsProvedDay c.args.grounds.now.orders c.args.ceilings.now c.args.day c.args.chain.now in
    subst (λ (e : State). Is c.args.morning.now e) (sym c.into_now.ensures)
    (subst (λ (s : State). Is s c.check_day_on.new.present) (c.begin-present.ensures ∙ c.in_ok-copy.ensures)
    c.in-Ok.ensures.proved)

pub returns-in-Err-Rejected-clause-exact : goal.returns-in-Err-Rejected-clause-exact
returns-in-Err-Rejected-clause-exact c =
    let fault = λ (s : State). day_fault c.args.grounds.now.orders c.args.ceilings.now c.args.day s c.args.chain.now in
    subst (λ (s : State). fault s ≡ Some (c.in-Err-Rejected.found.row, c.in-Err-Rejected.found.reason))
    (c.begin-present.ensures ∙ c.in_ok-copy.ensures)
    (subst (λ (x : CheckStop). Stops x (fault c.begin-present.result)) c.in-Err-Rejected.field-0-is
    c.in-Err-Rejected.ensures.found)

pub returns-in-Err-Rejected-clause-school : goal.returns-in-Err-Rejected-clause-school
returns-in-Err-Rejected-clause-school c =
    subst (λ (s : State). KeepsSchool (length s.dossier.schools) c.in-Err-Rejected.found.reason)
    (c.begin-present.ensures ∙ c.in_ok-copy.ensures)
    (subst (StopsAt (length c.begin-present.result.dossier.schools)) c.in-Err-Rejected.field-0-is
    c.in-Err-Rejected.ensures.school)

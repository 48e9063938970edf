use Rattle.std.proofs.Common.{◌≡◌, ◌∙◌, ◌+◌, true, false, drop, ap, sym, length, refl, subst}
use Rattle.std.proofs.lemmas.List.{drop_all}
use Rattle.std.proofs.lemmas.Result.{err_from_is_err_and}
use Rattle.admit_core.specs.DossierRows.{DossierRows}
use Rattle.admit_core.specs.declared.state.Freed.{Freed}
use Rattle.admit_core.specs.Chains.{day_fault, frees_nothing_by, passes_fault}
use Rattle.admit_core.specs.Days.{frees_nothing}
use Rattle.certificate.specs.Checked.{Finds, state_after}
use Rattle.certificate.proofs.Ending.{is_proved, where_it_goes_through}
use Rattle.certificate.proofs.Schools.{stops_school}
use Rattle.certificate.proofs.Lowering.{drop_item, pass_goes_on, pass_is_last, pass_stops, state_goes_on}
use Rattle.certificate.proofs.passes.check_day_on.Goals as goal

pub loop-place-preserved : goal.loop-place-preserved
loop-place-preserved c =
    let orders = c.args.grounds.now.orders in
    let ceilings = c.args.ceilings.now in
    let day = c.args.day in
    let end = c.args.chain.now.next_row in
    let s = c.loop-place.present in
    let next = c.check_pass.new.present in
    let k = c.loop-place.place in
    let passes = c.as_slice-passes.result.now in
    let pass = c.index-passes-place.result in
    let rest = drop (k + 1) passes in
    let here = drop_item passes k pass c.loop-place-test.true c.index-passes-place.is in
    let inv = c.loop-place.invariant in
    let frees : frees_nothing_by s orders ceilings (record { day = day; pass = k + 1 }) pass ≡ false =
    ap (λ (freed : Freed). frees_nothing freed) (sym c.in_ok-freed.ensures.freed)
    ∙ sym c.frees_nothing.ensures ∙ c.if-frees_nothing.false in
    record {
      fault = pass_goes_on orders ceilings day end (k + 1) s pass rest _ next (inv.fault
          ∙ ap (passes_fault orders ceilings day end (k + 1) s) here) c.in_ok-freed.ensures.found frees
          c.in_ok-freed.ensures.state;
      state = state_goes_on orders ceilings day (k + 1) s next pass rest _ (inv.state
          ∙ ap (state_after orders ceilings day (k + 1) s) here) c.in_ok-freed.ensures.state;
      dossier = c.check_pass.ensures.dossier ∙ inv.dossier;
    }

pub returns-then-frees_nothing-clause-found : goal.returns-then-frees_nothing-clause-found
returns-then-frees_nothing-clause-found c =
    let orders = c.args.grounds.now.orders in
    let ceilings = c.args.ceilings.now in
    let day = c.args.day in
    let end = c.args.chain.now.next_row in
    let s = c.loop-place.present in
    let k = c.loop-place.place in
    let passes = c.as_slice-passes.result.now in
    let pass = c.index-passes-place.result in
    let rest = drop (k + 1) passes in
    let here = drop_item passes k pass c.loop-place-test.true c.index-passes-place.is in
    let frees : frees_nothing_by s orders ceilings (record { day = day; pass = k + 1 }) pass ≡ true =
    ap (λ (freed : Freed). frees_nothing freed) (sym c.in_ok-freed.ensures.freed)
    ∙ sym c.frees_nothing.ensures ∙ c.if-frees_nothing.true in
    let last = pass_is_last orders ceilings day end (k + 1) s pass rest _ (c.loop-place.invariant.fault
    ∙ ap (passes_fault orders ceilings day end (k + 1) s) here) c.in_ok-freed.ensures.found frees in
    subst (Finds c.no_pass_from.result) (sym last) c.no_pass_from.ensures.extra

pub returns-then-frees_nothing-clause-proved : goal.returns-then-frees_nothing-clause-proved
returns-then-frees_nothing-clause-proved c =
    let orders = c.args.grounds.now.orders in
    let ceilings = c.args.ceilings.now in
    let day = c.args.day in
    let s = c.loop-place.present in
    let next = c.check_pass.new.present in
    let k = c.loop-place.place in
    let passes = c.as_slice-passes.result.now in
    let pass = c.index-passes-place.result in
    let rest = drop (k + 1) passes in
    let here = drop_item passes k pass c.loop-place-test.true c.index-passes-place.is in
    let goes = state_goes_on orders ceilings day (k + 1) s next pass rest _ (c.loop-place.invariant.state
    ∙ ap (state_after orders ceilings day (k + 1) s) here) c.in_ok-freed.ensures.state in
    where_it_goes_through c.no_pass_from.result (day_fault orders ceilings day c.args.present.now c.args.chain.now)
    c.no_pass_from.ensures.last (returns-then-frees_nothing-clause-found c)
    (λ fault none. is_proved c.laws_of_chains.ensures.no_fault c.laws_of_chains.ensures.tells orders ceilings day
    c.args.present.now c.args.chain.now next fault
    (sym (goes ∙ ap (state_after orders ceilings day (k + 1 + 1) next) none)))

pub returns-then-frees_nothing-clause-school : goal.returns-then-frees_nothing-clause-school
returns-then-frees_nothing-clause-school c =
    stops_school c.args.grounds.now.orders c.args.ceilings.now c.args.day c.args.present.now c.args.chain.now
    c.no_pass_from.result c.requires.ceilings (returns-then-frees_nothing-clause-found c)

pub check_pass-requires-clause-same : goal.check_pass-requires-clause-same
check_pass-requires-clause-same c = c.requires.same ∙ sym c.loop-place.invariant.dossier

pub check_pass-requires-clause-ceilings : goal.check_pass-requires-clause-ceilings
check_pass-requires-clause-ceilings c =
    c.requires.ceilings ∙ ap (λ (d : DossierRows). length d.schools) (sym c.loop-place.invariant.dossier)

pub returns-in_err-freed-clause-found : goal.returns-in_err-freed-clause-found
returns-in_err-freed-clause-found c =
    let orders = c.args.grounds.now.orders in
    let ceilings = c.args.ceilings.now in
    let day = c.args.day in
    let end = c.args.chain.now.next_row in
    let s = c.loop-place.present in
    let k = c.loop-place.place in
    let passes = c.as_slice-passes.result.now in
    let pass = c.index-passes-place.result in
    let here = drop_item passes k pass c.loop-place-test.true c.index-passes-place.is in
    let told = err_from_is_err_and c.from_residual.result c.from_residual.ensures.1 in
    rw (told.1, told.2) (pass_stops orders ceilings day end (k + 1) s pass (drop (k + 1) passes) _ _
    (c.loop-place.invariant.fault ∙ ap (passes_fault orders ceilings day end (k + 1) s) here)
    c.in_err-freed.ensures.found)

pub returns-in_err-freed-clause-school : goal.returns-in_err-freed-clause-school
returns-in_err-freed-clause-school c =
    stops_school c.args.grounds.now.orders c.args.ceilings.now c.args.day c.args.present.now c.args.chain.now
    c.from_residual.result c.requires.ceilings (returns-in_err-freed-clause-found c)

pub returns-clause-school : goal.returns-clause-school
returns-clause-school c = rw c.rejected_at.ensures tt

pub loop-place-init : goal.loop-place-init
loop-place-init c =
    let orders = c.args.grounds.now.orders in
    let ceilings = c.args.ceilings.now in
    let day = c.args.day in
    let s = c.args.present.now in
    record {
      fault = ap (passes_fault orders ceilings day c.args.chain.now.next_row 1 s) (sym c.as_slice-passes.ensures);
      state = ap (state_after orders ceilings day 1 s) (sym c.as_slice-passes.ensures);
      dossier = refl;
    }

pub returns-clause-found : goal.returns-clause-found
returns-clause-found c =
    let end = c.args.chain.now.next_row in
    let k = c.loop-place.place in
    rw c.rejected_at.ensures (c.loop-place.invariant.fault
    ∙ ap (passes_fault c.args.grounds.now.orders c.args.ceilings.now c.args.day end (k + 1) c.loop-place.present)
    (drop_all k c.as_slice-passes.result.now c.loop-place-test.false))

use Rattle.std.proofs.Common.{◌≡◌, ◌+◌, ◌<◌, length, take, get_or, subst, sym, ap, ◌∙◌, arith, Some, None}
use Rattle.std.proofs.lemmas.List.{take_more, length-take-le}
use Rattle.std.proofs.lemmas.Option.{slice_get-get_or}
use Rattle.admit_core.specs.Faults.{first_reason}
use Rattle.dossier_check.specs.Outcome.{LacksAt}
use Rattle.dossier_check.proofs.Scans.{found, passed, ended}
use Rattle.dossier_check.proofs.Outcomes.{may_lack}
use Rattle.dossier_check.proofs.scan.scan.Goals as goal

pub returns-in_err-reason-clause-memory : goal.returns-in_err-reason-clause-memory
returns-in_err-reason-clause-memory g c =
    let some : 0 < length c.args.rows.now = omega (arith, c.loop-place-test.true) in
    may_lack {T = (0 < length c.args.rows.now) × g.C.RowChecks.takes_memory} _ (some, c.in_err-reason.ensures.memory)

pub returns-in_err-reason-clause-told : goal.returns-in_err-reason-clause-told
returns-in_err-reason-clause-told g c =
    let tests = g.C.RowChecks.tests c.args.checks.now in
    let rows = c.args.rows.now in
    let i = c.loop-place.place in
    let row = c.index-rows-place.result in
    may_lack {T = LacksAt g.C.RowChecks.lacks c.args.slot tests rows} _ (record {
      place = i;
      row = row;
      there = slice_get-get_or rows i row c.loop-place-test.true ∙ ap Some (sym c.index-rows-place.is);
      before = c.loop-place.invariant.fault;
      here = subst (λ ts. g.C.RowChecks.lacks ts (take i rows) row) c.loop-place.invariant.same_tests
          (c.in_err-reason.ensures.told (take i rows) c.loop-place.invariant.seen);
    })

pub returns-in-Some-clause-fault : goal.returns-in-Some-clause-fault
returns-in-Some-clause-fault g c =
    let tests = g.C.RowChecks.tests c.args.checks.now in
    let rows = c.args.rows.now in
    let i = c.loop-place.place in
    let row = c.index-rows-place.result in
    let e : c.in_ok-reason.field-0 ≡ first_reason (g.C.RowChecks.tests c.loop-place.checks) (take i rows) row =
    c.in_ok-reason.ensures.reason (take i rows) c.loop-place.invariant.seen in
    let stands : first_reason tests (take i rows) (get_or rows i row) ≡ Some c.in-Some.reason =
    rw (← c.index-rows-place.is, ← c.loop-place.invariant.same_tests) (sym e ∙ c.in-Some.is) in
    c.loop-place.invariant.fault ∙ found c.args.slot tests rows i row c.in-Some.reason c.loop-place-test.true stands

pub loop-place-preserved : goal.loop-place-preserved
loop-place-preserved g c =
    let tests = g.C.RowChecks.tests c.args.checks.now in
    let rows = c.args.rows.now in
    let i = c.loop-place.place in
    let row = c.index-rows-place.result in
    let e : c.in_ok-reason.field-0 ≡ first_reason (g.C.RowChecks.tests c.loop-place.checks) (take i rows) row =
    c.in_ok-reason.ensures.reason (take i rows) c.loop-place.invariant.seen in
    let fine : first_reason tests (take i rows) (get_or rows i row) ≡ None =
    rw (← c.index-rows-place.is, ← c.loop-place.invariant.same_tests) (sym e ∙ c.in_default.is) in
    record {
      same_tests = c.in_ok-reason.ensures.same_tests ∙ c.loop-place.invariant.same_tests;
      seen = rw (take_more rows i row c.loop-place-test.true, ← c.index-rows-place.is)
          (c.in_ok-reason.ensures.seen (take i rows) c.loop-place.invariant.seen
          (ap (λ n. n + 2) (sym (length-take-le i rows (omega arith)))) c.in_default.is);
      fault = c.loop-place.invariant.fault ∙ passed c.args.slot tests rows i row c.loop-place-test.true fine;
    }

pub returns-clause-fault : goal.returns-clause-fault
returns-clause-fault g c =
    c.loop-place.invariant.fault ∙ ended c.args.slot (g.C.RowChecks.tests c.args.checks.now) c.args.rows.now
    c.loop-place.place c.loop-place-test.false

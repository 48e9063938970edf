use Rattle.std.proofs.Common.{subst, ◌∙◌, sym}
use Rattle.dossier_check.specs.Outcome.{AnswersFault}
use Rattle.dossier_check.specs.RowsBefore.{KnowsCandidates}
use Rattle.dossier_check.proofs.FirstWishes.{kept_candidates}
use Rattle.dossier_check.proofs.Outcomes.{handed_on}
use Rattle.dossier_check.proofs.WishTests.{found_same}
use Rattle.dossier_check.proofs.wishes.check_rows.Goals as goal

pub returns-in_err-scanned-clause-fault : goal.returns-in_err-scanned-clause-fault
returns-in_err-scanned-clause-fault c =
    let t = c.args.tables.now in
    let e = c.from_residual-in_err-scanned in
    let h = c.in_ok-apart in
    subst (AnswersFault e.result)
    (found_same t c.as_slice-rows.result.now h.apart.wishes c.in_ok-ranked.ranked h.apart.preferences _
    h.ensures.wishes (c.in_ok-ranked.ensures c.args.tables.now c.requires.known) h.ensures.preferences
    c.as_slice-rows.ensures c.in_ok-tests.ensures.tests)
    (handed_on _ _ _ e.ensures.1 c.in_err-scanned.ensures.fault)

pub returns-clause-fault : goal.returns-clause-fault
returns-clause-fault c =
    let h = c.in_ok-apart in
    sym (found_same c.args.tables.now c.as_slice-rows.result.now h.apart.wishes c.in_ok-ranked.ranked
    h.apart.preferences _
    h.ensures.wishes (c.in_ok-ranked.ensures c.args.tables.now c.requires.known) h.ensures.preferences
    c.as_slice-rows.ensures c.in_ok-tests.ensures.tests)
    ∙ c.in_ok-scanned.ensures.fault

pub returns-clause-candidates : goal.returns-clause-candidates
returns-clause-candidates c =
    let seen = c.in_ok-scanned.ensures.seen in
    let firsts = c.in_ok-scanned.field-0.rest.rest.rest.first.firsts in
    subst (λ ids. KnowsCandidates ids.keys c.args.tables.now.wishes) (sym c.keys_in.ensures.candidates)
    (subst (KnowsCandidates firsts.candidates.keys) c.as_slice-rows.ensures
    (kept_candidates firsts c.as_slice-rows.result.now seen.1.1.1.0.0 seen.1.1.1.0.1.0))

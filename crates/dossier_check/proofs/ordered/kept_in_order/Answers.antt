use Rattle.std.proofs.Common.{◌≡◌, ◌∙◌, Ok, ap, arith, length, subst, sym}
use Rattle.std.specs.List.Sorted.{IsPermutation}
use Rattle.admit_core.proofs.SortedLists.{IsPermutation-sorted_by, length-sorted_by}
use Rattle.dossier_check.specs.RowsBefore.{KnowsCandidates}
use Rattle.dossier_check.proofs.FirstWishes.{kept_candidates}
use Rattle.dossier_check.proofs.Reordered.{candidates_moved, no_fault_moved}
use Rattle.dossier_check.proofs.WishTests.{found_others}
use Rattle.dossier_check.proofs.ordered.kept_in_order.Goals as goal

pub scanned-requires-clause-small : goal.scanned-requires-clause-small
scanned-requires-clause-small c =
    let rows = c.as_slice-rows.result.now in
    let same : length rows ≡ length c.args.tables.now.wishes =
    ap length (c.as_slice-rows.ensures.value ∙ c.in_ok-ordered.ensures.rows) ∙ length-sorted_by _ _
    ∙ ap length c.as_slice.ensures in
    omega (arith, c.requires.small, same)

pub returns-clause-fault : goal.returns-clause-fault
returns-clause-fault c there =
    let t = c.args.tables.now in
    let rows = c.as_slice-rows.result.now in
    let h = c.in_ok-apart in
    let moved : IsPermutation t.wishes rows =
    subst (λ xs. IsPermutation xs rows) c.as_slice.ensures
    (subst (IsPermutation c.as_slice.result.now) (sym c.as_slice-rows.ensures.value)
    (subst (IsPermutation _) (sym c.in_ok-ordered.ensures.rows) (IsPermutation-sorted_by _ _))) in
    let ok : c.scanned.result ≡ Ok c.in-Some.tests = rw c.in-Some.is at c.in_ok-tests-2.ensures in
    no_fault_moved t t.wishes rows moved
    (sym (found_others t rows h.apart.wishes c.in_ok-ranked.ranked h.apart.preferences _ h.ensures.wishes
    (c.in_ok-ranked.ensures t c.requires.known) h.ensures.preferences
    c.in_ok-tests.ensures.tests)
    ∙ (rw ok at c.scanned.ensures.fault))

pub returns-clause-candidates : goal.returns-clause-candidates
returns-clause-candidates c =
    let t = c.args.tables.now in
    let rows = c.as_slice-rows.result.now in
    let moved : IsPermutation t.wishes rows =
    subst (λ xs. IsPermutation xs rows) c.as_slice.ensures
    (subst (IsPermutation c.as_slice.result.now) (sym c.as_slice-rows.ensures.value)
    (subst (IsPermutation _) (sym c.in_ok-ordered.ensures.rows) (IsPermutation-sorted_by _ _))) in
    let ok : c.scanned.result ≡ Ok c.in-Some.tests = rw c.in-Some.is at c.in_ok-tests-2.ensures in
    let seen = rw ok at c.scanned.ensures.seen in
    let kept = c.in_ok-by_file.field-0 in
    let same : kept.candidates ≡ c.in-Some.tests.rest.rest.first.firsts.candidates =
    c.in_ok-by_file.ensures ∙ c.kept_in-kept.ensures in
    candidates_moved kept.candidates.keys t.wishes rows moved
    (subst (λ ids. KnowsCandidates ids.keys rows) (sym same)
    (kept_candidates c.in-Some.tests.rest.rest.first.firsts rows seen.1.1.0.0 seen.1.1.0.1.0))

use Rattle.std.proofs.Common.{◌≡◌, ◌<◌, true, ◌&&◌, nat_eq, nat_lt, sym, ◌∙◌, Some, None, refl, arith}
use Rattle.std.proofs.lemmas.Bool.Decides.{nat_tests}
use Rattle.admit_core.proofs.Plain.{on_err}
use Rattle.indexmap.specs.IndexMap.{get}
use Rattle.admit_core.specs.Faults.{first_row}
use Rattle.admit_core.specs.Relations.{preference_taken}
use Rattle.dossier_check.specs.RowsBefore.{has_preference}
use Rattle.dossier_check.specs.Pairs.{pair_eq}
use Rattle.dossier_check.proofs.FirstRows.{first_row-push, firsts-noted, same_preference, pair_eq_sound, pair_eq-sym}
use Rattle.dossier_check.proofs.preferences.PreferenceTakenRowTestWishRow.stands.Goals as goal

pub returns-in_err-first-clause-told : goal.returns-in_err-first-clause-told
returns-in_err-first-clause-told c before seen =
    let row = c.args.row.now in
    let positive : 0 < row.preference = omega arith in
    let test : nat_lt 0 row.preference ≡ true = grind (arith, nat_tests) in
    let taken : first_row (λ r. nat_eq row.candidate r.candidate && nat_eq row.preference r.preference) before ≡ None =
    sym (same_preference row before positive) ∙ sym (seen (row.candidate, row.preference))
    ∙ c.in_err-first.ensures.told in
    let clear : preference_taken before row ≡ None = rw (test, taken) refl in
    on_err _ clear

pub returns-in-Some-clause-reason : goal.returns-in-Some-clause-reason
returns-in-Some-clause-reason c before seen =
    let row = c.args.row.now in
    let positive : 0 < row.preference = omega arith in
    let test : nat_lt 0 row.preference ≡ true = grind (arith, nat_tests) in
    let taken : first_row (λ r. nat_eq row.candidate r.candidate && nat_eq row.preference r.preference) before
    ≡ Some c.in-Some.first =
    sym (same_preference row before positive) ∙ sym (seen (row.candidate, row.preference))
    ∙ sym c.in_ok-first.ensures.first ∙ c.in-Some.is in
    rw (test, taken) refl

pub returns-in-None-clause-reason : goal.returns-in-None-clause-reason
returns-in-None-clause-reason c before seen =
    let row = c.args.row.now in
    let positive : 0 < row.preference = omega arith in
    let test : nat_lt 0 row.preference ≡ true = grind (arith, nat_tests) in
    let taken : first_row (λ r. nat_eq row.candidate r.candidate && nat_eq row.preference r.preference) before ≡ None =
    sym (same_preference row before positive) ∙ sym (seen (row.candidate, row.preference))
    ∙ sym c.in_ok-first.ensures.first ∙ c.in-None.is in
    rw (test, taken) refl

pub returns-in-None-clause-seen : goal.returns-in-None-clause-seen
returns-in-None-clause-seen c before seen numbered none =
    let row = c.args.row.now in
    let test : nat_lt 0 row.preference ≡ true = grind (arith, nat_tests) in
    firsts-noted (λ p rows. first_row p rows) has_preference before row _ (first_row-push before row)
    (get pair_eq c.args.self.now.rows) (get pair_eq c.note_first.new.firsts) seen
    pair_eq (row.candidate, row.preference) (λ k. rw test (pair_eq-sym k (row.candidate, row.preference)))
    (pair_eq_sound (row.candidate, row.preference))
    (sym c.in_ok-first.ensures.first ∙ c.in-None.is) (λ k. rw (← numbered) (c.in_ok-first.ensures.noted c.in-None.is k))

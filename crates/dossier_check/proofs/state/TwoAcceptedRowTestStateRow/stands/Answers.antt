use Rattle.std.proofs.Common.{◌≡◌, nat_eq, option_map, Some, None, refl, sym, ap, ◌∙◌}
use Rattle.indexmap.specs.IndexMap.{get}
use Rattle.admit_core.specs.declared.refusal.Reason.TheVariants.{TwoAccepted}
use Rattle.admit_core.specs.Faults.{first_row}
use Rattle.dossier_check.specs.RowsBefore.{is_accepted_of}
use Rattle.dossier_check.proofs.AcceptedRows.{accepting, two_accepted-none, two_accepted-some, is_accepted_of-none}
use Rattle.dossier_check.proofs.AcceptedRows.{is_accepted_of-some}
use Rattle.dossier_check.proofs.FirstRows.{first_row-push, firsts-other, firsts-noted}
use Rattle.dossier_check.proofs.Places.{nat_eq_sound}
use Rattle.dossier_check.proofs.state.TwoAcceptedRowTestStateRow.stands.Goals as goal

pub returns-in_default-clause-reason : goal.returns-in_default-clause-reason
returns-in_default-clause-reason c before seen =
    let t = c.args.self.now.tables.now in
    let row = c.args.row.now in
    let nobody : accepting t row ≡ None = sym (c.accepting_candidate.ensures seen.0) ∙ c.in_default.is in
    sym (two_accepted-none t row before nobody)

pub returns-in_default-clause-seen : goal.returns-in_default-clause-seen
returns-in_default-clause-seen c before seen numbered none =
    let t = c.args.self.now.tables.now in
    let row = c.args.row.now in
    let nobody : accepting t row ≡ None = sym (c.accepting_candidate.ensures seen.0) ∙ c.in_default.is in
    let found = get nat_eq c.args.self.now.rows in (
      seen.0,
      firsts-other (λ p rows. first_row p rows) (is_accepted_of t) before row _
          (first_row-push before row) found found seen.1 (λ k. is_accepted_of-none t row k nobody) (λ k. refl),
    )

pub returns-in-Some-2-clause-reason : goal.returns-in-Some-2-clause-reason
returns-in-Some-2-clause-reason c before seen =
    let t = c.args.self.now.tables.now in
    let row = c.args.row.now in
    let candidate = c.in-Some.candidate in
    let own : accepting t row ≡ Some candidate = sym (c.accepting_candidate.ensures seen.0) ∙ c.in-Some.is in
    let first : first_row (is_accepted_of t candidate) before ≡ Some c.in-Some-2.first =
    sym (seen.1 candidate) ∙ sym c.in_ok-first.ensures.first ∙ c.in-Some-2.is in
    sym (two_accepted-some t row candidate own before ∙ ap (option_map TwoAccepted) first)

pub returns-in-None-clause-reason : goal.returns-in-None-clause-reason
returns-in-None-clause-reason c before seen =
    let t = c.args.self.now.tables.now in
    let row = c.args.row.now in
    let candidate = c.in-Some.candidate in
    let own : accepting t row ≡ Some candidate = sym (c.accepting_candidate.ensures seen.0) ∙ c.in-Some.is in
    let first : first_row (is_accepted_of t candidate) before ≡ None =
    sym (seen.1 candidate) ∙ sym c.in_ok-first.ensures.first ∙ c.in-None.is in
    sym (two_accepted-some t row candidate own before ∙ ap (option_map TwoAccepted) first)

pub returns-in-None-clause-seen : goal.returns-in-None-clause-seen
returns-in-None-clause-seen c before seen numbered none =
    let t = c.args.self.now.tables.now in
    let row = c.args.row.now in
    let candidate = c.in-Some.candidate in
    let own : accepting t row ≡ Some candidate = sym (c.accepting_candidate.ensures seen.0) ∙ c.in-Some.is in (
      seen.0,
      firsts-noted (λ p rows. first_row p rows) (is_accepted_of t) before row _ (first_row-push before row)
          (get nat_eq c.args.self.now.rows) (get nat_eq c.note_first.new.firsts) seen.1
          nat_eq candidate (λ k. is_accepted_of-some t row candidate own k) (nat_eq_sound candidate)
          (sym c.in_ok-first.ensures.first ∙ c.in-None.is)
          (λ k. rw (← numbered) (c.in_ok-first.ensures.noted c.in-None.is k)),
    )

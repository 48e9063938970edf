use Rattle.std.proofs.Common.{nat_eq, is_some, sym, ap, ◌∙◌}
use Rattle.admit_core.proofs.Plain.{nat_eq_sym}
use Rattle.dossier_check.specs.RowsBefore.{first_of}
use Rattle.dossier_check.proofs.FirstRows.{first_noted, first_noted-push, firsts-kept, firsts-noted}
use Rattle.dossier_check.proofs.Places.{nat_eq_sound}
use Rattle.dossier_check.proofs.preferences.PreferenceMixedRowTestWishRow.stands.Goals as goal

pub returns-in_default-clause-seen : goal.returns-in_default-clause-seen
returns-in_default-clause-seen c before (seen, last) numbered none =
    let row = c.args.row.now in
    let noted = c.in_ok-first.ensures in (
      firsts-kept first_noted (λ k r. nat_eq k r.candidate) before row _ (first_noted-push before row)
          (first_of c.args.self.now.firsts) (first_of c.note.new.self.firsts) seen
          nat_eq row.candidate (λ k. nat_eq_sym k row.candidate) (nat_eq_sound row.candidate) c.in-Some.first
          (sym (noted.first last) ∙ c.in-Some.is) (noted.kept (ap is_some c.in-Some.is)),
      noted.last last,
    )

pub returns-in_default-2-clause-seen : goal.returns-in_default-2-clause-seen
returns-in_default-2-clause-seen c before (seen, last) numbered none =
    let row = c.args.row.now in
    let noted = c.in_ok-first.ensures in (
      firsts-noted first_noted (λ k r. nat_eq k r.candidate) before row _ (first_noted-push before row)
          (first_of c.args.self.now.firsts) (first_of c.note.new.self.firsts) seen
          nat_eq row.candidate (λ k. nat_eq_sym k row.candidate) (nat_eq_sound row.candidate)
          (sym (noted.first last) ∙ c.in_default.is) (λ k. rw (← numbered) (noted.noted last c.in_default.is k)),
      noted.last last,
    )

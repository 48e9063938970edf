use Rattle.std.proofs.Common.{◌≡◌, ◌∙◌, ap, List, sym, subst}
use Rattle.admit_core.specs.declared.dossier.School.{School}
use Rattle.admit_core.specs.LeastBeds.{schools_with}
use Rattle.admit_core.specs.Validity.{IsValid}
use Rattle.admit_core.proofs.Rebuilt.{rebuilt_is_valid}
use Rattle.admit_core.proofs.dossier.Dossier.with_beds.Goals as goal

pub with_schools-requires : goal.with_schools-requires
with_schools-requires c =
    let old = c.args.self.now in
    let valid : IsValid old = subst IsValid c.self.view_is c.self.invariant in
    let lent : c.as_slice.result.now ≡ old.schools = c.as_slice.ensures ∙ ap (λ d. d.schools) c.self.view_is in
    let made = c.in_ok-schools.ensures ∙ ap (λ schools. schools_with schools c.args.school c.args.beds) lent in
    let P : List School → Type 0 = λ schools. IsValid (record old { schools = schools }) in
    subst P (sym made) (rebuilt_is_valid old c.args.school c.args.beds c.requires.beds valid)

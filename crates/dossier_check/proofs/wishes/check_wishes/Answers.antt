use Rattle.std.proofs.Common.{◌≡◌, None, arith, refl, subst, sym}
use Rattle.std.proofs.lemmas.List.{nil_from_length}
use Rattle.admit_core.specs.declared.slot.Slot.TheVariants as slots
use Rattle.admit_core.specs.Faults.{first_after, first_in}
use Rattle.admit_core.specs.Relations.{wish_tests}
use Rattle.dossier_check.proofs.wishes.check_wishes.Goals as goal

pub returns-then-len-eq0-clause-fault : goal.returns-then-len-eq0-clause-fault
unfolding first_after
returns-then-len-eq0-clause-fault c =
    let t = c.args.tables.now in
    subst (λ rows. first_in slots.Wishes (wish_tests t) rows ≡ None)
    (sym (nil_from_length t.wishes (omega (arith, c.if-len-eq0.true, c.len.ensures)))) refl

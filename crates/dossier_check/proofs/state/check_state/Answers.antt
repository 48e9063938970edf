use Rattle.std.proofs.Common.{◌≡◌, List, None, subst}
use Rattle.admit_core.specs.declared.slot.Slot.TheVariants as slots
use Rattle.admit_core.specs.declared.tables.StateRow.{StateRow}
use Rattle.admit_core.specs.Faults.{first_in}
use Rattle.admit_core.specs.Relations.{state_tests}
use Rattle.dossier_check.proofs.state.check_state.Goals as goal

pub returns-clause-fault : goal.returns-clause-fault
returns-clause-fault c =
    let t = c.args.tables.now in
    subst (λ (rows : List StateRow). first_in slots.State (state_tests t) rows ≡ None) c.as_slice-rows.ensures
    (rw (← c.requires.wishes) c.in_ok-checks.ensures.fault)

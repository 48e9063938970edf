use Rattle.std.proofs.Common.{refl, Option}
use Rattle.admit_core.specs.declared.refusal.Refusal.{Refusal}
use Rattle.admit_core.specs.declared.slot.Slot.TheVariants as slots
use Rattle.admit_core.specs.Faults.{first_in}
use Rattle.admit_core.specs.Relations.{group_tests, programme_tests, school_tests}
use Rattle.dossier_check.specs.Outcome.{AnswersFault, first_in_named}
use Rattle.dossier_check.proofs.Outcomes.{after_none, first_here, handed_on, none_then}
use Rattle.dossier_check.proofs.relations.check_named.Goals as goal

pub returns-in_err-groups-clause-fault : goal.returns-in_err-groups-clause-fault
unfolding first_in_named
returns-in_err-groups-clause-fault c =
    let t = c.args.tables.now in
    let groups : Option Refusal = first_in slots.Groups group_tests t.groups in
    let e = c.from_residual in
    first_here e.result groups _ e.ensures.0 (handed_on _ _ _ e.ensures.1 c.in_err-groups.ensures.fault)

pub returns-in_err-programmes-clause-fault : goal.returns-in_err-programmes-clause-fault
unfolding first_in_named
returns-in_err-programmes-clause-fault c =
    let t = c.args.tables.now in
    let groups : Option Refusal = first_in slots.Groups group_tests t.groups in
    let programmes : Option Refusal = first_in slots.Programmes (programme_tests t) t.programmes in
    let e = c.from_residual-in_err-programmes in
    let here : AnswersFault e.result programmes = handed_on _ _ _ e.ensures.1 c.in_err-programmes.ensures.fault in
    after_none e.result groups _ c.in_ok-groups.ensures.fault (first_here e.result programmes _ e.ensures.0 here)

pub returns-in_err-schools-clause-fault : goal.returns-in_err-schools-clause-fault
unfolding first_in_named
returns-in_err-schools-clause-fault c =
    let t = c.args.tables.now in
    let groups : Option Refusal = first_in slots.Groups group_tests t.groups in
    let programmes : Option Refusal = first_in slots.Programmes (programme_tests t) t.programmes in
    let schools : Option Refusal = first_in slots.Schools school_tests t.schools in
    let e = c.from_residual-in_err-schools in
    let here : AnswersFault e.result schools = handed_on _ _ _ e.ensures.1 c.in_err-schools.ensures.fault in
    after_none e.result groups _ c.in_ok-groups.ensures.fault
    (after_none e.result programmes _ c.in_ok-programmes.ensures.fault (first_here e.result schools _ e.ensures.0 here))

pub returns-clause-fault : goal.returns-clause-fault
unfolding first_in_named
returns-clause-fault c =
    let t = c.args.tables.now in
    let groups : Option Refusal = first_in slots.Groups group_tests t.groups in
    let programmes : Option Refusal = first_in slots.Programmes (programme_tests t) t.programmes in
    let schools : Option Refusal = first_in slots.Schools school_tests t.schools in
    none_then groups _ c.in_ok-groups.ensures.fault
    (none_then programmes _ c.in_ok-programmes.ensures.fault (none_then schools _ c.in_ok-schools.ensures.fault refl))

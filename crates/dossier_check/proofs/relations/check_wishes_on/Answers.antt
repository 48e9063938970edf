use Rattle.std.proofs.Common.{refl, Option}
use Rattle.admit_core.specs.declared.refusal.Refusal.{Refusal}
use Rattle.admit_core.specs.declared.slot.Slot.TheVariants as slots
use Rattle.admit_core.specs.Faults.{first_in}
use Rattle.admit_core.specs.Relations.{wish_tests, state_tests, ceiling_tests, answer_tests}
use Rattle.dossier_check.specs.Outcome.{AnswersFault, first_from_wishes}
use Rattle.dossier_check.proofs.Outcomes.{after_none, first_here, handed_on, none_then}
use Rattle.dossier_check.proofs.relations.check_wishes_on.Goals as goal

pub returns-in_err-wishes-clause-fault : goal.returns-in_err-wishes-clause-fault
unfolding first_from_wishes
returns-in_err-wishes-clause-fault c =
    let t = c.args.tables.now in
    let wishes : Option Refusal = first_in slots.Wishes (wish_tests t) t.wishes in
    let here : AnswersFault c.from_residual.result wishes =
    handed_on _ _ _ c.from_residual.ensures.1 c.in_err-wishes.ensures.fault in
    first_here c.from_residual.result wishes _ c.from_residual.ensures.0 here

pub returns-in_err-state-clause-fault : goal.returns-in_err-state-clause-fault
unfolding first_from_wishes
returns-in_err-state-clause-fault c =
    let t = c.args.tables.now in
    let wishes : Option Refusal = first_in slots.Wishes (wish_tests t) t.wishes in
    let state : Option Refusal = first_in slots.State (state_tests t) t.state in
    let here : AnswersFault c.from_residual-in_err-state.result state =
    handed_on _ _ _ c.from_residual-in_err-state.ensures.1 c.in_err-state.ensures.fault in
    after_none c.from_residual-in_err-state.result wishes _ c.in_ok-wishes.ensures.fault
    (first_here c.from_residual-in_err-state.result state _ c.from_residual-in_err-state.ensures.0 here)

pub returns-in_err-check_ceilings-clause-fault : goal.returns-in_err-check_ceilings-clause-fault
unfolding first_from_wishes
returns-in_err-check_ceilings-clause-fault c =
    let t = c.args.tables.now in
    let wishes : Option Refusal = first_in slots.Wishes (wish_tests t) t.wishes in
    let state : Option Refusal = first_in slots.State (state_tests t) t.state in
    let ceilings : Option Refusal = first_in slots.Ceilings (ceiling_tests t) t.ceilings in
    let here : AnswersFault c.from_residual-in_err-check_ceilings.result ceilings =
    handed_on _ _ _ c.from_residual-in_err-check_ceilings.ensures.1 c.in_err-check_ceilings.ensures.fault in
    after_none c.from_residual-in_err-check_ceilings.result wishes _ c.in_ok-wishes.ensures.fault
    (after_none c.from_residual-in_err-check_ceilings.result state _ c.in_ok-state.ensures.fault
    (first_here c.from_residual-in_err-check_ceilings.result ceilings _
    c.from_residual-in_err-check_ceilings.ensures.0 here))

pub returns-in_err-check_answers-clause-fault : goal.returns-in_err-check_answers-clause-fault
unfolding first_from_wishes
returns-in_err-check_answers-clause-fault c =
    let t = c.args.tables.now in
    let wishes : Option Refusal = first_in slots.Wishes (wish_tests t) t.wishes in
    let state : Option Refusal = first_in slots.State (state_tests t) t.state in
    let ceilings : Option Refusal = first_in slots.Ceilings (ceiling_tests t) t.ceilings in
    let answers : Option Refusal = first_in slots.Answers (answer_tests t) t.answers in
    let here : AnswersFault c.from_residual-in_err-check_answers.result answers =
    handed_on _ _ _ c.from_residual-in_err-check_answers.ensures.1 c.in_err-check_answers.ensures.fault in
    after_none c.from_residual-in_err-check_answers.result wishes _ c.in_ok-wishes.ensures.fault
    (after_none c.from_residual-in_err-check_answers.result state _ c.in_ok-state.ensures.fault
    (after_none c.from_residual-in_err-check_answers.result ceilings _ c.in_ok-check_ceilings.ensures.fault
    (first_here c.from_residual-in_err-check_answers.result answers _ c.from_residual-in_err-check_answers.ensures.0
    here)))

pub returns-clause-fault : goal.returns-clause-fault
unfolding first_from_wishes
returns-clause-fault c =
    let t = c.args.tables.now in
    let wishes : Option Refusal = first_in slots.Wishes (wish_tests t) t.wishes in
    let state : Option Refusal = first_in slots.State (state_tests t) t.state in
    let ceilings : Option Refusal = first_in slots.Ceilings (ceiling_tests t) t.ceilings in
    let answers : Option Refusal = first_in slots.Answers (answer_tests t) t.answers in
    none_then wishes _ c.in_ok-wishes.ensures.fault
    (none_then state _ c.in_ok-state.ensures.fault
    (none_then ceilings _ c.in_ok-check_ceilings.ensures.fault
    (none_then answers _ c.in_ok-check_answers.ensures.fault refl)))

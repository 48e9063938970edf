use Rattle.std.proofs.Common.{refl, Option}
use Rattle.admit_core.specs.declared.refusal.Reason.TheVariants.{Unknown}
use Rattle.admit_core.specs.declared.refusal.Refusal.{Refusal}
use Rattle.admit_core.specs.declared.slot.Slot.TheVariants as slots
use Rattle.admit_core.specs.Faults.{first_in}
use Rattle.admit_core.specs.Lists.{is_among}
use Rattle.admit_core.specs.Relations.{group_ids, ranking_tests, boarding_tests}
use Rattle.dossier_check.specs.Outcome.{AnswersFault, first_in_ranks}
use Rattle.dossier_check.proofs.FaultFree.{second_passes, pass_all, all_known}
use Rattle.dossier_check.proofs.Outcomes.{after_none, first_here, handed_on, none_then}
use Rattle.dossier_check.proofs.relations.check_both_ranks.Goals as goal

pub returns-in_err-dealt-clause-fault : goal.returns-in_err-dealt-clause-fault
unfolding first_in_ranks
returns-in_err-dealt-clause-fault c =
    let t = c.args.tables.now in
    let rankings : Option Refusal = first_in slots.Rankings (ranking_tests t) t.rankings in
    let e = c.from_residual in
    first_here e.result rankings _ e.ensures.0 (handed_on _ _ _ e.ensures.1 c.in_err-dealt.ensures.fault)

pub returns-in_err-boarding-clause-fault : goal.returns-in_err-boarding-clause-fault
unfolding first_in_ranks
returns-in_err-boarding-clause-fault c =
    let t = c.args.tables.now in
    let rankings : Option Refusal = first_in slots.Rankings (ranking_tests t) t.rankings in
    let boarding : Option Refusal = first_in slots.Boarding (boarding_tests t) t.boarding in
    let e = c.from_residual-in_err-boarding in
    let here : AnswersFault e.result boarding = handed_on _ _ _ e.ensures.1 c.in_err-boarding.ensures.fault in
    after_none e.result rankings _ c.in_ok-dealt.ensures.fault (first_here e.result boarding _ e.ensures.0 here)

pub returns-clause-fault : goal.returns-clause-fault
unfolding first_in_ranks
returns-clause-fault c =
    let t = c.args.tables.now in
    let rankings : Option Refusal = first_in slots.Rankings (ranking_tests t) t.rankings in
    let boarding : Option Refusal = first_in slots.Boarding (boarding_tests t) t.boarding in
    none_then rankings _ c.in_ok-dealt.ensures.fault (none_then boarding _ c.in_ok-boarding.ensures.fault refl)

pub returns-clause-known : goal.returns-clause-known
returns-clause-known c =
    let t = c.args.tables.now in
    all_known (λ r. is_among r.group (group_ids t)) (Unknown 1) t.rankings
    (second_passes (pass_all slots.Rankings (ranking_tests t) t.rankings c.in_ok-dealt.ensures.fault))

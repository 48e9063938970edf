use Rattle.std.proofs.Common.{List, map, ap, refl, subst, sym, ◌∙◌}
use Rattle.admit_core.specs.declared.tables.BoardRow.{BoardRow}
use Rattle.dossier_check.specs.Outcome.{AnswersFault}
use Rattle.dossier_check.proofs.BoardRanks.{found_same}
use Rattle.dossier_check.proofs.Outcomes.{handed_on}
use Rattle.dossier_check.proofs.slots.check_boarding.Goals as goal

pub returns-in_err-checks-clause-fault : goal.returns-in_err-checks-clause-fault
returns-in_err-checks-clause-fault c =
    let e = c.from_residual-in_err-checks in
    subst (AnswersFault e.result)
    (found_same c.args.tables.now c.as_slice-rows.result.now c.ranks_rise.result _ c.ranks_rise.ensures
    c.as_slice-rows.ensures (rw c.requires.schools refl))
    (handed_on _ _ _ e.ensures.1 c.in_err-checks.ensures.fault)

pub returns-clause-fault : goal.returns-clause-fault
returns-clause-fault c =
    sym (found_same c.args.tables.now c.as_slice-rows.result.now c.ranks_rise.result _ c.ranks_rise.ensures
    c.as_slice-rows.ensures (rw c.requires.schools refl))
    ∙ c.in_ok-checks.ensures.fault

pub returns-clause-pairs : goal.returns-clause-pairs
returns-clause-pairs c =
    c.into_keys.ensures ∙ c.in_ok-checks.ensures.seen.0
    ∙ ap (λ (rows : List BoardRow). map (λ r. (r.school, r.candidate)) rows) c.as_slice-rows.ensures

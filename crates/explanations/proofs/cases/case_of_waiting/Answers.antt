use Rattle.std.proofs.Common.{ap, ◌∙◌}
use Rattle.admit_core.specs.declared.dossier.Wish.{Wish}
use Rattle.day_state.specs.Kept.{mark_in}
use Rattle.explanations.proofs.CaseByCase.{unhoused}
use Rattle.explanations.specs.Sayings.{waiting_case}
use Rattle.explanations.proofs.cases.case_of_waiting.Goals as goal

pub returns-in_default : goal.returns-in_default
returns-in_default c =
    let last = c.args.last.now in
    let m = mark_in last.opening.marks c.args.place in
    let w = c.wish_at-wish.result in
    c.no_seat.ensures ∙ unhoused last w m c.in_default.is
    ∙ ap (λ (x : Wish). waiting_case last x m) c.wish_at-wish.ensures.wish

use Rattle.std.proofs.Common.{◌≡◌, ◌∙◌, IfOk, ap, option_copied, subst}
use Rattle.admit_core.specs.State.{State}
use Rattle.modes.specs.Endings.{IsDoneWith}
use Rattle.morning_cli.specs.Morning.{morning_text}
use Rattle.morning_cli.proofs.answer.morning_after.Goals as goal

pub returns : goal.returns
returns c = λ t same none.
    let here : c.in_ok-evening.evening ≡ c.args.last.desk.present = c.in_ok-evening.ensures.now in
    subst (λ (s : State). IfOk c.slot_reply.result (λ reply. IsDoneWith
    (morning_text c.args.slot t s c.args.day (option_copied c.args.dated)) reply.exit reply.text.items)) here
    (c.slot_reply.ensures t (ap (λ (s : State). s.dossier) here ∙ same) none)

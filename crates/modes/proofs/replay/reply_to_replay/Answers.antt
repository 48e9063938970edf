use Rattle.std.proofs.Common.{◌≡◌, ◌∙◌, All, List, ap, subst, sym}
use Rattle.std.specs.Option.{option_copied}
use Rattle.admit_core.specs.State.{State}
use Rattle.admit_core.specs.declared.records.DayRecord.{DayRecord}
use Rattle.played.specs.LastDesks.{DeskLeft}
use Rattle.modes.specs.Replay.{CanBeDated, CanBeWritten, replay_text}
use Rattle.modes.proofs.replay.reply_to_replay.Goals as goal

pub replay_text-requires-clause-days : goal.replay_text-requires-clause-days
replay_text-requires-clause-days c =
    let days = c.as_slice.ensures.value ∙ c.into_parts-days.ensures.days in
    subst (λ (ds : List DayRecord). All (CanBeWritten c.args.input.now.dossier (option_copied c.args.dated)) ds)
    (sym days)
    c.requires.days

pub replay_text-requires-clause-offers : goal.replay_text-requires-clause-offers
replay_text-requires-clause-offers c =
    let left = ap (λ (x : DeskLeft). x.desk.present) c.into_parts-days.ensures.last in
    let evening : c.of-evening.result ≡ c.args.played.last.desk.present = c.of-evening.ensures
    ∙ (λ i. record { dossier = c.in_ok-dossier.ensures.dossier i; marks = c.in_ok-dossier.ensures.marks i }) ∙ left in
    subst (λ (s : State). CanBeDated (option_copied c.args.dated) s) (sym evening) c.requires.offers

pub returns : goal.returns
returns c =
    let orders = c.as_slice-called.ensures ∙ c.orders.ensures
    ∙ ap (λ (x : DeskLeft). x.orders) c.into_parts-days.ensures.last in
    let days = c.as_slice.ensures.value ∙ c.into_parts-days.ensures.days in
    let left = ap (λ (x : DeskLeft). x.desk.present) c.into_parts-days.ensures.last in
    let evening : c.of-evening.result ≡ c.args.played.last.desk.present = c.of-evening.ensures
    ∙ (λ i. record { dossier = c.in_ok-dossier.ensures.dossier i; marks = c.in_ok-dossier.ensures.marks i }) ∙ left in (
      c.done.ensures.exit,
      c.done.ensures.text ∙ c.in_ok-text.ensures
          ∙ (λ i. replay_text c.args.input.now.dossier (option_copied c.args.dated) (orders i) (days i) (evening i)),
    )

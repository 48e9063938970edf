use Rattle.std.proofs.Common.{◌∙◌, ◌<◌, List, ap, length, sym, subst}
use Rattle.admit_core.specs.declared.ranking.CallOrder.{CallOrder}
use Rattle.admit_core.specs.declared.records.DayRecord.{DayRecord}
use Rattle.desk_day.specs.DeskStates.{DeskStates}
use Rattle.played.specs.LastDays.{IsDeskAfter}
use Rattle.played.specs.LastDesks.{DeskBy}
use Rattle.modes.specs.AfterDays.{after_days, left_by}
use Rattle.modes.specs.Explained.{IsExplained}
use Rattle.modes.proofs.Lending.{same_led}
use Rattle.modes.proofs.explained.reply_to_explain.Goals as goal

pub explained_text-requires-clause-some_day : goal.explained_text-requires-clause-some_day
explained_text-requires-clause-some_day c =
    subst (λ (ds : List DayRecord). 0 < length ds) (sym (c.as_slice.ensures.value ∙ c.in_ok-days.ensures.days))
    c.requires.some_day

pub explained_text-requires-clause-desk : goal.explained_text-requires-clause-desk
explained_text-requires-clause-desk c =
    let along = c.in_ok-days.ensures.along in
    same_led (λ (o : List CallOrder) (ds : List DayRecord) (k : DeskStates). IsDeskAfter c.args.input.now.dossier o ds
    k) (sym (ap (λ (x : DeskBy). x.orders) along)) (sym (c.as_slice.ensures.value ∙ c.in_ok-days.ensures.days))
    (sym (ap (λ (x : DeskBy). x.desk) along)) c.requires.desk

pub returns : goal.returns
returns c =
    let input = c.args.input.now in
    let along = c.in_ok-days.ensures.along in (
      c.done.ensures.exit,
      subst (IsExplained (left_by input c.args.played) c.args.wish) (sym c.done.ensures.text)
          (same_led (λ (o : List CallOrder) (ds : List DayRecord) (k : DeskStates).
          IsExplained (after_days input o ds k) c.args.wish c.in_ok-text.text.items)
          (ap (λ (x : DeskBy). x.orders) along) (c.as_slice.ensures.value ∙ c.in_ok-days.ensures.days)
          (ap (λ (x : DeskBy). x.desk) along) c.in_ok-text.ensures),
    )

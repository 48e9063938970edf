use Rattle.std.proofs.Common.{◌∙◌, ◌<◌, List, ap, inl, length, refl, sym, subst}
use Rattle.admit_core.proofs.Plain.{on_err}
use Rattle.admit_core.specs.declared.ranking.CallOrder.{CallOrder}
use Rattle.admit_core.specs.declared.records.DayRecord.{DayRecord}
use Rattle.desk_day.specs.DeskStates.{DeskStates}
use Rattle.played.specs.LastDays.{IsDeskAfter}
use Rattle.played.specs.LastDesks.{DeskBy}
use Rattle.std.proofs.lemmas.Result.{IfOk-from_err}
use Rattle.modes.specs.LentPicker.{TellsPicks}
use Rattle.modes.specs.AfterDays.{after_days, left_by}
use Rattle.modes.specs.Beds.{BreaksFigures, PicksForFigures, TellsFigures}
use Rattle.modes.proofs.Lending.{same_led}
use Rattle.modes.proofs.beds.reply_to_beds.Goals as goal

pub school_text-requires-clause-some_day : goal.school_text-requires-clause-some_day
school_text-requires-clause-some_day g c =
    subst (λ (ds : List DayRecord). 0 < length ds)
    (sym (c.as_slice.ensures.value ∙ c.in_ok-days.ensures.days))
    c.requires.some_day

pub school_text-requires-clause-desk : goal.school_text-requires-clause-desk
school_text-requires-clause-desk g c =
    let called = ap (λ (x : DeskBy). x.orders) c.in_ok-days.ensures.along in
    let led = ap (λ (x : DeskBy). x.desk) c.in_ok-days.ensures.along in
    same_led (λ (o : List CallOrder) (ds : List DayRecord) (k : DeskStates). IsDeskAfter c.args.input.now.dossier o ds
    k)
    (sym called) (sym (c.as_slice.ensures.value ∙ c.in_ok-days.ensures.days))
    (sym led) c.requires.desk

pub returns-in_err-days-clause-text : goal.returns-in_err-days-clause-text
returns-in_err-days-clause-text g c = IfOk-from_err _ _ c.from_residual.ensures.0

pub returns-in_err-days-clause-picks : goal.returns-in_err-days-clause-picks
returns-in_err-days-clause-picks g c = IfOk-from_err _ _ c.from_residual.ensures.0

pub returns-in_err-days-clause-breaks : goal.returns-in_err-days-clause-breaks
returns-in_err-days-clause-breaks g c = on_err c.from_residual.result (inl refl)

pub returns-in_err-text-clause-breaks : goal.returns-in_err-text-clause-breaks
returns-in_err-text-clause-breaks g c =
    let called = ap (λ (x : DeskBy). x.orders) c.in_ok-days.ensures.along in
    let led = ap (λ (x : DeskBy). x.desk) c.in_ok-days.ensures.along in
    let input = c.args.input.now in
    let school = c.args.school in
    let before = goal.Picker-dyn g c.args.picker.now in
    let after = goal.Picker-dyn g (c.args.picker.now.0, c.school_text.new.picker) in
    on_err c.from_residual-in_err-text.result
    (same_led (λ (o : List CallOrder) (ds : List DayRecord) (k : DeskStates).
    BreaksFigures (after_days input o ds k) school (record {
      before = before.told c.args.picker.now.1;
      after = after.told c.school_text.new.picker;
      choice = before.choice c.args.picker.now.1;
    }))
    called (c.as_slice.ensures.value ∙ c.in_ok-days.ensures.days)
    led c.in_err-text.ensures.breaks)

pub returns-in_err-text-clause-text : goal.returns-in_err-text-clause-text
returns-in_err-text-clause-text g c = IfOk-from_err _ _ c.from_residual-in_err-text.ensures.0

pub returns-in_err-text-clause-picks : goal.returns-in_err-text-clause-picks
returns-in_err-text-clause-picks g c = IfOk-from_err _ _ c.from_residual-in_err-text.ensures.0

pub returns-clause-text : goal.returns-clause-text
returns-clause-text g c =
    let called = ap (λ (x : DeskBy). x.orders) c.in_ok-days.ensures.along in
    let led = ap (λ (x : DeskBy). x.desk) c.in_ok-days.ensures.along in
    let input = c.args.input.now in
    let school = c.args.school in
    let played = c.args.played in (
      c.done.ensures.exit,
      subst (TellsFigures (left_by input played) school)
          (sym c.done.ensures.text)
          (same_led (λ (o : List CallOrder) (ds : List DayRecord) (k : DeskStates).
          TellsFigures (after_days input o ds k) school c.in_ok-text.text.items)
          called (c.as_slice.ensures.value ∙ c.in_ok-days.ensures.days)
          led c.in_ok-text.ensures.text),
    )

pub returns-clause-picks : goal.returns-clause-picks
returns-clause-picks g c =
    let called = ap (λ (x : DeskBy). x.orders) c.in_ok-days.ensures.along in
    let led = ap (λ (x : DeskBy). x.desk) c.in_ok-days.ensures.along in
    let input = c.args.input.now in
    let school = c.args.school in
    let before = goal.Picker-dyn g c.args.picker.now in
    let after = goal.Picker-dyn g (c.args.picker.now.0, c.school_text.new.picker) in
    same_led (λ (o : List CallOrder) (ds : List DayRecord) (k : DeskStates).
    TellsPicks (PicksForFigures (after_days input o ds k) school (before.choice c.args.picker.now.1)
    (before.told c.args.picker.now.1))
    (before.told c.args.picker.now.1) (after.told c.school_text.new.picker))
    called (c.as_slice.ensures.value ∙ c.in_ok-days.ensures.days)
    led c.in_ok-text.ensures.picks

use Rattle.std.proofs.Common.{List, Ok, ◌∙◌, ◌≤◌, ◌+◌, ap, length, refl, subst, sym}
use Rattle.std.specs.Option.{option_copied}
use Rattle.admit_core.specs.declared.records.PassEnd.{PassEnd}
use Rattle.admit_core.specs.CallOrder.{AreCallOrders}
use Rattle.admit_core.specs.Days.{IsDay, Passes}
use Rattle.admit_core.specs.DossierRows.{DossierRows}
use Rattle.admit_core.specs.State.{State}
use Rattle.admit_core.specs.Validity.{IsValid}
use Rattle.desk_day.specs.DayPasses.{AreChosenPasses, last_opening, stamp_of}
use Rattle.desk_day.specs.RunDay.{recorded}
use Rattle.desk_day.specs.declared.refusal.DayRefusal.TheVariants as refusals
use Rattle.desk_day.proofs.DayEnds.{kept_refused, not_begun}
use Rattle.desk_day.proofs.DayLaws.{laws_kept}
use Rattle.desk_day.proofs.DayPlaces.{day_in}
use Rattle.desk_day.proofs.Moved.{moves_then}
use Rattle.desk_day.proofs.Stamps.{stamps_kept}
use Rattle.desk_day.proofs.ToldPasses.{told_more, told_there, told_to_the_end}
use Rattle.desk_day.proofs.running.Running.play.Goals as goal

pub make_passes-requires : goal.make_passes-requires
make_passes-requires g c = record {
  roster = c.requires.roster ∙ sym c.begin_day.ensures.dossier;
  ceilings = c.requires.ceilings ∙ sym (ap (λ (d : DossierRows). length d.schools) c.begin_day.ensures.dossier);
}

pub returns-in_err-lapsed-clause-played : goal.returns-in_err-lapsed-clause-played
returns-in_err-lapsed-clause-played g c =
    kept_refused _ _ c.in_err-lapsed.field-0.0 c.from_residual.ensures.1
    (not_begun _ _ _ _ _ _ c.in_err-lapsed.field-0.0 c.in_err-lapsed.ensures.unfit c.begin_day.ensures.opening refl)

pub returns-in_err-passes-clause-played : goal.returns-in_err-passes-clause-played
returns-in_err-passes-clause-played g c =
    kept_refused _ _ refusals.OutOfMemory c.from_residual-in_err-passes.ensures.1 (record {
      unfit = c.in_ok-lapsed.ensures.begun.fits;
      unopened = tt;
      untold = told_more c.in_err-passes.ensures.told_by_then;
      asked = told_there c.in_ok-lapsed.ensures.begun.state c.in_err-passes.ensures.told_by_then;
    })

pub returns-in_err-passes-clause-dossier : goal.returns-in_err-passes-clause-dossier
returns-in_err-passes-clause-dossier g c = c.make_passes.ensures.dossier ∙ c.begin_day.ensures.dossier

pub returns-in_err-done-clause-played : goal.returns-in_err-done-clause-played
returns-in_err-done-clause-played g c =
    let picked = c.in_ok-passes.ensures.made.1 in
    kept_refused _ _ refusals.OutOfMemory c.from_residual-in_err-done.ensures.1 (record {
      unfit = c.in_ok-lapsed.ensures.begun.fits;
      unopened = tt;
      untold = (_, picked.told_of);
      asked = told_there c.in_ok-lapsed.ensures.begun.state
          (told_to_the_end _ _ _ _ _ _ _ _ _ picked.made.passes picked.chosen picked.told_of);
    })

pub returns-in_err-done-clause-dossier : goal.returns-in_err-done-clause-dossier
returns-in_err-done-clause-dossier g c = c.make_passes.ensures.dossier ∙ c.begin_day.ensures.dossier

pub returns-clause-moved : goal.returns-clause-moved
returns-clause-moved g c =
    moves_then c.args.self.now.present c.begin_day.new.self.present c.make_passes.new.self.present c.args.moved.now
    c.begin_day.new.moved c.make_passes.new.moved c.begin_day.ensures.dossier c.in_ok-lapsed.ensures.moved
    c.in_ok-passes.ensures.moved

pub returns-clause-dossier : goal.returns-clause-dossier
returns-clause-dossier g c = c.make_passes.ensures.dossier ∙ c.begin_day.ensures.dossier

pub returns-clause-played : goal.returns-clause-played
returns-clause-played g c =
    let s = c.args.self.now.present in
    let terms = option_copied c.args.plan.terms in
    let orders = c.args.roster.now.orders in
    let ceilings = c.args.plan.ceilings.now in
    let day = c.args.plan.day in
    let evening = c.make_passes.new.self.present in
    let passes = c.in_ok-passes.ensures.made.0 in
    let picked = c.in_ok-passes.ensures.made.1 in
    let lapsed = c.in_ok-lapsed.lapsed.items in
    let done = recorded day passes lapsed evening in
    let morning = c.in_ok-lapsed.ensures.begun.state in
    let made = picked.made in
    let valid : IsValid s.dossier = subst IsValid
    (c.behind-state.view_is ∙ c.dossier.ensures ∙ ap (λ (t : State). t.dossier) c.now-state.ensures)
    c.behind-state.invariant in
    let called : AreCallOrders s.dossier.groups orders =
    subst (λ (d : DossierRows). AreCallOrders d.groups orders) c.requires.roster c.orders.ensures.right in
    let first = goal.Picker-dyn g c.args.picker.now in
    let is : IsDay terms orders ceilings s done evening = record {
      lapsed = c.in_ok-lapsed.ensures.begun.lapses;
      fits = c.in_ok-lapsed.ensures.begun.fits;
      passes = subst (λ (m : State). Passes orders ceilings day 1 m passes evening) morning made.passes;
      left = refl;
      free = refl;
    } in (
      Ok done,
      record {
        rule = record {
          number = refl;
          is_day = is;
          opening = made.opening ∙ ap (λ (m : State). last_opening orders day 1 m passes) morning;
          told = picked.told_of;
          chosen = subst (λ (m : State). AreChosenPasses orders ceilings (stamp_of day 1) m
              (first.choice c.args.picker.now.1) (first.told c.args.picker.now.1) passes) morning picked.chosen;
        };
        follows = record {
          laws = laws_kept terms orders ceilings s done evening valid called c.requires.ceilings is;
          few = subst (λ (d : DossierRows). length passes ≤ length d.wishes + 1) c.begin_day.ensures.dossier made.few;
          places = day_in terms orders ceilings s done evening c.requires.before c.requires.ceilings is;
          stamps = stamps_kept terms orders ceilings s done evening is;
        };
      },
      ap Ok (c.in_ok-done.ensures
          ∙ ap (λ (t : State). recorded day c.in_ok-passes.passes.items lapsed t) c.now.ensures
          ∙ ap (λ (ends : List PassEnd). recorded day ends lapsed evening) c.in_ok-passes.ensures.made.2),
    )

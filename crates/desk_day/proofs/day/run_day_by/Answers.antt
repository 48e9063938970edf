use Rattle.std.proofs.Common.{Err, Ok, ◌≡◌, ◌∙◌, ap, length, refl, sym, subst}
use Rattle.std.specs.Option.{option_copied}
use Rattle.admit_core.specs.Lapses.{AreTermsFor}
use Rattle.admit_core.specs.State.{State}
use Rattle.round.specs.KeptFalls.{are_kept}
use Rattle.desk_day.specs.DeskStates.{DeskStates}
use Rattle.desk_day.specs.Who.{ChangesOnly}
use Rattle.desk_day.proofs.DayEnds.{ends_done, ends_undone}
use Rattle.desk_day.proofs.KeptDays.{day_kept, refusal_kept}
use Rattle.desk_day.proofs.Moved.{moves_from, none_moved}
use Rattle.desk_day.proofs.day.run_day_by.Goals as goal

pub take_over-requires : goal.take_over-requires
take_over-requires g c = record {
  same = c.desk.invariant.dossier ∙ sym (ap (λ (t : State). t.dossier) c.now-2.ensures);
  moved = subst (λ (t : State). ChangesOnly c.desk.inside.moved c.desk.inside.evening t) (sym c.now-2.ensures)
      c.desk.invariant.others;
}

pub play-outcome-requires : goal.play-outcome-requires
play-outcome-requires g c =
    let back = sym c.desk.view_is in
    record {
      roster = subst (λ (d : DeskStates). c.args.roster.now.dossier ≡ d.present.dossier) back c.requires.roster;
      ceilings = subst (λ (d : DeskStates). length c.args.plan.ceilings.now ≡ length d.present.dossier.schools) back
          c.requires.ceilings;
      before = subst (λ (d : DeskStates). AreTermsFor d.present.dossier (option_copied c.args.plan.terms)) back
          c.requires.before;
      day = c.requires.day;
    }

pub invariant_of-desk : goal.invariant_of-desk
invariant_of-desk g c =
    let s = c.desk.inside.running.present in
    let present = c.play-outcome.new.self.present in
    let kept = c.take_over.ensures ∙ c.now-2.ensures in
    record {
      dossier = ap (λ (t : State). t.dossier) kept ∙ sym c.play-outcome.ensures.dossier;
      others = subst (λ (evening : State). ChangesOnly c.play-outcome.new.moved evening present) (sym kept)
          (moves_from s present c.nobody.result c.play-outcome.new.moved c.nobody.ensures c.in-Ok.ensures.moved);
    }

pub restore-requires : goal.restore-requires
restore-requires g c =
    ap (λ (t : State). t.dossier) (c.take_over.ensures ∙ c.now-2.ensures) ∙ sym c.play-outcome.ensures.dossier

pub invariant_of-desk-in-Err : goal.invariant_of-desk-in-Err
invariant_of-desk-in-Err g c =
    let evening = c.take_over.new.state in
    record {
      dossier = ap (λ (t : State). t.dossier) (sym c.restore.ensures.present);
      others = subst (λ (t : State). ChangesOnly c.nobody-in-Err.result evening t) (sym c.restore.ensures.present)
          (none_moved c.nobody-in-Err.result evening c.nobody-in-Err.ensures);
    }

pub returns-in-Ok : goal.returns-in-Ok
returns-in-Ok g c =
    let played = day_kept (are_kept c.args.plan.falls) _ c.in-Ok.done c.in-Ok.is c.play-outcome.ensures.played in (
      Ok played.0,
      ends_done c.desk.view_is
          (c.take_over.ensures ∙ c.now-2.ensures) c.play-outcome.ensures.choice
          played.0 played.1 c.play-outcome.ensures.dossier,
      ap Ok played.2,
    )

pub returns-in-Err : goal.returns-in-Err
returns-in-Err g c =
    let kept = c.take_over.ensures ∙ c.now-2.ensures in (
      Err c.in-Err.refusal,
      ends_undone c.desk.view_is kept c.play-outcome.ensures.choice c.in-Err.refusal
          (c.restore.ensures.present ∙ kept) c.restore.ensures.opening
          (refusal_kept (are_kept c.args.plan.falls) _ c.in-Err.refusal c.in-Err.is c.play-outcome.ensures.played),
      refl,
    )

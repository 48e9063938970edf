use Rattle.std.proofs.Common.{ℕ, ◌≡◌, ◌∙◌, List, ap, length, subst, sym}
use Rattle.admit_core.proofs.Plain.{on_err}
use Rattle.admit_core.specs.AutoAnswer.{auto_all}
use Rattle.admit_core.specs.declared.records.PassEnd.{PassEnd}
use Rattle.admit_core.specs.declared.records.PassRecord.{PassRecord}
use Rattle.admit_core.specs.declared.state.Mark.{Mark}
use Rattle.admit_core.specs.State.{State}
use Rattle.desk_day.specs.Changes.{answered_changes}
use Rattle.desk_day.specs.DayPasses.{offered_along}
use Rattle.desk_day.specs.KeptDays.{IsPassPicked}
use Rattle.desk_day.specs.Running.{RunningStates, opening_after}
use Rattle.desk_day.specs.Unanswered.{AsksAfter}
use Rattle.desk_day.specs.Who.{ChangesOnly, Moves}
use Rattle.desk_day.proofs.Moved.{moves_by, running_after}
use Rattle.desk_day.proofs.OnePass.{closed, pass_ended, fewer_open, closed_long}
use Rattle.desk_day.proofs.ToldPasses.{told_seen, told_whole}
use Rattle.desk_day.proofs.WhoIsAsked.{along_closed}
use Rattle.desk_day.proofs.running.Running.make_pass.Goals as goal

pub make_pass-requires : goal.make_pass-requires
make_pass-requires g c = record {
  roster = subst (λ (r : RunningStates). c.args.roster.now.dossier ≡ r.present.dossier)
      (sym c.self.view_is) c.requires.roster;
  ceilings = subst (λ (r : RunningStates). length c.args.plan.ceilings.now ≡ length r.present.dossier.schools)
      (sym c.self.view_is) c.requires.ceilings;
}

pub answer-freed-requires : goal.answer-freed-requires
answer-freed-requires g c =
    subst (λ (t : State). ChangesOnly c.in_ok-pass.asked t (auto_all t c.args.stamp))
    (sym c.in_ok-pass.ensures.offered) c.in_ok-pass.ensures.asked.answers

pub changes_after-requires : goal.changes_after-requires
changes_after-requires g c =
    let s = c.self.inside.present in
    let stamp = c.args.stamp in
    let asked = c.in_ok-pass.asked in
    let opened : c.self.inside.opening ≡ s =
    subst (λ (r : RunningStates). r.opening ≡ r.present) (sym c.self.view_is) c.requires.opened in
    let closes = c.now-closing.ensures ∙ c.answer-freed.ensures.state
    ∙ ap (λ (t : State). auto_all t stamp) c.in_ok-pass.ensures.offered in
    record {
      same = along_closed s c.now-closing.result.now c.in_ok-pass.pass.offers stamp closes
          ∙ sym (ap (λ (t : State). t.dossier) opened);
      asked = subst (λ (t : State). ChangesOnly asked t c.now-closing.result.now) (sym opened)
          (subst (λ (t : State). ChangesOnly asked s t) (sym closes) c.in_ok-pass.ensures.asked.changes);
    }

pub follow-requires : goal.follow-requires
follow-requires g c =
    let s = c.self.inside.present in
    let stamp = c.args.stamp in
    let offers = c.in_ok-pass.pass.offers in
    let opened : c.self.inside.opening ≡ s =
    subst (λ (r : RunningStates). r.opening ≡ r.present) (sym c.self.view_is) c.requires.opened in
    let closes = c.now-closing.ensures ∙ c.answer-freed.ensures.state
    ∙ ap (λ (t : State). auto_all t stamp) c.in_ok-pass.ensures.offered in
    record {
      closing = closes ∙ ap (λ (t : State). auto_all (offered_along offers stamp t) stamp) (sym opened)
          ∙ ap (λ (ks : List ℕ). auto_all (offered_along ks stamp c.self.inside.opening) stamp)
          (sym c.as_slice-offers.ensures);
      asked = subst (λ (ks : List ℕ). AsksAfter c.self.inside.opening ks stamp c.in_ok-pass.asked)
          (sym c.as_slice-offers.ensures)
          (subst (λ (t : State). AsksAfter t offers stamp c.in_ok-pass.asked) (sym opened) c.in_ok-pass.ensures.asked);
    }

pub returns-clause-made : goal.returns-clause-made
returns-clause-made g c =
    let s = c.self.inside.present in
    let orders = c.args.roster.now.orders in
    let bars = c.in_ok-pass.ensures.pass.0.bars in
    let stamp = c.args.stamp in
    let off = c.make_pass.new.self in
    let close = c.answer-freed.new.self in
    let opened : c.self.inside.opening ≡ s =
    subst (λ (r : RunningStates). r.opening ≡ r.present) (sym c.self.view_is) c.requires.opened in
    let long : length s.marks ≡ length s.dossier.wishes =
    subst (λ (t : State). length t.marks ≡ length t.dossier.wishes)
    (c.now.ensures ∙ sym (ap (λ (r : RunningStates). r.present) c.self.view_is))
    (ap (λ (ms : List Mark). length ms) (sym c.marks.ensures.marks) ∙ c.marks.ensures.one_each) in
    let made = c.in_ok-pass.ensures.pass.1.offers in
    let answered = c.answer-freed.ensures.state in
    let freed = c.answer-freed.ensures.freed in
    let end = closed s off close orders bars stamp made answered in
    let all = c.answer-freed.result in
    let first = goal.Picker-dyn g c.args.picker.now in
    let is = c.in_ok-pass.ensures.pass.1 in
    let autos = c.from_vec.ensures ∙ c.in_ok-autos.ensures
    ∙ ap (λ (t : State). answered_changes c.self.inside.opening t) c.now-closing.ensures in
    let after : RunningStates = record { present = close; opening = c.follow.new.opening } in
    let with_pass : PassRecord → PassEnd = λ pass. record { pass = pass; autos = c.from_vec.result; freed = all } in
    let pass_end = with_pass c.in_ok-pass.ensures.pass.0 in (
      pass_end,
      subst
          (λ (r : RunningStates). IsPassPicked orders c.args.plan.ceilings.now stamp r.present
          (record {
            before = first.told c.args.picker.now.1;
            after = (goal.Picker-dyn g (c.args.picker.now.0, c.make_pass.new.picker)).told c.make_pass.new.picker;
            choice = first.choice c.args.picker.now.1;
          }) after pass_end) c.self.view_is
          (record {
            made = record {
              ended = pass_ended s off close c.self.inside.opening orders c.args.plan.ceilings.now stamp
                  c.in_ok-pass.ensures.pass.0 c.from_vec.result
                  all is.by.is_pass made answered freed opened autos;
              present = end;
              opening = c.follow.ensures ∙ ap (λ (t : State). opening_after all t c.now-closing.result.now) opened
                  ∙ ap (λ (t : State). opening_after all s t) c.now-closing.ensures;
              fewer = λ some. fewer_open s off close orders bars stamp all long made answered freed some;
              marks = closed_long s close orders bars stamp long end;
            };
            told_of = is.by.told_of;
            chosen = is.by.chosen;
          }),
      ap with_pass c.in_ok-pass.ensures.pass.2,
    )

pub returns-in_err-pass-clause-told_by_then : goal.returns-in_err-pass-clause-told_by_then
returns-in_err-pass-clause-told_by_then g c =
    let seen = ap (λ (r : RunningStates). r.present) c.self.view_is in
    on_err _ (told_seen _ _ seen _ _ _ _ _ c.in_err-pass.ensures.told_by_then)

pub returns-in_err-autos-clause-told_by_then : goal.returns-in_err-autos-clause-told_by_then
returns-in_err-autos-clause-told_by_then g c =
    let seen = ap (λ (r : RunningStates). r.present) c.self.view_is in
    let is = c.in_ok-pass.ensures.pass.1.by in
    on_err _ (told_seen _ _ seen _ _ _ _ _ (told_whole _ _ _ _ _ _ _ is.is_pass is.told_of is.chosen))

pub returns-clause-moved : goal.returns-clause-moved
returns-clause-moved g c =
    let s = c.self.inside.present in
    let close = c.answer-freed.new.self in
    let asked = c.in_ok-pass.asked in
    let closes = c.answer-freed.ensures.state
    ∙ ap (λ (t : State). auto_all t c.args.stamp) c.in_ok-pass.ensures.offered in
    let same = along_closed s close c.in_ok-pass.pass.offers c.args.stamp closes in
    let changes = subst (λ (t : State). ChangesOnly asked s t) (sym closes) c.in_ok-pass.ensures.asked.changes in
    subst (λ (r : RunningStates). Moves r.present close c.args.moved.now c.add.new.self) c.self.view_is
    (moves_by s close asked c.args.moved.now c.add.new.self same changes c.add.ensures)

pub invariant_of-self-2 : goal.invariant_of-self-2
invariant_of-self-2 g c =
    let s = c.self.inside.present in
    let close = c.answer-freed.new.self in
    let asked = c.in_ok-pass.asked in
    let all = c.answer-freed.result in
    let opened : c.self.inside.opening ≡ s =
    subst (λ (r : RunningStates). r.opening ≡ r.present) (sym c.self.view_is) c.requires.opened in
    let closes = c.answer-freed.ensures.state
    ∙ ap (λ (t : State). auto_all t c.args.stamp) c.in_ok-pass.ensures.offered in
    let same = along_closed s close c.in_ok-pass.pass.offers c.args.stamp closes in
    let changes = subst (λ (t : State). ChangesOnly asked s t) (sym closes) c.in_ok-pass.ensures.asked.changes in
    running_after all s close c.follow.new.opening asked
    (c.follow.ensures ∙ ap (λ (t : State). opening_after all t c.now-closing.result.now) opened
    ∙ ap (λ (t : State). opening_after all s t) c.now-closing.ensures) same changes

use Rattle.std.proofs.Common.{◌∙◌, subst, sym}
use Rattle.std.specs.Option.{option_copied}
use Rattle.admit_core.specs.Lapses.{AreTermsFor}
use Rattle.desk_day.specs.Running.{RunningStates}
use Rattle.desk_day.specs.Who.{Joins, Moves}
use Rattle.desk_day.specs.declared.who.Who.{Who}
use Rattle.desk_day.proofs.Moved.{moves_by, moves_from}
use Rattle.desk_day.proofs.running.Running.begin_day.Goals as goal

pub touch_morning-requires-clause-before : goal.touch_morning-requires-clause-before
touch_morning-requires-clause-before c =
    subst (λ (r : RunningStates). AreTermsFor r.present.dossier (option_copied c.args.terms)) (sym c.self.view_is)
    c.requires.before

pub invariant_of-self-2 : goal.invariant_of-self-2
invariant_of-self-2 c =
    let s = c.self.inside.present in
    let morning = c.touch_morning.new.self in
    let touched = c.touch_morning.new.moved in
    let changes = moves_from s morning c.nobody-touched.result touched c.nobody-touched.ensures
    c.in_ok-lapsed.ensures.moved in
    let joins = subst (λ (these : Who). Joins these touched c.add.new.self) c.replace-since_opening.ensures.value
    c.add.ensures in
    record {
      dossier = c.self.invariant.dossier ∙ sym c.touch_morning.ensures.dossier;
      others = moves_by s morning touched c.self.inside.moved c.add.new.self c.touch_morning.ensures.dossier changes
          joins c.self.inside.opening c.self.invariant.dossier c.self.invariant.others;
    }

pub returns-clause-moved : goal.returns-clause-moved
returns-clause-moved c =
    let s = c.self.inside.present in
    let morning = c.touch_morning.new.self in
    let touched = c.touch_morning.new.moved in
    let changes = moves_from s morning c.nobody-touched.result touched c.nobody-touched.ensures
    c.in_ok-lapsed.ensures.moved in
    subst (λ (r : RunningStates). Moves r.present morning c.args.moved.now c.add-2.new.self) c.self.view_is
    (moves_by s morning touched c.args.moved.now c.add-2.new.self c.touch_morning.ensures.dossier changes
    c.add-2.ensures)

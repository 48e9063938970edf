use Rattle.std.proofs.Common.{◌≡◌, ◌∙◌, ap, sym, List, length, refl, arith, subst, map}
use Rattle.std.proofs.lemmas.Result.{IfOk-from_err}
use Rattle.admit_core.proofs.Plain.{on_err}
use Rattle.admit_core.specs.declared.state.Mark.{Mark}
use Rattle.admit_core.specs.DossierRows.{DossierRows}
use Rattle.admit_core.specs.State.{State}
use Rattle.round.specs.KeptFalls.{IsKeptOf, are_kept}
use Rattle.desk_day.specs.DayPasses.{stamp_of}
use Rattle.desk_day.specs.KeptDays.{kept_end}
use Rattle.desk_day.proofs.KeptPasses.{PickedSoFar, picked_all, picked_fewer, picked_more, picked_none, picked_opening}
use Rattle.desk_day.specs.Who.{Moves}
use Rattle.desk_day.proofs.Moved.{moves_then}
use Rattle.desk_day.proofs.OnePass.{open_at_most}
use Rattle.desk_day.proofs.ToldPasses.{told_behind_pass, told_in_pass}
use Rattle.desk_day.proofs.running.Running.make_passes.Goals as goal

pub passes-init : goal.passes-init
passes-init g c =
    let s = c.args.self.now.present in
    let long : length s.marks ≡ length s.dossier.wishes =
    subst (λ (t : State). length t.marks ≡ length t.dossier.wishes) c.now-state.ensures
    (ap (λ (ms : List Mark). length ms) (sym c.marks.ensures.marks) ∙ c.marks.ensures.one_each) in
    let first = goal.Picker-dyn g c.args.picker.now in
    let choice = first.choice c.args.picker.now.1 in
    let told = first.told c.args.picker.now.1 in
    let orders = c.args.roster.now.orders in
    let ceilings = c.args.plan.ceilings.now in
    record {
      so_far = subst (λ (t : State). IsKeptOf (map (kept_end (are_kept c.args.plan.falls)))
          (PickedSoFar orders ceilings (stamp_of c.args.plan.day 1) s t
          (record { before = told; after = told; choice = choice })) c.new-ends.result.items)
          (sym c.open.ensures.present)
          (picked_none _ orders ceilings c.args.plan.day s choice told c.new-ends.result.items
          c.new-ends.ensures.items long (open_at_most s long));
      opening = c.open.ensures.opening ∙ sym c.open.ensures.present;
      moved = subst (λ (t : State). Moves s t c.args.moved.now c.args.moved.now) (sym c.open.ensures.present)
          (λ start same only. only);
      choice = refl;
    }

pub passes-smaller : goal.passes-smaller
passes-smaller g c =
    picked_fewer _ c.passes.invariant.so_far c.in_ok-end.ensures.made
    c.passes.invariant.choice c.in_ok-push.ensures.items (sym c.frees_nothing-is_last.ensures ∙ c.if-is_last.false)

pub passes-preserved : goal.passes-preserved
passes-preserved g c =
    let none = sym c.frees_nothing-is_last.ensures ∙ c.if-is_last.false in
    record {
      so_far = picked_more _ c.passes.invariant.so_far c.in_ok-end.ensures.made
          c.passes.invariant.choice c.in_ok-push.ensures.items none c.make_pass.ensures.dossier;
      opening = picked_opening _ c.passes.invariant.so_far c.in_ok-end.ensures.made
          c.passes.invariant.choice c.in_ok-push.ensures.items none;
      moved = moves_then c.args.self.now.present c.passes.self.present c.make_pass.new.self.present c.args.moved.now
          c.passes.moved c.make_pass.new.moved c.passes.invariant.so_far.1.so_far.dossier c.passes.invariant.moved
          c.in_ok-end.ensures.moved;
      choice = c.make_pass.ensures.choice ∙ c.passes.invariant.choice;
    }

pub make_pass-requires : goal.make_pass-requires
make_pass-requires g c =
    let there = c.passes.invariant.so_far.1.so_far.dossier in
    record {
      opened = c.passes.invariant.opening;
      roster = c.requires.roster ∙ sym there;
      ceilings = c.requires.ceilings ∙ sym (ap (λ (d : DossierRows). length d.schools) there);
    }

pub returns-then-is_last-clause-made : goal.returns-then-is_last-clause-made
returns-then-is_last-clause-made g c =
    picked_all _ c.passes.invariant.so_far c.in_ok-end.ensures.made
    c.passes.invariant.choice c.in_ok-push.ensures.items (sym c.frees_nothing-is_last.ensures ∙ c.if-is_last.true)

pub returns-then-is_last-clause-choice : goal.returns-then-is_last-clause-choice
returns-then-is_last-clause-choice g c = c.make_pass.ensures.choice ∙ c.passes.invariant.choice

pub returns-then-is_last-clause-moved : goal.returns-then-is_last-clause-moved
returns-then-is_last-clause-moved g c =
    moves_then c.args.self.now.present c.passes.self.present c.make_pass.new.self.present c.args.moved.now
    c.passes.moved c.make_pass.new.moved c.passes.invariant.so_far.1.so_far.dossier c.passes.invariant.moved
    c.in_ok-end.ensures.moved

pub returns-then-is_last-clause-dossier : goal.returns-then-is_last-clause-dossier
returns-then-is_last-clause-dossier g c = c.make_pass.ensures.dossier ∙ c.passes.invariant.so_far.1.so_far.dossier

pub returns-in_err-end-clause-made : goal.returns-in_err-end-clause-made
returns-in_err-end-clause-made g c = IfOk-from_err _ _ c.from_residual.ensures.0

pub returns-in_err-end-clause-told_by_then : goal.returns-in_err-end-clause-told_by_then
returns-in_err-end-clause-told_by_then g c =
    on_err _ (told_in_pass _ c.passes.invariant.so_far c.passes.invariant.choice
    c.in_err-end.ensures.told_by_then)

pub returns-in_err-end-clause-choice : goal.returns-in_err-end-clause-choice
returns-in_err-end-clause-choice g c = c.make_pass.ensures.choice ∙ c.passes.invariant.choice

pub returns-in_err-end-clause-dossier : goal.returns-in_err-end-clause-dossier
returns-in_err-end-clause-dossier g c = c.make_pass.ensures.dossier ∙ c.passes.invariant.so_far.1.so_far.dossier

pub returns-in_err-push-clause-made : goal.returns-in_err-push-clause-made
returns-in_err-push-clause-made g c = IfOk-from_err _ _ c.from_residual-in_err-push.ensures.0

pub returns-in_err-push-clause-told_by_then : goal.returns-in_err-push-clause-told_by_then
returns-in_err-push-clause-told_by_then g c =
    on_err _ (told_behind_pass _ c.passes.invariant.so_far c.passes.invariant.choice
    c.in_ok-end.ensures.made)

pub returns-in_err-push-clause-choice : goal.returns-in_err-push-clause-choice
returns-in_err-push-clause-choice g c = c.make_pass.ensures.choice ∙ c.passes.invariant.choice

pub returns-in_err-push-clause-dossier : goal.returns-in_err-push-clause-dossier
returns-in_err-push-clause-dossier g c = c.make_pass.ensures.dossier ∙ c.passes.invariant.so_far.1.so_far.dossier

pub overflow_add-number : goal.overflow_add-number
overflow_add-number g c =
    let wishes = ap (λ (d : DossierRows). length d.wishes)
    (c.behind-state.view_is ∙ c.dossier.ensures ∙ ap (λ (t : State). t.dossier) c.now-state.ensures) in
    omega (arith, c.passes.invariant.so_far.1.so_far.open_ones, c.behind-state.invariant.size.wishes, wishes)

use Rattle.std.proofs.Common.{◌≡◌, ◌∙◌, length, sym, refl, subst}
use Rattle.admit_core.specs.State.{State}
use Rattle.day_state.proofs.Freeing.{freed_none}
use Rattle.day_state.proofs.Taking.{auto_none, auto_best}
use Rattle.day_state.proofs.counted_marks.CountedMarks.take_best.Goals as goal

pub returns-in-None-clause-state : goal.returns-in-None-clause-state
returns-in-None-clause-state c =
    let s = c.args.self.now in
    let long : length s.marks ≡ length s.dossier.wishes =
    subst (λ (s : State). length s.marks ≡ length s.dossier.wishes) c.self.view_is c.self.invariant.kept.marks in
    auto_none s c.args.candidate c.args.stamp long c.in-None.ensures

pub returns-in-None-clause-freed : goal.returns-in-None-clause-freed
returns-in-None-clause-freed c =
    let s = c.args.self.now in
    sym (freed_none s s c.args.candidate (λ k. refl) (λ k. refl))

pub returns-in-Some-clause-state : goal.returns-in-Some-clause-state
returns-in-Some-clause-state c =
    c.change_own.ensures.state ∙ auto_best c.args.self.now c.args.candidate c.in-Some.best c.args.stamp
    c.in-Some.ensures

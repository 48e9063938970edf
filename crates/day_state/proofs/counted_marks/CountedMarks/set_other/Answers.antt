use Rattle.std.proofs.Common.{refl, sym, ◌∙◌}
use Rattle.admit_core.specs.DossierRows.{candidate_of}
use Rattle.day_state.proofs.Freeing.{freed_none}
use Rattle.day_state.proofs.SameMarks.{mark_same, set_again}
use Rattle.day_state.proofs.counted_marks.CountedMarks.set_other.Goals as goal

pub returns-then-is_same_mark-clause-state : goal.returns-then-is_same_mark-clause-state
returns-then-is_same_mark-clause-state c =
    set_again c.args.self.now c.args.wish c.args.mark
    (sym c.mark.ensures ∙ mark_same c.mark.result c.args.mark (sym c.is_same_mark.ensures ∙ c.if-is_same_mark.true))

pub returns-then-is_same_mark-clause-freed : goal.returns-then-is_same_mark-clause-freed
returns-then-is_same_mark-clause-freed c =
    sym (freed_none c.args.self.now c.args.self.now (candidate_of c.args.self.now.dossier c.args.wish) (λ k. refl)
    (λ k. refl))

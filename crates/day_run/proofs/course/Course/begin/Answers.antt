use Rattle.std.proofs.Common.{◌∙◌, ap, sym, subst, ℕ, List, length}
use Rattle.std.proofs.lemmas.Bool.{false≢true}
use Rattle.std.proofs.lemmas.List.{length-map}
use Rattle.admit_core.specs.CallOrder.{AreCallOrders}
use Rattle.admit_core.specs.declared.dossier.School.{School}
use Rattle.admit_core.specs.declared.ranking.CallOrder.{CallOrder}
use Rattle.admit_core.specs.State.{State}
use Rattle.linked_demand.specs.Rosters.{Setting}
use Rattle.day_run.proofs.course.Course.begin.Goals as goal

pub invariant_of-result : goal.invariant_of-result
invariant_of-result c = record {
  progress =
      record {
        orders =
            subst (λ (os : List CallOrder). AreCallOrders c.in_ok-desk.desk.present.dossier.groups os)
            (sym (ap (λ (r : Setting). r.orders) c.in_ok-roster.ensures))
            (rw c.in_ok-desk.ensures.present c.requires.orders);
        before = rw c.in_ok-desk.ensures.present c.requires.before;
        bars =
            ap (λ (l : List ℕ). length l) c.in_ok-bars.ensures.own
            ∙ length-map c.args.dossier.now.schools (λ (s : School). s.ceiling)
            ∙ ap (λ (s : State). length s.dossier.schools) (sym c.in_ok-desk.ensures.present);
        last = λ t. absurd (false≢true t);
      };
  same = ap (λ (r : Setting). r.dossier) c.in_ok-roster.ensures ∙ ap (λ (s : State). s.dossier) c.now.ensures;
}

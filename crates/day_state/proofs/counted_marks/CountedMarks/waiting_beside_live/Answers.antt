use Rattle.std.proofs.Common.{Bool, List, ◌&&◌, ◌∙◌, ap, false, get_or}
use Rattle.std.proofs.lemmas.Result.{IfOk-weaker}
use Rattle.admit_core.specs.State.{State}
use Rattle.day_state.specs.Bundles.{has_live, number_at}
use Rattle.day_state.specs.Members.{waits_beside}
use Rattle.day_state.proofs.Telling.{waits_beside_is}
use Rattle.day_state.proofs.counted_marks.CountedMarks.waiting_beside_live.Goals as goal

pub returns : goal.returns
returns c =
    let b = c.self.inside.in_programmes in
    IfOk-weaker c.beside_live.result _ _
    (λ v told k. told k
    ∙ ap (λ (flags : List Bool). get_or flags k false && has_live b.live (number_at b.numbers.value k) false)
    c.waits.ensures
    ∙ waits_beside_is c.self.invariant.programmes c.self.invariant.kept.marks k
    ∙ ap (λ (s : State). waits_beside s k) c.self.view_is)
    c.beside_live.ensures

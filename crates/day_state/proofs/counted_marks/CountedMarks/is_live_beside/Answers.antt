use Rattle.std.proofs.Common.{ℕ, ◌≡◌, ◌<◌, ◌∙◌, false, length, subst}
use Rattle.admit_core.specs.State.{State, is_live}
use Rattle.day_state.specs.Bundles.{seat_bundle}
use Rattle.day_state.specs.Kept.{has_seat_there, mark_in}
use Rattle.day_state.proofs.Telling.{seat_beside}
use Rattle.day_state.proofs.counted_marks.CountedMarks.is_live_beside.Goals as goal

pub returns : goal.returns
returns c =
    let Tells = λ (s : State). (k : ℕ) → k < length s.marks → c.args.bundle ≡ seat_bundle s.dossier k
    → is_live (mark_in s.marks k) ≡ false → c.is_live_beside.result ≡ has_seat_there s k in
    subst Tells c.self.view_is (λ k lt is none.
    c.is_live_beside.ensures
    ∙ seat_beside c.self.invariant.programmes c.self.invariant.kept.marks lt c.args.bundle is none)

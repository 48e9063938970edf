-- What the fall of one bar changes for a wish.
use Rattle.std.proofs.Common.{ℕ, ◌≤◌, ◌<◌, ◌≡◌, true, false, not, ◌&&◌, sym, ◌∙◌, ap}
use Rattle.std.proofs.Common.{List, length}
use Rattle.std.specs.Prelude.{slice_index, slice_set}
use Rattle.std.proofs.lemmas.Bool.{and_parts}
use Rattle.admit_core.specs.declared.dossier.Wish.{Wish}
use Rattle.admit_core.specs.declared.state.Mark.{Mark}
use Rattle.admit_core.specs.State.{State}
use Rattle.admit_core.specs.Proposals.{is_open}
use Rattle.admit_core.proofs.Plain.{and_false}
use Rattle.linked_demand.specs.Opens.{is_past}
use Rattle.linked_demand.proofs.Opens.{fallen_open}

module _ (s : State) (bars : List ℕ) (i to : ℕ) (within : i < length bars) (le : to ≤ slice_index bars i) where
  pub open_before : (w : Wish) (m : Mark) → is_open s (slice_set bars i to) w m ≡ true → is_open s bars w m ≡ true
  open_before w m t =
      (and_parts (is_open s bars w m) (not (is_past s i to w))
      (sym (fallen_open s bars i to w m w.school within le) ∙ t)).0

  pub past_is_closed : (w : Wish) (m : Mark) → is_past s i to w ≡ true → is_open s (slice_set bars i to) w m ≡ false
  past_is_closed w m past = fallen_open s bars i to w m w.school within le
      ∙ ap (λ b. is_open s bars w m && not b) past ∙ and_false (is_open s bars w m)

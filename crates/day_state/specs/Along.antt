-- Changes of one mark after another.
use Rattle.std.specs.Prelude.{ℕ, ◌||◌, nat_lt, List, [], ◌∷◌, ◌==◌, if◌then◌else◌}
use Rattle.admit_core.specs.declared.dossier.Wish.{Wish}
use Rattle.admit_core.specs.declared.state.Status.TheVariants.{Refused, Quit}
use Rattle.admit_core.specs.declared.state.Stamp.{Stamp}
use Rattle.admit_core.specs.declared.state.Mark.{Mark}
use Rattle.admit_core.specs.AutoAnswer.{auto_status}
use Rattle.admit_core.specs.State.{State, with_mark_at, with_marks, is_live, is_waiting, changed_to}
use Rattle.day_state.specs.declared.mark.OwnChange.{OwnChange}
use Rattle.day_state.specs.declared.mark.OwnChange.TheVariants.{RefuseLive, QuitOpen, TakeBest}
use Rattle.day_state.specs.Kept.{mark_in, wish_in}

-- the state after the marks at these places have become what f gives, one after another
abbrev pub change_along : (Wish → Mark → Mark) → List ℕ → State → State
change_along f [] s = s
change_along f (k ∷ ks) s =
    change_along f ks (with_mark_at s k (f (wish_in s.dossier.wishes k) (mark_in s.marks k)))

-- the state in which the marks of a candidate's wishes are what f gives
abbrev pub change_own : (Wish → Mark → Mark) → ℕ → State → State
change_own f c s = with_marks s (λ w m. if w.candidate == c then f w m else m)

-- what becomes of a wish's mark as its candidate's wishes change
abbrev pub changed_by : OwnChange → Stamp → Wish → Mark → Mark
changed_by RefuseLive stamp w m = if is_live m then changed_to Refused stamp m else m
changed_by QuitOpen stamp w m = if is_live m || is_waiting m then changed_to Quit stamp m else m
changed_by (TakeBest best) stamp w m =
    changed_to (auto_status m.status (w.preference == best) (nat_lt best w.preference)) stamp m

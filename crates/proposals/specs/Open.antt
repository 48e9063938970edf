-- Which wishes are open, by place.
use Rattle.std.specs.Prelude.{ℕ, Bool, ◌&&◌, ◌==◌, List}
use Rattle.day_state.specs.Kept.{mark_in, wish_in}
use Rattle.admit_core.specs.State.{State}
use Rattle.admit_core.specs.Proposals.{is_open}

-- the wish at a place is an open one in a programme
abbrev pub is_open_at : State → List ℕ → ℕ → ℕ → Bool
is_open_at s bars p k =
    is_open s bars (wish_in s.dossier.wishes k) (mark_in s.marks k)
    && ((wish_in s.dossier.wishes k).programme == p)

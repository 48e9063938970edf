-- Which wishes are proposed, by place.
use Rattle.std.specs.Prelude.{ℕ, Bool, ◌&&◌, ◌||◌, ◌==◌, List, map}
use Rattle.day_state.specs.Kept.{mark_in, wish_in}
use Rattle.admit_core.specs.declared.ranking.CallOrder.{CallOrder}
use Rattle.admit_core.specs.State.{State, entries, holds_seat}
use Rattle.admit_core.specs.Proposals.{is_proposed}
use Rattle.proposals.specs.Open.{is_open_at}

-- the wish at a place is an open one of a candidate in a programme, and they are live in it,
-- or are called to it
abbrev pub is_served_at : State → List ℕ → ℕ → ℕ → Bool → ℕ → Bool
is_served_at s bars p c is_called k =
    ((wish_in s.dossier.wishes k).candidate == c) && is_open_at s bars p k
    && (holds_seat s c p || is_called)

-- the wish at a place is a proposed one in a programme
abbrev pub is_proposed_at : State → List CallOrder → List ℕ → ℕ → ℕ → Bool
is_proposed_at s orders bars p k =
    is_proposed s orders bars (wish_in s.dossier.wishes k) (mark_in s.marks k)
    && ((wish_in s.dossier.wishes k).programme == p)

-- whether each wish is proposed
abbrev pub proposed_flags : State → List CallOrder → List ℕ → List Bool
proposed_flags s orders bars = map (λ (w, m). is_proposed s orders bars w m) (entries s)

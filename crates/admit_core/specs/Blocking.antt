-- Wishes that block a state: their candidates would rather have a seat that is vacant, or that
-- another holds with less right.
use Rattle.std.specs.Prelude.{ℕ, Bool, true, false, not, ◌&&◌, ◌||◌, List, [], ◌∷◌, drop, Option, Some, None, nat_lt}
use Rattle.std.specs.Prelude.{◌==◌, filter, is_some}
use Rattle.std.specs.List.{list_any}
use Rattle.admit_core.specs.declared.dossier.Wish.{Wish}
use Rattle.admit_core.specs.declared.state.Status.{Status}
use Rattle.admit_core.specs.declared.state.Status.TheVariants.{Waiting, AutoRefused, AutoWithdrawn}
use Rattle.admit_core.specs.declared.state.Mark.{Mark}
use Rattle.admit_core.specs.declared.ranking.CallOrder.{CallOrder}
use Rattle.admit_core.specs.Lists.{places_where}
use Rattle.admit_core.specs.State.{State, entries, is_live, holds_seat, seats_left}
use Rattle.admit_core.specs.Proposals.{order_of, position_of}

-- a wish that its candidate did not give up themself, and that is not live
abbrev pub is_missed : Status → Bool
is_missed Waiting = true
is_missed AutoRefused = true
is_missed AutoWithdrawn = true
is_missed _ = false

abbrev pub lacks_school : Option ℕ → Bool
lacks_school None = true
lacks_school (Some h) = false

-- the candidate has a live wish that they prefer
abbrev pub has_better : State → Wish → Bool
has_better s w =
    list_any (λ (v, m). is_live m && (v.candidate == w.candidate)
    && nat_lt v.preference w.preference) (entries s)

-- those who stand after the candidate in the call order of the wish's programme
abbrev pub behind : State → List CallOrder → Wish → List ℕ
behind s orders w = drop (position_of s orders w) (order_of s.dossier orders w.programme)

-- those of them who are live in the programme: the candidate rightly envies them
abbrev pub envied : State → List CallOrder → Wish → List ℕ
envied s orders w = filter (λ c. holds_seat s c w.programme) (behind s orders w)

-- the last of them
abbrev pub last_of : List ℕ → Option ℕ
last_of [] = None
last_of (c ∷ []) = Some c
last_of (c ∷ (d ∷ rest)) = last_of (d ∷ rest)

abbrev pub last_envied : State → List CallOrder → Wish → Option ℕ
last_envied s orders w = last_of (envied s orders w)

-- the candidate has nothing that is as good: they rank the wish, are not live in its programme and
-- have no live wish that they prefer
abbrev pub wants_more : State → Wish → Mark → Bool
wants_more s w m =
    lacks_school w.school && nat_lt 0 w.preference && is_missed m.status
    && not (holds_seat s w.candidate w.programme) && not (has_better s w)

-- somebody behind the candidate is live in the programme
abbrev pub has_envy : State → List CallOrder → Wish → Bool
has_envy s orders w = is_some (last_envied s orders w)

-- such a wish blocks where a seat of its programme is vacant, or somebody behind is live there
abbrev pub is_blocking : State → List CallOrder → Wish → Mark → Bool
is_blocking s orders w m =
    wants_more s w m && (nat_lt 0 (seats_left s w.programme) || has_envy s orders w)

-- the places of the wishes that block
abbrev pub blocking : State → List CallOrder → List ℕ
blocking s orders = places_where (λ x. is_blocking s orders x.0 x.1) (entries s)

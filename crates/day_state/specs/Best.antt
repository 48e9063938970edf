-- The best live wish of a candidate who ranks their wishes.
use Rattle.std.specs.Prelude.{ℕ, ◌&&◌, nat_lt, min, List, Option, Some, None, fold, if◌then◌else◌}
use Rattle.admit_core.specs.declared.dossier.Wish.{Wish}
use Rattle.admit_core.specs.declared.state.Mark.{Mark}
use Rattle.admit_core.specs.State.{is_live}
use Rattle.day_state.specs.Kept.{mark_in, wish_in}

-- the lesser of two preference numbers, either of which may be missing
abbrev pub better : Option ℕ → Option ℕ → Option ℕ
better None other = other
better (Some n) None = Some n
better (Some n) (Some m) = Some (min n m)

-- the preference number of the wish at a place, where it is live and ranked
abbrev pub live_preference : List Wish → List Mark → ℕ → Option ℕ
live_preference ws ms k =
    if is_live (mark_in ms k) && nat_lt 0 (wish_in ws k).preference
    then Some (wish_in ws k).preference else None

-- the best of those at some places
abbrev pub best_among : List Wish → List Mark → List ℕ → Option ℕ
best_among ws ms ks = fold (λ best k. better best (live_preference ws ms k)) None ks

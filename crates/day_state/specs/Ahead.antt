-- Wishes that are read ahead of a walk along their places.
use Rattle.std.specs.Prelude.{◌≡◌, List, All}
use Rattle.admit_core.specs.declared.dossier.Wish.{Wish}
use Rattle.day_state.specs.declared.ahead.Placed.{Placed}
use Rattle.day_state.specs.Kept.{wish_in}

-- each wish stands at its place
abbrev pub StandThere : List Wish → List Placed → Type 0
StandThere ws rows = All (λ r. r.wish ≡ wish_in ws r.place) rows

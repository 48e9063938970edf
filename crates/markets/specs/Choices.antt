-- What wishes are for, with which preference.
use Rattle.std.specs.Prelude.{ℕ, List, map}
use Rattle.admit_core.specs.declared.dossier.Wish.{Wish}
use Rattle.markets.specs.Dossiers.{own}
use Rattle.markets.specs.declared.owned.Choice.{Choice}

abbrev pub choice_of : Wish → Choice
choice_of w = record { preference = w.preference; programme = w.programme }

-- what a candidate wishes for, in the order of their wishes
abbrev pub own_choices : List Wish → ℕ → List Choice
own_choices ws c = map choice_of (own ws c)

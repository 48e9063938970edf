-- Who has a place in a matching, whichever it is.
use Rattle.std.specs.Prelude.{◌≡◌, ℕ, ◌<◌, Bool, List, Option, is_some, length}
use Rattle.markets.specs.Markets.{MarketRows}
use Rattle.markets.specs.Matchings.{place_of, holders, IsStable}

abbrev pub has_place : List (Option ℕ) → ℕ → Bool
has_place places x = is_some (place_of places x)

-- the same candidates have a place in two matchings, and each programme has as many
pub record HaveSamePlaced (m : MarketRows) (one other : List (Option ℕ)) : Type 0 where
  pub candidates : (x : ℕ) → has_place one x ≡ has_place other x
  pub programmes : (p : ℕ) → p < length m.orders → length (holders one p) ≡ length (holders other p)

-- who has a place in a matching has one in every stable one, and each programme as many
abbrev pub ArePlacedInAll : MarketRows → List (Option ℕ) → Type 0
ArePlacedInAll m places =
    (others : List (Option ℕ)) → IsStable m others → HaveSamePlaced m places others

-- Who has a place where, and what makes it stable.
use Rattle.std.specs.Prelude.{◌≡◌, ℕ, ◌≤◌, ◌<◌, Bool, false, ◌||◌, List, length, filter, nat_eq, nat_lt, find, Option}
use Rattle.std.specs.Prelude.{Some, None, slice_index, slice_index_or, IsTrue}
use Rattle.std.specs.List.{list_any, before_first, range_with_len}
use Rattle.admit_core.specs.Lists.{is_among}
use Rattle.markets.specs.Markets.{MarketRows, list_of, lists_it, market_position}

-- the place of a candidate: a programme, or none
abbrev pub place_of : List (Option ℕ) → ℕ → Option ℕ
place_of places x = slice_index_or places x None

-- whether a place is in a programme
abbrev pub is_at : ℕ → Option ℕ → Bool
is_at p None = false
is_at p (Some q) = nat_eq p q

-- the candidates who have a place in a programme
abbrev pub holders : List (Option ℕ) → ℕ → List ℕ
holders places p = filter (λ x. is_at p (place_of places x)) (range_with_len 0 (length places))

-- each candidate has a place in a programme of their list, or none, and no programme has more than
-- its seats
pub record IsMatching (m : MarketRows) (places : List (Option ℕ)) : Type 0 where
  pub one_place_each : length places ≡ length m.lists
  pub listed : (x p : ℕ) → place_of places x ≡ Some p → IsTrue (lists_it m p x)
  pub seated : (p : ℕ) → p < length m.seats → length (holders places p) ≤ slice_index m.seats p

-- the programmes that a candidate prefers to their place: all of their list that stand before it
abbrev pub preferred : MarketRows → List (Option ℕ) → ℕ → List ℕ
preferred m places x = before_first (λ p. is_at p (place_of places x)) (list_of m x)

-- a candidate prefers a programme to their place
abbrev pub prefers : MarketRows → List (Option ℕ) → ℕ → ℕ → Bool
prefers m places x p = is_among p (preferred m places x)

-- a programme would take a candidate: it has a free seat, or somebody who stands later in its order
abbrev pub would_take : MarketRows → List (Option ℕ) → ℕ → ℕ → Bool
would_take m places p x =
    nat_lt (length (holders places p)) (slice_index m.seats p)
    || list_any (λ y. nat_lt (market_position m p x) (market_position m p y)) (holders places p)

-- the programme that blocks with a candidate: the best that they prefer and that would take them
abbrev pub block_of : MarketRows → List (Option ℕ) → ℕ → Option ℕ
block_of m places x = find (λ p. would_take m places p x) (preferred m places x)

-- no candidate prefers a programme that would take them
pub record IsStable (m : MarketRows) (places : List (Option ℕ)) : Type 0 where
  pub matching : IsMatching m places
  pub no_block : (x p : ℕ) → IsTrue (prefers m places x p) → would_take m places p x ≡ false

-- in no stable matching does a candidate get a programme that they prefer
abbrev pub IsBestForAll : MarketRows → List (Option ℕ) → Type 0
IsBestForAll m places =
    (others : List (Option ℕ)) → IsStable m others → (x p : ℕ) → place_of others x ≡ Some p
    → prefers m places x p ≡ false

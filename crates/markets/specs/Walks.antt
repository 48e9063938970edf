-- Walks along the call orders of groups, by the numbers of a market's candidates.
use Rattle.std.specs.Prelude.{◌≡◌, ℕ, ◌<◌, true, List, [], length, map, nat_eq, option_map, slice_get, slice_index}
use Rattle.std.specs.Prelude.{Some}
use Rattle.std.specs.Prelude.{unwrap_or}
use Rattle.std.specs.List.{position_or_len}
use Rattle.std.specs.List.Sorted.{IsStrictlyIncreasing}
use Rattle.admit_core.specs.Lists.{is_among}
use Rattle.admit_core.specs.declared.ranking.CallOrder.{CallOrder}
use Rattle.markets.specs.declared.calling.Walk.{Walk}

-- the call order of a group; past the last one it is empty
abbrev pub order_in : List CallOrder → ℕ → List ℕ
order_in orders g = unwrap_or (option_map (λ o. o.list) (slice_get orders g)) []

-- the numbers of candidates: the place of each among the names, one past the last where they aren't
abbrev pub numbers_in : List ℕ → List ℕ → List ℕ
numbers_in names order = map (λ c. position_or_len (nat_eq c) names) order

-- for each number of a list that has a place here, that is one at which it stands in the list
abbrev pub AreNoted : List ℕ → List ℕ → Type 0
AreNoted numbers places =
    (x : ℕ) → x < length places → is_among x numbers ≡ true
    → (slice_index places x < length numbers) × (slice_index numbers (slice_index places x) ≡ x)

-- the numbers are those of the group that was walked along last, and their places are noted
pub record IsWalk (names : List ℕ) (orders : List CallOrder) (w : Walk) : Type 0 where
  pub one_each : length w.places.items ≡ length names
  pub walked : (g : ℕ) → w.group ≡ Some g → w.numbers.items ≡ numbers_in names (order_in orders g)
  pub noted : AreNoted w.numbers.items w.places.items

-- each of those who list a programme stands in a list of numbers, at the place that is noted alone
pub record AreCalled (numbers places listers : List ℕ) : Type 0 where
  pub rises : IsStrictlyIncreasing listers
  pub within : (x : ℕ) → is_among x listers ≡ true → x < length places
  pub there : (x : ℕ) → is_among x listers ≡ true → is_among x numbers ≡ true
  pub once :
      (i j : ℕ)
      → i < length numbers
      → j < length numbers
      → slice_index numbers i ≡ slice_index numbers j
      → is_among (slice_index numbers i) listers ≡ true
      → i ≡ j

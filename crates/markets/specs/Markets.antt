-- A market: candidates who list programmes, and programmes that order their candidates.
use Rattle.std.specs.Prelude.{◌≡◌, ℕ, ◌+◌, ◌-◌, ◌≤◌, ◌<◌, Bool, not, ◌&&◌, ◌==◌, List, [], length, filter, nat_eq}
use Rattle.std.specs.Prelude.{nat_lt, find, position, Option, slice_index, slice_index_or, IsTrue}
use Rattle.std.specs.List.{list_all, before_first, range_with_len}
use Rattle.admit_core.specs.Lists.{is_among, distinct}

-- the list of each candidate, best first; for each programme the order of its candidates, best
-- first, and its seats
pub record MarketRows : Type 0 where
  pub lists : List (List ℕ)
  pub orders : List (List ℕ)
  pub seats : List ℕ

-- the list of a candidate, and the order of a programme; past the end they are empty
abbrev pub list_of : MarketRows → ℕ → List ℕ
list_of m x = slice_index_or m.lists x []

abbrev pub market_order : MarketRows → ℕ → List ℕ
market_order m p = slice_index_or m.orders p []

-- whether a candidate's list names a programme
abbrev pub lists_it : MarketRows → ℕ → ℕ → Bool
lists_it m p x = is_among p (list_of m x)

-- the candidates whose lists name a programme
abbrev pub listers : MarketRows → ℕ → List ℕ
listers m p = filter (lists_it m p) (range_with_len 0 (length m.lists))

-- whether no number stands twice in a list
abbrev pub is_distinct : List ℕ → Bool
is_distinct ns = length (distinct ns) == length ns

-- a list has numbers below a count, none twice
abbrev pub is_list_below : ℕ → List ℕ → Bool
is_list_below n ns = is_distinct ns && list_all (λ p. nat_lt p n) ns

-- a candidate's list names programmes of the market, none twice
abbrev pub is_list : MarketRows → ℕ → Bool
is_list m x = is_list_below (length m.orders) (list_of m x)

-- an order has each candidate whose list names the programme, once, and nobody else
abbrev pub is_order : MarketRows → ℕ → Bool
is_order m p =
    is_distinct (market_order m p) && list_all (lists_it m p) (market_order m p)
    && list_all (λ x. is_among x (market_order m p)) (listers m p)

-- the first candidate whose list is none, and the first programme whose order is none
abbrev pub first_bad_list : MarketRows → Option ℕ
first_bad_list m = position (λ list. not (is_list_below (length m.orders) list)) m.lists

abbrev pub first_bad_order : MarketRows → Option ℕ
first_bad_order m = find (λ p. not (is_order m p)) (range_with_len 0 (length m.orders))

-- the rows of a market
pub record IsMarket (m : MarketRows) : Type 0 where
  pub one_seat_each : length m.seats ≡ length m.orders
  pub lists : (x : ℕ) → x < length m.lists → IsTrue (is_list m x)
  pub orders : (p : ℕ) → p < length m.orders → IsTrue (is_order m p)

-- at most 16 million candidates and as many programmes
pub record IsSmall (m : MarketRows) : Type 0 where
  pub candidates : length m.lists ≤ 16000000
  pub programmes : length m.orders ≤ 16000000

-- a market that the program holds
pub record IsSmallMarket (m : MarketRows) : Type 0 where
  pub valid : IsMarket m
  pub small : IsSmall m

-- the position of a candidate in the order of a programme, from 1; past the end if not in it
abbrev pub market_position : MarketRows → ℕ → ℕ → ℕ
market_position m p x = length (before_first (nat_eq x) (market_order m p)) + 1

-- the candidate at a position
abbrev pub candidate_at : MarketRows → ℕ → ℕ → ℕ
candidate_at m p r = slice_index (market_order m p) (r - 1)

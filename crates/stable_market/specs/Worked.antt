-- Two small markets, and what the definitions give on them.
use Rattle.std.specs.Prelude.{◌≡◌, true, [], ◌∷◌, Some, None}
use Rattle.admit_core.specs.Falls.{bars_after, falls_by, is_settled}
use Rattle.markets.specs.Markets.{MarketRows, first_bad_list, first_bad_order}
use Rattle.markets.specs.Matchings.{block_of}
use Rattle.markets.specs.Bars.{market_system, demanded, matched_under}

-- two candidates and two programmes: each candidate prefers the one that prefers the other
abbrev pub crossed : MarketRows
crossed =
    record {
      lists = (1 ∷ 0 ∷ []) ∷ (0 ∷ 1 ∷ []) ∷ [];
      orders = (0 ∷ 1 ∷ []) ∷ (1 ∷ 0 ∷ []) ∷ [];
      seats = 1 ∷ 1 ∷ [];
    }

-- three candidates for two seats: a third one who lists a programme that another leaves
abbrev pub contested : MarketRows
contested =
    record {
      lists = (0 ∷ 1 ∷ []) ∷ (0 ∷ 1 ∷ []) ∷ (1 ∷ []) ∷ [];
      orders = (0 ∷ 1 ∷ []) ∷ (1 ∷ 2 ∷ 0 ∷ []) ∷ [];
      seats = 1 ∷ 1 ∷ [];
    }

-- no bar falls, and each candidate has their first programme
pub record CrossedMarket : Type 0 where
  pub no_fall : is_settled (market_system crossed) (2 ∷ 2 ∷ []) ≡ true
  pub matched : matched_under crossed (2 ∷ 2 ∷ []) ≡ Some 1 ∷ Some 0 ∷ []
  -- the programmes' best matching is stable too, and worse for both candidates
  pub other_is_stable : block_of crossed (Some 0 ∷ Some 1 ∷ []) 0 ≡ None
  pub other_is_stable_for_both : block_of crossed (Some 0 ∷ Some 1 ∷ []) 1 ≡ None

-- the bars fall to the first of each, and the third candidate has no place
pub record ContestedMarket : Type 0 where
  pub first_demands : demanded contested (2 ∷ 3 ∷ []) 0 ≡ 1 ∷ 2 ∷ []
  pub bars : bars_after (2 ∷ 3 ∷ []) (falls_by (market_system contested) (2 ∷ 3 ∷ []) (0 ∷ 1 ∷ [])) ≡ 1 ∷ 1 ∷ []
  pub settled : is_settled (market_system contested) (1 ∷ 1 ∷ []) ≡ true
  pub matched : matched_under contested (1 ∷ 1 ∷ []) ≡ Some 0 ∷ Some 1 ∷ None ∷ []
  -- where the first two have each other's places, the first one blocks
  pub blocks : block_of contested (Some 1 ∷ Some 0 ∷ None ∷ []) 0 ≡ Some 0

-- a programme that a list names twice, and orders with a candidate left out or one too many
pub record RefusedRows : Type 0 where
  pub twice : first_bad_list (record { lists = (0 ∷ 0 ∷ []) ∷ []; orders = (0 ∷ []) ∷ []; seats = 1 ∷ [] }) ≡ Some 0
  pub out_of_range : first_bad_list (record { lists = (1 ∷ []) ∷ []; orders = (0 ∷ []) ∷ []; seats = 1 ∷ [] }) ≡ Some 0
  pub left_out : first_bad_order (record { lists = (0 ∷ []) ∷ (0 ∷ []) ∷ []; orders = (0 ∷ []) ∷ []; seats = 1 ∷ [] })
      ≡ Some 0
  pub not_listed : first_bad_order (record { lists = (0 ∷ []) ∷ [] ∷ []; orders = (0 ∷ 1 ∷ []) ∷ []; seats = 1 ∷ [] })
      ≡ Some 0
  pub both_stand : first_bad_order contested ≡ None

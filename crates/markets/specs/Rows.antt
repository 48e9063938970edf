-- What is tested of the orders of rows.
use Rattle.std.specs.Prelude.{ℕ, Bool, ◌&&◌, ◌==◌, List, length}
use Rattle.std.specs.List.{list_all}
use Rattle.admit_core.specs.Lists.{is_among}
use Rattle.markets.specs.Markets.{is_list_below}

-- an order of numbers below a count has these candidates, each once, and nobody else
abbrev pub has_all_of : ℕ → List ℕ → List ℕ → Bool
has_all_of n listers order =
    is_list_below n order && (length order == length listers)
    && list_all (λ x. is_among x order) listers

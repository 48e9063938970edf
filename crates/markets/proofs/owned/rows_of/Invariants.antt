use Rattle.std.proofs.Common.{◌≡◌, map, take, length}
use Rattle.markets.specs.Choices.{own_choices}
use Rattle.markets.proofs.owned.rows_of.Given as goal

abbrev pub invariant-loop-wish : goal.invariant-loop-wish
invariant-loop-wish l = record {
  laid : map (λ r. r.items) l.rows.items ≡ map (own_choices (take l.wish-index l.wishes)) l.names.keys;
  as_many : length l.rows.items ≡ length l.names.keys;
}

use Rattle.std.proofs.Common.{◌≡◌, map, take, []}
use Rattle.markets.specs.Choices.{own_choices}
use Rattle.markets.proofs.owned.empty_rows.Given as goal

abbrev pub invariant-loop-name : goal.invariant-loop-name
invariant-loop-name l = map (λ r. r.items) l.rows.items ≡ map (own_choices []) (take l.name l.names.keys)

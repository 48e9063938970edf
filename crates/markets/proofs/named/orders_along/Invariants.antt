use Rattle.std.proofs.Common.{◌≡◌, length, take}
use Rattle.admit_core.specs.Proposals.{order_of}
use Rattle.markets.specs.Dossiers.{called_in, counted}
use Rattle.markets.specs.Walks.{IsWalk}
use Rattle.markets.proofs.Calls.{AreDone}
use Rattle.markets.proofs.named.orders_along.Given as goal

abbrev pub invariant-loop-programme : goal.invariant-loop-programme
invariant-loop-programme l = record {
  walk : IsWalk l.names.keys l.orders.orders l.walk;
  as_many : length l.done.items ≡ l.count;
  each : AreDone (λ p. called_in (counted l.dossier) p (order_of l.dossier l.orders.orders p))
      (take l.programme-index l.programmes) l.done.items;
}

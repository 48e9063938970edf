use Rattle.std.proofs.Common.{◌≡◌, take}
use Rattle.indexmap.specs.IndexSet.{hasher_of}
use Rattle.markets.specs.Dossiers.{keyed_by_wishes, named}
use Rattle.markets.proofs.owned.named.Given as goal

abbrev pub invariant-loop-wish : goal.invariant-loop-wish
invariant-loop-wish l = record {
  names : l.names.keys ≡ named (take l.wish-index l.wishes);
  hashing : hasher_of l.names ≡ keyed_by_wishes l.wishes;
}

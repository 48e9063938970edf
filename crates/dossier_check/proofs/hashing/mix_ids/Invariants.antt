use Rattle.std.proofs.Common.{◌≡◌, fold, map, take}
use Rattle.keyed_hash.specs.Keys.{mixed_in}
use Rattle.dossier_check.proofs.hashing.mix_ids.Given as goal

abbrev pub invariant-loop-row : goal.invariant-loop-row
invariant-loop-row g l = l.key ≡ fold mixed_in l.fn.key (map (λ r. (g.Q.Key.key r, 0)) (take l.row-index l.rows))

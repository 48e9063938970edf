use Rattle.std.proofs.Common.{◌≡◌, drop, fold}
use Rattle.keyed_hash.specs.Keys.{mixed_in}
use Rattle.dossier_check.specs.Hashing.{changes}
use Rattle.dossier_check.proofs.hashing.mix_candidates.Given as goal

abbrev pub invariant-loop-row : goal.invariant-loop-row
invariant-loop-row l = fold mixed_in l.fn.key (changes 0 l.rows)
    ≡ fold mixed_in l.key (changes l.last (drop l.row-index l.rows))

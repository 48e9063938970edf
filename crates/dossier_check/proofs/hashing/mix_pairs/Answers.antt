use Rattle.std.proofs.Common.{fold, map, ap, ◌∙◌, arith}
use Rattle.std.proofs.lemmas.List.{take_all}
use Rattle.keyed_hash.specs.Keys.{mixed_in}
use Rattle.dossier_check.proofs.MixedNumbers.{mixed_more}
use Rattle.dossier_check.proofs.hashing.mix_pairs.Goals as goal

pub loop-row-preserved : goal.loop-row-preserved
loop-row-preserved g c =
    mixed_more mixed_in g.Q.Key.key c.args.key.now c.args.rows.now c.loop-row.row-index c.row-item.result
    c.loop-row.key c.mix.new.self c.key_of-one.result c.loop-row-test.true c.row-item.is c.loop-row.invariant
    c.key_of-one.ensures c.mix.ensures

pub returns : goal.returns
returns g c =
    c.loop-row.invariant
    ∙ ap (λ rows. fold mixed_in c.args.key.now (map g.Q.Key.key rows))
    (take_all c.loop-row.row-index c.args.rows.now (omega (arith, c.loop-row-test.false)))

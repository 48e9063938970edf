use Rattle.std.proofs.Common.{fold, map, ap, ◌∙◌, arith}
use Rattle.std.proofs.lemmas.List.{take_all}
use Rattle.keyed_hash.specs.Keys.{mixed_in}
use Rattle.dossier_check.proofs.MixedNumbers.{mixed_more}
use Rattle.dossier_check.proofs.hashing.mix_ids.Goals as goal

pub loop-row-preserved : goal.loop-row-preserved
loop-row-preserved g c =
    mixed_more mixed_in (λ r. (g.Q.Key.key r, 0)) c.args.key.now c.args.rows.now c.loop-row.row-index c.row-item.result
    c.loop-row.key c.mix.new.self (c.key_of.result, 0) c.loop-row-test.true c.row-item.is c.loop-row.invariant
    (ap (λ k. (k, 0)) c.key_of.ensures) c.mix.ensures

pub returns : goal.returns
returns g c =
    c.loop-row.invariant
    ∙ ap (λ rows. fold mixed_in c.args.key.now (map (λ r. (g.Q.Key.key r, 0)) rows))
    (take_all c.loop-row.row-index c.args.rows.now (omega (arith, c.loop-row-test.false)))

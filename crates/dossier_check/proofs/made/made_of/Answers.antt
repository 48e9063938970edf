use Rattle.std.proofs.Common.{map, ap, ◌∙◌, arith}
use Rattle.std.proofs.lemmas.List.{take_all}
use Rattle.dossier_check.proofs.MadeItems.{made_more}
use Rattle.dossier_check.proofs.made.made_of.Goals as goal

pub loop-number-preserved : goal.loop-number-preserved
loop-number-preserved g c =
    made_more (g.M.Makes.made c.args.maker.now) c.args.rows.now c.loop-number.number c.index-rows-number.result
    c.loop-number.items.items c.push.new.self.items c.make.result c.loop-number-test.true c.index-rows-number.is
    c.loop-number.invariant c.make.ensures c.in_ok-push.ensures.items

pub returns-clause-made : goal.returns-clause-made
returns-clause-made g c =
    c.loop-number.invariant
    ∙ ap (map (g.M.Makes.made c.args.maker.now))
    (take_all c.loop-number.number c.args.rows.now (omega (arith, c.loop-number-test.false)))

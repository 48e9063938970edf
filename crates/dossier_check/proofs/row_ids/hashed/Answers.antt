use Rattle.std.proofs.Common.{◌∙◌}
use Rattle.dossier_check.proofs.RisingIds.{set_more}
use Rattle.dossier_check.proofs.row_ids.hashed.Goals as goal

pub loop-id-preserved : goal.loop-id-preserved
loop-id-preserved c =
    c.in_ok-insert.ensures.keys ∙ set_more c.args.ids.now c.loop-id.set.keys c.loop-id.id-index 0 c.requires
    c.loop-id-test.true c.loop-id.invariant

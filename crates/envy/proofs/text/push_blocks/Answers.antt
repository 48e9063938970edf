use Rattle.std.proofs.Common.{None, arith}
use Rattle.envy.specs.declared.blocks.Block.{Block}
use Rattle.envy.specs.Text.{block_line}
use Rattle.report.proofs.Pushing.{cut_item, cut_off, pushed_item}
use Rattle.envy.proofs.text.push_blocks.Goals as goal

abbrev nobody : Block
nobody = record { wish = 0; left = 0; envied = None }

pub push_block-requires : goal.push_block-requires
push_block-requires c = c.requires c.loop-block.block-index _ c.loop-block-test.true

pub returns-in_err-push_block-clause-all : goal.returns-in_err-push_block-clause-all
returns-in_err-push_block-clause-all c =
    cut_off c.from_residual.result c.from_residual.ensures.0
    (cut_item (block_line c.args.dossier.now) c.args.blocks.now c.loop-block.block-index nobody (omega arith)
    c.loop-block.invariant c.in_err-push_block.ensures)

pub loop-block-preserved : goal.loop-block-preserved
loop-block-preserved c =
    pushed_item (block_line c.args.dossier.now) c.args.blocks.now c.loop-block.block-index nobody (omega arith)
    c.loop-block.invariant c.in_ok-push_block.ensures

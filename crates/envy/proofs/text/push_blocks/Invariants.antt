use Rattle.std.proofs.Common.{flat_map, take}
use Rattle.envy.specs.Text.{block_line}
use Rattle.report.specs.Pushes.{IsPushed}
use Rattle.envy.proofs.text.push_blocks.Given as goal

abbrev pub invariant-loop-block : goal.invariant-loop-block
invariant-loop-block l = IsPushed l.fn.text l.text (flat_map (block_line l.dossier) (take l.block-index l.blocks))

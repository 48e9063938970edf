use Rattle.std.proofs.Common.{take}
use Rattle.report.specs.Pieces.{all_text}
use Rattle.report.specs.Pushes.{IsPushed}
use Rattle.report.proofs.piece.push_all.Given as goal

abbrev pub invariant-loop-piece : goal.invariant-loop-piece
invariant-loop-piece l = IsPushed l.fn.text l.text (all_text (take l.piece-index l.pieces))

use Rattle.std.proofs.Common.{arith}
use Rattle.report.specs.Pieces.{piece_text}
use Rattle.report.proofs.Pushing.{cut_item, cut_off}
use Rattle.report.proofs.piece.push_all.Goals as goal

pub returns-in_err-push_piece : goal.returns-in_err-push_piece
returns-in_err-push_piece c =
    cut_off c.from_residual.result c.from_residual.ensures.0
    (cut_item piece_text c.args.pieces.now c.loop-piece.piece-index _ (omega arith) c.loop-piece.invariant
    c.in_err-push_piece.ensures)

use Rattle.morning_cli.proofs.Mornings.{indexed}
use Rattle.morning_cli.proofs.Taking.{replies_lacking}
use Rattle.morning_cli.proofs.answer.answer.Goals as goal

pub play_out-requires-clause-indexed : goal.play_out-requires-clause-indexed
play_out-requires-clause-indexed g c = indexed _ _ _ (c.in-Ok.asked, c.in-Ok.input) c.in-Ok.ensures

pub returns-in_err-line-clause-replies : goal.returns-in_err-line-clause-replies
returns-in_err-line-clause-replies g c = replies_lacking _ _ _ c.from_residual.result c.from_residual.ensures.0

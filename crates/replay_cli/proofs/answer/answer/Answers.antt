use Rattle.replay_cli.proofs.Replying.{replies_lacking, replies_played, replies_stopped}
use Rattle.replay_cli.proofs.Taking.{indexed_in, named_in}
use Rattle.replay_cli.proofs.answer.answer.Goals as goal

pub play_out-requires-clause-named : goal.play_out-requires-clause-named
play_out-requires-clause-named g c = named_in c.in-Ok.request _ c.in-Ok.input c.in-Ok.ensures.input

pub play_out-requires-clause-indexed : goal.play_out-requires-clause-indexed
play_out-requires-clause-indexed g c = indexed_in c.in-Ok.request _ c.in-Ok.input c.in-Ok.ensures.input

pub returns-in-Ok-clause-replies : goal.returns-in-Ok-clause-replies
returns-in-Ok-clause-replies g c =
    replies_played _ _ _ _ _ (c.in-Ok.request, c.in-Ok.input) c.in-Ok.ensures c.play_out.ensures.back
    c.play_out.ensures.idle c.play_out.result c.play_out.ensures.ends

pub returns-in-Err-clause-replies : goal.returns-in-Err-clause-replies
returns-in-Err-clause-replies g c = replies_stopped _ _ _ _ c.in-Err.stop c.stopped.result c.in-Err.ensures
    c.stopped.ensures.line c.stopped.ensures.memory

pub returns-in_err-line-clause-replies : goal.returns-in_err-line-clause-replies
returns-in_err-line-clause-replies g c = replies_lacking _ _ _ c.from_residual.result c.from_residual.ensures.0

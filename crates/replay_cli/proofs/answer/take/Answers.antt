use Rattle.replay_cli.proofs.Taking.{takes_input, takes_stop, takes_unread}
use Rattle.replay_cli.proofs.answer.take.Goals as goal

pub returns-in_err-request : goal.returns-in_err-request
returns-in_err-request g c = takes_unread _ _ c.in_err-request.field-0.0 c.from_residual.result
    c.in_err-request.ensures.value c.from_residual.ensures.1

pub returns-in_err-input : goal.returns-in_err-input
returns-in_err-input g c =
    takes_stop _ c.in_ok-request.request _ _ c.in_ok-request.ensures.value c.in_err-input.field-0.0
    c.from_residual-in_err-input.result c.in_err-input.ensures c.from_residual-in_err-input.ensures.1

pub returns : goal.returns
returns g c = takes_input _ c.in_ok-request.request _ _ c.in_ok-request.ensures.value c.in_ok-input.input
    c.in_ok-request.ensures.known c.in_ok-input.ensures

use Rattle.modes.proofs.CheckedDay.{reply_as_tested}
use Rattle.modes.proofs.checked.check_and_reply.Goals as goal

pub returns : goal.returns
returns c = reply_as_tested c.args.input.now.dossier _ _ c.check_chain-tested.result c.reply_after_test.result
    c.check_chain-tested.ensures.tells c.check_chain-tested.ensures.text c.reply_after_test.ensures

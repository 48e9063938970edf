use Rattle.std.proofs.Common.{refl}
use Rattle.std.specs.Option.{option_copied}
use Rattle.request.specs.declared.modes.Mode.TheVariants.{Chain, Check, Envy, Explain, Order, Replay, Sample}
use Rattle.modes.proofs.CheckedDay.{chain_written}
use Rattle.modes.proofs.Lending.{ends_unasked}
use Rattle.modes.proofs.endings.reply_by_mode.Goals as goal

pub reply_to_chain-requires : goal.reply_to_chain-requires
reply_to_chain-requires g c =
    chain_written c.args.task.now.input.now.dossier (option_copied c.args.task.now.dated) c.args.played.days.items
    c.requires.can.days

pub returns-in-Order-clause-ends : goal.returns-in-Order-clause-ends
returns-in-Order-clause-ends g c =
    ends_unasked Order c.in-Order.is refl c.reply_to_order.result c.reply_to_order.ensures.ends

pub returns-in-Replay-clause-ends : goal.returns-in-Replay-clause-ends
returns-in-Replay-clause-ends g c =
    ends_unasked Replay c.in-Replay.is refl c.reply_to_replay.result c.reply_to_replay.ensures

pub returns-in-Chain-clause-ends : goal.returns-in-Chain-clause-ends
returns-in-Chain-clause-ends g c =
    ends_unasked Chain c.in-Chain.is refl c.reply_to_chain.result c.reply_to_chain.ensures

pub returns-in-Check-clause-ends : goal.returns-in-Check-clause-ends
returns-in-Check-clause-ends g c =
    ends_unasked Check c.in-Check.is refl c.reply_to_check.result c.reply_to_check.ensures

pub returns-in-Explain-clause-ends : goal.returns-in-Explain-clause-ends
returns-in-Explain-clause-ends g c =
    ends_unasked (Explain c.in-Explain.wish) c.in-Explain.is refl c.reply_to_explain.result c.reply_to_explain.ensures

pub returns-in-Envy-clause-ends : goal.returns-in-Envy-clause-ends
returns-in-Envy-clause-ends g c =
    ends_unasked Envy c.in-Envy.is refl c.reply_to_envy.result c.reply_to_envy.ensures

pub returns-in-Sample-clause-ends : goal.returns-in-Sample-clause-ends
returns-in-Sample-clause-ends g c =
    ends_unasked (Sample c.in-Sample.number) c.in-Sample.is refl c.reply_to_sample.result c.reply_to_sample.ensures

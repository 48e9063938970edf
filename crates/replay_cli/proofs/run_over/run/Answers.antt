use Rattle.replay_cli.proofs.Writing.{delivered, hidden}
use Rattle.replay_cli.proofs.run_over.run.Goals as goal

pub returns-clause-is_run : goal.returns-clause-is_run
returns-clause-is_run g c = delivered _ _ _ c.deliver.ensures.counts c.answer.result _ c.answer.ensures.replies
    c.deliver.ensures.delivers

pub returns-clause-hides : goal.returns-clause-hides
returns-clause-hides g c = hidden _ _ _ c.deliver.ensures.counts _ c.answer.result _ c.answer.ensures.replies
    c.deliver.ensures.delivers c.deliver.ensures.memory

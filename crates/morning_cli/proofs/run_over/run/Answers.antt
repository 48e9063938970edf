use Rattle.morning_cli.proofs.Told.{hidden, outcome_written}
use Rattle.morning_cli.proofs.run_over.run.Goals as goal

pub returns-clause-is_run : goal.returns-clause-is_run
returns-clause-is_run g c = record {
  reply = c.answer.result;
  replies = c.answer.ensures.replies;
  delivers = c.deliver.ensures.delivers;
  outcome = outcome_written _ _ _ c.answer.result _ c.answer.ensures.replies c.deliver.ensures.delivers;
}

pub returns-clause-hides : goal.returns-clause-hides
returns-clause-hides g c = hidden _ _ _ _ c.answer.result _ c.answer.ensures.replies c.deliver.ensures.delivers
    c.deliver.ensures.memory

use Rattle.outcome_laws.proofs.ReplayTexts.{dated_replays_are_run_texts, replays_are_run_texts}
use Rattle.outcome_laws.proofs.laws.laws_of_replay_texts.Goals as goal

pub returns : goal.returns
returns c = record { plain = replays_are_run_texts; dated = dated_replays_are_run_texts }

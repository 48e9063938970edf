-- The text of the mode `replay` is the text of a run: the two read alike.
use Rattle.std.proofs.Common.{refl}
use Rattle.outcome_laws.specs.ReplayTexts.{DatedReplaysAreRunTexts, ReplaysAreRunTexts}

pub replays_are_run_texts : ReplaysAreRunTexts
replays_are_run_texts d run = refl

pub dated_replays_are_run_texts : DatedReplaysAreRunTexts
dated_replays_are_run_texts d dated run = refl

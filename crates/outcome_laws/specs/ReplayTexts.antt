-- What joins the text of the mode `replay` with the laws that it hides nothing.
use Rattle.std.specs.Prelude.{◌≡◌, None, Some}
use Rattle.admit_core.specs.DossierRows.{DossierRows}
use Rattle.intake.specs.declared.terms.DatedTerms.{DatedTerms}
use Rattle.modes.specs.Replay.{replay_text}
use Rattle.report_laws.specs.Whole.{Run, dated_run_text, run_text}

-- what `replay` writes without deadlines is the text that tells a run's orders, days and final
-- statuses
abbrev pub ReplaysAreRunTexts : Type 0
ReplaysAreRunTexts =
    (d : DossierRows) (run : Run)
    → replay_text d None run.orders run.days run.evening ≡ run_text d run

-- and so it is with deadlines
abbrev pub DatedReplaysAreRunTexts : Type 0
DatedReplaysAreRunTexts =
    (d : DossierRows) (dated : DatedTerms) (run : Run)
    → replay_text d (Some dated) run.orders run.days run.evening
    ≡ dated_run_text d dated.start dated.terms.term dated.terms.before run

use Rattle.std.proofs.Common.{flat_map, take}
use Rattle.report.specs.Pushes.{IsPushed}
use Rattle.report.specs.SampleText.{day_summary}
use Rattle.report.proofs.sample.push_summaries.Given as goal

abbrev pub invariant-loop-day : goal.invariant-loop-day
invariant-loop-day l = IsPushed l.fn.text l.text (flat_map day_summary (take l.day-index l.days))

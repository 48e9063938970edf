use Rattle.std.proofs.Common.{◌≡◌, ◌+◌, count_by}
use Rattle.admit_core.specs.State.{is_gone, is_live, is_waiting}
use Rattle.report.specs.SampleText.{marks_until}
use Rattle.report.proofs.sample.wish_counts.Given as goal

abbrev pub invariant-loop-wish : goal.invariant-loop-wish
invariant-loop-wish l = record {
  live : l.counts.live ≡ count_by is_live (marks_until l.state l.wish);
  waiting : l.counts.waiting ≡ count_by is_waiting (marks_until l.state l.wish);
  gone : l.counts.gone ≡ count_by is_gone (marks_until l.state l.wish);
  total : l.counts.live + l.counts.waiting + l.counts.gone ≡ l.wish;
}

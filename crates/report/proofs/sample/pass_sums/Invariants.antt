use Rattle.std.proofs.Common.{◌≡◌, ◌*◌, ◌^◌, ◌≤◌, sum_by, take}
use Rattle.report.specs.SampleText.{falls_in, offers_in}
use Rattle.report.proofs.sample.pass_sums.Given as goal

abbrev pub invariant-loop-end : goal.invariant-loop-end
invariant-loop-end l = record {
  falls : l.sums.falls ≡ sum_by falls_in (take l.end-index l.passes);
  offers : l.sums.offers ≡ sum_by offers_in (take l.end-index l.passes);
  falls_bound : l.sums.falls ≤ l.end-index * 2 ^ 64;
  offers_bound : l.sums.offers ≤ l.end-index * 2 ^ 64;
}

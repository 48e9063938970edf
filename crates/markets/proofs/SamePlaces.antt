-- Whichever programme falls first, the bars end at the greatest, and these are unique.
use Rattle.std.proofs.Common.{ap}
use Rattle.admit_core.proofs.FallsLaw.{run_is_greatest}
use Rattle.bar_fixpoint.proofs.RunLaws.{unique_greatest}
use Rattle.markets.specs.Bars.{market_system, matched_under}
use Rattle.markets.specs.Laws.{TheSameWhicheverFallsFirst}
use Rattle.markets.proofs.Lawful.{market_is_lawful}

pub same_places : TheSameWhicheverFallsFirst
same_places = λ m falls others is run other_run.
    ap (matched_under m)
    (unique_greatest (market_system m) _ _ (run_is_greatest (market_system m) (market_is_lawful m is) falls run)
    (run_is_greatest (market_system m) (market_is_lawful m is) others other_run))

use Rattle.std.proofs.Common.{◌≡◌, zip}
use Rattle.std.specs.List.{enumerate_from}
use Rattle.desk_day.proofs.Listed.{listed}
use Rattle.desk_day.proofs.LapsedOffers.{lapse_of, is_lapse}
use Rattle.desk_day.proofs.lapses.lapses_on.Given as goal

abbrev pub invariant-loop-wish : goal.invariant-loop-wish
invariant-loop-wish l = l.lapsed.items ≡ listed lapse_of (is_lapse l.terms.term l.day)
    (enumerate_from 0 (zip l.terms.before l.state.marks)) l.wish

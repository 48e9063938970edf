use Rattle.std.proofs.Common.{flat_map, take}
use Rattle.report.specs.DayText.{offer_line}
use Rattle.report.specs.Pushes.{IsPushed}
use Rattle.report.proofs.day.push_offers.Given as goal

abbrev pub invariant-loop-wish : goal.invariant-loop-wish
invariant-loop-wish l = IsPushed l.fn.text l.text (flat_map (offer_line l.dossier) (take l.wish-index l.offers))

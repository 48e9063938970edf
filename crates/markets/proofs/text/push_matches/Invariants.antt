use Rattle.std.proofs.Common.{flat_map, take, zip}
use Rattle.report.specs.Pushes.{IsPushed}
use Rattle.markets.specs.Text.{match_line}
use Rattle.markets.proofs.text.push_matches.Given as goal

abbrev pub invariant-loop-at : goal.invariant-loop-at
invariant-loop-at l =
    IsPushed l.fn.text l.text (flat_map (match_line l.dossier) (take l.at (zip l.candidates l.places)))

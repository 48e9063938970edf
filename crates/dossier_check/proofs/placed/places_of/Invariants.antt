use Rattle.std.proofs.Common.{◌≡◌, take}
use Rattle.dossier_check.specs.Dealt.{places_by}
use Rattle.dossier_check.proofs.placed.places_of.Given as goal

abbrev pub invariant-loop-row : goal.invariant-loop-row
invariant-loop-row g l = l.places.items ≡ places_by g.Q.Key.key l.ids.keys (take l.row-index l.rows)

use Rattle.std.proofs.Common.{◌≡◌, map, filter, take}
use Rattle.demand.specs.Needs.{needs_bed, demand_in}
use Rattle.demand.proofs.demands.demands_by_place.Given as goal

abbrev pub invariant-loop-place : goal.invariant-loop-place
invariant-loop-place l =
    l.demands.items ≡ map (demand_in l.state.dossier.wishes)
    (filter (needs_bed l.state l.school) (take l.place-index l.places))

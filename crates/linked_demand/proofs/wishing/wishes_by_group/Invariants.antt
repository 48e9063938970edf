use Rattle.std.proofs.Common.{length, take}
use Rattle.linked_demand.specs.Called.{is_of_group}
use Rattle.linked_demand.specs.Claims.{application_at}
use Rattle.linked_demand.specs.Keyed.{AreRowsOf}
use Rattle.linked_demand.proofs.wishing.wishes_by_group.Given as goal

abbrev pub invariant-loop-place : goal.invariant-loop-place
invariant-loop-place l =
    AreRowsOf (application_at l.state.dossier) (is_of_group l.state.dossier) (length l.state.dossier.groups)
    (take l.place-index l.places) l.wishes.items

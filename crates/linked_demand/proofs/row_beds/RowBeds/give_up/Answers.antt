use Rattle.std.proofs.Common.{◌∷◌, arith, refl, subst, true}
use Rattle.admit_core.proofs.Tests.{Ascends}
use Rattle.linked_demand.specs.Housed.{ranks_of}
use Rattle.linked_demand.specs.Rungs.{rungs_of, BedRow}
use Rattle.linked_demand.proofs.RowBeds.{ranks_up}
use Rattle.linked_demand.proofs.RowRungs.{some_beds}
use Rattle.linked_demand.proofs.RungSteps.{front_gives, front_some, front_step}
use Rattle.linked_demand.proofs.row_beds.RowBeds.give_up.Goals as goal

pub step_back-requires : goal.step_back-requires
step_back-requires c =
    let b = c.places.self in
    some_beds b.row b.flags b.known
    (omega (arith, c.requires, front_some (rungs_of c.args.self.now) (rungs_of b) c.places.invariant))

pub returns-in-Some : goal.returns-in-Some
returns-in-Some c =
    let P = λ (b : BedRow). Ascends (0 ∷ ranks_of (rungs_of b)) in
    front_gives (rungs_of c.args.self.now) (rungs_of c.places.self) (rungs_of c.step_back.new.self)
    (record { rank = c.in-Some.rank; housed = true })
    (subst P c.self.view_is (ranks_up c.self.invariant)) c.places.invariant c.in-Some.ensures.housed refl

pub places-preserved : goal.places-preserved
places-preserved c =
    front_step (rungs_of c.args.self.now) (rungs_of c.places.self) (rungs_of c.step_back.new.self)
    c.places.invariant c.in_default.ensures.bare

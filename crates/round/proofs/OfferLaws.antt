-- The laws of passes.
use Rattle.std.proofs.Common.{ℕ, ◌<◌, ◌≡◌, List, map, length, inl, inr, ◌∙◌, arith}
use Rattle.std.specs.Prelude.{slice_index}
use Rattle.std.specs.List.{range_with_len}
use Rattle.std.proofs.lemmas.Bool.{cases_lt}
use Rattle.std.proofs.lemmas.List.{get_or_past}
use Rattle.std.proofs.lemmas.List.FromFn.{get_or-map-range_with_len}
use Rattle.admit_core.specs.State.{State, free_beds}
use Rattle.admit_core.specs.Boarding.{boarding}
use Rattle.admit_core.proofs.DemandLaws.{boarding_is_lawful}
use Rattle.round.specs.PassLaws.{OffersFitSeats, OffersFitBeds, GreatestBarsAreLoweredForBeds}
use Rattle.round.proofs.SeatLaw.{seats_suffice}
use Rattle.round.proofs.BedLaw.{length-new_bed_holders}
use Rattle.admit_core.proofs.FullBeds.{full_below}

-- the free beds of the system are those of the state
free_at : (s : State) (ceilings : List ℕ) (h : ℕ) → h < length ceilings
    → slice_index (map (free_beds s) (range_with_len 0 (length ceilings))) h ≡ free_beds s h
free_at s ceilings h lt = get_or-map-range_with_len (free_beds s) 0 (length ceilings) h h 0 lt (omega arith)

pub offers_fit_seats : OffersFitSeats
offers_fit_seats s orders bars stamp valid are p = seats_suffice s orders bars stamp valid are p

pub offers_fit_beds : OffersFitBeds
offers_fit_beds s orders ceilings bars stamp valid long fits h lt =
    let in_ceilings : h < length ceilings = omega (arith, long) in
    omega (
      arith,
      length-new_bed_holders s orders bars stamp valid h,
      fits.room h in_ceilings,
      free_at s ceilings h in_ceilings,
    )

pub lowered_for_beds : GreatestBarsAreLoweredForBeds
lowered_for_beds s orders ceilings bars stamp valid greatest h lower =
    let in_ceilings : h < length ceilings =
    elim (cases_lt h (length ceilings)) [
      | inl within ↦ within
      | inr past ↦ absurd (omega (arith, lower, get_or_past ceilings h 0 past))
    ] in
    length-new_bed_holders s orders bars stamp valid h
    ∙ full_below (boarding s orders ceilings) (boarding_is_lawful s orders ceilings) bars greatest h lower
    ∙ free_at s ceilings h in_ceilings

-- What a pass that was made keeps.
use Rattle.std.proofs.Common.{ℕ, ◌≡◌, List, length, sym, subst}
use Rattle.admit_core.specs.declared.ranking.CallOrder.{CallOrder}
use Rattle.admit_core.specs.declared.records.PassRecord.{PassRecord}
use Rattle.admit_core.specs.declared.state.Stamp.{Stamp}
use Rattle.admit_core.specs.CallOrder.{AreCallOrders}
use Rattle.admit_core.specs.Validity.{IsValid}
use Rattle.admit_core.specs.State.{State}
use Rattle.admit_core.specs.Days.{IsPass, offered}
use Rattle.round.specs.PassLaws.{KeepsPassLaws}
use Rattle.round.proofs.OfferLaws.{offers_fit_seats, offers_fit_beds, lowered_for_beds}
use Rattle.round.proofs.FewFalls.{falls_are_few}

pub laws_kept : (s new : State) (orders : List CallOrder) (ceilings : List ℕ) (stamp : Stamp) (found : PassRecord)
    → IsPass s orders ceilings found
    → new ≡ offered s orders found.bars stamp → IsValid s.dossier → AreCallOrders s.dossier.groups orders
    → length ceilings ≡ length s.dossier.schools
    → KeepsPassLaws s new ceilings found
laws_kept s new orders ceilings stamp found is_pass made valid called long =
    let P : State → Type 0 = λ t. KeepsPassLaws s t ceilings found in
    subst P (sym made) (record {
      seats = offers_fit_seats s orders found.bars stamp valid called;
      beds = offers_fit_beds s orders ceilings found.bars stamp valid long is_pass.greatest.fits;
      lowered = lowered_for_beds s orders ceilings found.bars stamp valid is_pass.greatest;
      few = falls_are_few s orders ceilings found.falls is_pass.falls.are_falls;
    })

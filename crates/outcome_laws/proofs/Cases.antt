-- The witnesses of the laws of outcomes.
use Rattle.std.proofs.Common.{◌≤◌, ℕ, List, [], ◌∷◌, None, length, lit≤, refl, subst, sym}
use Rattle.std.specs.Fmt.{digits}
use Rattle.std.proofs.lemmas.Bool.{leb-true}
use Rattle.admit_core.specs.CallOrder.{AreCallOrders}
use Rattle.admit_core.specs.State.{State}
use Rattle.admit_core.specs.WorkedRows.{last_marks, realistic, realistic_days, realistic_order}
use Rattle.admit_core.specs.declared.ranking.CallOrder.{CallOrder}
use Rattle.admit_core.proofs.Rows.{two_days_hold}
use Rattle.certificate.specs.ChainText.{chain_text}
use Rattle.fairness.proofs.Shown.{called}
use Rattle.modes.specs.declared.exit.Exit.{Exit}
use Rattle.modes.specs.declared.exit.Exit.TheVariants.{Done}
use Rattle.modes.specs.Checking.{proved_text}
use Rattle.modes.specs.Market.{TellsMarket}
use Rattle.outcome_laws.proofs.BestMarkets.{markets_tell_the_best}
use Rattle.outcome_laws.proofs.OwnTexts.{ends_as}
use Rattle.outcome_laws.specs.Witnesses.{MarketsTellTheBestWitness, OwnTextsAreProvedWitness, crossed_orders}
use Rattle.outcome_laws.specs.Witnesses.{crossed_wishes}
use Rattle.law_cases.proofs.MarketCases.{crossed_bars}
use Rattle.law_cases.proofs.Valid.{valid_by}

fits_a_slot : length (chain_text realistic realistic_days) ≤ 1073741824
unfolding digits
fits_a_slot = leb-true (length (chain_text realistic realistic_days)) 1073741824 refl

pub own_texts_are_proved_here : OwnTextsAreProvedWitness
own_texts_are_proved_here =
    let valid = valid_by realistic refl in
    let orders : List CallOrder = realistic_order ∷ [] in
    let evening : State = record { dossier = realistic; marks = last_marks } in
    let ends = ends_as realistic None orders realistic_days evening valid (lit≤ tt) fits_a_slot two_days_hold.1 in
    let text : List ℕ = proved_text 2 evening None in
    let checked = subst (λ (Ends : Exit → List ℕ → Type 0). Ends Done text) (sym ends) (refl, refl) in
    (valid, lit≤ tt, fits_a_slot, two_days_hold.1, checked, refl, refl)

pub markets_tell_the_best_here : MarketsTellTheBestWitness
markets_tell_the_best_here =
    let valid = valid_by crossed_wishes refl in
    let orders_called : AreCallOrders crossed_wishes.groups crossed_orders =
    (called 2 _ _ refl (refl, (refl, tt)) (λ k. refl), (called 2 _ _ refl (refl, (refl, tt)) (λ k. refl), tt)) in
    let tells : TellsMarket crossed_wishes crossed_orders _ =
    record { bars = 2 ∷ 2 ∷ []; greatest = crossed_bars; is_text = refl } in
    (valid, orders_called, tells, markets_tell_the_best crossed_wishes crossed_orders _ valid orders_called tells)

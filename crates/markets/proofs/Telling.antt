-- What the text of a dossier's market rests on: a bar for each programme, and places in programmes of the dossier.
use Rattle.std.proofs.Common.{ℕ, ◌<◌, ◌≡◌, List, length, ◌∙◌, arith}
use Rattle.std.specs.Prelude.{All, Option, None}
use Rattle.std.specs.Option.{ForSome}
use Rattle.std.proofs.lemmas.List.{length-map, get_or_default}
use Rattle.admit_core.specs.CallOrder.{AreCallOrders}
use Rattle.admit_core.specs.DossierRows.{DossierRows}
use Rattle.admit_core.specs.Falls.{IsGreatest}
use Rattle.admit_core.specs.Validity.{IsValid}
use Rattle.admit_core.specs.declared.ranking.CallOrder.{CallOrder}
use Rattle.markets.specs.Bars.{market_system}
use Rattle.markets.specs.Dossiers.{market_of}
use Rattle.markets.specs.Matchings.{IsStable}
use Rattle.markets.proofs.Positions.{is_programme}
use Rattle.markets.proofs.Called.{market_stands, orders_long}

module _ (d : DossierRows) (valid : IsValid d) (orders : List CallOrder) (are : AreCallOrders d.groups orders) where
  pub bar_each : (bars : List ℕ) → IsGreatest (market_system (market_of d orders)) bars
      → length bars ≡ length d.programmes
  bar_each bars greatest =
      greatest.fits.under_ceilings.as_many ∙ length-map (market_of d orders).orders length
      ∙ orders_long d valid orders are

  pub places_there : (places : List (Option ℕ)) → IsStable (market_of d orders) places
      → All (λ place. ForSome place (λ p. p < length d.programmes)) places
  places_there places stable = λ k e lt p at.
      let listed = stable.matching.listed k p (get_or_default places k None e lt ∙ at) in
      omega (
        arith,
        is_programme (market_of d orders)
            (market_stands d valid orders are) p k listed,
        orders_long d valid orders are,
      )

-- The market that was solved, and what the picker told as it was.
use Rattle.std.proofs.Common.{◌≡◌, ◌∙◌, ℕ, List, ◌++◌, Option, Result, Ok, Err, IfOk, refl, subst, ap}
use Rattle.admit_core.specs.DossierRows.{DossierRows}
use Rattle.admit_core.specs.Falls.{IsGreatest}
use Rattle.admit_core.specs.declared.ranking.CallOrder.{CallOrder}
use Rattle.bar_fixpoint.specs.Chosen.{TellsOfFalls}
use Rattle.bar_fixpoint.specs.Runs.{schools_of}
use Rattle.markets.specs.Bars.{market_system, matched_under}
use Rattle.markets.specs.Dossiers.{market_candidates, market_of}
use Rattle.markets.specs.Markets.{MarketRows}
use Rattle.markets.specs.Solving.{IsLedTo}
use Rattle.markets.specs.Text.{market_text}
use Rattle.modes.specs.LentPicker.{TellsPicks}
use Rattle.modes.specs.Market.{BreaksMarket, PicksForMarket, TellsMarket}
use Rattle.round.proofs.EarlyEnds.{told_of_all}

module _ (d : DossierRows) (orders : List CallOrder) (m : MarketRows) (same : m ≡ market_of d orders) where
  pub tells_market : (candidates bars : List ℕ) (places : List (Option ℕ)) (text : List ℕ)
      → candidates ≡ market_candidates d → IsGreatest (market_system m) bars
      → places ≡ matched_under m bars → text ≡ market_text d candidates bars places → TellsMarket d orders text
  tells_market candidates bars places text named greatest under is =
      record {
        bars = bars;
        greatest = subst (λ (x : MarketRows). IsGreatest (market_system x) bars) same greatest;
        is_text = is ∙ ap (λ (cs : List ℕ). market_text d cs bars places) named
            ∙ ap (market_text d (market_candidates d) bars)
            (under ∙ ap (λ (x : MarketRows). matched_under x bars) same);
      }

  pub picks_market : (choice : List ℕ → List ℕ → ℕ) (told after bars : List ℕ)
      → IsLedTo (market_system m) choice told after bars
      → TellsPicks (PicksForMarket d orders choice told) told after
  picks_market choice told after bars led = (
    schools_of led.falls,
    record {
      bars = bars;
      led = subst (λ (x : MarketRows). IsLedTo (market_system x) choice told (told ++ schools_of led.falls) bars) same
          (subst (λ (a : List ℕ). IsLedTo (market_system m) choice told a bars) led.told_of led);
    },
    led.told_of,
  )

  -- where memory ran out, in the midst of the falls or behind them
  pub breaks_market : (choice : List ℕ → List ℕ → ℕ) (told after : List ℕ)
      → TellsOfFalls (market_system m) choice told after → BreaksMarket d orders choice told after
  breaks_market choice told after falls =
      subst (λ (x : MarketRows). TellsOfFalls (market_system x) choice told after) same falls

  pub breaks_solved : (choice : List ℕ → List ℕ → ℕ) (told after bars : List ℕ)
      → IsLedTo (market_system m) choice told after bars → BreaksMarket d orders choice told after
  breaks_solved choice told after bars led =
      breaks_market choice told after
      (told_of_all (market_system m) (market_system m) choice told after led.falls refl led.is_run led.chosen
      led.told_of)

-- what holds whatever the text is
pub always : {T E X : Type 0} (r : Result T E) → X → IfOk r (λ t. X)
always (Ok t) x = x
always (Err e) x = tt

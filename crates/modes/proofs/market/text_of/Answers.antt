use Rattle.std.proofs.Common.{◌≡◌, subst}
use Rattle.std.proofs.lemmas.Result.{IfOk-weaker}
use Rattle.admit_core.proofs.Plain.{on_err}
use Rattle.admit_core.specs.DossierRows.{DossierRows}
use Rattle.admit_core.specs.Falls.{IsGreatest}
use Rattle.admit_core.specs.Validity.{IsValid}
use Rattle.markets.specs.Bars.{market_system}
use Rattle.markets.specs.Markets.{MarketRows}
use Rattle.markets.specs.Matchings.{IsStable}
use Rattle.markets.specs.Text.{market_text}
use Rattle.markets.proofs.Telling.{bar_each, places_there}
use Rattle.modes.specs.Market.{TellsMarket}
use Rattle.modes.proofs.Marketing.{always, breaks_market, breaks_solved, picks_market, tells_market}
use Rattle.modes.proofs.market.text_of.Goals as goal

pub market_text-requires-clause-bars : goal.market_text-requires-clause-bars
market_text-requires-clause-bars g c =
    let P : DossierRows → Type 0 = IsValid in
    let bars = c.in_ok-solved.solved.bars.items in
    bar_each c.args.dossier.now (subst P c.dossier.view_is c.dossier.invariant) c.args.orders.now.orders
    c.requires.orders bars
    (subst (λ (m : MarketRows). IsGreatest (market_system m) bars) c.requires.market c.in_ok-solved.ensures.greatest)

pub market_text-requires-clause-places : goal.market_text-requires-clause-places
market_text-requires-clause-places g c =
    let P : DossierRows → Type 0 = IsValid in
    let places = c.in_ok-solved.solved.places.items in
    places_there c.args.dossier.now (subst P c.dossier.view_is c.dossier.invariant) c.args.orders.now.orders
    c.requires.orders places
    (subst (λ (m : MarketRows). IsStable m places) c.requires.market c.in_ok-solved.ensures.stable)

pub returns-clause-text : goal.returns-clause-text
returns-clause-text g c =
    let d = c.args.dossier.now in
    let orders = c.args.orders.now.orders in
    let candidates = c.args.named.now.candidates.items in
    let bars = c.in_ok-solved.solved.bars.items in
    let places = c.in_ok-solved.solved.places.items in
    IfOk-weaker c.market_text.result (λ text. text.items ≡ market_text d candidates bars places)
    (λ text. TellsMarket d orders text.items)
    (λ text is.
    tells_market d orders c.args.named.now.market c.requires.market candidates bars places text.items
    c.requires.candidates c.in_ok-solved.ensures.greatest
    c.in_ok-solved.ensures.places is)
    c.market_text.ensures

pub returns-clause-picks : goal.returns-clause-picks
returns-clause-picks g c =
    always c.market_text.result
    (picks_market c.args.dossier.now c.args.orders.now.orders c.args.named.now.market c.requires.market _ _ _
    c.in_ok-solved.solved.bars.items c.in_ok-solved.ensures.asked.led)

pub returns-clause-breaks : goal.returns-clause-breaks
returns-clause-breaks g c =
    on_err c.market_text.result
    (breaks_solved c.args.dossier.now c.args.orders.now.orders c.args.named.now.market c.requires.market _ _ _
    c.in_ok-solved.solved.bars.items c.in_ok-solved.ensures.asked.led)

pub returns-in_err-solved-clause-breaks : goal.returns-in_err-solved-clause-breaks
returns-in_err-solved-clause-breaks g c =
    on_err c.from_residual.result
    (breaks_market c.args.dossier.now c.args.orders.now.orders c.args.named.now.market c.requires.market _ _ _
    c.in_err-solved.ensures.asked.told_by_then)

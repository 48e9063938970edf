use Rattle.std.proofs.Common.{map, refl, sym, ap, subst, ◌∙◌}
use Rattle.admit_core.specs.DossierRows.{DossierRows}
use Rattle.admit_core.specs.Validity.{IsValid}
use Rattle.markets.specs.Markets.{IsSmallMarket}
use Rattle.markets.specs.Dossiers.{by_preference, counted, own}
use Rattle.markets.proofs.Called.{market_is, market_stands, market_small}
use Rattle.markets.proofs.named.from_dossier.Goals as goal

pub invariant_of-market : goal.invariant_of-market
invariant_of-market c =
    let d = c.args.dossier.now in
    let orders = c.args.orders.now.orders in
    let P : DossierRows → Type 0 = IsValid in
    let valid = subst P c.dossier.view_is c.dossier.invariant in
    let names = c.in_ok-listed.ensures.names in
    let lists = c.into_lists.ensures ∙ c.in_ok-listed.ensures.lists
    ∙ ap (map (λ k. by_preference (own (counted d) k))) (sym names) in
    subst IsSmallMarket
    (sym (market_is d orders (counted d) _ _ c.in_ok-orders.orders.items c.in_ok-seats.seats.items
    refl names lists c.in_ok-orders.ensures c.in_ok-seats.ensures))
    (record { valid = market_stands d valid orders c.requires; small = market_small d valid orders c.requires })

pub returns-clause-market : goal.returns-clause-market
returns-clause-market c =
    let d = c.args.dossier.now in
    let orders = c.args.orders.now.orders in
    let names = c.in_ok-listed.ensures.names in
    let lists = c.into_lists.ensures ∙ c.in_ok-listed.ensures.lists
    ∙ ap (map (λ k. by_preference (own (counted d) k))) (sym names) in
    market_is d orders (counted d) _ _ c.in_ok-orders.orders.items c.in_ok-seats.seats.items
    refl names lists c.in_ok-orders.ensures c.in_ok-seats.ensures

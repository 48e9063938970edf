use Rattle.std.proofs.Common.{ℕ, List, ◌∙◌, sym, ap}
use Rattle.markets.specs.Bars.{place_codes, matched_under}
use Rattle.markets.proofs.Rounds.{codes_fix}
use Rattle.markets.proofs.solution.solved_by.Goals as goal

pub returns-clause-places : goal.returns-clause-places
returns-clause-places c =
    let m = c.args.market.now in
    let bars : List ℕ = c.args.round.bars.items in
    let found = c.into_parts-bars.result in
    codes_fix found.1.items (matched_under m found.0.items)
    (c.into_parts-bars.ensures.places ∙ ap (λ (f : List ℕ → List ℕ). f bars) c.requires
    ∙ ap (place_codes m) (sym c.into_parts-bars.ensures.bars))

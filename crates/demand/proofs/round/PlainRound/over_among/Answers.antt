use Rattle.std.proofs.Common.{List, map, ◌∙◌, ap}
use Rattle.std.specs.Prelude.{slice_get}
use Rattle.proposals.specs.declared.demands.Demand.{Demand}
use Rattle.demand.proofs.Listed.{over_is}
use Rattle.demand.proofs.round.PlainRound.over_among.Goals as goal

pub returns : goal.returns
returns c =
    let s = c.args.self.now.state.now in
    let orders = c.args.self.now.orders.now.orders in
    let bars = c.args.self.now.bars.items in
    let free = c.beds_left.result in
    c.rank_at.ensures
    ∙ ap (λ (xs : List Demand). slice_get (map (λ (x : Demand). x.rank) xs) free)
    (c.deref.ensures.value ∙ c.in_ok-demands.ensures.proposed orders bars c.requires.places)
    ∙ over_is s orders c.args.self.now.ceilings.items bars c.args.school free c.requires.school c.beds_left.ensures

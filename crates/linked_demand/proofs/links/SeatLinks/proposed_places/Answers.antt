use Rattle.std.proofs.Common.{length, eqb}
use Rattle.std.proofs.lemmas.List.Filters.{dedup_is}
use Rattle.linked_demand.specs.Demand.{is_proposed_at}
use Rattle.linked_demand.proofs.Listing.{in_order_once}
use Rattle.linked_demand.proofs.links.SeatLinks.proposed_places.Goals as goal

pub returns : goal.returns
returns c =
    let row = c.args.self.now in
    in_order_once (is_proposed_at row) (length row.state.dossier.wishes) c.in_ok-found.found.items
    c.sort_unstable.new.self.items c.dedup.new.self.items c.in_ok-found.ensures
    c.sort_unstable.ensures.permutation c.sort_unstable.ensures.sorted
    (dedup_is eqb c.sort_unstable.new.self.items c.dedup.new.self.items c.dedup.ensures.filtered)

use Rattle.std.proofs.Common.{rules, ◌≡◌, None, arith, ap, ◌∙◌}
use Rattle.std.specs.Prelude.{replicate}
use Rattle.place_queue.specs.Queues.{Queue}
use Rattle.linked_demand.proofs.Answered.{none_listed_yet}
use Rattle.linked_demand.proofs.overfilled.Overfilled.none.Goals as goal

pub invariant_of-result : goal.invariant_of-result
invariant_of-result c =
    let ranks : c.in_ok-ranks.ranks.items ≡ replicate c.args.count None = search rules in
    none_listed_yet c.args.count c.in_ok-ranks.ranks.items c.from_vec-places.result.items _ ranks
    (ap (λ (q : Queue). q.items) c.from_vec-places.ensures ∙ c.in_ok-places.ensures.items)
    (omega (arith, ap (λ (q : Queue). q.room) c.from_vec-places.ensures))

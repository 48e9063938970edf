use Rattle.std.proofs.Common.{◌∙◌, ap, map, nat_lt, sym}
use Rattle.day_state.proofs.Paired.{map_replicate}
use Rattle.day_state.proofs.live_counts.LiveCounts.none.Goals as goal

pub invariant_of-result : goal.invariant_of-result
invariant_of-result c =
    c.in_ok-all.ensures ∙ sym (ap (map (nat_lt 0)) c.in_ok-zeros.ensures ∙ map_replicate (nat_lt 0) c.args.count 0)

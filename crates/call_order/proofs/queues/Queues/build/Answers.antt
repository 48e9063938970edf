use Rattle.std.specs.Prelude.{vec_len, vec_capacity}
use Rattle.call_order.proofs.MovedHeads.{remaining-first, first-heads}
use Rattle.call_order.proofs.queues.Queues.build.Goals as goal

pub invariant_of-result : goal.invariant_of-result
invariant_of-result c =
    let heads = first-heads c.first_heads-heads.result c.args.list.now (vec_len c.in_ok-taken.taken)
    (vec_capacity c.in_ok-taken.taken) c.first_heads-heads.ensures c.requires c.in_ok-taken.ensures.len
    (c.in_ok-taken.ensures.capacity) in
    rw c.in_ok-list.ensures.same heads

pub returns-clause-remaining : goal.returns-clause-remaining
returns-clause-remaining c =
    let all = remaining-first c.first_heads-heads.result c.args.list.now c.first_heads-heads.ensures in
    rw c.in_ok-list.ensures.same all

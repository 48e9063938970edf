use Rattle.std.proofs.Common.{ℕ, ◌≡◌, length, subst, arith}
use Rattle.linked_demand.specs.Keyed.{AreEmpty}
use Rattle.linked_demand.proofs.Keyed.{empty_none, empty_more}
use Rattle.linked_demand.proofs.rows.rows_with_room.Goals as goal

pub loop-count-init : goal.loop-count-init
loop-count-init T c = rw c.in_ok-rows.ensures.items (empty_none _)

pub loop-count-preserved : goal.loop-count-preserved
loop-count-preserved T c =
    rw c.in_ok-push.ensures.items
    (empty_more c.loop-count.count-index c.loop-count.rows.items c.in_ok-empty.empty
    c.loop-count.invariant c.in_ok-empty.ensures.items)

pub returns : goal.returns
returns T c =
    let same : c.loop-count.count-index ≡ length c.args.counts.now = omega arith in
    let P = λ (n : ℕ). AreEmpty n c.loop-count.rows.items in
    subst P same c.loop-count.invariant

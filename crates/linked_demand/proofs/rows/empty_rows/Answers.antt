use Rattle.std.proofs.Common.{ℕ, ◌≡◌, subst, arith}
use Rattle.linked_demand.specs.Keyed.{AreEmpty}
use Rattle.linked_demand.proofs.Keyed.{empty_none, empty_more}
use Rattle.linked_demand.proofs.rows.empty_rows.Goals as goal

pub loop-init : goal.loop-init
loop-init T c = rw c.in_ok-rows.ensures.items (empty_none _)

pub loop-preserved : goal.loop-preserved
loop-preserved T c =
    rw c.in_ok-push.ensures.items
    (empty_more c.loop.counter c.loop.rows.items c.new.result c.loop.invariant c.new.ensures.items)

pub returns : goal.returns
returns T c =
    let same : c.loop.counter ≡ c.args.count = omega arith in
    let P = λ (n : ℕ). AreEmpty n c.loop.rows.items in
    subst P same c.loop.invariant

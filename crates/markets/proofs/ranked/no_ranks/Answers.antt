use Rattle.std.proofs.Common.{ℕ, ◌≡◌, subst, arith}
use Rattle.linked_demand.specs.Keyed.{AreEmpty}
use Rattle.linked_demand.proofs.Keyed.{empty_more, empty_none}
use Rattle.markets.specs.declared.ranked.Rank.{Rank}
use Rattle.markets.proofs.ranked.no_ranks.Goals as goal

pub loop-row-init : goal.loop-row-init
loop-row-init c = rw c.in_ok-rows.ensures.items (empty_none Rank)

pub loop-row-preserved : goal.loop-row-preserved
loop-row-preserved c =
    rw c.in_ok-push.ensures.items (empty_more c.loop-row._row c.loop-row.rows.items c.new-empty.result
    c.loop-row.invariant c.new-empty.ensures.items)

pub returns : goal.returns
returns c =
    let same : c.loop-row._row ≡ c.args.count = omega arith in
    let P = λ (n : ℕ). AreEmpty n c.loop-row.rows.items in
    subst P same c.loop-row.invariant

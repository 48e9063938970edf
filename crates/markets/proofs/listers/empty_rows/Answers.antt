use Rattle.std.proofs.Common.{ℕ, ◌≡◌, [], subst, arith}
use Rattle.markets.specs.Listers.{AreListers}
use Rattle.markets.proofs.Listing.{listers_none, empty_more}
use Rattle.markets.proofs.listers.empty_rows.Goals as goal

pub loop-row-init : goal.loop-row-init
loop-row-init c = rw c.new-rows.ensures.items listers_none

pub loop-row-preserved : goal.loop-row-preserved
loop-row-preserved c =
    rw c.in_ok-push.ensures.items (empty_more c.loop-row._row c.loop-row.rows.items c.new-empty.result
    c.loop-row.invariant
    c.new-empty.ensures.items)

pub returns-clause-empty : goal.returns-clause-empty
returns-clause-empty c =
    let same : c.loop-row._row ≡ c.args.count = omega arith in
    let P = λ (n : ℕ). AreListers [] n 0 c.loop-row.rows.items in
    subst P same c.loop-row.invariant

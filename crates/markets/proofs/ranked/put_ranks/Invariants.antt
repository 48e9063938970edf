use Rattle.std.proofs.Common.{take}
use Rattle.admit_core.specs.Lists.{is_among}
use Rattle.markets.specs.Listers.{ArePutIn}
use Rattle.markets.specs.Ranked.{rank_in}
use Rattle.markets.proofs.ranked.put_ranks.Given as goal

abbrev pub invariant-loop-place : goal.invariant-loop-place
invariant-loop-place l =
    ArePutIn (λ x. is_among x (take l.place l.order)) (λ x. rank_in l.order l.programme x) l.fn.rows.items l.rows.items

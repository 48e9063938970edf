use Rattle.std.proofs.Common.{take}
use Rattle.admit_core.specs.Lists.{is_among}
use Rattle.markets.specs.Listers.{ArePutIn}
use Rattle.markets.proofs.listers.put_in_rows.Given as goal

abbrev pub invariant-loop-number : goal.invariant-loop-number
invariant-loop-number l = ArePutIn (λ p. is_among p (take l.number-index l.list))
    (λ p. l.item) l.fn.rows.items l.rows.items

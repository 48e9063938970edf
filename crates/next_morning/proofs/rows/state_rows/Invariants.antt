use Rattle.std.proofs.Common.{◌≡◌, map}
use Rattle.next_morning.proofs.StatusRows.{row_by}
use Rattle.next_morning.proofs.rows.state_rows.Given as goal

abbrev pub invariant-loop-wish : goal.invariant-loop-wish
invariant-loop-wish l = l.rows.items ≡ map (λ p. row_by (p.0.now, p.1.now)) l.yielded

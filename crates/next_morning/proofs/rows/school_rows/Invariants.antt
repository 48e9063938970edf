use Rattle.std.proofs.Common.{◌≡◌, map}
use Rattle.next_morning.specs.Morning.{with_ceiling}
use Rattle.next_morning.proofs.rows.school_rows.Given as goal

abbrev pub invariant-loop-school : goal.invariant-loop-school
invariant-loop-school l = l.rows.items ≡ map (λ p. with_ceiling (p.0.now, p.1.now)) l.yielded

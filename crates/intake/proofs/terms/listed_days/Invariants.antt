use Rattle.std.proofs.Common.{◌≡◌, map}
use Rattle.intake.specs.Dated.{offer_since}
use Rattle.intake.proofs.terms.listed_days.Given as goal

abbrev pub invariant-loop-status : goal.invariant-loop-status
invariant-loop-status l = l.days.items ≡ map (λ p. offer_since l.fn.start (p.0.now, p.1.now)) l.yielded

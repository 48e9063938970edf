use Rattle.std.proofs.Common.{◌≡◌, map}
use Rattle.dossier_check.specs.Dealt.{built}
use Rattle.dossier_check.proofs.groups.rank_groups.Given as goal

abbrev pub invariant-loop-row : goal.invariant-loop-row
invariant-loop-row l = l.done.items ≡ map (λ p. built p.0.now p.1.items) l.yielded

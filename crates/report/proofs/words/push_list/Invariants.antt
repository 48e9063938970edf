use Rattle.std.proofs.Common.{◌∷◌, decimal, flat_map, take}
use Rattle.report.specs.Pushes.{IsPushed}
use Rattle.report.proofs.words.push_list.Given as goal

abbrev pub invariant-loop-number : goal.invariant-loop-number
invariant-loop-number l = IsPushed l.fn.text l.text (flat_map (λ n. 32 ∷ decimal n) (take l.number-index l.numbers))

use Rattle.std.proofs.Common.{◌∷◌, flat_map, take}
use Rattle.admit_core.specs.Lines.{bound_letter}
use Rattle.report.specs.Pushes.{IsPushed}
use Rattle.report.proofs.words.push_letters.Given as goal

abbrev pub invariant-loop-bound : goal.invariant-loop-bound
invariant-loop-bound l = IsPushed l.fn.text l.text (flat_map (λ b. 32 ∷ bound_letter b) (take l.bound-index l.bounds))

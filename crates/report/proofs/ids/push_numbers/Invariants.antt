use Rattle.std.proofs.Common.{[], ◌∷◌, decimal, flat_map, take, zip}
use Rattle.report.specs.Pushes.{IsPushed}
use Rattle.report.specs.Words.{line}
use Rattle.report.proofs.ids.push_numbers.Given as goal

abbrev pub invariant-loop-place : goal.invariant-loop-place
invariant-loop-place g l =
    IsPushed l.fn.text l.text (flat_map (λ x. line (l.word ∷ decimal (g.T.HasId.id_of x.0) ∷ decimal x.1 ∷ []))
    (take l.place (zip l.items l.numbers)))

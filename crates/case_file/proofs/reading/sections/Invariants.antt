use Rattle.std.proofs.Common.{[], map}
use Rattle.case_file.specs.Sections.{TakesLines, seen}
use Rattle.case_file.proofs.reading.sections.Given as goal

abbrev pub invariant-loop-line : goal.invariant-loop-line
invariant-loop-line l = TakesLines (map (λ x. x.now) l.yielded) [] (map seen l.sections.items)

use Rattle.std.proofs.Common.{[], List, ℕ, map, rules, subst}
use Rattle.std.proofs.lemmas.Iterator.Consumers.{YieldsList-end}
use Rattle.std.proofs.lemmas.Iterator.Splits.{YieldsList-from_lines}
use Rattle.case_file.specs.Sections.{TakesLines, seen}
use Rattle.case_file.proofs.Taking.{taken_next}
use Rattle.case_file.proofs.reading.sections.Goals as goal

pub loop-line-preserved : goal.loop-line-preserved
loop-line-preserved c = taken_next c.loop-line.yielded c.in-Some.line _ _ c.loop-line.invariant
    c.in_ok-take_line.ensures

pub returns : goal.returns
returns c =
    let end = YieldsList-end
    (YieldsList-from_lines {s = c.into_iter-line-iterator.result} c.args.file.now (search rules))
    c.loop-line.yielded c.loop-line.line-iterator c.loop-line.yielded_by c.next.result c.next.new.self c.in-None.is
    c.next.ensures.steps in
    subst (λ (ls : List (List ℕ)). TakesLines ls [] (map seen c.loop-line.sections.items)) end.0 c.loop-line.invariant

use Rattle.std.proofs.Common.{map, sym, ap, ◌∙◌, rules}
use Rattle.std.proofs.lemmas.Iterator.{YieldsList-from_slice, YieldsList-from_zip}
use Rattle.std.proofs.lemmas.Iterator.Consumers.{YieldsList-end}
use Rattle.std.proofs.lemmas.Simd.{map-map}
use Rattle.next_morning.specs.Morning.{with_ceiling}
use Rattle.next_morning.proofs.rows.school_rows.Goals as goal

pub returns-clause-rows : goal.returns-clause-rows
returns-clause-rows c =
    let end = YieldsList-end
    (YieldsList-from_zip {s = c.into_iter-school-iterator.result}
    (YieldsList-from_slice c.args.schools.now (search rules))
    (YieldsList-from_slice c.args.ceilings.now (search rules)))
    c.loop-school.yielded c.loop-school.school-iterator c.loop-school.yielded_by
    c.next.result c.next.new.self c.in-None.is c.next.ensures.steps in
    c.loop-school.invariant
    ∙ sym (map-map with_ceiling (λ p. (p.0.now, p.1.now)) c.loop-school.yielded)
    ∙ ap (map with_ceiling) end.0

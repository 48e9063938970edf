use Rattle.std.proofs.Common.{List, map, sym, ap, ◌∙◌, rules, zip}
use Rattle.std.proofs.lemmas.Iterator.{YieldsList-from_slice, YieldsList-from_zip}
use Rattle.std.proofs.lemmas.Iterator.Consumers.{YieldsList-end}
use Rattle.std.proofs.lemmas.Simd.{map-map}
use Rattle.admit_core.specs.declared.state.Status.{Status}
use Rattle.next_morning.proofs.StatusRows.{row_by, rows_by}
use Rattle.next_morning.proofs.rows.state_rows.Goals as goal

pub returns-clause-rows : goal.returns-clause-rows
returns-clause-rows c =
    let end = YieldsList-end
    (YieldsList-from_zip {s = c.into_iter-wish-iterator.result} (YieldsList-from_slice c.args.wishes.now (search rules))
    (YieldsList-from_slice c.statuses.result.now (search rules)))
    c.loop-wish.yielded c.loop-wish.wish-iterator c.loop-wish.yielded_by
    c.next.result c.next.new.self c.in-None.is c.next.ensures.steps in
    c.loop-wish.invariant
    ∙ sym (map-map row_by (λ p. (p.0.now, p.1.now)) c.loop-wish.yielded)
    ∙ ap (map row_by) end.0
    ∙ ap (λ (l : List Status). map row_by (zip c.args.wishes.now l)) c.statuses.ensures
    ∙ rows_by c.args.wishes.now c.args.marks.now

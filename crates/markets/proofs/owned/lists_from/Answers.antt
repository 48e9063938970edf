use Rattle.std.proofs.Common.{ap, map, rules, sym, ◌∙◌}
use Rattle.std.proofs.lemmas.List.{map-id}
use Rattle.std.proofs.lemmas.Iterator.Adapters.{YieldsList-from_vec}
use Rattle.std.proofs.lemmas.Iterator.Consumers.{YieldsList-end}
use Rattle.admit_core.specs.Lists.{sorted_by}
use Rattle.markets.proofs.owned.lists_from.Goals as goal

pub returns : goal.returns
returns c =
    let end = YieldsList-end (YieldsList-from_vec c.args.rows.items (search rules) (search rules)) c.loop-row.yielded
    c.loop-row.row-iterator c.loop-row.yielded_by c.next.result c.next.new.self c.in-None.is c.next.ensures.steps in
    c.loop-row.invariant
    ∙ ap (map (λ row. map (λ x. x.programme) (sorted_by (λ x. x.preference) row.items)))
    (sym (map-id c.loop-row.yielded) ∙ end.0)

use Rattle.std.proofs.Common.{◌++◌, ◌<◌, List, arith, flat_map, length, string_bytes, subst, sym, ap, ◌∙◌, rules}
use Rattle.std.specs.Prelude.{zip}
use Rattle.std.proofs.lemmas.Iterator.{YieldsList-from_slice, YieldsList-from_zip}
use Rattle.std.proofs.lemmas.Iterator.Consumers.{YieldsList-end, YieldsList-turn}
use Rattle.std.proofs.lemmas.List.Folds.{flat_map-map}
use Rattle.admit_core.specs.declared.ranking.RankGroup.{RankGroup}
use Rattle.modes.specs.Order.{group_text}
use Rattle.modes.proofs.order.push_orders.Goals as goal

pub returns-clause-adds : goal.returns-clause-adds
returns-clause-adds c =
    let end = YieldsList-end (YieldsList-from_zip {s = c.into_iter-group-iterator.result}
    (YieldsList-from_slice c.args.groups.now (search rules))
    (YieldsList-from_slice c.args.orders.now (search rules))) c.loop-group.yielded c.loop-group.group-iterator
    c.loop-group.yielded_by c.next.result c.next.new.self c.in-None.is c.next.ensures.steps in
    c.loop-group.invariant
    ∙ ap (λ lines. string_bytes c.args.text.now ++ lines)
    (sym (flat_map-map group_text (λ p. (p.0.now, p.1.now)) c.loop-group.yielded) ∙ ap (flat_map group_text) end.0)

-- without a group there is no turn
pub returns-in_err-push_order-clause-always : goal.returns-in_err-push_order-clause-always
returns-in_err-push_order-clause-always c = λ none.
    let turn = YieldsList-turn (YieldsList-from_zip {s = c.into_iter-group-iterator.result}
    (YieldsList-from_slice c.args.groups.now (search rules))
    (YieldsList-from_slice c.args.orders.now (search rules))) c.loop-group.yielded c.loop-group.group-iterator
    c.loop-group.yielded_by c.next.result c.next.new.self _ c.in-Some.is c.next.ensures.steps in
    absurd (omega (
      arith,
      subst (λ (gs : List RankGroup). length c.loop-group.yielded
          < length (zip gs c.args.orders.now))
          none turn.0,
    ))

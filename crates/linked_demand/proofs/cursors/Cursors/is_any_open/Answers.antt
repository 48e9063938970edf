use Rattle.std.proofs.Common.{false, get_or, length, sym, ◌∙◌}
use Rattle.std.proofs.lemmas.Bool.{lt-ltb}
use Rattle.linked_demand.proofs.AnyOpen.{any_behind}
use Rattle.linked_demand.proofs.cursors.Cursors.is_any_open.Goals as goal

pub returns-then-at-claim : goal.returns-then-at-claim
returns-then-at-claim c =
    let claim = c.args.claim.now in
    let at = c.next_open-at.result in
    sym (any_behind (λ k. get_or c.args.opens.now k false) claim c.from-from.result
    (sym c.next_open-at.ensures ∙ lt-ltb at (length claim) c.if-at-claim.true))

use Rattle.std.proofs.Common.{sym, ◌∙◌}
use Rattle.linked_demand.proofs.Waiting.{no_bed}
use Rattle.linked_demand.proofs.rows.has_item_bed.Goals as goal

pub returns-else-item : goal.returns-else-item
returns-else-item c =
    let long = rw c.marks.ensures.marks at c.marks.ensures.one_each in
    λ waits. c.if-item.false
    ∙ sym (no_bed c.args.state.now long c.args.item.now.wish waits (sym c.requires.shared ∙ c.if-item.false))

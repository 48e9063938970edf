use Rattle.linked_demand.proofs.Boarding.{boarders_sorted}
use Rattle.linked_demand.proofs.boarders.boarders_by_rank.Goals as goal

pub returns : goal.returns
returns c =
    boarders_sorted c.args.state.now.dossier c.in_ok-boarders.boarders.items c.sort_by_rank.new.items.items
    c.in_ok-boarders.ensures c.sort_by_rank.ensures.moved c.in_ok-sort_by_rank.ensures.rises
    c.in_ok-sort_by_rank.ensures.stable

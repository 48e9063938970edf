use Rattle.linked_demand.proofs.rows.is_item_live.Goals as goal

pub returns : goal.returns
returns c = c.is_live_beside.ensures c.args.item.now.wish c.requires.wish c.requires.bundle

use Rattle.linked_demand.proofs.Keyed.{put_somewhere}
use Rattle.linked_demand.proofs.rows.put_with_room.Goals as goal

pub returns : goal.returns
returns T c =
    put_somewhere c.args.row c.args.item c.args.rows.now.items c.index_mut-items.result.now c.push.new.self
    c.requires.row c.index_mut-items.ensures.value (rw c.make_room.ensures at c.in_ok-push.ensures.items)

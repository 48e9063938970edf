use Rattle.linked_demand.proofs.Keyed.{put_somewhere}
use Rattle.linked_demand.proofs.rows.put_in.Goals as goal

pub returns : goal.returns
returns T c =
    put_somewhere c.args.row c.args.item c.args.rows.now.items c.index_mut.result.now c.push.new.self
    c.requires c.index_mut.ensures.value c.in_ok-push.ensures.items

use Rattle.place_queue.proofs.Dropping.{first_out, other_out}
use Rattle.place_queue.proofs.queue.PlaceQueue.remove.Goals as goal

pub returns-then-at-eq0 : goal.returns-then-at-eq0
returns-then-at-eq0 c =
    first_out c.self.inside.start c.self.inside.room c.self.inside.items.items c.args.self.now c.self.view_is c.args.at
    c.if-at-eq0.true

pub returns : goal.returns
returns c =
    other_out c.self.inside.start c.self.inside.room c.self.inside.items.items c.args.self.now c.self.view_is c.args.at
    _
    c.requires c.remove.ensures.items

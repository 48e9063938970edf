use Rattle.std.proofs.Common.{◌∙◌, refl}
use Rattle.place_queue.proofs.Dropping.{put_in}
use Rattle.place_queue.proofs.queue.PlaceQueue.put_behind.Goals as goal

pub returns : goal.returns
returns c =
    let made = c.make_room-self-inside in
    put_in c.self.inside.start c.self.inside.room c.self.inside.items.items c.args.self.now c.self.view_is c.args.at
    c.args.place
    made.result made.new.items.items _ c.requires.at made.ensures.same made.ensures.within
    (c.insert.ensures.items ∙ rw c.unwrap.ensures refl)

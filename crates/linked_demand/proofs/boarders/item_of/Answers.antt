use Rattle.std.proofs.Common.{◌∙◌, refl}
use Rattle.day_state.specs.Kept.{wish_in}
use Rattle.linked_demand.proofs.Closing.{wish_there}
use Rattle.linked_demand.proofs.Items.{item_made}
use Rattle.linked_demand.proofs.boarders.item_of.Goals as goal

pub returns : goal.returns
returns c =
    let d = c.args.state.now.dossier in
    let right = c.requires.boarder in
    let k = c.args.boarder.wish in
    let here = wish_there d.wishes k (wish_in d.wishes k) right.within refl in
    let notes = c.requires.notes in
    item_made d c.args.orders.now.orders c.args.notes.now.places notes.places_are c.args.boarder right
    _ c.place.ensures _ (c.is_called_by_limit.ensures ∙ notes.called_are k (wish_in d.wishes k) here)

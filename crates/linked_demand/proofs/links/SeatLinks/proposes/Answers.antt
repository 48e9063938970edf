use Rattle.std.proofs.Common.{ℕ, ◌||◌, Bool, ap, arith, ◌∙◌}
use Rattle.linked_demand.specs.Opens.{seat_row}
use Rattle.linked_demand.proofs.Closing.{programme_within}
use Rattle.linked_demand.proofs.Items.{closes_item, item_proposed, item_stands, item_exempt, item_waiting, own_bundle}
use Rattle.linked_demand.proofs.Items.{own_programme}
use Rattle.linked_demand.proofs.Items.{own_within}
use Rattle.linked_demand.proofs.Leaving.{reach_right, reached_is, row_there}
use Rattle.linked_demand.proofs.links.SeatLinks.proposes.Goals as goal

pub index-front-requires : goal.index-front-requires
index-front-requires c =
    omega (arith, own_programme c.self.invariant.reach c.args.self.now c.self.view_is c.args.item.now c.requires)

pub is_item_seated-requires : goal.is_item_seated-requires
is_item_seated-requires c =
    let reach = c.self.invariant.reach in
    record {
      wish = own_within reach c.args.self.now c.self.view_is c.args.item.now c.requires;
      bundle = own_bundle reach c.args.self.now c.self.view_is c.args.item.now c.requires;
    }

pub returns : goal.returns
returns c = λ open_item.
    let r = c.self.inside in
    let s = r.state.now in
    let orders = r.orders.now.orders in
    let opens = r.opens in
    let p : ℕ = c.args.item.now.programme in
    let reach = c.self.invariant.reach in
    let item = c.args.item.now in
    let k = closes_item reach.links c.args.self.now c.self.view_is item open_item.waits open_item.item in
    let at = item_stands reach.links c.args.self.now c.self.view_is item open_item.waits open_item.item in
    let front = reach_right k r.reached.items reach.reached_are c.index-front.result.now c.index-front.ensures in
    let near : Bool = c.is_reached-reached.result in
    let reached = reached_is s orders opens p item.place c.index-front.result.now near front at.within
    c.is_reached-reached.ensures in
    item_proposed reach.links c.args.self.now c.self.view_is item open_item.waits open_item.item
    open_item.flag (seat_row s orders opens p) (row_there s orders opens p (programme_within k))
    near c.is_item_seated.result reached
    (c.is_item_seated.ensures
    (item_waiting reach.links c.args.self.now c.self.view_is item open_item.waits open_item.item)
    ∙ ap (λ b. near || b)
    (item_exempt reach.links c.args.self.now c.self.view_is item open_item.waits open_item.item))

use Rattle.std.proofs.Common.{ℕ, ◌≡◌, Bool, ◌&&◌, ◌||◌, false, get_or, arith, ap, sym, ◌∙◌}
use Rattle.std.proofs.Math.Bool.{or_comm}
use Rattle.std.proofs.lemmas.List.{get_or_default}
use Rattle.linked_demand.specs.Opens.{all_exempt, seat_row}
use Rattle.linked_demand.proofs.Closing.{starts_within, closes_read, wish_within, programme_within, place_right}
use Rattle.linked_demand.proofs.Closing.{exempt_each, proposed_goal, proposed_at_is}
use Rattle.linked_demand.proofs.Leaving.{reach_right, reached_each, reached_is, row_there}
use Rattle.linked_demand.proofs.links.SeatLinks.is_proposed.Goals as goal

pub wish_at-programme-requires : goal.wish_at-programme-requires
wish_at-programme-requires c =
    starts_within c.self.invariant.reach.links c.args.self.now c.self.view_is c.args.wish c.requires

pub place-place-requires : goal.place-place-requires
place-place-requires c =
    let k = closes_read c.self.invariant.reach.links c.args.self.now c.self.view_is c.args.wish c.requires
    c.wish_at-programme.result c.wish_at-programme.ensures.wish in
    omega (arith, wish_within k, c.self.invariant.reach.links.places_each)

pub get-open-requires : goal.get-open-requires
get-open-requires c =
    let k = closes_read c.self.invariant.reach.links c.args.self.now c.self.view_is c.args.wish c.requires
    c.wish_at-programme.result c.wish_at-programme.ensures.wish in
    omega (arith, wish_within k, c.self.invariant.reach.links.opens_each)

pub is_served-requires : goal.is_served-requires
is_served-requires c =
    let k =
    closes_read c.self.invariant.reach.links c.args.self.now c.self.view_is c.args.wish c.requires
    c.wish_at-programme.result c.wish_at-programme.ensures.wish in
    record { wish = wish_within k }

pub index-requires : goal.index-requires
index-requires c =
    let k = closes_read c.self.invariant.reach.links c.args.self.now c.self.view_is c.args.wish c.requires
    c.wish_at-programme.result c.wish_at-programme.ensures.wish in
    omega (arith, programme_within k, reached_each k c.self.inside.reached.items c.self.invariant.reach.reached_are)

pub returns : goal.returns
returns c =
    let (w, m, waits) = c.requires in
    let r = c.self.inside in
    let s = r.state.now in
    let orders = r.orders.now.orders in
    let opens = r.opens in
    let p : ℕ = c.wish_at-programme.result.programme in
    let k = closes_read c.self.invariant.reach.links c.args.self.now c.self.view_is c.args.wish c.requires
    c.wish_at-programme.result c.wish_at-programme.ensures.wish in
    let place_read = c.place-place.ensures
    ∙ get_or_default r.lineup.now.notes.places c.args.wish 0 c.place-place.result
    (omega (arith, wish_within k, c.self.invariant.reach.links.places_each)) in
    let at = place_right k c.place-place.result place_read in
    let reach = reach_right k r.reached.items c.self.invariant.reach.reached_are
    c.index.result.now c.index.ensures in
    let reached = reached_is s orders opens p c.place-place.result c.index.result.now
    c.is_reached-reached.result reach at.within c.is_reached-reached.ensures in
    let limited = r.lineup.now.notes.called_by_limit in
    let flag : Bool = get_or (all_exempt s limited) c.args.wish false in
    let exempt : flag ≡ get_or (all_exempt s limited) c.args.wish flag =
    get_or_default (all_exempt s limited) c.args.wish false flag (omega (arith, wish_within k, exempt_each k)) in
    let opens_now : Bool = c.get-open.result in
    let near : Bool = c.is_reached-reached.result in
    let opens_read : opens_now ≡ get_or opens c.args.wish opens_now = c.get-open.ensures
    ∙ get_or_default opens c.args.wish false opens_now
    (omega (arith, wish_within k, c.self.invariant.reach.links.opens_each)) in
    let served : c.is_served.result ≡ (opens_now && (flag || near)) =
    c.is_served.ensures
    ∙ ap (λ (b : Bool). opens_now && b) (or_comm near flag) in
    proposed_goal c.self.invariant.reach.links c.args.self.now c.self.view_is c.args.wish w m waits
    c.wish_at-programme.result c.wish_at-programme.ensures.wish
    c.place-place.result place_read (seat_row s orders opens p)
    (row_there s orders opens p (programme_within k)) c.get-open.result
    flag near c.is_served.result opens_read exempt reached served
    ∙ sym (proposed_at_is c.args.self.now c.args.wish w m waits)

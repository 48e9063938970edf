use Rattle.std.proofs.Common.{ℕ, ◌+◌, ◌<◌, ◌≡◌, get_or, length, take, refl, arith, subst}
use Rattle.linked_demand.specs.Fronts.{claimed_open, reached_open, ListsAlso}
use Rattle.linked_demand.proofs.Fronting.{front_within, reached_more}
use Rattle.linked_demand.proofs.Listing.{lists_none, lists_then}
use Rattle.linked_demand.proofs.fronts.list_fronts.Goals as goal

pub loop-programme-init : goal.loop-programme-init
loop-programme-init c = lists_none (reached_open c.args.opens.now c.args.lines.now c.args.reached.now 0)
    c.args.found.now.items (λ k. refl)

pub list_front-requires : goal.list_front-requires
list_front-requires c =
    let lt : c.loop-programme.programme < length c.args.lines.now = omega
    (arith, c.loop-programme-test.true, c.loop-programme.auto.programme-end) in
    let claims = c.index-lines-programme.result in
    let front : ℕ = get_or c.args.reached.now c.loop-programme.programme 0 in
    front_within c.requires c.loop-programme.programme lt claims c.index-lines-programme.is front refl

pub loop-programme-preserved : goal.loop-programme-preserved
loop-programme-preserved c =
    let opens = c.args.opens.now in
    let lines = c.args.lines.now in
    let reached = c.args.reached.now in
    let p : ℕ = c.loop-programme.programme in
    let lt : p < length lines = omega (arith, c.loop-programme-test.true, c.loop-programme.auto.programme-end) in
    let claims = c.index-lines-programme.result in
    let front : ℕ = get_or c.args.reached.now c.loop-programme.programme 0 in
    lists_then (reached_open opens lines reached p) (claimed_open opens (take front claims))
    (reached_open opens lines reached (p + 1))
    c.args.found.now.items c.loop-programme.found.items c.list_front.new.found.items
    c.loop-programme.invariant c.in_ok-list_front.ensures
    (λ k. reached_more c.requires p lt claims c.index-lines-programme.is front refl opens k)

pub returns : goal.returns
returns c =
    let all : c.loop-programme.programme ≡ length c.args.lines.now = omega
    (arith, c.loop-programme-test.false, c.loop-programme.auto.programme-end) in
    let P = λ (n : ℕ). ListsAlso (reached_open c.args.opens.now c.args.lines.now c.args.reached.now n)
    c.args.found.now.items c.loop-programme.found.items in
    subst P all c.loop-programme.invariant

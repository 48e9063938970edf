use Rattle.std.proofs.Common.{ℕ, ◌+◌, ◌<◌, ◌≡◌, ◌&&◌, false, length, get_or, take, refl, arith, subst}
use Rattle.admit_core.specs.Lists.{is_among}
use Rattle.linked_demand.specs.Fronts.{claimed_open, ListsAlso}
use Rattle.linked_demand.proofs.Fronting.{claimed_more}
use Rattle.linked_demand.proofs.Listing.{lists_none, lists_then}
use Rattle.linked_demand.proofs.fronts.list_front.Goals as goal

pub loop-place-init : goal.loop-place-init
loop-place-init c = lists_none (claimed_open c.args.opens.now (take 0 c.args.claims.now)) c.args.found.now.items
    (λ k. refl)

pub loop-place-preserved : goal.loop-place-preserved
loop-place-preserved c =
    let opens = c.args.opens.now in
    let claims = c.args.claims.now in
    let i : ℕ = c.loop-place.place in
    let lt : i < length claims = omega (
      arith,
      c.loop-place-test.true,
      c.loop-place.auto.place-end,
      c.requires,
    ) in
    lists_then (claimed_open opens (take i claims)) (λ k. is_among k c.at.result.now && get_or opens k false)
    (claimed_open opens (take (i + 1) claims))
    c.args.found.now.items c.loop-place.found.items c.list_open.new.found.items c.loop-place.invariant
    c.in_ok-list_open.ensures
    (λ k. claimed_more opens claims i c.at.result.now k lt c.at.ensures)

pub returns : goal.returns
returns c =
    let all : c.loop-place.place ≡ c.args.reached =
    omega (arith, c.loop-place-test.false, c.loop-place.auto.place-end) in
    let P = λ (j : ℕ). ListsAlso (claimed_open c.args.opens.now (take j c.args.claims.now))
    c.args.found.now.items c.loop-place.found.items in
    subst P all c.loop-place.invariant

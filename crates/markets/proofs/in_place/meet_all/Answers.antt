use Rattle.std.proofs.Common.{ℕ, List, ◌≡◌, arith, length, subst}
use Rattle.markets.specs.Meeting.{AreMet}
use Rattle.markets.proofs.Meeting.{met_few, met_one_more}
use Rattle.markets.proofs.Reading.{list_read}
use Rattle.markets.proofs.in_place.meet_all.Goals as goal

pub loop-place-preserved : goal.loop-place-preserved
loop-place-preserved c =
    let k : ℕ = c.loop-place.place in
    let lists : List (List ℕ) = c.args.lists.now in
    let read = list_read lists k c.index-lists-place.result c.as_slice.result.now c.loop-place-test.true
    c.index-lists-place.is c.as_slice.ensures in
    met_one_more lists c.args.orders.now k c.as_slice.result.now c.loop-place.notes c.meet.new.notes read
    c.loop-place.invariant c.meet.ensures

pub returns : goal.returns
returns c =
    let P : ℕ → Type 0 = λ k. AreMet c.args.lists.now c.args.orders.now k c.loop-place.notes in
    let all : c.loop-place.place ≡ length c.args.lists.now =
    omega (arith, c.loop-place-test.false, c.loop-place.auto.place-end) in
    subst P all c.loop-place.invariant

pub meet-requires-clause-few : goal.meet-requires-clause-few
meet-requires-clause-few c =
    λ p. omega (
      arith,
      c.loop-place-test.true,
      c.requires.candidates,
      met_few c.args.lists.now c.args.orders.now c.loop-place.place c.loop-place.notes c.loop-place.invariant p,
    )

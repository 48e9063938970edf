use Rattle.std.proofs.Common.{◌∙◌, arith, sym}
use Rattle.envy.proofs.Listing.{listed_all, listed_none, listed_some}
use Rattle.envy.proofs.blocks.listed_blocks.Goals as goal
use Rattle.envy.proofs.blocks.listed_blocks.Goals.{in-Some+in_ok-push, in_default}

pub loop-place-preserved : goal.loop-place-preserved
loop-place-preserved c =
    let s = c.args.noted.now.state in
    let os = c.args.noted.now.orders in
    let k = c.loop-place.place in
    let now = c.loop-place.blocks.items in
    elim c.match-found_at.branch [
      | in-Some+in_ok-push w ↦
          rw w.blocks-is
          (listed_some s os k w.in-Some.block now w.push.new.self.items c.loop-place.invariant
          (sym c.found_at.ensures ∙ w.in-Some.is) w.in_ok-push.ensures.items)
      | in_default w ↦
          rw w.blocks-is
          (listed_none s os k now c.loop-place.invariant (sym c.found_at.ensures ∙ w.in_default.is))
    ]

pub returns : goal.returns
returns c =
    listed_all c.args.noted.now.state c.args.noted.now.orders c.loop-place.blocks.items
    c.loop-place.place (c.wish_count-place-end.ensures.one_each ∙ c.wish_count-place-end.ensures.count)
    (omega (arith, c.loop-place-test.false, c.loop-place.auto.place-end, c.wish_count-place-end.ensures.count))
    c.loop-place.invariant

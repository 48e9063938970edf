use Rattle.std.proofs.Common.{get_or, refl, arith}
use Rattle.day_state.specs.declared.numbers.SharedWish.{SharedWish}
use Rattle.day_state.proofs.Entries.{have_none, have_more, have_all}
use Rattle.day_state.proofs.bundle_numbers.several_of.Goals as goal

pub loop-entry-init : goal.loop-entry-init
loop-entry-init c = have_none c.args.entries.now c.args.count c.in_ok-several.several c.in_ok-several.ensures

pub set-requires : goal.set-requires
set-requires c =
    let d : SharedWish = record { wish = 0; number = 0 } in
    omega (arith, c.requires c.loop-entry.entry-index d c.loop-entry-test.true, c.loop-entry.invariant.long)

pub loop-entry-preserved : goal.loop-entry-preserved
loop-entry-preserved c =
    let d : SharedWish = record { wish = 0; number = 0 } in
    let i = c.loop-entry.entry-index in
    have_more c.args.entries.now c.args.count c.loop-entry.several c.set.new.self i
    (get_or c.args.entries.now i d) d c.loop-entry-test.true refl (c.requires i d c.loop-entry-test.true)
    c.set.ensures c.loop-entry.invariant

pub returns : goal.returns
returns c =
    have_all c.args.entries.now c.args.count c.loop-entry.several c.loop-entry.entry-index c.loop-entry-test.false
    c.loop-entry.invariant

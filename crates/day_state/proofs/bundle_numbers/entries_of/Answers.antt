use Rattle.std.proofs.Common.{get_or, refl, rules}
use Rattle.std.specs.Prelude.{◌==◌}
use Rattle.std.proofs.lemmas.Fn.{dedup_same}
use Rattle.day_state.specs.declared.bundle_numbers.Later.{Later}
use Rattle.day_state.specs.Bundles.{bundles_of}
use Rattle.day_state.proofs.Entries.{entries_all, entries_more, entries_once, first_shared}
use Rattle.day_state.proofs.bundle_numbers.entries_of.Goals as goal

pub loop-later-preserved : goal.loop-later-preserved
loop-later-preserved c = λ sites ws shared_is are.
    let laters = c.args.laters.now in
    let i = c.loop-later.later-index in
    let d : Later = record { wish = 0; first = 0 } in
    let l : Later = get_or laters i d in
    let first = first_shared sites ws laters are l d i c.loop-later-test.true refl in
    entries_more sites ws laters are c.loop-later.entries.items c.push.new.self.items
    c.push-in-loop-later.new.self.items l d i c.place_of-number.result c.loop-later-test.true refl
    (c.place_of-number.ensures (bundles_of sites ws) shared_is first.0 first.1)
    c.in_ok-push.ensures.items c.in_ok-push-2.ensures.items (c.loop-later.invariant sites ws shared_is are)

pub returns : goal.returns
returns c = λ sites ws shared_is are.
    entries_once (bundles_of sites ws) c.sort_unstable_by_key.new.self.items c.dedup_by_key.new.self.items
    (dedup_same _ (λ x y. x.wish == y.wish) _ (λ x y b f' x' y' k. search rules) _ _ c.dedup_by_key.ensures.filtered)
    (entries_all sites ws c.args.laters.now are c.loop-later.entries.items c.sort_unstable_by_key.new.self.items
    c.loop-later.later-index c.loop-later-test.false (c.loop-later.invariant sites ws shared_is are)
    c.sort_unstable_by_key.ensures.permutation)

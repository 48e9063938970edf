use Rattle.std.proofs.Common.{◌∙◌, ap, eqb, map}
use Rattle.std.proofs.lemmas.List.{take_all}
use Rattle.std.proofs.lemmas.List.Filters.{dedup_is}
use Rattle.day_state.specs.declared.bundle_numbers.Later.{Later}
use Rattle.day_state.proofs.Numbered.{shared_is}
use Rattle.day_state.proofs.bundle_numbers.shared_firsts.Goals as goal

pub returns : goal.returns
returns c = λ bundles are.
    shared_is bundles c.args.laters.now are c.loop-later.firsts.items c.sort_unstable.new.self.items
    c.dedup.new.self.items
    (c.loop-later.invariant ∙ ap (map (λ (x : Later). x.first))
    (take_all c.loop-later.later-index c.args.laters.now c.loop-later-test.false))
    c.sort_unstable.ensures.permutation c.sort_unstable.ensures.sorted
    (dedup_is eqb c.sort_unstable.new.self.items c.dedup.new.self.items c.dedup.ensures.filtered)

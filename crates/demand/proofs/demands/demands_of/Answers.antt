use Rattle.std.proofs.Common.{◌≡◌, ◌∙◌}
use Rattle.std.specs.List.{dedup}
use Rattle.demand.specs.Needs.{demands_in, firsts_by_rank, same_rank}
use Rattle.demand.proofs.Ranking.{firsts_are, proposed_firsts}
use Rattle.demand.proofs.demands.demands_of.Goals as goal

pub returns-clause-firsts : goal.returns-clause-firsts
returns-clause-firsts c =
    rw (c.keep_firsts.ensures, ← c.in_ok-demands.ensures.demands)
    (firsts_are c.in_ok-demands.demands.items c.sort_by_rank.new.items.items c.sort_by_rank.ensures.moved
    c.in_ok-sort_by_rank.ensures.rises c.in_ok-sort_by_rank.ensures.stable)

pub returns-clause-proposed : goal.returns-clause-proposed
returns-clause-proposed c = λ orders bars are.
    let by_place = demands_in c.args.state.now c.args.places.now c.args.school in
    let firsts : dedup same_rank c.sort_by_rank.new.items.items ≡ firsts_by_rank by_place =
    rw (← c.in_ok-demands.ensures.demands)
    (firsts_are c.in_ok-demands.demands.items c.sort_by_rank.new.items.items c.sort_by_rank.ensures.moved
    c.in_ok-sort_by_rank.ensures.rises c.in_ok-sort_by_rank.ensures.stable) in
    c.keep_firsts.ensures ∙ firsts
    ∙ proposed_firsts c.args.state.now orders bars c.args.school c.args.places.now
    (rw c.marks.ensures.marks at c.marks.ensures.one_each) are

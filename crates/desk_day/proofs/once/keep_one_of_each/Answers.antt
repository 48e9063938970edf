use Rattle.std.proofs.Common.{eqb}
use Rattle.std.proofs.lemmas.List.Filters.{dedup_is}
use Rattle.desk_day.proofs.OnceEach.{of_one_each, once_each}
use Rattle.desk_day.proofs.once.keep_one_of_each.Goals as goal

pub returns-clause-names : goal.returns-clause-names
returns-clause-names c =
    once_each c.args.state.now.dossier c.args.places.now.items c.lead_to_firsts.new.places.items
    c.sort_unstable.new.self.items
    c.dedup.new.self.items c.lead_to_firsts.ensures.names c.sort_unstable.ensures.permutation
    (dedup_is eqb c.sort_unstable.new.self.items c.dedup.new.self.items c.dedup.ensures.filtered)

pub returns-clause-once : goal.returns-clause-once
returns-clause-once c =
    of_one_each c.args.state.now.dossier c.lead_to_firsts.new.places.items c.sort_unstable.new.self.items
    c.dedup.new.self.items c.lead_to_firsts.ensures.firsts c.sort_unstable.ensures.permutation
    c.sort_unstable.ensures.sorted
    (dedup_is eqb c.sort_unstable.new.self.items c.dedup.new.self.items c.dedup.ensures.filtered)

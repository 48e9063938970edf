use Rattle.std.proofs.Common.{Bool, List, Option, ℕ, ◌<◌, ◌∙◌, ap, arith, false, get_or, length, subst, sym}
use Rattle.flags.specs.Words.{IsNextSet}
use Rattle.day_state.proofs.Beside.{some_within}
use Rattle.day_state.proofs.live_counts.LiveCounts.next_some.Goals as goal

pub returns-clause-fits : goal.returns-clause-fits
returns-clause-fits c = λ n is.
    let counts = c.self.inside.counts in
    let next = subst (λ (o : Option ℕ). IsNextSet c.self.inside.has_some c.args.from o) is c.next_set.ensures in
    let flag = sym (ap (λ (flags : List Bool). get_or flags n false) c.self.invariant) ∙ next.is_set in
    let within : n < length counts.items = some_within counts.items n flag in
    omega (arith, within, counts.ok.0, counts.ok.1, counts.small)

use Rattle.std.proofs.Common.{◌≡◌, ◌∙◌, ◌+◌, ◌-◌, ap, arith, subst, sym, true}
use Rattle.admit_core.specs.Lists.{is_among}
use Rattle.linked_demand.specs.Housed.{last_rank, ranks_of}
use Rattle.linked_demand.specs.Rungs.{rungs_of, BedRow}
use Rattle.linked_demand.proofs.RowBeds.{last_there, most_there}
use Rattle.linked_demand.proofs.row_beds.RowBeds.last.Goals as goal

pub returns-clause-rank : goal.returns-clause-rank
returns-clause-rank c =
    let b = c.self.inside in
    let at : b.known ≡ b.known - 1 + 1 = omega (arith, c.if-self-eq0.false) in
    last_there c.self.invariant (b.known - 1) at _ ∙ ap (λ (x : BedRow). last_rank (rungs_of x)) c.self.view_is

pub returns-clause-most : goal.returns-clause-most
returns-clause-most c = λ r t.
    let b = c.self.inside in
    let at : b.known ≡ b.known - 1 + 1 = omega (arith, c.if-self-eq0.false) in
    let P = λ (x : BedRow). is_among r (ranks_of (rungs_of x)) ≡ true in
    most_there c.self.invariant (b.known - 1) at _ r (subst P (sym c.self.view_is) t)

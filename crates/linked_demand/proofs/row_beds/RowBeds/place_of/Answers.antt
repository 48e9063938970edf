use Rattle.std.proofs.Common.{◌≡◌, false, subst}
use Rattle.std.proofs.lemmas.List.Sorted.{IsNonDecreasingBy-take}
use Rattle.admit_core.specs.Lists.{is_among}
use Rattle.linked_demand.specs.declared.rows.RowWish.{RowWish}
use Rattle.linked_demand.specs.Housed.{ranks_of}
use Rattle.linked_demand.specs.Rungs.{rungs_of, BedRow, IsFirstOf}
use Rattle.linked_demand.proofs.RowBeds.{end_unknown, is_known, other_unknown, zero_unknown}
use Rattle.linked_demand.proofs.row_beds.RowBeds.place_of.Goals as goal

pub first_item-at-requires : goal.first_item-at-requires
first_item-at-requires c =
    IsNonDecreasingBy-take (λ (x : RowWish). x.rank) c.self.inside.known c.self.inside.row.now c.self.invariant.rises

pub returns-then-rank-eq0-clause-none : goal.returns-then-rank-eq0-clause-none
returns-then-rank-eq0-clause-none c =
    let P = λ (b : BedRow). is_among c.args.rank (ranks_of (rungs_of b)) ≡ false in
    subst P c.self.view_is (zero_unknown c.self.invariant c.args.rank c.first_item-at.result
    c.first_item-at.ensures.within c.first_item-at.ensures.point c.if-rank-eq0.true)

pub returns-then-at-self-clause-none : goal.returns-then-at-self-clause-none
returns-then-at-self-clause-none c =
    let P = λ (b : BedRow). is_among c.args.rank (ranks_of (rungs_of b)) ≡ false in
    subst P c.self.view_is (end_unknown c.self.invariant c.args.rank c.first_item-at.result
    c.first_item-at.ensures.within c.first_item-at.ensures.point c.if-at-self.true)

pub returns-then-self-at-clause-none : goal.returns-then-self-at-clause-none
returns-then-self-at-clause-none c =
    let P = λ (b : BedRow). is_among c.args.rank (ranks_of (rungs_of b)) ≡ false in
    subst P c.self.view_is (other_unknown c.self.invariant c.args.rank c.first_item-at.result
    c.first_item-at.ensures.within c.first_item-at.ensures.point _ c.if-at-self.false c.if-self-at.true)

pub returns-clause-found : goal.returns-clause-found
returns-clause-found c =
    let P = λ (b : BedRow). IsFirstOf b c.args.rank c.first_item-at.result in
    subst P c.self.view_is (is_known c.self.invariant c.args.rank c.first_item-at.result
    c.first_item-at.ensures.within c.first_item-at.ensures.point _ c.if-rank-eq0.false c.if-at-self.false
    c.if-self-at.false)

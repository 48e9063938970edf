use Rattle.std.proofs.Common.{◌≡◌, ◌∙◌, ◌+◌, ◌-◌, ap, arith, false, subst, sym, true}
use Rattle.linked_demand.specs.Rungs.{rungs_of, rungs_to, BedRow, GoesBare}
use Rattle.linked_demand.proofs.RowBeds.{beds_bare, beds_housed, count_less, flag_read, gone_bare, gone_read}
use Rattle.linked_demand.proofs.row_beds.RowBeds.step_back.Goals as goal

pub invariant_of-self : goal.invariant_of-self
invariant_of-self c =
    let b = c.self.inside in
    let at : b.known ≡ b.known - 1 + 1 = omega (arith, c.requires, ap (λ (x : BedRow). x.known) c.self.view_is) in
    beds_bare c.self.invariant (b.known - 1) at
    (flag_read c.self.invariant (b.known - 1) at c.index.result.now c.index.ensures false c.if-not-index.true)

pub returns-then-not-index-clause-bare : goal.returns-then-not-index-clause-bare
returns-then-not-index-clause-bare c =
    let b = c.self.inside in
    let at : b.known ≡ b.known - 1 + 1 = omega (arith, c.requires, ap (λ (x : BedRow). x.known) c.self.view_is) in
    let P = λ (x : BedRow). GoesBare (rungs_of x) (rungs_to b.row.now b.flags.items (b.known - 1)) in
    subst P c.self.view_is (gone_bare c.self.invariant (b.known - 1) at
    (flag_read c.self.invariant (b.known - 1) at c.index.result.now c.index.ensures false c.if-not-index.true))

pub overflow_sub-self : goal.overflow_sub-self
overflow_sub-self c =
    let b = c.self.inside in
    let at : b.known ≡ b.known - 1 + 1 = omega (arith, c.requires, ap (λ (x : BedRow). x.known) c.self.view_is) in
    omega (
      arith,
      count_less c.self.invariant (b.known - 1) at
          (flag_read c.self.invariant (b.known - 1) at c.index.result.now c.index.ensures true c.if-not-index.false),
    )

pub invariant_of-self-2 : goal.invariant_of-self-2
invariant_of-self-2 c =
    let b = c.self.inside in
    let at : b.known ≡ b.known - 1 + 1 = omega (arith, c.requires, ap (λ (x : BedRow). x.known) c.self.view_is) in
    beds_housed c.self.invariant (b.known - 1) at
    (flag_read c.self.invariant (b.known - 1) at c.index.result.now c.index.ensures true c.if-not-index.false)

pub returns-clause-housed : goal.returns-clause-housed
returns-clause-housed c =
    let b = c.self.inside in
    let at : b.known ≡ b.known - 1 + 1 = omega (arith, c.requires, ap (λ (x : BedRow). x.known) c.self.view_is) in
    sym (ap rungs_of c.self.view_is) ∙ gone_read c.self.invariant (b.known - 1) at
    (flag_read c.self.invariant (b.known - 1) at c.index.result.now c.index.ensures true c.if-not-index.false) _

use Rattle.std.proofs.Common.{◌∙◌, sym, arith}
use Rattle.linked_demand.specs.Rungs.{rungs_of}
use Rattle.linked_demand.proofs.RowRungs.{some_last}
use Rattle.linked_demand.proofs.RungSteps.{cut_all, cut_last}
use Rattle.linked_demand.proofs.row_beds.RowBeds.cut.Goals as goal

pub step_back-requires : goal.step_back-requires
step_back-requires c =
    let b = c.loop-self.self in
    some_last b.row b.flags b.known (omega (arith, c.last.ensures.rank, c.loop-self-test.true))

pub loop-self-preserved : goal.loop-self-preserved
loop-self-preserved c =
    cut_last (rungs_of c.loop-self.self) (rungs_of c.step_back.new.self) c.step_back.result c.args.to
    c.step_back.ensures.housed c.step_back.ensures.bare
    (omega (arith, c.last.ensures.rank, c.loop-self-test.true)) ∙ c.loop-self.invariant

pub returns : goal.returns
returns c =
    sym (cut_all (rungs_of c.loop-self.self) c.last.result c.args.to c.last.ensures.most
    (omega (arith, c.loop-self-test.false)))
    ∙ c.loop-self.invariant

use Rattle.std.proofs.Common.{◌∙◌, ◌<◌, ℕ, List, ap, arith, length, slice_index, subst, sym}
use Rattle.std.specs.Prelude.{slice_set}
use Rattle.admit_core.specs.Falls.{IsAtMost}
use Rattle.linked_demand.specs.Rounds.{Round}
use Rattle.linked_demand.proofs.BarEach.{bar_each_is}
use Rattle.certificate.specs.PassTests.{round_of}
use Rattle.certificate.proofs.Testing.{falls_under}
use Rattle.certificate.proofs.pass_test.PassTest.lower.Goals as goal

pub lower-requires-clause-in_range : goal.lower-requires-clause-in_range
lower-requires-clause-in_range g c =
    subst (λ (x : Round). c.args.school < length x.ceilings) (sym c.self.view_is) c.requires.within

pub lower-requires-clause-lower : goal.lower-requires-clause-lower
lower-requires-clause-lower g c =
    let r = c.self.inside.round in
    subst (λ (bs : List ℕ). c.args.to < slice_index bs c.args.school)
    (sym (bar_each_is r.ceilings r.bars c.self.invariant.under.as_many))
    (subst (λ (x : Round). c.args.to < slice_index x.bars c.args.school) (sym c.self.view_is) c.requires.lower)

pub invariant_of-self : goal.invariant_of-self
invariant_of-self g c =
    let old = c.self.inside.round in
    let h = c.args.school in
    let fell = c.lower.ensures.round in
    let within = subst (λ (x : Round). h < length x.ceilings) (sym c.self.view_is) c.requires.within in
    let below = subst (λ (x : Round). c.args.to < slice_index x.bars h) (sym c.self.view_is) c.requires.lower in
    record {
      same = ap (λ (r : Round). r.state) fell ∙ c.self.invariant.same;
      index = c.self.invariant.index;
      ceilings = ap (λ (r : Round). length r.ceilings) fell ∙ c.self.invariant.ceilings;
      under = subst (λ (r : Round). IsAtMost r.bars r.ceilings) (sym fell) (falls_under old.bars old.ceilings h
          c.args.to c.self.invariant.under (omega (arith, within, c.self.invariant.under.as_many)) below);
    }

pub returns : goal.returns
returns g c =
    let s = c.self.inside.state.now in
    ap (round_of s) c.lower.ensures.round
    ∙ ap (λ (x : Round). record x { bars = slice_set x.bars c.args.school c.args.to }) c.self.view_is

use Rattle.std.proofs.Common.{◌≡◌, drop}
use Rattle.admit_core.specs.Chains.{bars_by, lines_fault}
use Rattle.certificate.proofs.pass_test.PassTest.check_lines.Given as goal

abbrev pub invariant-loop-line : goal.invariant-loop-line
invariant-loop-line g l =
    let old = l.fn.self in
    let rest = drop l.line-index l.lines in
    record {
      fault : lines_fault old.state old.orders old.ceilings old.bars l.lines
          ≡ lines_fault l.self.state l.self.orders l.self.ceilings l.self.bars rest;
      bars : bars_by old.state old.bars l.lines ≡ bars_by l.self.state l.self.bars rest;
      round : l.self ≡ record old { bars = l.self.bars };
    }

use Rattle.std.proofs.Common.{◌≡◌, ◌-◌, length}
use Rattle.std.specs.Prelude.{find}
use Rattle.std.specs.List.{range_with_len}
use Rattle.admit_core.specs.Boarding.{boarding}
use Rattle.admit_core.specs.Chains.{first_overfilled}
use Rattle.admit_core.specs.Falls.{is_overfilled}
use Rattle.certificate.proofs.pass_test.first_overfilled.Given as goal

abbrev pub invariant-loop-school : goal.invariant-loop-school
invariant-loop-school l =
    let r = l.round in
    first_overfilled (boarding r.state r.orders r.ceilings) r.bars
    ≡ find (is_overfilled (boarding r.state r.orders r.ceilings) r.bars)
    (range_with_len l.school (length r.ceilings - l.school))

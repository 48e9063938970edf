use Rattle.std.proofs.Common.{rules, ◌≡◌, false, length, replicate, refl}
use Rattle.linked_demand.proofs.RowBeds.{beds_along}
use Rattle.linked_demand.proofs.row_beds.RowBeds.along.Goals as goal

pub invariant_of-result : goal.invariant_of-result
invariant_of-result c =
    let flags : c.in_ok-flags.flags.items ≡ replicate (length c.args.row.now) false = search rules in
    beds_along c.args.row.now c.in_ok-flags.flags.items (length c.args.row.now) c.requires flags refl

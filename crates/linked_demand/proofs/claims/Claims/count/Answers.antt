use Rattle.std.proofs.Common.{arith}
use Rattle.linked_demand.proofs.LineWalk.{many_parts}
use Rattle.linked_demand.proofs.claims.Claims.count.Goals as goal

pub returns : goal.returns
returns c =
    omega (
      arith,
      many_parts c.self.inside.wishes.items c.self.inside.bounds.items c.self.view_is,
      c.len.ensures,
    )

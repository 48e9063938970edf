use Rattle.std.proofs.Common.{arith, sym, ◌∙◌}
use Rattle.linked_demand.specs.Claims.{candidates_of}
use Rattle.linked_demand.proofs.ClaimSpans.{begins_there, many_candidates}
use Rattle.linked_demand.proofs.claims.first_of.Goals as goal

pub returns-then-begins_at-clause-within : goal.returns-then-begins_at-clause-within
returns-then-begins_at-clause-within c =
    omega (
      arith,
      many_candidates c.args.applications.now,
      (begins_there (candidates_of c.args.applications.now) c.args.candidate c.args.guess c.requires
          (sym c.begins_at.ensures ∙ c.if-begins_at.true)).0,
    )

pub returns-then-begins_at-clause-point : goal.returns-then-begins_at-clause-point
returns-then-begins_at-clause-point c =
    (begins_there (candidates_of c.args.applications.now) c.args.candidate c.args.guess c.requires
    (sym c.begins_at.ensures ∙ c.if-begins_at.true)).1

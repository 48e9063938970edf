use Rattle.std.proofs.Common.{false, get_or, refl, arith, ◌∙◌}
use Rattle.linked_demand.proofs.Waiting.{single_wants}
use Rattle.linked_demand.proofs.line.wants_alone.Goals as goal

pub returns-then-claim-eq1 : goal.returns-then-claim-eq1
returns-then-claim-eq1 c =
    let opens = c.args.opens.now in
    let claim = c.args.claim.now in
    let wish = get_or claim 0 0 in
    c.get.ensures ∙ single_wants c.args.state.now opens claim (omega (arith, c.if-claim-eq1.true)) c.requires.alone wish
    (get_or opens wish false) refl refl

use Rattle.std.proofs.Common.{◌≡◌, ◌<◌, Some, ap, ◌∙◌, rules, subst}
use Rattle.admit_core.specs.State.{State}
use Rattle.admit_core.specs.Proposals.{demands_bed, is_proposed}
use Rattle.day_state.specs.Kept.{mark_in, wish_in}
use Rattle.linked_demand.specs.Rounds.{Round}
use Rattle.certificate.proofs.Naming.{demands_by}
use Rattle.certificate.proofs.pass_test.PassTest.demands_bed.Goals as goal

pub returns : goal.returns
returns c =
    let has : c.wish_at-wish.result.school ≡ Some c.in-Some.own = search rules in
    let same : c.in-Some.own ≡ c.args.school = search rules in
    let ranked : 0 < c.wish_at-wish.result.board_rank = search rules in
    let k = c.args.place in
    let r = c.self.inside.round in
    let s = c.self.inside.state.now in
    let wants = c.is_proposed.ensures
    ∙ ap (λ (t : State). is_proposed t r.orders r.bars (wish_in t.dossier.wishes k) (mark_in t.marks k))
    c.self.invariant.same in
    let demands = demands_by s r.orders r.bars _ _ _ (mark_in s.marks k) _ _ _ c.wish_at-wish.ensures.wish has same
    ranked c.if-is_live_in_its_school.false c.is_live_in_its_school.ensures wants in
    subst (λ (x : Round). c.is_proposed.result
    ≡ demands_bed x.state x.orders x.bars c.args.school (wish_in x.state.dossier.wishes k) (mark_in x.state.marks k))
    c.self.view_is demands

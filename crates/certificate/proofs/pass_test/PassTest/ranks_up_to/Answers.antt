use Rattle.std.proofs.Common.{◌≡◌, ◌<◌, ℕ, List, filter, length, map, nat_le, ap, ◌∙◌, sym, subst}
use Rattle.std.specs.Prelude.{IfOk}
use Rattle.std.proofs.lemmas.List.Elements.{All-same}
use Rattle.admit_core.specs.Proposals.{demanded_ranks}
use Rattle.admit_core.specs.declared.state.Mark.{Mark}
use Rattle.day_state.specs.Kept.{wish_in}
use Rattle.linked_demand.specs.Rounds.{Round}
use Rattle.certificate.proofs.Naming.{names_told, names_are_places, ranks_back}
use Rattle.certificate.proofs.pass_test.PassTest.ranks_up_to.Goals as goal

pub names-requires : goal.names-requires
names-requires c = subst (λ (x : Round). c.args.school < length x.ceilings) (sym c.self.view_is) c.requires

pub ranks_of-requires : goal.ranks_of-requires
ranks_of-requires c =
    let s = c.self.inside.state.now in
    let long : length s.marks ≡ length s.dossier.wishes =
    ap (λ (ms : List Mark). length ms) (sym c.marks.ensures.marks) ∙ c.marks.ensures.one_each in
    let r = c.self.inside.round in
    let told = names_told r.state s r.orders r.ceilings r.bars c.args.school c.args.most _
    c.self.invariant.same c.self.invariant.under.as_many c.in_ok-names.ensures in
    All-same (λ (k : ℕ). k < length s.dossier.wishes) _ _ (c.deref.ensures.value ∙ told)
    (names_are_places s r.orders r.bars c.args.school c.args.most long)

pub returns : goal.returns
returns c =
    let s = c.self.inside.state.now in
    let long : length s.marks ≡ length s.dossier.wishes =
    ap (λ (ms : List Mark). length ms) (sym c.marks.ensures.marks) ∙ c.marks.ensures.one_each in
    let r = c.self.inside.round in
    let told = names_told r.state s r.orders r.ceilings r.bars c.args.school c.args.most _
    c.self.invariant.same c.self.invariant.under.as_many c.in_ok-names.ensures in
    let ranks = subst (λ (xs : List ℕ). IfOk c.ranks_of.result (λ v. v.items ≡ xs))
    (ap (map (λ (k : ℕ). (wish_in s.dossier.wishes k).board_rank)) (c.deref.ensures.value ∙ told)
    ∙ ranks_back s r.orders r.bars c.args.school c.args.most long)
    c.ranks_of.ensures in
    subst (λ (x : Round). IfOk c.ranks_of.result (λ v.
    v.items ≡ filter (λ rank. nat_le rank c.args.most) (demanded_ranks x.state x.orders x.bars c.args.school)))
    c.self.view_is ranks

use Rattle.std.proofs.Common.{◌≡◌, ◌<◌, false, List, map, length, nat_eq, ap, sym, ◌∙◌, subst}
use Rattle.std.specs.List.{IsDistinct}
use Rattle.admit_core.specs.Chains.{shows_rank}
use Rattle.admit_core.specs.Proposals.{demands_bed}
use Rattle.admit_core.specs.declared.dossier.Wish.{Wish}
use Rattle.admit_core.specs.declared.state.Mark.{Mark}
use Rattle.admit_core.specs.DossierRows.{DossierRows}
use Rattle.day_state.specs.Kept.{mark_in, wish_in}
use Rattle.linked_demand.specs.Rounds.{Round}
use Rattle.certificate.proofs.Naming.{place_told, place_within, shows_none, shows_there}
use Rattle.certificate.proofs.pass_test.PassTest.shows_rank.Goals as goal

pub returns-in-None : goal.returns-in-None
returns-in-None c =
    let s = c.self.inside.state.now in
    let r = c.self.inside.round in
    let long : length s.marks ≡ length s.dossier.wishes =
    ap (λ (ms : List Mark). length ms) (sym c.marks.ensures.marks) ∙ c.marks.ensures.one_each in
    let none = place_told s c.self.inside.index.now c.args.id c.self.invariant.index
    (sym c.wish_place.ensures ∙ c.in-None.is) in
    subst (λ (x : Round). false ≡ shows_rank x.state x.orders x.bars c.args.school c.args.rank c.args.id)
    c.self.view_is (shows_none s long r.orders r.bars c.args.school c.args.rank c.args.id none)

pub returns-then-demands : goal.returns-then-demands
returns-then-demands c =
    let s = c.self.inside.state.now in
    let r = c.self.inside.round in
    let k = c.in-Some.place in
    let long : length s.marks ≡ length s.dossier.wishes =
    ap (λ (ms : List Mark). length ms) (sym c.marks.ensures.marks) ∙ c.marks.ensures.one_each in
    let P : DossierRows → Type 0 = λ d. IsDistinct nat_eq (map (λ (w : Wish). w.id) d.wishes) in
    let distinct = subst P (c.dossier.view_is ∙ c.dossier-dossier.ensures) c.dossier.invariant.ids.wishes in
    let found = place_told s c.self.inside.index.now c.args.id c.self.invariant.index
    (sym c.wish_place.ensures ∙ c.in-Some.is) in
    let demands = subst (λ (x : Round). demands_bed x.state x.orders x.bars c.args.school
    (wish_in x.state.dossier.wishes k) (mark_in x.state.marks k) ≡ c.demands_bed-demands.result)
    (sym c.self.view_is) (sym c.demands_bed-demands.ensures) in
    subst (λ (x : Round). nat_eq c.args.rank c.wish_at.result.board_rank
    ≡ shows_rank x.state x.orders x.bars c.args.school c.args.rank c.args.id) c.self.view_is
    (ap (λ (w : Wish). nat_eq c.args.rank w.board_rank) c.wish_at.ensures.wish
    ∙ shows_there s r.orders r.bars c.args.school c.args.rank c.args.id k _ long distinct found
    (demands ∙ c.if-demands.true))

pub returns-else-demands : goal.returns-else-demands
returns-else-demands c =
    let s = c.self.inside.state.now in
    let r = c.self.inside.round in
    let k = c.in-Some.place in
    let long : length s.marks ≡ length s.dossier.wishes =
    ap (λ (ms : List Mark). length ms) (sym c.marks.ensures.marks) ∙ c.marks.ensures.one_each in
    let P : DossierRows → Type 0 = λ d. IsDistinct nat_eq (map (λ (w : Wish). w.id) d.wishes) in
    let distinct = subst P (c.dossier.view_is ∙ c.dossier-dossier.ensures) c.dossier.invariant.ids.wishes in
    let found = place_told s c.self.inside.index.now c.args.id c.self.invariant.index
    (sym c.wish_place.ensures ∙ c.in-Some.is) in
    let demands = subst (λ (x : Round). demands_bed x.state x.orders x.bars c.args.school
    (wish_in x.state.dossier.wishes k) (mark_in x.state.marks k) ≡ c.demands_bed-demands.result)
    (sym c.self.view_is) (sym c.demands_bed-demands.ensures) in
    subst (λ (x : Round). c.demands_bed-demands.result
    ≡ shows_rank x.state x.orders x.bars c.args.school c.args.rank c.args.id) c.self.view_is
    (c.if-demands.false
    ∙ shows_there s r.orders r.bars c.args.school c.args.rank c.args.id k _ long distinct found
    (demands ∙ c.if-demands.false))

pub demands_bed-demands-requires : goal.demands_bed-demands-requires
demands_bed-demands-requires c =
    subst (λ (x : Round). c.in-Some.place < length x.state.dossier.wishes) c.self.view_is
    (place_within c.self.inside.state.now c.self.inside.index.now c.args.id c.in-Some.place c.self.invariant.index
    (sym c.wish_place.ensures ∙ c.in-Some.is))

pub wish_at-requires : goal.wish_at-requires
wish_at-requires c =
    place_within c.self.inside.state.now c.self.inside.index.now c.args.id c.in-Some.place c.self.invariant.index
    (sym c.wish_place.ensures ∙ c.in-Some.is)

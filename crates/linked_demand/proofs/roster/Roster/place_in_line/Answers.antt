use Rattle.std.proofs.Common.{◌≡◌, ◌<◌, ap, arith, length, refl, subst, sym}
use Rattle.day_state.specs.Kept.{wish_in}
use Rattle.linked_demand.specs.Links.{IsSeatPlace}
use Rattle.linked_demand.specs.Opens.{line_of}
use Rattle.linked_demand.specs.Rosters.{Setting}
use Rattle.linked_demand.proofs.Closing.{wish_there}
use Rattle.linked_demand.proofs.Items.{place_is}
use Rattle.linked_demand.proofs.roster.Roster.place_in_line.Goals as goal

pub returns-clause-place : goal.returns-clause-place
returns-clause-place c =
    let k = c.args.wish in
    let d = c.self.inside.dossier.now in
    let notes = c.self.invariant.lineup_is.lines.notes_are in
    let same : length d.wishes ≡ length c.args.self.now.dossier.wishes =
    ap (λ (r : Setting). length r.dossier.wishes) c.self.view_is in
    let lt : k < length d.wishes = omega (arith, same, c.requires) in
    let at = wish_there d.wishes k (wish_in d.wishes k) lt refl in
    let there = subst (λ n. IsSeatPlace d c.self.inside.orders.now.orders (wish_in d.wishes k) n) (sym c.place.ensures)
    (notes.places_are k (wish_in d.wishes k) at) in
    let stands = subst (λ (r : Setting). IsSeatPlace r.dossier r.orders (wish_in r.dossier.wishes k) c.place.result)
    c.self.view_is there in
    let w = wish_in c.args.self.now.dossier.wishes k in
    sym (place_is w.candidate (line_of c.args.self.now.dossier c.args.self.now.orders w.programme) c.place.result
    stands)

pub returns-clause-called : goal.returns-clause-called
returns-clause-called c =
    let k = c.args.wish in
    let d = c.self.inside.dossier.now in
    let notes = c.self.invariant.lineup_is.lines.notes_are in
    let same : length d.wishes ≡ length c.args.self.now.dossier.wishes =
    ap (λ (r : Setting). length r.dossier.wishes) c.self.view_is in
    let lt : k < length d.wishes = omega (arith, same, c.requires) in
    let at = wish_there d.wishes k (wish_in d.wishes k) lt refl in
    let there = subst (λ n. IsSeatPlace d c.self.inside.orders.now.orders (wish_in d.wishes k) n) (sym c.place.ensures)
    (notes.places_are k (wish_in d.wishes k) at) in
    let stands = subst (λ (r : Setting). IsSeatPlace r.dossier r.orders (wish_in r.dossier.wishes k) c.place.result)
    c.self.view_is there in
    stands.within

use Rattle.std.proofs.Common.{rules, ℕ, List, ◌≡◌, ◌∙◌, ap, refl, sym, length, subst}
use Rattle.linked_demand.specs.Boarders.{AreBySchool}
use Rattle.linked_demand.specs.Links.{LinksRow}
use Rattle.linked_demand.specs.Rounds.{IsRoundAlong}
use Rattle.linked_demand.specs.Opens.{opens_of}
use Rattle.linked_demand.proofs.BarEach.{bar_each_same}
use Rattle.linked_demand.proofs.round.LinkedRound.build_with.Goals as goal

pub returns-clause-bars : goal.returns-clause-bars
returns-clause-bars c = bar_each_same c.in_ok-own.own.items c.in_ok-bars.bars.items
    c.args.ceilings.now (search rules) (search rules)

pub schools_of-requires : goal.schools_of-requires
schools_of-requires c =
    let boarders = c.as_slice-boarders.result.now in
    let P = λ (l : LinksRow). AreBySchool l.state.dossier l.orders boarders in
    let Q = λ (l : LinksRow). l.opens ≡ opens_of l.state c.args.ceilings.now in
    let R = λ (l : LinksRow). length c.args.ceilings.now ≡ length l.state.dossier.schools in
    let B = λ (l : LinksRow). length c.deref.result.now ≡ length l.state.dossier.schools in
    let right : AreBySchool c.args.state.now.dossier c.args.orders.now.orders boarders =
    rw c.as_slice-boarders.ensures.value c.requires.lineup.boarders in
    record {
      boarders = subst P (sym c.in_ok-links.ensures) right;
      opens = subst Q (sym c.in_ok-links.ensures) refl;
      beds = subst B (sym c.in_ok-links.ensures) (ap length c.deref.ensures.value ∙ c.requires.beds);
      bars = subst R (sym c.in_ok-links.ensures) c.requires.ceilings;
    }

pub invariant_of-result : goal.invariant_of-result
invariant_of-result c =
    let bars : c.in_ok-bars.bars.items ≡ c.args.ceilings.now = search rules in
    let ceilings : c.in_ok-own.own.items ≡ c.args.ceilings.now = search rules in
    let ends = c.in_ok-ends in
    let P = λ (beds : List ℕ). IsRoundAlong c.in_ok-links.links c.args.ceilings.now c.args.ceilings.now beds
    c.as_slice-boarders.result.now ends.field-0.ends.items (record {
      overfilled = ends.field-0.overfilled;
      marked = ends.field-0.marked;
      housed = ends.field-0.housed.items;
    }) in
    rw (bars, ceilings) (subst P c.deref.ensures.value ends.ensures)

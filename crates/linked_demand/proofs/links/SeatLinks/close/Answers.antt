use Rattle.std.proofs.Common.{◌≡◌, ℕ, ◌+◌, Bool, List, arith, ap, length, drop, refl, sym, ◌∙◌, false}
use Rattle.std.proofs.Common.{slice_set, subst}
use Rattle.std.specs.Prelude.{if◌then◌else◌}
use Rattle.linked_demand.specs.Line.{last_new, next}
use Rattle.linked_demand.specs.Links.{AllOpenWait, LinksRow}
use Rattle.linked_demand.specs.Wants.{claim_at, wants_along, AllNeedSeatAlone}
use Rattle.linked_demand.proofs.Closing.{wish_within, programme_within, claims_each, row_within}
use Rattle.linked_demand.proofs.Items.{closes_item, item_bundle, item_reads, item_stands, item_waits}
use Rattle.linked_demand.proofs.Leaving.{before_within, front_moved, reached_each, reach_put, row_below, row_still}
use Rattle.linked_demand.proofs.Ticking.{fresh_fits, told_front}
use Rattle.linked_demand.proofs.links.SeatLinks.close.Goals as goal

pub leaves_by_closing-leaves-requires : goal.leaves_by_closing-leaves-requires
leaves_by_closing-leaves-requires g c =
    let links = c.self.invariant.reach.links in
    let k = closes_item links c.args.self.now c.self.view_is c.args.item.now c.requires.waits c.requires.item in
    let at = item_stands links c.args.self.now c.self.view_is c.args.item.now c.requires.waits c.requires.item in
    let row = c.index-claims.result.now in
    record {
      wish = wish_within k;
      opens = links.opens_each;
      place = row_within k c.args.item.now.place at row c.index-claims.ensures;
      waits = item_waits links c.args.self.now c.self.view_is c.args.item.now c.requires.waits c.requires.item;
      bundle = item_bundle links c.args.self.now c.self.view_is c.args.item.now c.requires.waits c.requires.item;
    }

pub index-claims-requires : goal.index-claims-requires
index-claims-requires g c =
    let k = closes_item c.self.invariant.reach.links c.args.self.now c.self.view_is c.args.item.now
    c.requires.waits c.requires.item in
    omega (arith, programme_within k, claims_each k)

pub index-before-requires : goal.index-before-requires
index-before-requires g c =
    let k = closes_item c.self.invariant.reach.links c.args.self.now c.self.view_is c.args.item.now
    c.requires.waits c.requires.item in
    omega (arith, programme_within k, reached_each k c.self.inside.reached.items c.self.invariant.reach.reached_are)

pub index_mut-requires : goal.index_mut-requires
index_mut-requires g c =
    let k = closes_item c.self.invariant.reach.links c.args.self.now c.self.view_is c.args.item.now
    c.requires.waits c.requires.item in
    omega (arith, programme_within k, reached_each k c.self.inside.reached.items c.self.invariant.reach.reached_are)

pub reached_after-now-requires : goal.reached_after-now-requires
reached_after-now-requires g c =
    let reads = item_reads c.self.invariant.reach c.args.self.now c.self.view_is c.args.item.now c.requires.waits
    c.requires.item c.index-claims.result.now c.index-claims.ensures c.index-before.result.now c.index-before.ensures
    c.leaves_by_closing-leaves.new.opens c.leaves_by_closing-leaves.ensures.opens
    c.leaves_by_closing-leaves.result c.leaves_by_closing-leaves.ensures.leaves in
    let P = λ (l : LinksRow). AllOpenWait l.state l.opens in
    let Q = λ (fs : List Bool). AllNeedSeatAlone c.self.inside.state.now fs c.index-claims.result.now in
    record {
      from = before_within reads;
      claims = row_below reads;
      alone = subst Q (sym c.leaves_by_closing-leaves.ensures.opens)
          (row_still reads (subst P (sym c.self.view_is) c.requires.open_wait));
    }

pub fresh_claim-fresh-requires : goal.fresh_claim-fresh-requires
fresh_claim-fresh-requires g c =
    let reads = item_reads c.self.invariant.reach c.args.self.now c.self.view_is c.args.item.now c.requires.waits
    c.requires.item c.index-claims.result.now c.index-claims.ensures c.index-before.result.now c.index-before.ensures
    c.leaves_by_closing-leaves.new.opens c.leaves_by_closing-leaves.ensures.opens
    c.leaves_by_closing-leaves.result c.leaves_by_closing-leaves.ensures.leaves in
    let P = λ (l : LinksRow). AllOpenWait l.state l.opens in
    let Q = λ (fs : List Bool). AllNeedSeatAlone c.self.inside.state.now fs c.index-claims.result.now in
    record {
      reached = c.reached_after-now.ensures.within;
      claims = row_below reads;
      alone = subst Q (sym c.leaves_by_closing-leaves.ensures.opens)
          (row_still reads (subst P (sym c.self.view_is) c.requires.open_wait));
    }

pub note_fresh-requires : goal.note_fresh-requires
note_fresh-requires g c =
    let r = c.self.inside in
    let s = r.state.now in
    let k = closes_item c.self.invariant.reach.links c.args.self.now c.self.view_is c.args.item.now
    c.requires.waits c.requires.item in
    let at = item_stands c.self.invariant.reach.links c.args.self.now c.self.view_is c.args.item.now c.requires.waits
    c.requires.item in
    let row = c.index-claims.result.now in
    let before : ℕ = c.index-before.result.now in
    let now : ℕ = c.reached_after-now.result in
    let flags = wants_along s c.leaves_by_closing-leaves.new.opens row in
    let schools : length c.args.self.now.state.dossier.schools ≡ length s.dossier.schools =
    ap (λ (l : LinksRow). length l.state.dossier.schools) (sym c.self.view_is) in
    record {
      claim = fresh_fits k c.args.item.now.place at row c.index-claims.ensures c.args.self.now c.self.view_is before now
          c.reached_after-now.ensures.within flags c.fresh_claim-fresh.result.now c.fresh_claim-fresh.ensures
          (length s.dossier.wishes) refl;
      bars = c.requires.bars ∙ schools;
      marked = c.requires.marked ∙ ap (λ (l : LinksRow). length l.state.dossier.wishes) (sym c.self.view_is);
    }

pub invariant_of-self : goal.invariant_of-self
invariant_of-self g c =
    let k = closes_item c.self.invariant.reach.links c.args.self.now c.self.view_is c.args.item.now
    c.requires.waits c.requires.item in
    let reads = item_reads c.self.invariant.reach c.args.self.now c.self.view_is c.args.item.now c.requires.waits
    c.requires.item c.index-claims.result.now c.index-claims.ensures c.index-before.result.now c.index-before.ensures
    c.leaves_by_closing-leaves.new.opens c.leaves_by_closing-leaves.ensures.opens
    c.leaves_by_closing-leaves.result c.leaves_by_closing-leaves.ensures.leaves in
    let r = c.self.inside in
    let s = r.state.now in
    let row = c.index-claims.result.now in
    let before : ℕ = c.index-before.result.now in
    let now : ℕ = c.reached_after-now.result in
    let opened = c.leaves_by_closing-leaves.ensures.opens in
    let moved = front_moved reads now
    (last_new (wants_along s (slice_set r.opens c.args.item.now.wish false) row) before now)
    (c.reached_after-now.ensures.place
    ∙ ap (λ (fs : List Bool). if c.leaves_by_closing-leaves.result
    then before + next (drop before (wants_along s fs row)) else before) opened) refl in
    rw opened (record {
      reach = reach_put k r.reached.items c.self.invariant.reach.reached_are now moved.reach;
      notes_are = c.self.invariant.notes_are;
      limited_are = c.self.invariant.limited_are;
      beside_are = c.self.invariant.beside_are;
    })

pub returns : goal.returns
returns g c =
    let k = closes_item c.self.invariant.reach.links c.args.self.now c.self.view_is c.args.item.now
    c.requires.waits c.requires.item in
    let reads = item_reads c.self.invariant.reach c.args.self.now c.self.view_is c.args.item.now c.requires.waits
    c.requires.item c.index-claims.result.now c.index-claims.ensures c.index-before.result.now c.index-before.ensures
    c.leaves_by_closing-leaves.new.opens c.leaves_by_closing-leaves.ensures.opens
    c.leaves_by_closing-leaves.result c.leaves_by_closing-leaves.ensures.leaves in
    let r = c.self.inside in
    let s = r.state.now in
    let row = c.index-claims.result.now in
    let before : ℕ = c.index-before.result.now in
    let now : ℕ = c.reached_after-now.result in
    let opened = c.leaves_by_closing-leaves.ensures.opens in
    let moved = front_moved reads now
    (last_new (wants_along s (slice_set r.opens c.args.item.now.wish false) row) before now)
    (c.reached_after-now.ensures.place
    ∙ ap (λ (fs : List Bool). if c.leaves_by_closing-leaves.result
    then before + next (drop before (wants_along s fs row)) else before) opened) refl in
    let closed = λ (l : LinksRow). record l { opens = slice_set l.opens c.args.item.now.wish false } in
    let fresh = c.fresh_claim-fresh.ensures
    ∙ ap (λ (fs : List Bool). claim_at row (last_new (wants_along s fs row) before now)) opened in
    let told = told_front k c.args.item.now.place reads.stands row c.index-claims.ensures c.args.self.now c.self.view_is
    before now c.reached_after-now.ensures.within
    (wants_along s (slice_set r.opens c.args.item.now.wish false) row) moved
    c.args.bars.now c.args.steps.now c.note_fresh.new.steps c.args.marked.now c.note_fresh.new.marked
    c.leaves_by_closing-leaves.new.opens c.fresh_claim-fresh.result.now opened fresh
    c.note_fresh.ensures.steps c.note_fresh.ensures.marked in
    rw opened (record { value = ap closed c.self.view_is; steps = told.steps; marked = told.marked })

use Rattle.std.proofs.Common.{false, ◌≡◌, ◌-◌, ◌+◌, ◌≤◌, ℕ, true, Some, arith, get_or, length, ap, subst}
use Rattle.std.proofs.Common.{sym, ◌∙◌}
use Rattle.std.specs.Prelude.{slice_get}
use Rattle.std.proofs.lemmas.Option.{slice_get-get_or}
use Rattle.day_state.specs.declared.numbers.BundleNumber.TheVariants.{NoSite}
use Rattle.linked_demand.specs.declared.rows.RowWish.{RowWish}
use Rattle.linked_demand.specs.Links.{LinksRow}
use Rattle.linked_demand.specs.Rows.{IsItem, needs_bed, row_in}
use Rattle.linked_demand.proofs.Cutting.{cut_there, item_still, open_still, read_in_row, same_at, same_links}
use Rattle.linked_demand.proofs.Cutting.{so_far_start}
use Rattle.linked_demand.proofs.Cutting.{so_far_step, waits_still}
use Rattle.linked_demand.proofs.Passing.{one_more, passing, passing_all}
use Rattle.linked_demand.proofs.Staying.{none_new, none_marked}
use Rattle.linked_demand.proofs.Telling.{steps_told, marks_told}
use Rattle.linked_demand.proofs.cut.close_past.Goals as goal

abbrev no_item : RowWish
no_item = record {
  rank = 0;
  wish = 0;
  programme = 0;
  place = 0;
  bundle = NoSite;
  shared = false;
  called_by_limit = false;
}

pub loop-end-init : goal.loop-end-init
loop-end-init g c =
    let start = c.args.links.now in
    let front = c.args.front.now in
    let q = needs_bed start.state in
    let all : passing q front (length front) ≡ length (row_in start.state front) =
    passing_all q front (length front) (omega arith) in
    record {
      within = omega arith;
      cut = so_far_start c.args.to (row_in start.state front) start (passing q front (length front)) all;
      steps = omega (arith, all, none_new start c.args.bars.now start);
      marked = none_marked start c.args.bars.now start c.args.marked.now;
    }

pub needs_bed-requires : goal.needs_bed-requires
needs_bed-requires g c =
    let front = c.args.front.now in
    let far = c.loop-end.invariant.cut in
    let end : ℕ = c.loop-end.end in
    let n : ℕ = c.loop-end.end - 1 in
    let next : end ≡ n + 1 = omega arith in
    let x = get_or front n no_item in
    let P = λ (l : LinksRow). IsItem l.state.dossier l.orders x in
    subst P (sym far.now_is)
    (c.requires.front.own n no_item (omega (arith, c.loop-end.invariant.within, next)))

pub close-requires : goal.close-requires
close-requires g c =
    let start = c.args.links.now in
    let front = c.args.front.now in
    let q = needs_bed start.state in
    let row = row_in start.state front in
    let far = c.loop-end.invariant.cut in
    let end : ℕ = c.loop-end.end in
    let n : ℕ = c.loop-end.end - 1 in
    let next : end ≡ n + 1 = omega arith in
    let x = get_or front n no_item in
    let at : slice_get front n ≡ Some x =
    slice_get-get_or front n no_item (omega (arith, c.loop-end.invariant.within, next)) in
    let needs : q x ≡ true =
    ap (λ (r : LinksRow). needs_bed r.state x) (sym far.now_is) ∙ sym c.needs_bed.ensures ∙ c.if-needs_bed.true in
    let more = one_more q front n end x at next needs in
    let read : x ≡ get_or row (passing q front n) x = read_in_row start.state front n x at needs in
    let schools : length start.state.dossier.schools ≡ length c.loop-end.links.state.dossier.schools =
    ap (λ (r : LinksRow). length r.state.dossier.schools) (sym far.now_is) in
    record {
      waits = waits_still c.args.to row start c.loop-end.links (passing q front end) (passing q front n) x far
          (omega (arith, more)) read c.requires.front.waits;
      item = item_still c.args.to row start c.loop-end.links (passing q front end) (passing q front n) x far
          (omega (arith, more)) read c.requires.front.items;
      open_wait = open_still c.args.to row start c.loop-end.links (passing q front end) far c.requires.front.open_wait;
      bars = c.requires.bars ∙ schools;
      marked = c.loop-end.invariant.marked.as_long ∙ c.requires.marked
          ∙ ap (λ (r : LinksRow). length r.state.dossier.wishes) (sym far.now_is);
    }

pub loop-end-preserved-then-needs_bed : goal.loop-end-preserved-then-needs_bed
loop-end-preserved-then-needs_bed g c =
    let start = c.args.links.now in
    let front = c.args.front.now in
    let q = needs_bed start.state in
    let row = row_in start.state front in
    let far = c.loop-end.invariant.cut in
    let end : ℕ = c.loop-end.end in
    let n : ℕ = c.loop-end.end - 1 in
    let next : end ≡ n + 1 = omega arith in
    let x = get_or front n no_item in
    let at : slice_get front n ≡ Some x =
    slice_get-get_or front n no_item (omega (arith, c.loop-end.invariant.within, next)) in
    let needs : q x ≡ true =
    ap (λ (r : LinksRow). needs_bed r.state x) (sym far.now_is) ∙ sym c.needs_bed.ensures ∙ c.if-needs_bed.true in
    let more = one_more q front n end x at next needs in
    let read : x ≡ get_or row (passing q front n) x = read_in_row start.state front n x at needs in
    let further =
    so_far_step c.args.to row start c.loop-end.links c.close.new.self (passing q front end) (passing q front n) x x
    far (omega (arith, more)) read c.if-front-end.true read c.close.ensures.value in
    record {
      within = omega (arith, c.loop-end.invariant.within);
      cut = further;
      steps =
          steps_told start c.args.bars.now c.args.to row c.requires.front.stay c.loop-end.links c.close.new.self
          (passing q front end) (passing q front n) x.wish far further c.close.ensures.value
          c.args.steps.now c.loop-end.steps c.tick.new.self c.close.new.steps (omega (arith, more))
          c.loop-end.invariant.steps c.tick.ensures c.close.ensures.steps;
      marked =
          marks_told start c.args.bars.now c.args.to row c.requires.front.stay c.loop-end.links c.close.new.self
          (passing q front end) (passing q front n) x.wish far further c.close.ensures.value
          c.args.marked.now c.loop-end.marked c.close.new.marked c.loop-end.invariant.marked c.close.ensures.marked;
    }

pub returns-else-front-end : goal.returns-else-front-end
returns-else-front-end g c =
    let start = c.args.links.now in
    let front = c.args.front.now in
    let inv = c.loop-end.invariant in
    let end : ℕ = c.loop-end.end in
    let last : RowWish = get_or front (end - 1) no_item in
    let at : slice_get front (end - 1) ≡ Some last =
    slice_get-get_or front (end - 1) no_item (omega (arith, inv.within, c.loop-end-test.true)) in
    let P = λ (y : RowWish). y.rank ≤ c.args.to in
    record {
      within = inv.within;
      cut = cut_there c.args.to front start c.loop-end.links end c.requires.front.rises inv.cut inv.within
          (λ y some there. subst P (same_at front (end - 1) last y at there) c.if-front-end.false);
      links = same_links c.args.to (row_in start.state front) start c.loop-end.links
          (passing (needs_bed start.state) front end) inv.cut;
      steps = inv.steps;
      marked = inv.marked;
    }

pub returns-after-loop-end : goal.returns-after-loop-end
returns-after-loop-end g c =
    let start = c.args.links.now in
    let front = c.args.front.now in
    let inv = c.loop-end.invariant in
    let end : ℕ = c.loop-end.end in
    record {
      within = inv.within;
      cut = cut_there c.args.to front start c.loop-end.links end c.requires.front.rises inv.cut inv.within
          (λ y some there. absurd (omega (arith, some, c.loop-end-test.false)));
      links = same_links c.args.to (row_in start.state front) start c.loop-end.links
          (passing (needs_bed start.state) front end) inv.cut;
      steps = inv.steps;
      marked = inv.marked;
    }

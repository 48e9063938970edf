use Rattle.std.proofs.Common.{◌≡◌, ◌<◌, ◌&&◌, ℕ, false, not, ap, arith, get_or, length, set}
use Rattle.std.proofs.Common.{sym, ◌∙◌}
use Rattle.std.proofs.lemmas.Bool.{and_parts}
use Rattle.std.proofs.lemmas.List.{get_or-map, length-map, length-set}
use Rattle.day_state.specs.Kept.{has_bed_there}
use Rattle.day_state.specs.declared.numbers.BundleNumber.TheVariants.{NoSite}
use Rattle.linked_demand.specs.declared.rows.RowWish.{RowWish}
use Rattle.linked_demand.specs.Boarders.{items_wishes}
use Rattle.linked_demand.proofs.Shutting.{asked_open, close_one}
use Rattle.linked_demand.proofs.opening.close_behind.Goals as goal

abbrev no_item : RowWish
no_item = record {
  rank = 0;
  wish = 0;
  programme = 0;
  place = 0;
  bundle = NoSite;
  shared = false;
  called_by_limit = false;
}

pub loop-item-preserved : goal.loop-item-preserved
loop-item-preserved c =
    let s = c.args.state.now in
    let behind = c.args.behind.now in
    let i = c.loop-item.item-index in
    let lt : i < length behind = c.loop-item-test.true in
    let wish = λ (x : RowWish). x.wish in
    let p : ℕ = (get_or behind i no_item).wish in
    let flags = c.loop-item.opens in
    let inv = c.loop-item.invariant in
    let within : p < length c.args.opens.now =
    omega (arith, (c.requires.wishes i no_item lt).within, c.requires.opens) in
    let closes : c.close_if.new.self ≡ set flags p (get_or flags p false && not (not (has_bed_there s p))) =
    c.close_if.ensures
    ∙ ap (set flags p) (asked_open (get_or flags p false) c.has_item_bed-has_bed.result (has_bed_there s p) (λ opened.
    let was = (and_parts (get_or c.args.opens.now p false) _ (sym (inv.each p within) ∙ opened)).0 in
    c.has_item_bed-has_bed.ensures (c.requires.waits p was))) in
    record {
      as_long = ap length closes ∙ length-set flags p _ ∙ inv.as_long;
      each = close_one s (items_wishes behind) i p c.args.opens.now flags c.close_if.new.self
          (omega (arith, lt, length-map behind wish)) (get_or-map wish behind i no_item 0 lt) within inv.as_long
          inv.each closes;
    }

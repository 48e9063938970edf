use Rattle.std.proofs.Common.{ℕ, ◌<◌, ◌≡◌, false, List, length, get_or, nat_eq, sym, ◌∙◌, ap, arith, subst}
use Rattle.std.proofs.lemmas.List.{length-map, take_all}
use Rattle.day_state.specs.declared.numbers.BundleNumber.TheVariants.{NoSite}
use Rattle.linked_demand.specs.declared.boarders.Boarder.{Boarder}
use Rattle.linked_demand.specs.Boarders.{boards_in, wishes_of, AreBoarders}
use Rattle.linked_demand.specs.Keyed.{AreRowsOf}
use Rattle.linked_demand.specs.Rows.{item_at}
use Rattle.linked_demand.proofs.Boarding.{in_own_school, place_of, places_within}
use Rattle.linked_demand.proofs.Keyed.{rows_more}
use Rattle.linked_demand.proofs.boarders.boarders_by_school.Goals as goal

pub loop-boarder-preserved : goal.loop-boarder-preserved
loop-boarder-preserved c =
    let d = c.args.state.now.dossier in
    let boarders : List Boarder = c.as_slice-boarder-items.result.now in
    let right : AreBoarders d boarders = rw c.as_slice-boarder-items.ensures.value c.in_ok-boarders.ensures in
    let places = wishes_of boarders in
    let i = c.loop-boarder.boarder-index in
    let none : Boarder = record { wish = 0; school = 0; rank = 0; programme = 0; bundle = NoSite; shared = false } in
    let b = get_or boarders i none in
    let lt : i < length boarders = c.loop-boarder-test.true in
    let k_is : get_or places i 0 ≡ b.wish = place_of boarders i none lt in
    let item = item_at d c.args.orders.now.orders in
    rows_more item (boards_in d) (length d.schools) places i (λ h. nat_eq b.school h) c.item_of-item.result
    c.loop-boarder.rows.items c.put_in.new.rows.items
    (omega (arith, lt, length-map boarders (λ (x : Boarder). x.wish)))
    (in_own_school d b (right.each i none lt) (get_or places i 0) k_is)
    (c.item_of-item.ensures ∙ ap item (sym k_is)) c.loop-boarder.invariant c.in_ok-put_in.ensures

pub returns : goal.returns
returns c =
    let d = c.args.state.now.dossier in
    let boarders : List Boarder = c.as_slice-boarder-items.result.now in
    let right : AreBoarders d boarders = rw c.as_slice-boarder-items.ensures.value c.in_ok-boarders.ensures in
    let P = λ (ks : List ℕ). AreRowsOf (item_at d c.args.orders.now.orders) (boards_in d) (length d.schools) ks
    c.loop-boarder.rows.items in
    record {
      places = wishes_of boarders;
      within = places_within d boarders right.each;
      by_rank = right.wishes;
      rows_are = subst P (take_all c.loop-boarder.boarder-index (wishes_of boarders)
          (omega (arith, c.loop-boarder-test.false, length-map boarders (λ (b : Boarder). b.wish))))
          c.loop-boarder.invariant;
    }

use Rattle.std.proofs.Common.{ℕ, List, ◌≡◌, ◌∙◌, sym, ap, arith, get_or}
use Rattle.markets.proofs.Meeting.{in_order_more}
use Rattle.markets.proofs.in_place.in_order.Goals as goal

pub loop-place-preserved : goal.loop-place-preserved
loop-place-preserved c =
    let rows : List (List ℕ) = c.loop-place.rows.items in
    let k : ℕ = c.loop-place.place in
    let read : c.replace-row.result ≡ get_or rows k c.replace-row.result =
    c.replace-row.ensures.value ∙ c.index_mut.ensures.value
    ∙ ap (get_or rows k) (sym c.replace-row.ensures.value) in
    in_order_more k c.args.rows.items rows c.replace-row.result c.row_in_order.result c.replace-row.new.dest
    c.loop-place.invariant
    (omega (arith, c.loop-place-test.true, c.len-place-end.ensures, c.loop-place.invariant.as_many)) read
    c.row_in_order.ensures.same c.row_in_order.ensures.rises

use Rattle.std.proofs.Common.{ℕ, ◌≡◌, List, [], ◌∙◌, sym, ap, length}
use Rattle.std.proofs.lemmas.Bool.{eqb-true}
use Rattle.std.proofs.lemmas.List.{nil_from_length}
use Rattle.markets.specs.Markets.{first_bad_order}
use Rattle.markets.proofs.orders.first_bad_order.Goals as goal

pub bad_among-requires-clause-fresh : goal.bad_among-requires-clause-fresh
bad_among-requires-clause-fresh c =
    c.as_mut_slice.ensures.value ∙ c.in_ok-room.ensures.items_if_clones_equal (λ y e. e)

pub returns-then-is_empty-clause-bad : goal.returns-then-is_empty-clause-bad
returns-then-is_empty-clause-bad c =
    let orders : List (List ℕ) = c.args.orders.now in
    let none : length orders ≡ 0 = eqb-true (length orders) 0 (sym c.is_empty.ensures ∙ c.if-is_empty.true) in
    ap (λ (os : List (List ℕ)). first_bad_order (record { lists = c.args.lists.now; orders = os; seats = [] }))
    (sym (nil_from_length orders none))

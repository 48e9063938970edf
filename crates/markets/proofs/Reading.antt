-- What the lists and orders of a market have, as they are read.
use Rattle.std.proofs.Common.{ℕ, ◌≤◌, ◌<◌, ◌≡◌, true, List, [], ◌∷◌, length, get_or, refl, ◌∙◌, ap, arith, nat_eq}
use Rattle.std.proofs.Common.{nat_lt}
use Rattle.std.specs.Prelude.{All, IsTrue}
use Rattle.std.specs.List.{list_all, range_with_len}
use Rattle.std.proofs.lemmas.Bool.{and_parts, ltb-true, eq-eqb}
use Rattle.std.proofs.lemmas.Cmp.{nat_eq_equiv}
use Rattle.std.proofs.lemmas.List.{get_or_default}
use Rattle.std.proofs.lemmas.List.Folds.{list_any_at}
use Rattle.std.proofs.lemmas.List.FromFn.{length-range_with_len}
use Rattle.std.proofs.lemmas.Map.Made.{length-le_from_is_member}
use Rattle.admit_core.specs.Lists.{is_among}
use Rattle.markets.specs.Markets.{MarketRows, IsMarket, list_of, market_order, is_distinct, is_list_below}
use Rattle.markets.proofs.Firsts.{one_of_all, range_has}
use Rattle.markets.proofs.Positions.{distinct_from, is_candidate, order_lists, order_distinct}

-- one at a place of a list, whatever stands for a place past the end
pub among_place : (xs : List ℕ) (k d : ℕ) → k < length xs → is_among (get_or xs k d) xs ≡ true
among_place xs k d lt = list_any_at (nat_eq (get_or xs k d)) xs k d lt (eq-eqb (get_or xs k d) (get_or xs k d) refl)

-- no number is below 0
pub none_below : (ns : List ℕ) → IsTrue (is_list_below 0 ns) → ns ≡ []
none_below [] below = refl
none_below (n ∷ ns) below =
    let parts = and_parts (is_distinct (n ∷ ns)) (list_all (λ q. nat_lt q 0) (n ∷ ns)) below in
    let here : is_among n (n ∷ ns) ≡ true = among_place (n ∷ ns) 0 0 (omega arith) in
    absurd (omega (arith, ltb-true n 0 (one_of_all (λ q. nat_lt q 0) n (n ∷ ns) parts.1 here)))

-- an item of a list of lists, as it is read
pub list_read : (lists : List (List ℕ)) (k : ℕ) (item slice : List ℕ) → k < length lists → item ≡ get_or lists k item
    → slice ≡ item
    → slice ≡ get_or lists k []
list_read lists k item slice lt item_is slice_is = slice_is ∙ item_is ∙ get_or_default lists k item [] lt

pub list_within : (m : MarketRows) → IsMarket m → (x : ℕ) → x < length m.lists
    → All (λ p. p < length m.orders) (list_of m x)
list_within m is x x_lt k d lt =
    let both = and_parts (is_distinct (list_of m x)) (list_all (λ q. nat_lt q (length m.orders)) (list_of m x))
    (is.lists x x_lt) in
    let p : ℕ = get_or (list_of m x) k d in
    ltb-true p (length m.orders) (one_of_all (λ q. nat_lt q (length m.orders)) p (list_of m x) both.1
    (among_place (list_of m x) k d lt))

pub order_within : (m : MarketRows) → IsMarket m → (p : ℕ) → p < length m.orders
    → All (λ x. x < length m.lists) (market_order m p)
order_within m is p p_lt k d lt =
    is_candidate m is p (get_or (market_order m p) k d)
    (order_lists m is p (get_or (market_order m p) k d) p_lt (among_place (market_order m p) k d lt))

-- a list is no longer than the market has programmes
pub list_short : (m : MarketRows) → IsMarket m → (x : ℕ) → x < length m.lists → length (list_of m x) ≤ length m.orders
list_short m is x x_lt =
    let list : List ℕ = list_of m x in
    let parts = and_parts (is_distinct list) (list_all (λ q. nat_lt q (length m.orders)) list) (is.lists x x_lt) in
    let range : List ℕ = range_with_len 0 (length m.orders) in
    let le : length list ≤ length range =
    length-le_from_is_member nat_eq_equiv list range (distinct_from list parts.0)
    (λ p t. range_has p 0 (length m.orders) (omega arith)
    (omega (arith, ltb-true p (length m.orders) (one_of_all (λ q. nat_lt q (length m.orders)) p list parts.1 t)))) in
    omega (arith, le, length-range_with_len 0 (length m.orders))

-- an order is no longer than the market has candidates
pub order_short : (m : MarketRows) → IsMarket m → (p : ℕ) → p < length m.orders
    → length (market_order m p) ≤ length m.lists
order_short m is p p_lt =
    let range : List ℕ = range_with_len 0 (length m.lists) in
    let le : length (market_order m p) ≤ length range =
    length-le_from_is_member nat_eq_equiv (market_order m p) range (order_distinct m is p p_lt)
    (λ x t. range_has x 0 (length m.lists) (omega arith)
    (omega (arith, is_candidate m is p x (order_lists m is p x p_lt t)))) in
    omega (arith, le, length-range_with_len 0 (length m.lists))

-- a list as it is read from the rows that are seen as these
pub read_list : (rows seen : MarketRows) (x : ℕ) (item slice : List ℕ) → rows ≡ seen → x < length seen.lists
    → item ≡ get_or rows.lists x item → slice ≡ item → slice ≡ list_of seen x
read_list rows seen x item slice same lt read is =
    let there : item ≡ get_or seen.lists x item = read ∙ ap (λ (m : MarketRows). get_or m.lists x item) same in
    is ∙ there ∙ get_or_default seen.lists x item [] lt

pub read_order : (rows seen : MarketRows) (p : ℕ) (item slice : List ℕ) → rows ≡ seen → p < length seen.orders
    → item ≡ get_or rows.orders p item → slice ≡ item → slice ≡ market_order seen p
read_order rows seen p item slice same lt read is =
    let there : item ≡ get_or seen.orders p item = read ∙ ap (λ (m : MarketRows). get_or m.orders p item) same in
    is ∙ there ∙ get_or_default seen.orders p item [] lt

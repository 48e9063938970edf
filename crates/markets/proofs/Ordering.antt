-- An order has the candidates whose lists name its programme: by counts and stamps.
use Rattle.std.proofs.Common.{ℕ, zero, suc, ◌+◌, ◌-◌, ◌≤◌, ◌<◌, ◌≡◌, Bool, true, false, cond, not, ◌&&◌, List, [], ◌∷◌}
use Rattle.std.proofs.Common.{length, replicate, get_or, inl, inr, refl, sym, ◌∙◌, ap, subst, arith, nat_eq, nat_lt}
use Rattle.std.proofs.Common.{Vec}
use Rattle.std.specs.Prelude.{◌==◌, Option, Some, None, find, position, slice_index, All}
use Rattle.std.specs.List.{list_all, position_or_len, range_with_len, IsDistinct, AllByRecursion}
use Rattle.std.proofs.lemmas.Bool.{cases_Bool, cases_eq, cases_lt, and_parts, or_parts, and_from, or_cases}
use Rattle.std.proofs.lemmas.Bool.{eqb-true, eq-eqb, lt-ltb, false≢true, false_from_ne_true, not-false}
use Rattle.std.proofs.lemmas.Cmp.{nat_eq_equiv}
use Rattle.std.proofs.lemmas.List.{get_or_past, length-replicate}
use Rattle.std.proofs.lemmas.List.Folds.{list_any_at}
use Rattle.std.proofs.lemmas.List.Sums.{fails_before_first}
use Rattle.admit_core.proofs.NextCalls.{find_none}
use Rattle.std.proofs.lemmas.Map.Keys.{IsDistinct-cons}
use Rattle.std.proofs.lemmas.Map.Made.{length-le_from_is_member, length-from_same_keys}
use Rattle.admit_core.specs.Lists.{is_among}
use Rattle.admit_core.proofs.Counting.{distinct_kept}
use Rattle.admit_core.proofs.FullBeds.{rising_distinct}
use Rattle.day_state.proofs.Ascending.{range_rises}
use Rattle.linked_demand.proofs.HousedRows.{filter_among}
use Rattle.markets.specs.Markets.{MarketRows, IsMarket, market_order, lists_it, listers, is_list_below, is_order}
use Rattle.markets.specs.Markets.{is_distinct, first_bad_list, first_bad_order}
use Rattle.markets.specs.Listers.{AreLists, AreListers}
use Rattle.markets.specs.Rows.{has_all_of}
use Rattle.markets.specs.Stamps.{AreUpTo, BearStamp}
use Rattle.markets.proofs.Firsts.{all_of, among_range, range_has, one_of_all, any_of}
use Rattle.markets.proofs.Positions.{distinct_from}
use Rattle.markets.proofs.Reading.{list_read}
use Rattle.markets.proofs.Listing.{row_is}
use Rattle.markets.proofs.Stamping.{none_newer}
use Rattle.std.specs.declared.alloc.Global.{Global}
use Rattle.admit_core.proofs.Plain.{same_test}

-- who bears the stamp stands in the list
pub stamped_same : (stamp : ℕ) (ns stamps xs : List ℕ) → BearStamp stamp ns stamps
    → ((q : ℕ) → is_among q xs ≡ true → q < length stamps)
    → list_all (λ n. nat_eq (slice_index stamps n) stamp) xs ≡ list_all (λ x. is_among x ns) xs
stamped_same stamp ns stamps xs bear within =
    same_test (list_all (λ n. nat_eq (slice_index stamps n) stamp) xs) (list_all (λ x. is_among x ns) xs)
    (λ t. all_of (λ x. is_among x ns) xs
    (λ q among. sym (bear q (within q among)) ∙ one_of_all (λ n. nat_eq (slice_index stamps n) stamp) q xs t among))
    (λ t. all_of (λ n. nat_eq (slice_index stamps n) stamp) xs
    (λ q among. bear q (within q among) ∙ one_of_all (λ x. is_among x ns) q xs t among))

-- what is not among a list differs from each of it
all_differ : (q : ℕ) (xs : List ℕ) → is_among q xs ≡ false → AllByRecursion (λ x. nat_eq q x ≡ false) xs
all_differ q [] absent = tt
all_differ q (x ∷ xs) absent = let parts = or_parts (nat_eq q x) (is_among q xs) absent in
    (parts.0, all_differ q xs parts.1)

-- one more in front of a list that doesn't have it
distinct_cons : (q : ℕ) (xs : List ℕ) → is_among q xs ≡ false → IsDistinct nat_eq xs → IsDistinct nat_eq (q ∷ xs)
distinct_cons q xs absent apart = IsDistinct-cons nat_eq q xs (all_differ q xs absent) apart

-- a list is that of a candidate
pub lister_within : (m : MarketRows) (p x : ℕ) → lists_it m p x ≡ true → x < length m.lists
lister_within m p x t =
    elim (cases_lt x (length m.lists)) [
      | inl lt ↦ lt
      | inr past ↦ absurd (false≢true (sym (ap (is_among p) (get_or_past m.lists x [] past)) ∙ t))
    ]

-- a distinct list with all of a distinct list of its length has nobody else
no_other : (xs ys : List ℕ) (q : ℕ) → IsDistinct nat_eq xs → length ys ≡ length xs
    → ((x : ℕ) → is_among x xs ≡ true → is_among x ys ≡ true)
    → is_among q ys ≡ true → is_among q xs ≡ true
no_other xs ys q apart long all there =
    elim (cases_Bool (is_among q xs)) [
      | inl t ↦ t
      | inr absent ↦
          let more : length (q ∷ xs) ≤ length ys =
          length-le_from_is_member nat_eq_equiv (q ∷ xs) ys (distinct_cons q xs absent apart)
          (λ x t. elim (or_cases (nat_eq x q) (is_among x xs) t) [
            | inl here ↦ ap (λ y. is_among y ys) (eqb-true x q here) ∙ there
            | inr later ↦ all x later
          ]) in
          absurd (omega (arith, more, long))
    ]

pub order_is : (m : MarketRows) (p : ℕ) → p < length m.orders
    → has_all_of (length m.lists) (listers m p) (market_order m p) ≡ is_order m p
order_is m p lt =
    let n : ℕ = length m.lists in
    let order : List ℕ = market_order m p in
    let names : List ℕ = listers m p in
    let range : List ℕ = range_with_len 0 n in
    let apart : IsDistinct nat_eq names = distinct_kept (lists_it m p) range
    (rising_distinct range (range_rises 0 n)) in
    let lister : (x : ℕ) → is_among x names ≡ true → (x < n) × (lists_it m p x ≡ true) =
    λ x t. (let both = and_parts (is_among x range) (lists_it m p x) (sym (filter_among (lists_it m p) x range) ∙ t) in
    let within = among_range x 0 n both.0 in
    (omega (arith, within.1), both.1)) in
    let is_lister : (x : ℕ) → lists_it m p x ≡ true → is_among x names ≡ true =
    λ x t. (let within : is_among x range ≡ true =
    range_has x 0 n (omega arith) (omega (arith, lister_within m p x t)) in
    filter_among (lists_it m p) x range ∙ rw (within, t) refl) in
    same_test (has_all_of n names order) (is_order m p)
    (λ t.
    let first = and_parts (is_list_below n order && (length order == length names))
    (list_all (λ x. is_among x order) names) t in
    let second = and_parts (is_list_below n order) (length order == length names) first.0 in
    let third = and_parts (is_distinct order) (list_all (λ x. nat_lt x n) order) second.0 in
    let inside : (x : ℕ) → is_among x names ≡ true
    → is_among x order ≡ true = λ x among. one_of_all (λ y. is_among y order) x names first.1 among in
    let long : length order ≡ length names = eqb-true (length order) (length names) second.1 in
    let only : list_all (lists_it m p) order ≡ true =
    all_of (lists_it m p) order (λ x among. (lister x (no_other names order x apart long inside among)).1) in
    and_from (is_distinct order && list_all (lists_it m p) order) (list_all (λ x. is_among x order) names)
    (and_from (is_distinct order) (list_all (lists_it m p) order) third.0 only) first.1)
    (λ t.
    let first = and_parts (is_distinct order && list_all (lists_it m p) order)
    (list_all (λ x. is_among x order) names) t in
    let second = and_parts (is_distinct order) (list_all (lists_it m p) order) first.0 in
    let outside : (x : ℕ) → is_among x order ≡ true
    → is_among x names ≡ true = λ x among. is_lister x (one_of_all (lists_it m p) x order second.1 among) in
    let inside : (x : ℕ) → is_among x names ≡ true
    → is_among x order ≡ true = λ x among. one_of_all (λ y. is_among y order) x names first.1 among in
    let below : list_all (λ x. nat_lt x n) order ≡ true = all_of (λ x. nat_lt x n) order
    (λ x among. lt-ltb x n (lister x (outside x among)).0) in
    let long : length order ≡ length names =
    length-from_same_keys nat_eq_equiv order names (distinct_from order second.0) apart
    (λ q. same_test (is_among q order) (is_among q names) (outside q) (inside q)) in
    and_from (is_list_below n order && (length order == length names)) (list_all (λ x. is_among x order) names)
    (and_from (is_list_below n order) (length order == length names)
    (and_from (is_distinct order) (list_all (λ x. nat_lt x n) order) second.0 below)
    (eq-eqb (length order) (length names) long)) first.1)

-- the first of a range that passes
pub range_found : (t : ℕ → Bool) (a n k : ℕ) → a ≤ k → k < a + n → ((i : ℕ) → a ≤ i → i < k → t i ≡ false) → t k ≡ true
    → find t (range_with_len a n) ≡ Some k
range_found t a zero k le lt fails passes = absurd (omega (arith, le, lt))
range_found t a (suc n) k le lt fails passes =
    elim (cases_eq a k) [
      | inl here ↦ let now : t a ≡ true = ap t here ∙ passes in rw now (ap Some here)
      | inr other ↦
          let now : t a ≡ false = fails a (omega arith) (omega (arith, le, other)) in
          rw now (range_found t (a + 1) n k (omega (arith, le, other)) (omega (arith, lt))
          (λ i i_le. fails i (omega (arith, i_le))) passes)
    ]

pub range_none : (t : ℕ → Bool) (a n : ℕ) → ((i : ℕ) → a ≤ i → i < a + n → t i ≡ false)
    → find t (range_with_len a n) ≡ None
range_none t a zero fails = refl
range_none t a (suc n) fails =
    let now : t a ≡ false = fails a (omega arith) (omega arith) in
    rw now (range_none t (a + 1) n (λ i le lt. fails i (omega (arith, le)) (omega (arith, lt))))

-- the first k orders stood the test, and there is a stamp for each candidate
pub record OrdersStood (m : MarketRows) (k stamp : ℕ) (stamps : List ℕ) : Type 0 where
  pub stamp_is : stamp ≡ k
  pub as_many : length stamps ≡ length m.lists
  pub up_to : AreUpTo stamp stamps
  pub stood : (i : ℕ) → 0 ≤ i → i < k → not (is_order m i) ≡ false

pub orders_start : (m : MarketRows) (stamps : List ℕ) → stamps ≡ replicate (length m.lists) 0 → OrdersStood m 0 0 stamps
orders_start m stamps are =
    record {
      stamp_is = refl;
      as_many = ap length are ∙ length-replicate (length m.lists) 0;
      up_to = none_newer (length m.lists) stamps are;
      stood = λ i le lt. absurd (omega (arith, lt));
    }

told_order : (m : MarketRows) (k stamp : ℕ) (stamps : List ℕ) (result : Bool) → k < length m.orders
    → OrdersStood m k stamp stamps
    → result ≡ has_all_of (length stamps) (listers m k) (market_order m k) → result ≡ is_order m k
told_order m k stamp stamps result lt so told =
    told ∙ ap (λ n. has_all_of n (listers m k) (market_order m k)) so.as_many ∙ order_is m k lt

pub orders_more : (m : MarketRows) (k stamp : ℕ) (stamps after : List ℕ) (result : Bool) → k < length m.orders
    → OrdersStood m k stamp stamps
    → length after ≡ length stamps → AreUpTo (stamp + 1) after
    → result ≡ has_all_of (length stamps) (listers m k) (market_order m k)
    → result ≡ true
    → OrdersStood m (k + 1) (stamp + 1) after
orders_more m k stamp stamps after result lt so long up_to told stood =
    record {
      stamp_is = omega (arith, so.stamp_is);
      as_many = long ∙ so.as_many;
      up_to = up_to;
      stood = λ i le i_lt.
          elim (cases_eq i k) [
            | inl here ↦ ap (λ j. not (is_order m j)) here
                ∙ ap not (sym (told_order m k stamp stamps result lt so told) ∙ stood)
            | inr other ↦ so.stood i le (omega (arith, i_lt, other))
          ];
    }

-- the first bad order is found, or there is none
pub orders_found : (m : MarketRows) (k stamp : ℕ) (stamps : List ℕ) (result : Bool) → k < length m.orders
    → OrdersStood m k stamp stamps
    → result ≡ has_all_of (length stamps) (listers m k) (market_order m k) → result ≡ false
    → first_bad_order m ≡ Some (stamp + 1 - 1)
orders_found m k stamp stamps result lt so told fails =
    let at : k ≡ stamp + 1 - 1 = omega (arith, so.stamp_is) in
    range_found (λ p. not (is_order m p)) 0 (length m.orders) k (omega arith) (omega (arith, lt)) so.stood
    (ap not (sym (told_order m k stamp stamps result lt so told) ∙ fails)) ∙ ap Some at

pub orders_none : (m : MarketRows) (k stamp : ℕ) (stamps : List ℕ) → length m.orders ≤ k → OrdersStood m k stamp stamps
    → first_bad_order m ≡ None
orders_none m k stamp stamps past so =
    range_none (λ p. not (is_order m p)) 0 (length m.orders) (λ i le lt. so.stood i le (omega (arith, lt, past)))

-- who is named is in range
pub listers_within : (m : MarketRows) (p : ℕ) → All (λ x. x < length m.lists) (listers m p)
listers_within m p k d lt =
    let range : List ℕ = range_with_len 0 (length m.lists) in
    let x : ℕ = get_or (listers m p) k d in
    let among : is_among x (listers m p) ≡ true = list_any_at (nat_eq x) (listers m p) k d lt (eq-eqb x x refl) in
    let within = among_range x 0 (length m.lists)
    (and_parts (is_among x range) (lists_it m p x) (sym (filter_among (lists_it m p) x range) ∙ among)).0 in
    omega (arith, within.1)

-- the row and the order of a programme, as they are read
pub row_read : (m : MarketRows) (k stamp : ℕ) (rows : List (Vec ℕ Global)) (row : Vec ℕ Global) (slice : List ℕ)
    → stamp ≡ k
    → k < length m.orders
    → AreListers m.lists (length m.orders) (length m.lists) rows → row ≡ get_or rows stamp row → slice ≡ row.items
    → slice ≡ listers m k
row_read m k stamp rows row slice same lt are read is =
    is ∙ row_is m.lists (length m.orders) (length m.lists) stamp rows row are (omega (arith, same, lt)) read
    ∙ ap (listers m) same

-- what is told of an order, by its row and its listers as they are read
pub told_at : (m : MarketRows) (k stamp : ℕ) (rows : List (Vec ℕ Global)) (row : Vec ℕ Global)
    (item listed order stamps : List ℕ)
    (result : Bool) → k < length m.orders
    → OrdersStood m k stamp stamps
    → AreListers m.lists (length m.orders) (length m.lists) rows → row ≡ get_or rows stamp row → listed ≡ row.items
    → item ≡ get_or m.orders k item → order ≡ item
    → result ≡ has_all_of (length stamps) listed order
    → result ≡ has_all_of (length stamps) (listers m k) (market_order m k)
told_at m k stamp rows row item listed order stamps result lt so are read listed_is item_is order_is told =
    told
    ∙ ap (λ xs. has_all_of (length stamps) xs order)
    (row_read m k stamp rows row listed so.stamp_is lt are read listed_is)
    ∙ ap (λ xs. has_all_of (length stamps) (listers m k) xs) (list_read m.orders k item order lt item_is order_is)

pub row_within : (m : MarketRows) (n k : ℕ) (row : List ℕ) → row ≡ listers m k → n ≡ length m.lists
    → All (λ x. x < n) row
row_within m n k row row_is n_is =
    let P : List ℕ → Type 0 = λ xs. All (λ x. x < n) xs in
    let Q : ℕ → Type 0 = λ j. All (λ x. x < j) (listers m k) in
    subst P (sym row_is) (subst Q (sym n_is) (listers_within m k))

-- where no list is bad, each stands; and so it is with orders
pub lists_stand : (n : ℕ) (lists : List (List ℕ)) → position (λ list. not (is_list_below n list)) lists ≡ None
    → AreLists n lists
lists_stand n lists none x lt =
    let test : List ℕ → Bool = λ list. not (is_list_below n list) in
    let k : ℕ = position_or_len test lists in
    let past : length lists ≤ k =
    elim (cases_lt k (length lists)) [
      | inl within ↦
          let P : Bool → Type 0 = λ b. cond b (Some k) None ≡ None in
          let some : Some k ≡ None = subst P (lt-ltb k (length lists) within) none in
          absurd (cc)
      | inr le ↦ le
    ] in
    not-false (is_list_below n (get_or lists x [])) (fails_before_first test lists x [] (omega (arith, lt, past)))

pub orders_stand : (m : MarketRows) → first_bad_order m ≡ None → (p : ℕ) → p < length m.orders → is_order m p ≡ true
orders_stand m none p lt =
    let test : ℕ → Bool = λ q. not (is_order m q) in
    let range : List ℕ = range_with_len 0 (length m.orders) in
    not-false (is_order m p)
    (false_from_ne_true (test p) (λ t. false≢true
    (sym (find_none test range none) ∙ any_of test p range (range_has p 0 (length m.orders) (omega arith)
    (omega (arith, lt))) t)))

pub market_stands : (m : MarketRows) → length m.seats ≡ length m.orders → first_bad_list m ≡ None
    → first_bad_order m ≡ None → IsMarket m
market_stands m seats lists orders =
    record {
      one_seat_each = seats;
      lists = lists_stand (length m.orders) m.lists lists;
      orders = orders_stand m orders;
    }

-- the answer of the test of lists, as they are read
pub bad_list_is : (answer : Option ℕ) (n : ℕ) (lists xs : List (List ℕ)) (orders : List (List ℕ)) (seats : List ℕ)
    → n ≡ length orders → xs ≡ lists → position (λ list. not (is_list_below n list)) xs ≡ answer
    → first_bad_list (record { lists = lists; orders = orders; seats = seats }) ≡ answer
bad_list_is answer n lists xs orders seats n_is xs_is e =
    let P : List (List ℕ) → Type 0 = λ ys. position (λ list. not (is_list_below n list)) ys ≡ answer in
    let Q : ℕ → Type 0 = λ k. position (λ list. not (is_list_below k list)) lists ≡ answer in
    subst Q n_is (subst P xs_is e)

pub lists_ready : (n : ℕ) (xs ys zs : List (List ℕ)) → n ≡ length zs → xs ≡ ys
    → position (λ list. not (is_list_below n list)) xs ≡ None
    → AreLists (length zs) ys
lists_ready n xs ys zs n_is same none = lists_stand (length zs) ys (bad_list_is None n ys xs zs [] n_is same none)

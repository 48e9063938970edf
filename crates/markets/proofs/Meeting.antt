-- Orders that were put in order where they stand, met by those who list their programmes.
use Rattle.std.proofs.Common.{ℕ, zero, suc, ◌+◌, ◌-◌, ◌≤◌, ◌<◌, ◌≡◌, ◌≢◌, Bool, true, false, cond, not, ◌&&◌, ◌||◌}
use Rattle.std.proofs.Common.{List, [], ◌∷◌, ◌++◌, length, take, replicate, get_or, inl, inr, refl, sym, ◌∙◌, ap}
use Rattle.std.proofs.Common.{subst, arith, nat_eq, nat_lt}
use Rattle.std.specs.Prelude.{◌==◌, Option, Some, find, slice_get, slice_index}
use Rattle.std.specs.List.{list_all, range_with_len, AllPairs, IsDistinct, AllByRecursion}
use Rattle.std.specs.List.Sorted.{IsNonDecreasing, IsPermutation}
use Rattle.std.proofs.Math.ListN.{set}
use Rattle.std.proofs.lemmas.Bool.{cases_Bool, cases_eq, and_parts, and_from, or_left, or_right, eqb-true, eq-eqb}
use Rattle.std.proofs.lemmas.Bool.{cases_lt, ne_eqb, lt-ltb, false≢true}
use Rattle.std.proofs.lemmas.List.{length-set, length-append, get_or-replicate, length-replicate, take_more, take_all}
use Rattle.std.proofs.lemmas.List.{get_or-set_same, get_or-set_other, get_or_past, get_or_default, append-nil}
use Rattle.std.proofs.lemmas.List.Filters.{length-filter_both}
use Rattle.std.proofs.lemmas.List.Folds.{list_any-append}
use Rattle.std.proofs.lemmas.List.FromFn.{length-range_with_len}
use Rattle.std.proofs.lemmas.Grind.{get_or-set_at}
use Rattle.std.proofs.lemmas.List.Kept.{AllPairs-from_increasing}
use Rattle.std.proofs.lemmas.List.Sorted.{IsPermutation-refl, IsPermutation-sym, IsPermutation-trans}
use Rattle.std.proofs.lemmas.List.Sorted.{list_any-IsPermutation}
use Rattle.std.proofs.lemmas.Map.Keys.{IsDistinct-IsPermutation, IsStrictlyIncreasing-from_distinct}
use Rattle.admit_core.specs.Lists.{is_among}
use Rattle.admit_core.proofs.FullBeds.{rising_distinct}
use Rattle.admit_core.proofs.Plain.{and_assoc, and_true, same_test}
use Rattle.admit_core.proofs.Tests.{Ascends, same_members}
use Rattle.linked_demand.proofs.PlaceOrder.{ascends-filter, ascends-range}
use Rattle.linked_demand.proofs.CalledRows.{among_itself}
use Rattle.linked_demand.proofs.HousedRows.{filter_among}
use Rattle.markets.proofs.Firsts.{range_has, one_of_all, all_of}
use Rattle.markets.specs.Listers.{naming}
use Rattle.markets.specs.Markets.{MarketRows, market_order, lists_it, listers, is_distinct, is_list_below, is_order}
use Rattle.markets.specs.Markets.{first_bad_order}
use Rattle.markets.specs.Matchings.{is_at}
use Rattle.markets.specs.Meeting.{AreInOrder, AreMet, Meets, begins_with, is_met, met, met_more}
use Rattle.markets.proofs.Positions.{distinct_from}
use Rattle.markets.proofs.BelowCount.{is_distinct_from, list_below, not_before, last_differs}
use Rattle.markets.proofs.Called.{listers_rise}
use Rattle.markets.proofs.Listing.{naming_more}
use Rattle.markets.proofs.Ordering.{lister_within}

-- an order begins with one candidate more where they stand next
begins_more : (xs order : List ℕ) (x : ℕ) → begins_with (xs ++ x ∷ []) order
    ≡ (begins_with xs order && is_at x (slice_get order (length xs)))
begins_more [] [] x = refl
begins_more [] (y ∷ ys) x = and_true (nat_eq x y)
begins_more (z ∷ zs) [] x = refl
begins_more (z ∷ zs) (y ∷ ys) x =
    ap (λ b. nat_eq z y && b) (begins_more zs ys x)
    ∙ and_assoc (nat_eq z y) (begins_with zs ys) (is_at x (slice_get ys (length zs)))

-- what an order begins with is the order where it is as long
begins_whole : (xs order : List ℕ) → begins_with xs order ≡ true → length xs ≡ length order → order ≡ xs
begins_whole [] [] t long = refl
begins_whole [] (y ∷ ys) t long = absurd (omega (arith, long))
begins_whole (x ∷ xs) [] t long = absurd (false≢true t)
begins_whole (x ∷ xs) (y ∷ ys) t long =
    let parts = and_parts (nat_eq x y) (begins_with xs ys) t in
    ap (λ z. z ∷ ys) (sym (eqb-true x y parts.0))
    ∙ ap (λ zs. x ∷ zs) (begins_whole xs ys parts.1 (omega (arith, long)))

begins_itself : (xs : List ℕ) → begins_with xs xs ≡ true
begins_itself [] = refl
begins_itself (x ∷ xs) = and_from (nat_eq x x) (begins_with xs xs) (eq-eqb x x refl) (begins_itself xs)

-- what is noted of an order with one candidate more
pub met_next : (xs order : List ℕ) (x : ℕ) → met_more order (met xs order) x ≡ met (xs ++ x ∷ []) order
met_next xs order x =
    elim (cases_Bool (begins_with xs order)) [
      | inl begins ↦
          let n : met xs order ≡ length xs + 1 = rw begins refl in
          let at : length xs + 1 - 1 ≡ length xs = omega arith in
          let long : length (xs ++ x ∷ []) ≡ length xs + 1 = length-append xs (x ∷ []) in
          let more : begins_with (xs ++ x ∷ []) order ≡ is_at x (slice_get order (length xs)) =
          begins_more xs order x ∙ ap (λ b. b && is_at x (slice_get order (length xs))) begins in
          ap (λ k. met_more order k x) n
          ∙ ap (λ b. cond (b && is_at x (slice_get order (length xs + 1 - 1))) (length xs + 1 + 1) 0)
          (lt-ltb 0 (length xs + 1) (omega arith))
          ∙ ap (λ k. cond (is_at x (slice_get order k)) (length xs + 1 + 1) 0) at
          ∙ ap (λ b. cond b (length xs + 1 + 1) 0) (sym more)
          ∙ ap (λ k. cond (begins_with (xs ++ x ∷ []) order) (k + 1) 0) (sym long)
      | inr other ↦
          let n : met xs order ≡ 0 = rw other refl in
          let more : begins_with (xs ++ x ∷ []) order ≡ false =
          begins_more xs order x ∙ ap (λ b. b && is_at x (slice_get order (length xs))) other in
          ap (λ k. met_more order k x) n
          ∙ ap (λ b. cond b (length (xs ++ x ∷ []) + 1) 0) (sym more)
    ]

-- whether the whole order was met
met_whole : (xs order : List ℕ) → is_met order (met xs order) ≡ true → order ≡ xs
met_whole xs order t =
    elim (cases_Bool (begins_with xs order)) [
      | inl begins ↦
          let n : met xs order ≡ length xs + 1 = rw begins refl in
          let parts = and_parts (nat_lt 0 (met xs order)) (met xs order - 1 == length order) t in
          begins_whole xs order begins
          (omega (arith, n, eqb-true (met xs order - 1) (length order) parts.1))
      | inr other ↦
          let n : met xs order ≡ 0 = rw other refl in
          absurd (false≢true (ap (is_met order) (sym n) ∙ t))
    ]

met_itself : (xs : List ℕ) → is_met xs (met xs xs) ≡ true
met_itself xs =
    let n : met xs xs ≡ length xs + 1 = rw begins_itself refl in
    and_from (nat_lt 0 (met xs xs)) (met xs xs - 1 == length xs)
    (lt-ltb 0 (met xs xs) (omega (arith, n)))
    (eq-eqb (met xs xs - 1) (length xs) (omega (arith, n)))

-- numbers that rise do so by recursion
above_all : (x : ℕ) (xs : List ℕ) → ((k : ℕ) → k < length xs → x < get_or xs k 0) → AllByRecursion (λ y. x < y) xs
above_all x [] each = tt
above_all x (y ∷ ys) each = (each 0 (omega arith), above_all x ys (λ k lt. each (suc k) (omega (arith, lt))))

all_rise : (xs : List ℕ) → AllPairs (λ x y. x < y) xs → Ascends xs
all_rise [] pairs = tt
all_rise (x ∷ xs) pairs = (
  above_all x xs (λ k lt. pairs 0 (suc k) 0 (omega arith) (omega (arith, lt))),
  all_rise xs (λ i j d i_lt j_lt. pairs (suc i) (suc j) d (omega (arith, i_lt)) (omega (arith, j_lt))),
)

-- an order stands exactly where its candidates, in order, are those who list its programme
module _ (m : MarketRows) (p : ℕ) (sorted : List ℕ) (moved : IsPermutation (market_order m p) sorted)
    (rises : IsNonDecreasing sorted) where
  among_sorted : (x : ℕ) → is_among x (market_order m p) ≡ is_among x sorted
  among_sorted x = list_any-IsPermutation (nat_eq x) (market_order m p) sorted moved

  flips : (x y : ℕ) → nat_eq x y ≡ nat_eq y x
  flips x y = same_test (nat_eq x y) (nat_eq y x) (λ t. eq-eqb y x (sym (eqb-true x y t)))
      (λ t. eq-eqb x y (sym (eqb-true y x t)))

  among_listers : (x : ℕ) → is_among x (listers m p)
      ≡ (is_among x (range_with_len 0 (length m.lists)) && lists_it m p x)
  among_listers x = filter_among (lists_it m p) x (range_with_len 0 (length m.lists))

  lister : (x : ℕ) → lists_it m p x ≡ true → is_among x (listers m p) ≡ true
  lister x t =
      among_listers x
      ∙ and_from (is_among x (range_with_len 0 (length m.lists))) (lists_it m p x)
      (range_has x 0 (length m.lists) (omega arith) (omega (arith, lister_within m p x t))) t

  lists : (x : ℕ) → is_among x (listers m p) ≡ true → lists_it m p x ≡ true
  lists x t = (and_parts (is_among x (range_with_len 0 (length m.lists))) (lists_it m p x)
      (sym (among_listers x) ∙ t)).1

  -- where the order is one, the sorted candidates are those who list the programme
  sorted_is : is_order m p ≡ true → sorted ≡ listers m p
  sorted_is t =
      let first = and_parts (is_distinct (market_order m p) && list_all (lists_it m p) (market_order m p))
      (list_all (λ x. is_among x (market_order m p)) (listers m p)) t in
      let second = and_parts (is_distinct (market_order m p)) (list_all (lists_it m p) (market_order m p)) first.0 in
      let apart : IsDistinct nat_eq sorted = IsDistinct-IsPermutation nat_eq flips (market_order m p) sorted moved
      (distinct_from (market_order m p) second.0) in
      same_members sorted (listers m p)
      (all_rise sorted
      (AllPairs-from_increasing sorted (IsStrictlyIncreasing-from_distinct sorted rises apart)))
      (ascends-filter (lists_it m p) (range_with_len 0 (length m.lists)) (ascends-range 0 (length m.lists)))
      (λ x. same_test (is_among x sorted) (is_among x (listers m p))
      (λ in_sorted. lister x (one_of_all (lists_it m p) x (market_order m p) second.1 (among_sorted x ∙ in_sorted)))
      (λ in_listers. sym (among_sorted x)
      ∙ one_of_all (λ y. is_among y (market_order m p)) x (listers m p) first.1 in_listers))

  order_is_one : sorted ≡ listers m p → is_order m p ≡ true
  order_is_one same =
      let P : List ℕ → Type 0 = λ xs. IsPermutation xs (market_order m p) in
      let back : IsPermutation (listers m p) (market_order m p) =
      subst P same (IsPermutation-sym (market_order m p) sorted moved) in
      let apart : IsDistinct nat_eq (market_order m p) =
      IsDistinct-IsPermutation nat_eq flips (listers m p) (market_order m p) back
      (rising_distinct (listers m p) (λ k lt. listers_rise m.lists p (length m.lists) k lt)) in
      let both : (x : ℕ) → is_among x (market_order m p) ≡ is_among x (listers m p) =
      λ x. among_sorted x ∙ ap (is_among x) same in
      and_from (is_distinct (market_order m p) && list_all (lists_it m p) (market_order m p))
      (list_all (λ x. is_among x (market_order m p)) (listers m p))
      (and_from (is_distinct (market_order m p)) (list_all (lists_it m p) (market_order m p))
      (is_distinct_from (market_order m p) apart)
      (all_of (lists_it m p) (market_order m p) (λ x t. lists x (sym (both x) ∙ t))))
      (all_of (λ x. is_among x (market_order m p)) (listers m p) (λ x t. both x ∙ t))

  pub met_order : is_met sorted (met (listers m p) sorted) ≡ is_order m p
  met_order =
      same_test (is_met sorted (met (listers m p) sorted)) (is_order m p)
      (λ t. order_is_one (met_whole (listers m p) sorted t))
      (λ t. let P : List ℕ → Type 0 = λ xs. is_met sorted (met xs sorted) ≡ true in
      subst P (sorted_is t) (met_itself sorted))

-- two tests that agree on a range find the same there
find_alike : (t u : ℕ → Bool) (a n : ℕ) → ((p : ℕ) → a ≤ p → p < a + n → t p ≡ u p)
    → find t (range_with_len a n) ≡ find u (range_with_len a n)
find_alike t u a zero alike = refl
find_alike t u a (suc n) alike =
    ap (λ b. cond b (Some a) (find t (range_with_len (a + 1) n))) (alike a (omega arith) (omega arith))
    ∙ ap (cond (u a) (Some a)) (find_alike t u (a + 1) n (λ p le lt. alike p (omega (arith, le)) (omega (arith, lt))))

-- the first order that was not met whole is the first bad one
unmet_is_bad : (lists orders sorted : List (List ℕ)) (seats notes : List ℕ) → AreInOrder (length orders) orders sorted
    → AreMet lists sorted (length lists) notes
    → find (λ p. not (is_met (get_or sorted p []) (slice_index notes p))) (range_with_len 0 (length sorted))
    ≡ first_bad_order (record { lists = lists; orders = orders; seats = seats })
unmet_is_bad lists orders sorted seats notes in_order are =
    let m : MarketRows = record { lists = lists; orders = orders; seats = seats } in
    let t : ℕ → Bool = λ p. not (is_met (get_or sorted p []) (slice_index notes p)) in
    ap (λ n. find t (range_with_len 0 n)) in_order.as_many
    ∙ find_alike t (λ p. not (is_order m p)) 0 (length orders) (λ p le lt.
    let p_lt : p < length orders = omega (arith, lt) in
    ap not (ap (is_met (get_or sorted p [])) (are.each p (omega (arith, p_lt, in_order.as_many)))
    ∙ met_order m p (get_or sorted p []) (in_order.same p p_lt) (in_order.rise p p_lt p_lt)))

-- and so it is as the orders and the notes are read
pub bad_as_read : (answer : Option ℕ) (lists orders sorted xs ys : List (List ℕ)) (seats notes ns : List ℕ)
    → AreInOrder (length orders) orders sorted → xs ≡ sorted → ys ≡ sorted → ns ≡ notes
    → AreMet lists xs (length lists) notes
    → find (λ p. not (is_met (get_or ys p []) (slice_index ns p))) (range_with_len 0 (length ys)) ≡ answer
    → first_bad_order (record { lists = lists; orders = orders; seats = seats }) ≡ answer
bad_as_read answer lists orders sorted xs ys seats notes ns in_order xs_are ys_are ns_are are found =
    let P : List (List ℕ) → Type 0 = λ zs. AreMet lists zs (length lists) notes in
    let t : List (List ℕ) → List ℕ → ℕ → Bool = λ zs ks p. not (is_met (get_or zs p []) (slice_index ks p)) in
    sym (unmet_is_bad lists orders sorted seats notes in_order (subst P xs_are are))
    ∙ ap (λ (zs : List (List ℕ)). find (t zs notes) (range_with_len 0 (length zs))) (sym ys_are)
    ∙ ap (λ (ks : List ℕ). find (t ys ks) (range_with_len 0 (length ys))) (sym ns_are)
    ∙ found

-- rows are the same before any is put in order, and one more is
pub in_order_none : (rows : List (List ℕ)) → AreInOrder 0 rows rows
in_order_none rows =
    record {
      as_many = refl;
      same = λ p lt. IsPermutation-refl (get_or rows p []);
      rise = λ p lt none. absurd (omega (arith, none));
    }

pub in_order_more : (k : ℕ) (old rows : List (List ℕ)) (row sorted none : List ℕ) → AreInOrder k old rows
    → k < length rows
    → row ≡ get_or rows k row → IsPermutation row sorted → IsNonDecreasing sorted
    → AreInOrder (k + 1) old (set (set rows k none) k sorted)
in_order_more k old rows row sorted none are lt read moved rises =
    let now : get_or (set (set rows k none) k sorted) k [] ≡ sorted =
    get_or-set_same (set rows k none) k sorted [] (omega (arith, lt, length-set rows k none)) in
    let there : (p : ℕ) → p ≢ k → get_or (set (set rows k none) k sorted) p [] ≡ get_or rows p [] =
    λ p other. get_or-set_other (set rows k none) k p sorted [] other ∙ get_or-set_other rows k p none [] other in
    let was : row ≡ get_or rows k [] = read ∙ get_or_default rows k row [] lt in
    record {
      as_many = length-set (set rows k none) k sorted ∙ length-set rows k none ∙ are.as_many;
      same = λ p p_lt.
          elim (cases_eq p k) [
            | inl here ↦
                let P : ℕ → Type 0 = λ q.
                IsPermutation (get_or old q []) (get_or (set (set rows k none) k sorted) q []) in
                let Q : List ℕ → Type 0 = λ xs. IsPermutation (get_or old k []) xs in
                let R : List ℕ → Type 0 = λ xs. IsPermutation xs sorted in
                subst P (sym here) (subst Q (sym now)
                (IsPermutation-trans (get_or old k []) (get_or rows k []) sorted
                (are.same k (omega (arith, p_lt, here))) (subst R was moved)))
            | inr other ↦
                let Q : List ℕ → Type 0 = λ xs. IsPermutation (get_or old p []) xs in
                subst Q (sym (there p other)) (are.same p p_lt)
          ];
      rise = λ p p_lt below.
          elim (cases_eq p k) [
            | inl here ↦
                let P : ℕ → Type 0 = λ q. IsNonDecreasing (get_or (set (set rows k none) k sorted) q []) in
                subst P (sym here) (subst IsNonDecreasing (sym now) rises)
            | inr other ↦ subst IsNonDecreasing (sym (there p other)) (are.rise p p_lt (omega (arith, below, other)))
          ];
    }

-- nobody is met yet
pub met_none : (lists orders : List (List ℕ)) (notes : List ℕ) → notes ≡ replicate (length orders) 1
    → AreMet lists orders 0 notes
met_none lists orders notes are =
    record {
      as_many = ap length are ∙ length-replicate (length orders) 1;
      each = λ p lt. ap (λ (ns : List ℕ). slice_index ns p) are ∙ get_or-replicate (length orders) p 1 0 lt;
    }

-- a note is at most the number of those gone along, and one more
pub met_few : (lists orders : List (List ℕ)) (k : ℕ) (notes : List ℕ) → AreMet lists orders k notes
    → (p : ℕ) → slice_index notes p ≤ k + 1
met_few lists orders k notes are p =
    elim (cases_lt p (length orders)) [
      | inl lt ↦
          let xs : List ℕ = naming lists p k in
          let order : List ℕ = get_or orders p [] in
          let lists_it : ℕ → Bool = λ x. is_among p (get_or lists x []) in
          let few : length xs ≤ k = omega (
            arith,
            length-filter_both lists_it (λ x. not (lists_it x)) (λ x. refl) (range_with_len 0 k),
            length-range_with_len 0 k,
          ) in
          elim (cases_Bool (begins_with xs order)) [
            | inl begins ↦ let n : met xs order ≡ length xs + 1 = rw begins refl in
                omega (arith, are.each p lt, n, few)
            | inr other ↦ let n : met xs order ≡ 0 = rw other refl in omega (arith, are.each p lt, n)
          ]
      | inr past ↦ omega (arith, get_or_past notes p 0 (omega (arith, past, are.as_many)))
    ]

-- a candidate is met by one order more
pub meets_none : (orders : List (List ℕ)) (x : ℕ) (notes : List ℕ) → Meets orders x [] notes notes
meets_none orders x notes = record { as_many = refl; each = λ p lt. refl }

-- the note of the next one is as it was
pub note_was : (orders : List (List ℕ)) (x : ℕ) (xs : List ℕ) (k : ℕ) (old notes : List ℕ)
    → is_list_below (length old) xs ≡ true → k < length xs
    → Meets orders x (take k xs) old notes
    → slice_index notes (get_or xs k 0) ≡ slice_index old (get_or xs k 0)
note_was orders x xs k old notes is_list lt so =
    let g : ℕ = get_or xs k 0 in
    let g_lt : g < length old = list_below (length old) xs g is_list (among_itself xs k lt) in
    so.each g g_lt
    ∙ ap (λ b. cond b (met_more (get_or orders g []) (slice_index old g) x) (slice_index old g))
    (not_before (length old) xs k is_list lt)

pub meets_more : (orders : List (List ℕ)) (x : ℕ) (xs : List ℕ) (k : ℕ) (old notes : List ℕ) (order : List ℕ) (n : ℕ)
    → is_list_below (length old) xs ≡ true → k < length xs
    → order ≡ get_or orders (get_or xs k 0) []
    → n ≡ met_more order (slice_index notes (get_or xs k 0)) x
    → Meets orders x (take k xs) old notes
    → Meets orders x (take (k + 1) xs) old (set notes (get_or xs k 0) n)
meets_more orders x xs k old notes order n is_list lt order_is n_is so =
    let g : ℕ = get_or xs k 0 in
    let g_lt : g < length old = list_below (length old) xs g is_list (among_itself xs k lt) in
    let front : List ℕ = take k xs in
    let grown : (p : ℕ) → is_among p (take (k + 1) xs) ≡ (is_among p front || (nat_eq p g || false)) =
    λ p. ap (is_among p) (take_more xs k 0 lt) ∙ list_any-append (nat_eq p) front (g ∷ []) in
    record {
      as_many = length-set notes g n ∙ so.as_many;
      each = λ p p_lt. elim (cases_eq p g) [
        | inl here ↦
            let among : is_among p (take (k + 1) xs) ≡ true = grown p
            ∙ or_right (is_among p front) (nat_eq p g || false) (or_left (nat_eq p g) false (eq-eqb p g here)) in
            let was : slice_index notes g ≡ slice_index old g = note_was orders x xs k old notes is_list lt so in
            get_or-set_at notes g p n 0 here (omega (arith, g_lt, so.as_many))
            ∙ n_is ∙ ap (λ j. met_more order j x) was
            ∙ ap (λ ys. met_more ys (slice_index old g) x) order_is
            ∙ ap (λ q. met_more (get_or orders q []) (slice_index old q) x) (sym here)
            ∙ ap (λ b. cond b (met_more (get_or orders p []) (slice_index old p) x) (slice_index old p)) (sym among)
        | inr other ↦
            let same : is_among p (take (k + 1) xs) ≡ is_among p front = grown p
            ∙ last_differs (is_among p front) (nat_eq p g) (ne_eqb p g other) in
            get_or-set_other notes g p n 0 other ∙ so.each p p_lt
            ∙ ap (λ b. cond b (met_more (get_or orders p []) (slice_index old p) x) (slice_index old p)) (sym same)
      ];
    }

pub meets_whole : (orders : List (List ℕ)) (x : ℕ) (xs : List ℕ) (k : ℕ) (old notes : List ℕ) → length xs ≤ k
    → Meets orders x (take k xs) old notes → Meets orders x xs old notes
meets_whole orders x xs k old notes past so =
    let P : List ℕ → Type 0 = λ ys. Meets orders x ys old notes in
    subst P (take_all k xs past) so

-- one more candidate was met
pub met_one_more : (lists orders : List (List ℕ)) (k : ℕ) (list old new : List ℕ) → list ≡ get_or lists k []
    → AreMet lists orders k old
    → Meets orders k list old new → AreMet lists orders (k + 1) new
met_one_more lists orders k list old new list_is are meets =
    record {
      as_many = meets.as_many ∙ are.as_many;
      each = λ p lt.
          let order : List ℕ = get_or orders p [] in
          let xs : List ℕ = naming lists p k in
          let told : slice_index new p
          ≡ cond (is_among p (get_or lists k [])) (met_more order (met xs order) k) (met xs order) =
          meets.each p (omega (arith, lt, are.as_many))
          ∙ ap (λ j. cond (is_among p list) (met_more order j k) j) (are.each p lt)
          ∙ ap (λ ys. cond (is_among p ys) (met_more order (met xs order) k) (met xs order)) list_is in
          told ∙ by_test (is_among p (get_or lists k [])) p
          ∙ ap (λ ys. met ys order) (sym (naming_more lists p k));
    }
  where
    by_test : (b : Bool) (p : ℕ)
        → cond b (met_more (get_or orders p []) (met (naming lists p k) (get_or orders p [])) k)
        (met (naming lists p k) (get_or orders p []))
        ≡ met (naming lists p k ++ cond b (k ∷ []) []) (get_or orders p [])
    by_test true p = met_next (naming lists p k) (get_or orders p []) k
    by_test false p = ap (λ ys. met ys (get_or orders p [])) (sym (append-nil (naming lists p k)))

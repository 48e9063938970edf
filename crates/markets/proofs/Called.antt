-- The orders of a dossier's market have those who list their programmes, and nobody else.
use Rattle.std.proofs.Common.{ℕ, ◌+◌, ◌≤◌, ◌<◌, ◌≡◌, Bool, true, false, not, cond, ◌&&◌, List, [], ◌∷◌, ◌++◌, map}
use Rattle.std.proofs.Common.{length, take, get_or, filter, inl, inr, refl, sym, ◌∙◌, ap, subst, arith, nat_eq, Some}
use Rattle.std.proofs.Common.{None, Result, Ok, Err}
use Rattle.std.specs.Prelude.{All, slice_index_or}
use Rattle.std.specs.List.{list_all, position, position_or_len, range_with_len, IsDistinct, AllByRecursion}
use Rattle.std.specs.List.Sorted.{IsStrictlyIncreasing, IsBinarySearchResult}
use Rattle.std.specs.Ordering.{nat_cmp}
use Rattle.std.specs.Result.{is_ok, MatchResult}
use Rattle.std.proofs.lemmas.Bool.{cases_Bool, cases_lt, and_parts, and_from, or_cases, or_left, or_right, eqb-true}
use Rattle.std.proofs.lemmas.Bool.{eq-eqb, ne_eqb, lt-ltb, false≢true, false_from_ne_true}
use Rattle.std.proofs.lemmas.List.{length-map, map-append, take_more, get_or_past, get_or-map, get_or_default}
use Rattle.std.proofs.lemmas.List.Elements.{filter-append}
use Rattle.std.proofs.lemmas.List.Filters.{length-filter_both}
use Rattle.std.proofs.lemmas.List.Sums.{passes_at_first, prefix_len-le-length}
use Rattle.std.proofs.lemmas.Option.{unwrap_or-slice_get}
use Rattle.std.proofs.lemmas.List.FromFn.{length-map-range_with_len, get_or-map-range_with_len}
use Rattle.std.proofs.lemmas.List.Kept.{IsStrictlyIncreasing-filter, AllPairs-from_increasing}
use Rattle.std.proofs.lemmas.List.Sorted.{searched}
use Rattle.std.proofs.lemmas.Map.Keys.{IsDistinct-head, IsDistinct-tail, IsDistinct-cons}
use Rattle.admit_core.specs.CallOrder.{AreCallOrders}
use Rattle.admit_core.specs.DossierRows.{DossierRows}
use Rattle.admit_core.specs.Lists.{is_among}
use Rattle.admit_core.specs.Proposals.{order_of}
use Rattle.admit_core.specs.Validity.{IsValid}
use Rattle.admit_core.specs.declared.dossier.Wish.{Wish}
use Rattle.admit_core.specs.declared.ranking.CallOrder.{CallOrder}
use Rattle.admit_core.proofs.Tests.{among-map}
use Rattle.proposals.proofs.Calling.{all_called}
use Rattle.linked_demand.proofs.Seating.{called_once}
use Rattle.day_state.proofs.Ascending.{range_rises}
use Rattle.linked_demand.proofs.CalledRows.{among_itself}
use Rattle.linked_demand.proofs.HousedRows.{filter_among}
use Rattle.markets.specs.Markets.{MarketRows, IsMarket, IsSmall, is_list_below, is_distinct, lists_it, listers}
use Rattle.markets.specs.Markets.{market_order}
use Rattle.markets.specs.Listers.{AreLists, naming}
use Rattle.markets.specs.Dossiers.{counts, counted, named, own, by_preference, lists_in, called_in, market_of}
use Rattle.markets.proofs.Firsts.{all_of, range_has}
use Rattle.markets.proofs.Positions.{first_place, at_first, only_place}
use Rattle.markets.proofs.InTurn.{in_turn_apart, named_length}
use Rattle.markets.proofs.Rankers.{is_for, lists_wish, one_counted, is_list_of}
use Rattle.markets.proofs.BelowCount.{is_distinct_from}

-- the number of a candidate, and whether the list of a number names a programme
abbrev pub number : List Wish → ℕ → ℕ
number ws c = position_or_len (nat_eq c) (named ws)

abbrev pub names_it : List Wish → ℕ → ℕ → Bool
names_it ws p x = is_among p (slice_index_or (lists_in ws) x [])

-- a number whose list names a programme is that of a candidate who lists it
module _ (ws : List Wish) (p x : ℕ) (names : names_it ws p x ≡ true) where
  is_number : x < length (named ws)
  is_number =
      elim (cases_lt x (length (named ws))) [
        | inl lt ↦ lt
        | inr past ↦
            let none : slice_index_or (lists_in ws) x [] ≡ [] =
            get_or_past (lists_in ws) x []
            (omega (arith, past, length-map (named ws) (λ k. by_preference (own ws k)))) in
            absurd (false≢true (sym (ap (is_among p) none) ∙ names))
      ]

  pub their_list : is_among p (by_preference (own ws (get_or (named ws) x 0))) ≡ true
  their_list =
      sym (ap (is_among p) (get_or-map (λ k. by_preference (own ws k)) (named ws) x 0 [] is_number)) ∙ names

  pub their_number : number ws (get_or (named ws) x 0) ≡ x
  their_number = only_place (named ws) (get_or (named ws) x 0) x (in_turn_apart (map (λ w. w.candidate) ws))
      is_number refl

-- a number that is one of the market's is that of one candidate alone
named_at : (ws : List Wish) (c : ℕ) → number ws c < length (named ws) → c ≡ get_or (named ws) (number ws c) 0
named_at ws c lt = eqb-true c (get_or (named ws) (position_or_len (nat_eq c) (named ws)) 0)
    (passes_at_first (nat_eq c) (named ws) 0 lt)

-- what stands in what is made of a list is made of one of it
pub from_map : (f : ℕ → ℕ) (q : ℕ) (xs : List ℕ) → is_among q (map f xs) ≡ true
    → (c : ℕ) × ((is_among c xs ≡ true) × (q ≡ f c))
from_map f q [] t = absurd (false≢true t)
from_map f q (x ∷ xs) t =
    elim (or_cases (nat_eq q (f x)) (is_among q (map f xs)) t) [
      | inl here ↦ (x, (or_left (nat_eq x x) (is_among x xs) (eq-eqb x x refl), eqb-true q (f x) here))
      | inr later ↦ let (c, (among, is)) = from_map f q xs later in
          (c, (or_right (nat_eq c x) (is_among c xs) among, is))
    ]

-- one who differs from all of a list isn't in it
differs : (c : ℕ) (xs : List ℕ) → AllByRecursion (λ y. nat_eq c y ≡ false) xs → is_among c xs ≡ true → ⊥
differs c [] all t = false≢true t
differs c (x ∷ xs) all t =
    elim (or_cases (nat_eq c x) (is_among c xs) t) [
      | inl here ↦ false≢true (sym all.0 ∙ here)
      | inr later ↦ differs c xs all.1 later
    ]

all_differ : (x : ℕ) (xs : List ℕ) → ((q : ℕ) → is_among q xs ≡ true → nat_eq x q ≡ false)
    → AllByRecursion (λ y. nat_eq x y ≡ false) xs
all_differ x [] each = tt
all_differ x (y ∷ ys) each = (
  each y (or_left (nat_eq y y) (is_among y ys) (eq-eqb y y refl)),
  all_differ x ys
      (λ q among. each q (or_right (nat_eq q y) (is_among q ys) among)),
)

-- the numbers of different candidates differ
numbers_apart : (ws : List Wish) (p : ℕ) (order : List ℕ) → IsDistinct nat_eq order
    → IsDistinct nat_eq (filter (names_it ws p) (map (number ws) order))
numbers_apart ws p [] apart = in_turn_apart []
numbers_apart ws p (c ∷ cs) apart =
    let x : ℕ = number ws c in
    let later : List ℕ = filter (names_it ws p) (map (number ws) cs) in
    let rest : IsDistinct nat_eq later = numbers_apart ws p cs (IsDistinct-tail nat_eq c cs apart) in
    elim (cases_Bool (names_it ws p x)) [
      | inl names ↦
          let others : AllByRecursion (λ y. nat_eq x y ≡ false) later =
          all_differ x later (λ q among. ne_eqb x q (λ same.
          let both = and_parts (is_among q (map (number ws) cs)) (names_it ws p q)
          (sym (filter_among (names_it ws p) q (map (number ws) cs)) ∙ among) in
          let (b, (there, is)) = from_map (number ws) q cs both.0 in
          let x_lt : number ws c < length (named ws) = is_number ws p x names in
          let b_lt : number ws b < length (named ws) = omega (arith, x_lt, same, is) in
          let one : c ≡ b = named_at ws c x_lt ∙ ap (λ k. get_or (named ws) k 0) (same ∙ is)
          ∙ sym (named_at ws b b_lt) in
          differs c cs (IsDistinct-head nat_eq c cs apart) (ap (λ k. is_among k cs) one ∙ there))) in
          rw names (IsDistinct-cons nat_eq x later others rest)
      | inr fails ↦ rw fails rest
    ]

module _ (d : DossierRows) (valid : IsValid d) (orders : List CallOrder) (are : AreCallOrders d.groups orders) where
  -- in a valid dossier each wish's candidate is called
  each_called : All (λ (w : Wish). is_among w.candidate (order_of d orders w.programme) ≡ true) d.wishes
  each_called k e lt =
      let P : Wish → Type 0 = λ w. is_among w.candidate (order_of d orders w.programme) ≡ true in
      let none : Wish = record {
        id = 0;
        candidate = 0;
        programme = 0;
        school = None;
        board_rank = 0;
        preference = 0;
      } in
      subst P (unwrap_or-slice_get d.wishes k none ∙ get_or_default d.wishes k none e lt)
      ((all_called d valid orders are).each k lt)

  -- who lists a programme is called for it
  pub lister_called : (p x : ℕ) → names_it (counted d) p x ≡ true
      → is_among x (map (number (counted d)) (order_of d orders p)) ≡ true
  lister_called p x names =
      let ws : List Wish = counted d in
      let call : List ℕ = order_of d orders p in
      let c : ℕ = get_or (named ws) x 0 in
      let P : Wish → Type 0 = λ w. is_among w.candidate (order_of d orders w.programme) ≡ true in
      let (w, (called, for)) = one_counted d P (is_for p c) each_called
      (sym (lists_wish ws p c) ∙ their_list ws p x names) in
      let parts = and_parts (nat_eq c w.candidate) (nat_eq p w.programme) for in
      let in_call : is_among c call ≡ true =
      ap (λ k. is_among k call) (eqb-true c w.candidate parts.0)
      ∙ ap (λ q. is_among w.candidate (order_of d orders q)) (eqb-true p w.programme parts.1) ∙ called in
      ap (λ k. is_among k (map (number ws) call)) (sym (their_number ws p x names))
      ∙ among-map (number ws) c call in_call

  -- and at one place alone
  pub called_apart : (p i j : ℕ) → i < length (order_of d orders p) → j < length (order_of d orders p)
      → number (counted d) (get_or (order_of d orders p) i 0) ≡ number (counted d) (get_or (order_of d orders p) j 0)
      → number (counted d) (get_or (order_of d orders p) i 0) < length (named (counted d))
      → i ≡ j
  called_apart p i j i_lt j_lt same lt =
      let ws : List Wish = counted d in
      let call : List ℕ = order_of d orders p in
      let apart = called_once d valid orders are p in
      let b : ℕ = get_or call i 0 in
      let c : ℕ = get_or call j 0 in
      let one : b ≡ c = named_at ws b lt ∙ ap (λ k. get_or (named ws) k 0) same
      ∙ sym (named_at ws c (omega (arith, lt, same))) in
      sym (only_place call b i apart i_lt refl) ∙ only_place call b j apart j_lt (sym one)

  -- an order is one: it has those who list the programme, and nobody else
  order_is_one : (p : ℕ) → p < length d.programmes
      → (is_distinct (called_in (counted d) p (order_of d orders p))
      && list_all (names_it (counted d) p) (called_in (counted d) p (order_of d orders p))
      && list_all (λ x. is_among x (called_in (counted d) p (order_of d orders p)))
      (filter (names_it (counted d) p) (range_with_len 0 (length (lists_in (counted d))))))
      ≡ true
  order_is_one p lt =
      let ws : List Wish = counted d in
      let call : List ℕ = order_of d orders p in
      let numbers : List ℕ = map (number ws) call in
      let order : List ℕ = called_in ws p call in
      let range : List ℕ = range_with_len 0 (length (lists_in ws)) in
      let once : is_distinct order ≡ true = is_distinct_from order (numbers_apart ws p call
      (called_once d valid orders are p)) in
      let list : list_all (names_it ws p) order ≡ true =
      all_of (names_it ws p) order (λ x among.
      (and_parts (is_among x numbers) (names_it ws p x) (sym (filter_among (names_it ws p) x numbers) ∙ among)).1) in
      let whole : list_all (λ x. is_among x order) (filter (names_it ws p) range) ≡ true =
      all_of (λ x. is_among x order) (filter (names_it ws p) range) (λ x among.
      let names : names_it ws p x ≡ true =
      (and_parts (is_among x range) (names_it ws p x) (sym (filter_among (names_it ws p) x range) ∙ among)).1 in
      filter_among (names_it ws p) x numbers
      ∙ and_from (is_among x numbers) (names_it ws p x) (lister_called p x names) names) in
      rw (once, list, whole) refl

  order_at : (p : ℕ) → p < length d.programmes
      → market_order (market_of d orders) p ≡ called_in (counted d) p (order_of d orders p)
  order_at p lt = get_or-map-range_with_len (λ q. called_in (counted d) q (order_of d orders q)) 0
      (length d.programmes) p p [] lt
      (omega arith)

  pub orders_long : length (market_of d orders).orders ≡ length d.programmes
  orders_long = length-map-range_with_len (λ q. called_in (counted d) q (order_of d orders q)) 0 (length d.programmes)

  -- the lists name programmes, none twice
  pub are_lists : (n : ℕ) → n ≡ length d.programmes → AreLists n (lists_in (counted d))
  are_lists n is x lt =
      let ws : List Wish = counted d in
      let x_lt : x < length (named ws) = omega (arith, lt, length-map (named ws) (λ k. by_preference (own ws k))) in
      let P : List ℕ → Type 0 = λ list. is_list_below n list ≡ true in
      subst P (sym (get_or-map (λ k. by_preference (own ws k)) (named ws) x 0 [] x_lt))
      (ap (λ k. is_list_below k (by_preference (own ws (get_or (named ws) x 0)))) is
      ∙ is_list_of d valid (get_or (named ws) x 0))

  pub market_stands : IsMarket (market_of d orders)
  market_stands =
      record {
        one_seat_each = length-map d.programmes (λ q. q.seats) ∙ sym orders_long;
        lists = are_lists (length (market_of d orders).orders) orders_long;
        orders = λ p lt.
            let p_lt : p < length d.programmes = omega (arith, lt, orders_long) in
            let P : List ℕ → Type 0 = λ order.
            (is_distinct order && list_all (lists_it (market_of d orders) p) order && list_all (λ x. is_among x order)
            (listers (market_of d orders) p)) ≡ true in
            subst P (sym (order_at p p_lt)) (order_is_one p p_lt);
      }

  pub named_few : length (named (counted d)) ≤ 16000000
  named_few = omega (
    arith,
    named_length (counted d),
    length-filter_both counts (λ w. not (counts w)) (λ w. refl) d.wishes,
    valid.size.wishes,
  )

  pub orders_each : length orders ≡ length d.groups
  orders_each = (all_called d valid orders are).as_many

  pub market_small : IsSmall (market_of d orders)
  market_small =
      record {
        candidates = omega (arith, length-map (named (counted d)) (λ k. by_preference (own (counted d) k)), named_few);
        programmes = omega (arith, orders_long, valid.size.programmes);
      }

-- those who list a programme rise
pub listers_rise : (lists : List (List ℕ)) (p n : ℕ) → IsStrictlyIncreasing (naming lists p n)
listers_rise lists p n = IsStrictlyIncreasing-filter (λ x. is_among p (slice_index_or lists x [])) (range_with_len 0 n)
    (range_rises 0 n)

-- and are those whose lists name it
pub called_by_listers : (ws : List Wish) (p : ℕ) (order listers : List ℕ)
    → listers ≡ naming (lists_in ws) p (length (lists_in ws))
    → filter (λ x. is_among x listers) (map (λ c. position_or_len (nat_eq c) (named ws)) order) ≡ called_in ws p order
called_by_listers ws p order listers is =
    let lists : List (List ℕ) = lists_in ws in
    let test : ℕ → Bool = λ x. is_among p (slice_index_or lists x []) in
    let range : List ℕ = range_with_len 0 (length lists) in
    let same : (x : ℕ) → is_among x listers ≡ test x = λ x.
    ap (is_among x) is ∙ filter_among test x range ∙ elim (cases_lt x (length lists)) [
      | inl lt ↦ ap (λ b. b && test x) (range_has x 0 (length lists) (omega arith) (omega (arith, lt)))
      | inr past ↦
          let none : test x ≡ false = ap (is_among p) (get_or_past lists x [] past) in
          rw none (elim (is_among x range) as (λ b. (b && false) ≡ false) [ true ↦ refl | false ↦ refl ])
    ] in
    ap (λ t. filter t (map (λ c. position_or_len (nat_eq c) (named ws)) order)) (λ i x. same x i)

-- nobody is called where nobody lists it
nobody : (xs : List ℕ) → filter (λ x. is_among x []) xs ≡ []
nobody [] = refl
nobody (x ∷ xs) = nobody xs

pub none_called : (listers xs : List ℕ) → length listers ≡ 0 → [] ≡ filter (λ x. is_among x listers) xs
none_called [] xs none = sym (nobody xs)
none_called (l ∷ ls) xs none = absurd (omega (arith, none))

-- a candidate more of an order
pub called_more : (t : ℕ → Bool) (f : ℕ → ℕ) (order : List ℕ) (i c : ℕ) (passes : Bool) → i < length order
    → c ≡ get_or order i 0
    → passes ≡ t (f c)
    → filter t (map f (take (i + 1) order)) ≡ filter t (map f (take i order)) ++ cond passes (f c ∷ []) []
called_more t f order i c passes lt read told =
    ap (λ (xs : List ℕ). filter t (map f xs)) (take_more order i 0 lt)
    ∙ ap (filter t) (map-append f (take i order) (get_or order i 0 ∷ []))
    ∙ filter-append t (map f (take i order)) (f (get_or order i 0) ∷ [])
    ∙ ap (λ k. filter t (map f (take i order)) ++ cond (t (f k)) (f k ∷ []) []) (sym read)
    ∙ ap (λ b. filter t (map f (take i order)) ++ cond b (f c ∷ []) []) (sym told)

-- the place of one who isn't found is past the end
pub place_of_none : (test : ℕ → Bool) (xs : List ℕ) → position test xs ≡ None → length xs ≡ position_or_len test xs
place_of_none test xs none =
    elim (cases_lt (position_or_len test xs) (length xs)) [
      | inl lt ↦
          let some : position test xs ≡ Some (position_or_len test xs) =
          rw (lt-ltb (position_or_len test xs) (length xs) lt) refl in
          let no : Some (position_or_len test xs) ≡ None = sym some ∙ none in
          absurd (cc no)
      | inr le ↦ omega (arith, le, prefix_len-le-length (λ x. not (test x)) xs)
    ]

-- whether a number stands in a rising list, by a search
pub found_in : (xs : List ℕ) (x : ℕ) (r : Result ℕ ℕ) → IsStrictlyIncreasing xs
    → IsBinarySearchResult (λ y. nat_cmp y x) xs r
    → is_ok r ≡ is_among x xs
found_in xs x r rises is = by r (searched xs x r is up)
  where
    up : (i j : ℕ) → i ≤ j → j < length xs → get_or xs i 0 ≤ get_or xs j 0
    up i j le lt =
        elim (cases_lt i j) [
          | inl below ↦ omega (arith, AllPairs-from_increasing xs rises i j 0 below lt)
          | inr past ↦ let same : i ≡ j = omega (arith, le, past) in omega (arith, ap (λ k. get_or xs k 0) same)
        ]

    by : (s : Result ℕ ℕ) → MatchResult s (λ i. (i < length xs) × (get_or xs i 0 ≡ x))
        (λ i. (i ≤ length xs) × ((k : ℕ) → k < i → get_or xs k 0 < x)
        × ((k : ℕ) → i ≤ k → k < length xs → x < get_or xs k 0))
        → is_ok s ≡ is_among x xs
    by (Ok i) (lt, at) = sym (ap (λ y. is_among y xs) (sym at) ∙ among_itself xs i lt)
    by (Err i) (le, below, above) =
        sym (false_from_ne_true (is_among x xs) (λ t.
        let j : ℕ = position_or_len (nat_eq x) xs in
        let j_lt : j < length xs = first_place x xs t in
        let at : get_or xs j 0 ≡ x = at_first x xs t in
        elim (cases_lt j i) [
          | inl lt ↦ omega (arith, below j lt, at)
          | inr past ↦ omega (arith, above j past j_lt, at)
        ]))

-- the parts of a dossier's market
pub market_is : (d : DossierRows) (orders : List CallOrder) (ws : List Wish) (names : List ℕ)
    (lists called : List (List ℕ))
    (seats : List ℕ)
    → ws ≡ counted d → names ≡ named ws → lists ≡ map (λ c. by_preference (own ws c)) names
    → called ≡ (market_of d orders).orders
    → seats ≡ (market_of d orders).seats
    → record { lists = lists; orders = called; seats = seats } ≡ market_of d orders
market_is d orders ws names lists called seats ws_are names_are lists_are called_are seats_are =
    let m : MarketRows = market_of d orders in
    let made : List (List ℕ) → List (List ℕ) → List ℕ → MarketRows =
    λ ls os ss. record { lists = ls; orders = os; seats = ss } in
    let all : lists ≡ m.lists = lists_are ∙ ap (map (λ c. by_preference (own ws c))) names_are ∙ ap lists_in ws_are in
    ap (λ ls. made ls called seats) all ∙ ap (λ os. made m.lists os seats) called_are
    ∙ ap (made m.lists m.orders) seats_are

-- The ranks of candidates, noted order by order, and how one is found.
use Rattle.std.proofs.Common.{ℕ, zero, suc, ◌+◌, ◌<◌, ◌≡◌, Bool, true, false, cond, ◌&&◌, List, [], ◌∷◌, ◌++◌, map}
use Rattle.std.proofs.Common.{length, get_or, inl, inr, refl, sym, ◌∙◌, ap, subst, arith, nat_eq, nat_lt, Vec, Some}
use Rattle.std.proofs.Common.{None}
use Rattle.std.proofs.Common.{option_map}
use Rattle.std.specs.Prelude.{if◌then◌else◌, is_some}
use Rattle.std.specs.List.{list_all, before_first, find, range_with_len, IsDistinct}
use Rattle.std.specs.List.Sorted.{IsNonDecreasingBy}
use Rattle.std.specs.declared.alloc.Global.{Global}
use Rattle.std.proofs.lemmas.Bool.{cases_Bool, cases_lt, and_from, eqb-true, lt-ltb, ltb-true, ne_eqb, false≢true}
use Rattle.std.proofs.lemmas.Bool.{false_from_ne_true}
use Rattle.std.proofs.lemmas.Option.{slice_get_read}
use Rattle.std.proofs.lemmas.List.{map-append, length-map}
use Rattle.std.proofs.lemmas.List.{get_or-map as get_or_map}
use Rattle.std.proofs.lemmas.List.Folds.{list_any_at}
use Rattle.std.proofs.lemmas.List.Kept.{AllPairs-from_increasing}
use Rattle.std.proofs.lemmas.List.Sums.{position_or_len_is}
use Rattle.admit_core.specs.Lists.{is_among}
use Rattle.linked_demand.proofs.HousedRows.{filter_among}
use Rattle.markets.specs.Markets.{MarketRows, IsMarket, market_order, is_distinct, market_position}
use Rattle.linked_demand.specs.Keyed.{AreEmpty}
use Rattle.markets.specs.Listers.{AreLists, ArePutIn, naming}
use Rattle.markets.specs.Ranked.{AreRanked, position_in, rank_at, rank_in}
use Rattle.markets.specs.declared.ranked.Rank.{Rank}
use Rattle.markets.proofs.Firsts.{all_of, range_has}
use Rattle.markets.proofs.Positions.{length_before, only_place, order_distinct, order_lists, is_candidate, position_is}
use Rattle.markets.proofs.Called.{listers_rise}
use Rattle.markets.proofs.Listing.{naming_more}
use Rattle.markets.proofs.BelowCount.{is_distinct_from}

-- one at a place of a list of numbers that differ stands at the position after it
pub own_position : (xs : List ℕ) (k : ℕ) → IsDistinct nat_eq xs → k < length xs
    → k + 1 ≡ length (before_first (nat_eq (get_or xs k 0)) xs) + 1
own_position xs k apart lt =
    omega (arith, length_before (nat_eq (get_or xs k 0)) xs, only_place xs (get_or xs k 0) k apart lt refl)

-- no ranks yet
pub ranks_none : (m : MarketRows) (n : ℕ) (rows : List (Vec Rank Global)) → n ≡ length m.lists → AreEmpty n rows
    → AreRanked m 0 rows
ranks_none m n rows n_is are = record { one_each = are.as_many ∙ n_is; each = λ x row at. are.each x row at }

one_more : (f : ℕ → Rank) (b : Bool) (k : ℕ) → map f (cond b (k ∷ []) []) ≡ (if b then f k ∷ [] else [])
one_more f true k = refl
one_more f false k = refl

-- those in one more order
pub ranks_more : (m : MarketRows) (k : ℕ) (order : List ℕ) (rows new : List (Vec Rank Global))
    → order ≡ market_order m k
    → AreRanked m k rows
    → ArePutIn (λ x. is_among x order) (λ x. rank_in order k x) rows new
    → AreRanked m (k + 1) new
ranks_more m k order rows new order_is are put =
    let P : List ℕ → Type 0 = λ xs. ArePutIn (λ x. is_among x xs) (λ x. rank_in xs k x) rows new in
    let put_here : P (market_order m k) = subst P order_is put in
    record {
      one_each = put_here.as_many ∙ are.one_each;
      each = λ x row at.
          let (before, found, items) = put_here.each x row at in
          let f : ℕ → Rank = rank_at m x in
          let b : Bool = is_among x (market_order m k) in
          items ∙ ap (λ (ys : List Rank). ys ++ (if b then f k ∷ [] else [])) (are.each x before found)
          ∙ ap (λ (ys : List Rank). map f (naming m.orders x k) ++ ys) (sym (one_more f b k))
          ∙ sym (map-append f (naming m.orders x k) (cond b (k ∷ []) []))
          ∙ ap (map f) (sym (naming_more m.orders x k));
    }

-- the orders of a market are lists of its candidates
pub orders_are_lists : (m : MarketRows) → IsMarket m → AreLists (length m.lists) m.orders
orders_are_lists m is p lt =
    let order : List ℕ = market_order m p in
    and_from (is_distinct order) (list_all (λ x. nat_lt x (length m.lists)) order)
    (is_distinct_from order (order_distinct m is p lt))
    (all_of (λ x. nat_lt x (length m.lists)) order
    (λ x among. lt-ltb x (length m.lists) (is_candidate m is p x (order_lists m is p x lt among))))

-- who isn't in an order stands past its end
past_end : (m : MarketRows) (p x : ℕ) → is_among x (market_order m p) ≡ false
    → market_position m p x ≡ length (market_order m p) + 1
past_end m p x absent =
    let order : List ℕ = market_order m p in
    let fails : (k : ℕ) → k < length order → nat_eq x (get_or order k 0) ≡ false =
    λ k lt. false_from_ne_true (nat_eq x (get_or order k 0))
    (λ t. false≢true (sym absent ∙ list_any_at (nat_eq x) order k 0 lt t)) in
    omega (
      arith,
      position_is m p x,
      position_or_len_is (nat_eq x) order (length order) 0 (omega arith) fails
          (λ h. absurd (omega (arith, h))),
    )

-- the rank that is found
find_rank : (m : MarketRows) (x p : ℕ) (ps : List ℕ)
    → find (λ r. nat_eq p r.programme) (map (rank_at m x) ps)
    ≡ (if is_among p ps then Some (rank_at m x p) else None)
find_rank m x p [] = refl
find_rank m x p (q ∷ qs) =
    elim (cases_Bool (nat_eq p q)) [
      | inl here ↦ rw here (ap (λ k. Some (rank_at m x k)) (sym (eqb-true p q here)))
      | inr other ↦ rw other (find_rank m x p qs)
    ]

pub ranked_some : (m : MarketRows) (x p v : ℕ) (own : List Rank)
    → own ≡ map (rank_at m x) (naming m.orders x (length m.orders))
    → position_in own p ≡ Some v
    → v ≡ market_position m p x
ranked_some m x p v own are is =
    let ps : List ℕ = naming m.orders x (length m.orders) in
    let t : Rank → Bool = λ r. nat_eq p r.programme in
    let found : option_map (λ r. r.position) (if is_among p ps then Some (rank_at m x p) else None) ≡ Some v =
    ap (option_map (λ r. r.position)) (sym (ap (find t) are ∙ find_rank m x p ps)) ∙ is in
    elim (cases_Bool (is_among p ps)) [
      | inl among ↦ let same : Some (market_position m p x) ≡ Some v = rw among at found in (let e = same in cc)
      | inr absent ↦ let none : None ≡ Some v = rw absent at found in absurd (false≢true (ap is_some none))
    ]

pub ranked_none : (m : MarketRows) (x p : ℕ) (own : List Rank) → p < length m.orders
    → own ≡ map (rank_at m x) (naming m.orders x (length m.orders))
    → position_in own p ≡ None
    → market_position m p x ≡ length (market_order m p) + 1
ranked_none m x p own p_lt are is =
    let ps : List ℕ = naming m.orders x (length m.orders) in
    let range : List ℕ = range_with_len 0 (length m.orders) in
    let test : ℕ → Bool = λ q. is_among x (market_order m q) in
    let t : Rank → Bool = λ r. nat_eq p r.programme in
    let found : option_map (λ r. r.position) (if is_among p ps then Some (rank_at m x p) else None) ≡ None =
    ap (option_map (λ r. r.position)) (sym (ap (find t) are ∙ find_rank m x p ps)) ∙ is in
    let absent : is_among p ps ≡ false =
    false_from_ne_true (is_among p ps) (λ among.
    let some : Some (market_position m p x) ≡ None = rw among at found in
    false≢true (sym (ap is_some some))) in
    past_end m p x (sym (ap (λ b. b && test p) (range_has p 0 (length m.orders) (omega arith) (omega (arith, p_lt))))
    ∙ sym (filter_among test p range) ∙ absent)

-- one's ranks rise by programme
pub ranks_rise : (m : MarketRows) (x : ℕ) (own : List Rank)
    → own ≡ map (rank_at m x) (naming m.orders x (length m.orders))
    → IsNonDecreasingBy (λ r. r.programme) own
ranks_rise m x own are i j d le lt =
    let ps : List ℕ = naming m.orders x (length m.orders) in
    let long : length own ≡ length ps = ap length are ∙ length-map ps (rank_at m x) in
    let at : (k : ℕ) → k < length ps → (get_or own k d).programme ≡ get_or ps k 0 =
    λ k k_lt. ap (λ (rs : List Rank). (get_or rs k d).programme) are
    ∙ ap (λ r. r.programme) (get_or_map (rank_at m x) ps k 0 d k_lt) in
    let j_in : j < length ps = omega (arith, lt, long) in
    elim (cases_lt i j) [
      | inl below ↦
          let up : get_or ps i 0 < get_or ps j 0 =
          AllPairs-from_increasing ps (listers_rise m.orders x (length m.orders)) i j 0 below j_in in
          omega (arith, at i (omega (arith, below, j_in)), at j j_in, up)
      | inr past ↦
          let same : i ≡ j = omega (arith, le, past) in
          omega (arith, ap (λ k. (get_or own k d).programme) same)
    ]

-- the first that passes is found, and none where all fail
pub found_first : (t : Rank → Bool) (rs : List Rank) (i : ℕ) (d : Rank) → i < length rs
    → ((k : ℕ) → k < i → t (get_or rs k d) ≡ false)
    → t (get_or rs i d) ≡ true
    → find t rs ≡ Some (get_or rs i d)
found_first t [] i d lt fails passes = absurd (omega arith)
found_first t (r ∷ rs) zero d lt fails passes = rw passes refl
found_first t (r ∷ rs) (suc i) d lt fails passes =
    rw (fails 0 (omega arith)) (found_first t rs i d (omega arith) (λ k k_lt. fails (suc k) (omega arith)) passes)

pub found_none : (t : Rank → Bool) (rs : List Rank) (d : Rank)
    → ((k : ℕ) → k < length rs → t (get_or rs k d) ≡ false)
    → find t rs ≡ None
found_none t [] d fails = refl
found_none t (r ∷ rs) d fails = rw (fails 0 (omega arith)) (found_none t rs d (λ k lt. fails (suc k) (omega arith)))

-- a programme that is below another one isn't it
pub passed_over : (rs : List Rank) (p k : ℕ) → nat_lt (get_or rs k (record { programme = 0; position = 0 })).programme p
    ≡ true
    → nat_eq p (get_or rs k (record { programme = 0; position = 0 })).programme ≡ false
passed_over rs p k below =
    let none : Rank = record { programme = 0; position = 0 } in
    let q : ℕ = (get_or rs k none).programme in
    ne_eqb p q (λ e. omega (arith, e, ltb-true q p below))

-- one's ranks, as they are read
pub own_ranks : (m : MarketRows) (x : ℕ) (rows : List (Vec Rank Global)) (row : Vec Rank Global) (own : List Rank)
    → x < length m.lists
    → AreRanked m (length m.orders) rows
    → row ≡ get_or rows x row
    → own ≡ row.items
    → own ≡ map (rank_at m x) (naming m.orders x (length m.orders))
own_ranks m x rows row own lt are read is =
    is ∙ are.each x row (slice_get_read rows (length rows) x row refl (omega (arith, lt, are.one_each)) read)

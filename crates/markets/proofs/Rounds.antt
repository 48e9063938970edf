-- A market as a falling system, for its round.
use Rattle.std.proofs.Common.{ℕ, zero, suc, ◌+◌, ◌-◌, ◌≤◌, ◌<◌, ◌≡◌, Bool, true, false, cond, ◌&&◌, List, [], ◌∷◌, ◌++◌}
use Rattle.std.proofs.Common.{map, length, drop, get_or, inl, inr, refl, sym, ◌∙◌, ap, arith, nat_le, nat_lt, filter}
use Rattle.std.proofs.Common.{set}
use Rattle.std.specs.Prelude.{All, Option, Some, None, find, slice_get, slice_index}
use Rattle.std.specs.List.{range_with_len}
use Rattle.std.proofs.lemmas.Bool.{cases_Bool, cases_lt, le-leb, lt-leb, lt-ltb, false_from_ne_true, and_left}
use Rattle.std.proofs.lemmas.Bool.{and_right}
use Rattle.std.proofs.lemmas.List.{append-nil, append_assoc, map-append, length-map, length-append, get_or_default}
use Rattle.std.proofs.lemmas.List.{get_or-set_same, set-set, map-id}
use Rattle.std.proofs.lemmas.List.FromFn.{filter_of_map_range_with_len_more}
use Rattle.admit_core.proofs.Plain.{get_seam}
use Rattle.admit_core.specs.Falls.{is_overfilled}
use Rattle.bar_fixpoint.specs.Overfilled.{all_overfilled}
use Rattle.linked_demand.proofs.Answered.{filter_agree}
use Rattle.markets.specs.Markets.{MarketRows, IsMarket, list_of, market_order, candidate_at}
use Rattle.markets.specs.Matchings.{place_of, is_at}
use Rattle.markets.specs.Bars.{is_within, best_within, demanded, market_system, place_code}
use Rattle.markets.proofs.Firsts.{at_place}
use Rattle.markets.specs.Fillings.{Fill, is_over, overfilled}
use Rattle.markets.specs.Rounds.{IsRound, is_held, held_to}
use Rattle.markets.proofs.Positions.{order_distinct, position_at}
use Rattle.markets.proofs.Lawful.{best_is_within}
use Rattle.markets.proofs.Held.{holders_are_demanded}

-- what a walk along a list finds
map_fixes : (f : Option ℕ → ℕ) → ((o q : Option ℕ) → f o ≡ f q → o ≡ q) → (xs ys : List (Option ℕ))
    → map f xs ≡ map f ys → xs ≡ ys
map_fixes f fixes [] [] e = refl
map_fixes f fixes [] (y ∷ ys) e = absurd (omega (arith, ap length e))
map_fixes f fixes (x ∷ xs) [] e = absurd (omega (arith, ap length e))
map_fixes f fixes (x ∷ xs) (y ∷ ys) e =
    let first : x ≡ y = fixes x y (ap (λ (ns : List ℕ). get_or ns 0 0) e) in
    let rest : xs ≡ ys = map_fixes f fixes xs ys (ap (λ (ns : List ℕ). drop 1 ns) e) in
    ap (λ (z : Option ℕ). z ∷ xs) first ∙ ap (λ (zs : List (Option ℕ)). y ∷ zs) rest

find_here : (t : ℕ → Bool) (xs : List ℕ) (k : ℕ) → k < length xs → ((j : ℕ) → j < k → t (get_or xs j 0) ≡ false)
    → t (get_or xs k 0) ≡ true
    → find t xs ≡ Some (get_or xs k 0)
find_here t [] k lt fails passes = absurd (omega (arith, lt))
find_here t (x ∷ xs) zero lt fails passes = rw passes refl
find_here t (x ∷ xs) (suc k) lt fails passes =
    let first : t x ≡ false = fails 0 (omega arith) in
    rw first (find_here t xs k (omega (arith, lt)) (λ j j_lt. fails (suc j) (omega (arith, j_lt))) passes)

find_nowhere : (t : ℕ → Bool) (xs : List ℕ) → ((j : ℕ) → j < length xs → t (get_or xs j 0) ≡ false) → find t xs ≡ None
find_nowhere t [] fails = refl
find_nowhere t (x ∷ xs) fails =
    let first : t x ≡ false = fails 0 (omega arith) in
    rw first (find_nowhere t xs (λ j j_lt. fails (suc j) (omega (arith, j_lt))))

pub best_found : (m : MarketRows) (bars : List ℕ) (x k : ℕ) (list : List ℕ) → list ≡ list_of m x → k < length list
    → ((j : ℕ) → j < k → is_within m bars x (get_or list j 0) ≡ false) → is_within m bars x (get_or list k 0) ≡ true
    → Some (get_or list k 0) ≡ best_within m bars x
best_found m bars x k list is lt fails passes = sym
    (ap (find (is_within m bars x)) (sym is) ∙ find_here (is_within m bars x) list k lt fails passes)

pub best_nowhere : (m : MarketRows) (bars : List ℕ) (x k : ℕ) (list : List ℕ) → list ≡ list_of m x → length list ≤ k
    → ((j : ℕ) → j < k → is_within m bars x (get_or list j 0) ≡ false) → None ≡ best_within m bars x
best_nowhere m bars x k list is past fails =
    sym (ap (find (is_within m bars x)) (sym is)
    ∙ find_nowhere (is_within m bars x) list (λ j lt. fails j (omega (arith, lt, past))))

-- a filter in two parts
pub filter_split : (t : ℕ → Bool) (a k m n : ℕ) → n ≡ k + m
    → filter t (range_with_len a n) ≡ filter t (range_with_len a k) ++ filter t (range_with_len (a + k) m)
filter_split t a zero m n n_is = let e : n ≡ m = omega (arith, n_is) in let f : a ≡ a + 0 = omega arith in
    rw (e, ← f) refl
filter_split t a (suc k) m n n_is =
    let e : n ≡ suc (k + m) = omega (arith, n_is) in
    let f : a + 1 + k ≡ a + suc k = omega arith in
    let rest : filter t (range_with_len (a + 1) (k + m))
    ≡ filter t (range_with_len (a + 1) k) ++ filter t (range_with_len (a + suc k) m) =
    filter_split t (a + 1) k m (k + m) refl ∙ ap (λ b. filter t (range_with_len (a + 1) k)
    ++ filter t (range_with_len b m)) f in
    elim (cases_Bool (t a)) [
      | inl passes ↦ rw (e, passes) (ap (λ ys. a ∷ ys) rest)
      | inr fails ↦ rw (e, fails) rest
    ]

none_pass : (t : ℕ → Bool) (a n : ℕ) → ((h : ℕ) → a ≤ h → h < a + n → t h ≡ false) → filter t (range_with_len a n) ≡ []
none_pass t a zero fails = refl
none_pass t a (suc n) fails =
    rw (fails a (omega arith) (omega arith))
    (none_pass t (a + 1) n (λ h ge lt. fails h (omega (arith, ge)) (omega (arith, lt))))

-- what passes a stricter test, where it passes up to a number all that pass the other, and none after it
pub filter_cut : (t u : ℕ → Bool) (e n : ℕ) → e ≤ n → ((h : ℕ) → 1 ≤ h → h ≤ e → u h ≡ t h)
    → ((h : ℕ) → e < h → h ≤ n → u h ≡ false)
    → filter u (range_with_len 1 n) ≡ filter t (range_with_len 1 e)
filter_cut t u e n le same fails =
    let rest : filter u (range_with_len (1 + e) (n - e)) ≡ [] = none_pass u (1 + e) (n - e)
    (λ h ge lt. fails h (omega (arith, ge)) (omega (arith, lt, le))) in
    filter_split u 1 e (n - e) n (omega (arith, le)) ∙ ap (λ (ys : List ℕ). filter u (range_with_len 1 e) ++ ys) rest
    ∙ append-nil (filter u (range_with_len 1 e))
    ∙ filter_agree u t 1 e (λ h ge lt. same h ge (omega (arith, lt)))

pub filter_both : (t p : ℕ → Bool) (xs : List ℕ) → filter p (filter t xs) ≡ filter (λ x. t x && p x) xs
filter_both t p [] = refl
filter_both t p (x ∷ xs) =
    elim (cases_Bool (t x)) [
      | inl passes ↦ elim (cases_Bool (p x)) [
        | inl yes_too ↦ rw (passes, yes_too) (ap (λ ys. x ∷ ys) (filter_both t p xs))
        | inr not_that ↦ rw (passes, not_that)
            (filter_both t p xs)
      ]
      | inr fails ↦ rw fails (filter_both t p xs)
    ]

and_yes : (a b : Bool) → b ≡ true → (a && b) ≡ a
and_yes true b e = e
and_yes false b e = refl

-- one position more
pub held_more : (m : MarketRows) (places : List (Option ℕ)) (p k : ℕ)
    → held_to m places p (k + 1) ≡ held_to m places p k ++ cond (is_held m places p (k + 1)) ((k + 1) ∷ []) []
held_more m places p k =
    let t : ℕ → Bool = is_held m places p in
    let more : filter t (map (λ r. r) (range_with_len 1 (k + 1)))
    ≡ filter t (map (λ r. r) (range_with_len 1 k)) ++ cond (t (k + 1))
    ((k + 1) ∷ []) [] =
    filter_of_map_range_with_len_more t (λ r. r) 1 k (k + 1) (omega arith) in
    rw (map-id (range_with_len 1 (k + 1)), map-id (range_with_len 1 k)) at more

pub who_is : (m : MarketRows) (p k y : ℕ) (order : List ℕ) → order ≡ market_order m p → y ≡ get_or order k 0
    → y ≡ candidate_at m p (k + 1)
who_is m p k y order order_is y_is =
    let e : k ≡ k + 1 - 1 = omega arith in
    y_is ∙ ap (λ (xs : List ℕ). get_or xs k 0) order_is ∙ ap (λ i. get_or (market_order m p) i 0) e

-- whether a position is held, as it is asked of who stands there
pub held_is : (m : MarketRows) (places : List (Option ℕ)) (p k y : ℕ) (order : List ℕ) (place : Option ℕ)
    → order ≡ market_order m p
    → y ≡ get_or order k 0
    → place ≡ place_of places y → is_held m places p (k + 1) ≡ is_at p place
held_is m places p k y order place order_is y_is place_is =
    ap (λ z. is_at p (place_of places z)) (sym (who_is m p k y order order_is y_is)) ∙ ap (is_at p) (sym place_is)

one_put : (m : MarketRows) (places : List (Option ℕ)) (p k : ℕ) → is_held m places p (k + 1) ≡ true
    → held_to m places p (k + 1) ≡ held_to m places p k ++ (k + 1) ∷ []
one_put m places p k held = held_more m places p k ∙ ap (λ b. held_to m places p k ++ cond b ((k + 1) ∷ []) []) held

none_put : (m : MarketRows) (places : List (Option ℕ)) (p k : ℕ) → is_held m places p (k + 1) ≡ false
    → held_to m places p (k + 1) ≡ held_to m places p k
none_put m places p k out = held_more m places p k ∙ ap (λ b. held_to m places p k ++ cond b ((k + 1) ∷ []) []) out
    ∙ append-nil (held_to m places p k)

pub one_less : (m : MarketRows) (places : List (Option ℕ)) (p k : ℕ) → is_held m places p (k + 1) ≡ true
    → length (held_to m places p (k + 1)) ≡ length (held_to m places p k) + 1
one_less m places p k held = ap length (one_put m places p k held) ∙ length-append (held_to m places p k) ((k + 1) ∷ [])

pub none_less : (m : MarketRows) (places : List (Option ℕ)) (p k : ℕ) → is_held m places p (k + 1) ≡ false
    → length (held_to m places p (k + 1)) ≡ length (held_to m places p k)
none_less m places p k out = ap length (none_put m places p k out)

-- the names of those who hold them
pub named_more : (m : MarketRows) (places : List (Option ℕ)) (p k y : ℕ) → is_held m places p (k + 1) ≡ true
    → y ≡ candidate_at m p (k + 1)
    → map (candidate_at m p) (held_to m places p (k + 1)) ≡ map (candidate_at m p) (held_to m places p k) ++ y ∷ []
named_more m places p k y held y_is =
    ap (map (candidate_at m p)) (one_put m places p k held)
    ∙ map-append (candidate_at m p) (held_to m places p k) ((k + 1) ∷ [])
    ∙ ap (λ z. map (candidate_at m p) (held_to m places p k) ++ z ∷ []) (sym y_is)

pub named_over : (m : MarketRows) (places : List (Option ℕ)) (p k : ℕ) → is_held m places p (k + 1) ≡ false
    → map (candidate_at m p) (held_to m places p (k + 1)) ≡ map (candidate_at m p) (held_to m places p k)
named_over m places p k out = ap (map (candidate_at m p)) (none_put m places p k out)

-- who stands at a position before the bar, as they are read
pub held_before : (m : MarketRows) (places : List (Option ℕ)) (p bar passed : ℕ) (order : List ℕ) (place : Option ℕ)
    → order ≡ market_order m p
    → All (λ x. x < length m.lists) order → length places ≡ length m.lists → bar ≤ length (market_order m p)
    → passed < bar
    → place ≡ get_or places (get_or order (bar - passed - 1) 0) place
    → is_held m places p (bar - (passed + 1) + 1) ≡ is_at p place
held_before m places p bar passed order place order_is within each le lt place_is =
    let k : ℕ = bar - (passed + 1) in
    let y : ℕ = get_or order (bar - passed - 1) 0 in
    let at : bar - passed - 1 ≡ k = omega (arith, lt) in
    let y_is : y ≡ get_or order k 0 = ap (λ i. get_or order i 0) at in
    let y_lt : y < length m.lists = omega (arith, y_is, within k 0 (omega (arith, le, lt, ap length order_is))) in
    held_is m places p k y order place order_is y_is
    (place_is ∙ get_or_default places y place None (omega (arith, y_lt, each)))

-- what is put at a place is read there
pub put_here : (old new : List ℕ) (x s : ℕ) → x < length old → new ≡ set old x s → slice_index new x ≡ s
put_here old new x s lt is = ap (λ (xs : List ℕ). slice_index xs x) is ∙ get_or-set_same old x s 0 lt

-- a bar that is lowered again
pub set_again : (bars now new : List ℕ) (p v w : ℕ) → p < length bars → now ≡ set bars p v
    → new ≡ set now p (slice_index now p - 1)
    → w ≡ v - 1 → new ≡ set bars p w
set_again bars now new p v w lt now_is new_is w_is =
    new_is ∙ ap (λ n. set now p (n - 1)) (put_here bars now p v lt now_is)
    ∙ ap (λ (xs : List ℕ). set xs p (v - 1)) now_is
    ∙ set-set bars p v (v - 1)
    ∙ ap (set bars p) (sym w_is)

-- a held position is the first past those before it
pub first_past : (m : MarketRows) (places : List (Option ℕ)) (p k bar seats : ℕ) → k + 1 ≤ bar
    → is_held m places p (k + 1) ≡ true
    → length (held_to m places p k) ≡ seats → slice_get (held_to m places p bar) seats ≡ Some (k + 1)
first_past m places p k bar seats le held long =
    let t : ℕ → Bool = is_held m places p in
    let before : List ℕ = held_to m places p k in
    let after : List ℕ = filter t (range_with_len (1 + (k + 1)) (bar - (k + 1))) in
    let here : held_to m places p (k + 1) ≡ before ++ (k + 1) ∷ [] = held_more m places p k
    ∙ ap (λ b. before ++ cond b ((k + 1) ∷ []) []) held in
    let all : held_to m places p bar ≡ (before ++ (k + 1) ∷ []) ++ after =
    filter_split t 1 (k + 1) (bar - (k + 1)) bar (omega (arith, le)) ∙ ap (λ (ys : List ℕ). ys ++ after) here in
    let whole : held_to m places p bar ≡ before ++ (k + 1) ∷ after = all ∙ append_assoc before ((k + 1) ∷ []) after in
    ap (λ (xs : List ℕ). slice_get xs seats) whole ∙ ap (slice_get (before ++ (k + 1) ∷ after)) (sym long)
    ∙ get_seam before after (k + 1)

module _ (m : MarketRows) (is : IsMarket m) (bars stands : List ℕ) (places : List (Option ℕ)) (f : Fill)
    (round : IsRound m bars stands places f) (p : ℕ) (p_lt : p < length m.orders) where
  abbrev bar : ℕ
  bar = slice_index bars p

  asked : (r : ℕ) → is_at p (best_within m bars (candidate_at m p r)) ≡ is_held m places p r
  asked r = ap (is_at p) (sym (round.seated.placed (candidate_at m p r)))

  -- nobody has a place past the bar
  none_past : (r : ℕ) → bar < r → r ≤ length (market_order m p) → is_held m places p r ≡ false
  none_past r past le =
      false_from_ne_true (is_held m places p r) (λ t.
      let best : best_within m bars (candidate_at m p r) ≡ Some p =
      at_place p (best_within m bars (candidate_at m p r)) (asked r ∙ t) in
      omega (
        arith,
        past,
        best_is_within m bars (candidate_at m p r) p best,
        position_at m p r (order_distinct m is p p_lt)
            (omega (arith, past)) le,
      ))

  demanded_is : demanded m bars p ≡ filter (is_held m places p) (range_with_len 1 (length (market_order m p)))
  demanded_is = ap (λ (t : ℕ → Bool). filter t (range_with_len 1 (length (market_order m p)))) (λ i r. asked r i)

  pub demanded_are_held : demanded m bars p ≡ held_to m places p bar
  demanded_are_held =
      demanded_is
      ∙ filter_cut (is_held m places p) (is_held m places p) bar (length (market_order m p)) (round.seated.under p)
      (λ h one le. refl)
      (λ h past le. none_past h past le)

  -- the demanded positions up to one
  pub demanded_upto : (upto e : ℕ) → e ≤ upto → e ≤ bar → ((h : ℕ) → e < h → h ≤ upto → bar < h)
      → filter (λ r. nat_le r upto) (demanded m bars p) ≡ held_to m places p e
  demanded_upto upto e le_upto le_bar past =
      let t : ℕ → Bool = is_held m places p in
      let low : ℕ → Bool = λ r. nat_le r upto in
      ap (filter low) demanded_is ∙ filter_both t low (range_with_len 1 (length (market_order m p)))
      ∙ filter_cut t (λ r. t r && low r) e (length (market_order m p)) (omega (arith, le_bar, round.seated.under p))
      (λ h one le. and_yes (t h) (low h) (le-leb h upto (omega (arith, le, le_upto))))
      (λ h over le.
      elim (cases_lt upto h) [
        | inl far ↦ and_right (t h) (low h) (lt-leb h upto far)
        | inr near ↦ and_left (t h) (low h) (none_past h (past h over near) le)
      ])

  -- as many as are counted
  pub counted_held : slice_index f.counts p ≡ length (held_to m places p bar)
  counted_held =
      round.counts.each p p_lt ∙ holders_are_demanded m is bars places round.seated.one_place_each round.seated.placed p
      p_lt
      ∙ ap length demanded_are_held

-- the programmes that have more than their seats are the overfilled ones
pub overfilled_are : (m : MarketRows) (bars stands : List ℕ) (places : List (Option ℕ)) (f : Fill)
    → IsRound m bars stands places f
    → overfilled f ≡ all_overfilled (market_system m) bars
overfilled_are m bars stands places f round =
    let n : ℕ = length m.orders in
    let long : length (market_system m).ceilings ≡ n = length-map m.orders length in
    let same : (h : ℕ) → h < n → is_over f.seats f.counts h ≡ is_overfilled (market_system m) bars h =
    λ h lt.
    let held = round.counts.each h lt ∙ holders_are_demanded m round.valid bars places round.seated.one_place_each
    round.seated.placed h lt
    in
    ap (λ (xs : List ℕ). nat_lt (slice_index xs h) (slice_index f.counts h)) round.seats
    ∙ ap (nat_lt (slice_index m.seats h)) held
    ∙ sym (ap (λ b. b && nat_lt (slice_index m.seats h) (length (demanded m bars h)))
    (lt-ltb h (length (market_system m).ceilings) (omega (arith, lt, long)))) in
    ap (λ k. filter (is_over f.seats f.counts) (range_with_len 0 k)) round.counts.one_each
    ∙ filter_agree (is_over f.seats f.counts) (is_overfilled (market_system m) bars) 0 n
    (λ h ge lt. same h (omega (arith, lt)))
    ∙ ap (λ k. filter (is_overfilled (market_system m) bars) (range_with_len 0 k)) (sym long)

-- places that are the same as numbers are the same
code_fixes : (o q : Option ℕ) → place_code o ≡ place_code q → o ≡ q
code_fixes None None e = refl
code_fixes None (Some q) e = absurd (omega (arith, e))
code_fixes (Some p) None e = absurd (omega (arith, e))
code_fixes (Some p) (Some q) e = ap Some (omega (arith, e))

pub codes_fix : (xs ys : List (Option ℕ)) → map place_code xs ≡ map place_code ys → xs ≡ ys
codes_fix xs ys e = map_fixes place_code code_fixes xs ys e

-- The answers of places and the list of those that have one.
use Rattle.std.proofs.Common.{ℕ, zero, suc, ◌+◌, ◌-◌, ◌≤◌, ◌<◌, ◌≡◌, ◌≢◌, Bool, true, false, cond, List, [], ◌∷◌, ◌++◌}
use Rattle.std.proofs.Common.{length, drop, filter, get_or, inl, inr, refl, sym, ◌∙◌, ap, arith, nat_lt, Option, None}
use Rattle.std.proofs.Common.{subst}
use Rattle.std.specs.Prelude.{replicate, is_some}
use Rattle.std.specs.List.{range_with_len, insert, remove, All}
use Rattle.std.specs.List.Sorted.{IsNonDecreasing, IsPartitionPoint}
use Rattle.std.proofs.Math.ListN.{set}
use Rattle.std.proofs.Math.Seq.{take-append_seam, drop-append_seam}
use Rattle.std.proofs.lemmas.Bool.{cases_lt, cases_eq, false≢true, lt-ltb, le-ltb}
use Rattle.std.proofs.lemmas.List.{length-set, length-append, length-replicate, get_or-set_same, get_or-set_other}
use Rattle.std.proofs.lemmas.List.{get_or_append_left, get_or-append_right, get_or_read}
use Rattle.std.proofs.lemmas.List.Elements.{All-filter, filter-append}
use Rattle.std.proofs.lemmas.List.FromFn.{length-range_with_len, get_or-range_with_len}
use Rattle.std.proofs.lemmas.List.Kept.{IsNonDecreasingBy-filter}
use Rattle.std.proofs.lemmas.List.Sums.{length-filter, count_by-le-length}
use Rattle.linked_demand.specs.Listed.{answered, AnswersAreListed}

-- whether a place that is read has an answer
pub was_answered : (ranks : List (Option ℕ)) (k : ℕ) (x : Option ℕ) (b : Bool) → k < length ranks
    → x ≡ get_or ranks k x → b ≡ is_some x → is_some (get_or ranks k None) ≡ b
was_answered ranks k x b lt read told = sym (told ∙ ap is_some (get_or_read ranks k x lt read None))

-- the same filter over numbers in a row
pub filter_agree : (p q : ℕ → Bool) (a n : ℕ) → ((h : ℕ) → a ≤ h → h < a + n → p h ≡ q h)
    → filter p (range_with_len a n) ≡ filter q (range_with_len a n)
filter_agree p q a zero same = refl
filter_agree p q a (suc n) same =
    rw (same a (omega arith) (omega arith))
    (ap (λ ks. cond (q a) (a ∷ ks) ks) (filter_agree p q (a + 1) n (λ h ge lt. same h (omega arith) (omega arith))))

range_parts : (a k m n b : ℕ) → n ≡ k + m → b ≡ a + k → range_with_len a n ≡ range_with_len a k ++ range_with_len b m
range_parts a zero m n b n_is b_is = let long : n ≡ m = omega arith in let from : b ≡ a = omega arith in
    rw (long, from) refl
range_parts a (suc k) m n b n_is b_is =
    let long : n ≡ suc (k + m) = omega arith in
    rw long (ap (λ ks. a ∷ ks) (range_parts (a + 1) k m (k + m) b refl (omega arith)))

abbrev below : (ℕ → Bool) → ℕ → List ℕ
below p k = filter p (range_with_len 0 k)

abbrev above : (ℕ → Bool) → ℕ → ℕ → List ℕ
above p k n = filter p (range_with_len (k + 1) (n - (k + 1)))

-- those below a place, the place itself, and those above
parts : (p : ℕ → Bool) (k n : ℕ) → k < n
    → filter p (range_with_len 0 n) ≡ below p k ++ cond (p k) (k ∷ above p k n) (above p k n)
parts p k n lt = ap (filter p) (range_parts 0 k (suc (n - (k + 1))) n k (omega arith) (omega arith))
    ∙ filter-append p (range_with_len 0 k) (range_with_len k (suc (n - (k + 1))))

all_below : (p : ℕ → Bool) (k : ℕ) → All (λ h. nat_lt h k ≡ true) (below p k)
all_below p k =
    All-filter p (λ h. nat_lt h k ≡ true) (range_with_len 0 k) (λ j d lt.
    let within : j < k = omega (arith, lt, length-range_with_len 0 k) in
    lt-ltb (get_or (range_with_len 0 k) j d) k (omega (arith, within, get_or-range_with_len 0 k j d within)))

none_below : (p : ℕ → Bool) (k a n : ℕ) → k ≤ a → All (λ h. nat_lt h k ≡ false) (filter p (range_with_len a n))
none_below p k a n le =
    All-filter p (λ h. nat_lt h k ≡ false) (range_with_len a n) (λ j d lt.
    let within : j < n = omega (arith, lt, length-range_with_len a n) in
    le-ltb (get_or (range_with_len a n) j d) k (omega (arith, le, get_or-range_with_len a n j d within)))

-- the place itself is not below itself
none_below_own : (p : ℕ → Bool) (k n : ℕ) → k < n → p k ≡ true → All (λ h. nat_lt h k ≡ false) (k ∷ above p k n)
none_below_own p k n lt own =
    let P = λ (ks : List ℕ). All (λ h. nat_lt h k ≡ false) ks in
    subst P (ap (λ b. cond b (k ∷ above p k n) (above p k n)) own) (none_below p k k (suc (n - (k + 1))) (omega arith))

-- what is found between those below a number and the others
point_between : (xs ys : List ℕ) (k i : ℕ) → All (λ h. nat_lt h k ≡ true) xs
    → All (λ h. nat_lt h k ≡ false) ys → i ≤ length (xs ++ ys)
    → IsPartitionPoint (λ h. nat_lt h k ≡ true) (λ h. nat_lt h k ≡ false) (xs ++ ys) i → i ≡ length xs
point_between xs ys k i low high within point =
    elim (cases_lt i (length xs)) [
      | inl early ↦
          let lt : i < length (xs ++ ys) = omega (arith, early, length-append xs ys) in
          absurd (false≢true (sym (point.1 i 0 (omega arith) lt)
          ∙ ap (λ h. nat_lt h k) (get_or_append_left xs ys 0 i early) ∙ low i 0 early))
      | inr late ↦ elim (cases_eq i (length xs)) [
        | inl here ↦ here
        | inr past ↦
            let read : get_or (xs ++ ys) (length xs) 0 ≡ get_or ys 0 0 = get_or-append_right xs ys
            (length xs) (length xs) 0 refl (omega arith) ∙ ap (λ j. get_or ys j 0) (omega arith) in
            absurd (false≢true (sym (high 0 0 (omega (arith, late, past, within, length-append xs ys)))
            ∙ ap (λ h. nat_lt h k) (sym read) ∙ point.0 (length xs) 0 (omega arith) (omega (arith, late, past))))
      ]
    ]

drop_past : (xs ys : List ℕ) (k : ℕ) → drop (suc (length xs)) (xs ++ k ∷ ys) ≡ ys
drop_past [] ys k = refl
drop_past (x ∷ xs) ys k = drop_past xs ys k

range_rises : (n : ℕ) → IsNonDecreasing (range_with_len 0 n)
range_rises n i j d le lt =
    let within : j < n = omega (arith, lt, length-range_with_len 0 n) in
    omega (arith, le, get_or-range_with_len 0 n i d (omega (arith, le, within)), get_or-range_with_len 0 n j d within)

get_or-none : (n h : ℕ) → get_or {A = Option ℕ} (replicate n None) h None ≡ None
get_or-none zero h = refl
get_or-none (suc n) zero = refl
get_or-none (suc n) (suc h) = get_or-none n h

none_pass : (ks : List ℕ) → filter (λ h. false) ks ≡ []
none_pass [] = refl
none_pass (k ∷ ks) = none_pass ks

-- no place has an answer yet
none_answered : (n a : ℕ) → filter (λ h. is_some (get_or {A = Option ℕ} (replicate n None) h None)) (range_with_len a n)
    ≡ []
none_answered n a =
    filter_agree (λ h. is_some (get_or {A = Option ℕ} (replicate n None) h None)) (λ h. false) a n
    (λ h ge lt. ap is_some (get_or-none n h)) ∙ none_pass (range_with_len a n)

pub none_listed_yet : (n : ℕ) (ranks : List (Option ℕ)) (places : List ℕ) (room : ℕ)
    → ranks ≡ replicate n None → places ≡ [] → n ≤ room → AnswersAreListed ranks places room
none_listed_yet n ranks places room ranks_are places_are le =
    let long : length ranks ≡ n = ap length ranks_are ∙ length-replicate n None in
    record {
      listed = places_are ∙ sym (none_answered n 0) ∙ rw (long, ranks_are) refl;
      room = omega (arith, long, le);
    }

module _ (ranks : List (Option ℕ)) (places : List ℕ) (room : ℕ) (right : AnswersAreListed ranks places room) where
  pub listed_rises : IsNonDecreasing places
  listed_rises = let P = λ (ks : List ℕ). IsNonDecreasing ks in subst P (sym right.listed)
      (IsNonDecreasingBy-filter (λ (h : ℕ). h) (λ h. is_some (get_or ranks h None))
      (range_with_len 0 (length ranks)) (range_rises (length ranks)))

  module _ (k : ℕ) (x : Option ℕ) (lt : k < length ranks) where
    abbrev has : ℕ → Bool
    has h = is_some (get_or ranks h None)

    abbrev has_now : ℕ → Bool
    has_now h = is_some (get_or (set ranks k x) h None)

    abbrev low : List ℕ
    low = below has k

    abbrev high : List ℕ
    high = above has k (length ranks)

    elsewhere : (h : ℕ) → h ≢ k → has_now h ≡ has h
    elsewhere h other = ap is_some (get_or-set_other ranks k h x None other)

    listed_now : answered (set ranks k x) ≡ low ++ cond (is_some x) (k ∷ high) high
    listed_now =
        let n = length ranks in
        let here : has_now k ≡ is_some x = ap is_some (get_or-set_same ranks k x None lt) in
        let same_low : below has_now k ≡ low = filter_agree has_now has 0 k (λ h ge less. elsewhere h (omega arith)) in
        let same_high : above has_now k n ≡ high = filter_agree has_now has (k + 1) (n - (k + 1))
        (λ h ge less. elsewhere h (omega arith)) in
        ap (λ m. filter has_now (range_with_len 0 m)) (length-set ranks k x) ∙ parts has_now k n lt
        ∙ rw (here, same_low, same_high) refl

    listed_before : places ≡ low ++ cond (has k) (k ∷ high) high
    listed_before = right.listed ∙ parts has k (length ranks) lt

    long_now : length (set ranks k x) ≡ length ranks
    long_now = length-set ranks k x

    -- a place that stays in the list, or out of it
    pub still_listed : is_some x ≡ has k → AnswersAreListed (set ranks k x) places room
    still_listed same = record {
      listed = listed_before ∙ ap (λ b. low ++ cond b (k ∷ high) high) (sym same) ∙ sym listed_now;
      room = omega (arith, long_now, right.room);
    }

    module _ (seen : List ℕ) (seen_is : seen ≡ places) (i : ℕ) (within : i ≤ length seen)
        (point : IsPartitionPoint (λ h. nat_lt h k ≡ true) (λ h. nat_lt h k ≡ false) seen i) where
      -- the list around the place
      found : (rest : List ℕ) → places ≡ low ++ rest → All (λ h. nat_lt h k ≡ false) rest → i ≡ length low
      found rest are fails =
          let P = λ (ks : List ℕ). IsPartitionPoint (λ h. nat_lt h k ≡ true) (λ h. nat_lt h k ≡ false) ks i in
          point_between low rest k i (all_below has k) fails
          (omega (arith, within, ap length seen_is, ap length are)) (subst P (seen_is ∙ are) point)

      high_fails : All (λ h. nat_lt h k ≡ false) high
      high_fails = none_below has k (k + 1) (length ranks - (k + 1)) (omega arith)

      -- one that comes into the list
      module _ (was_none : has k ≡ false) where
        before : places ≡ low ++ high
        before = listed_before ∙ ap (λ b. low ++ cond b (k ∷ high) high) was_none

        pub room_for_one : length places < room
        room_for_one =
            let n = length ranks in
            omega (
              arith,
              lt,
              right.room,
              ap length before,
              length-append low high,
              length-filter has (range_with_len 0 k),
              count_by-le-length has (range_with_len 0 k),
              length-range_with_len 0 k,
              length-filter has (range_with_len (k + 1) (n - (k + 1))),
              count_by-le-length has (range_with_len (k + 1) (n - (k + 1))),
              length-range_with_len (k + 1) (n - (k + 1)),
            )

        pub one_listed : is_some x ≡ true → (new : List ℕ) (now_room : ℕ) → new ≡ insert places i k
            → room ≤ now_room → AnswersAreListed (set ranks k x) new now_room
        one_listed some new now_room new_is le =
            let at = found high before high_fails in
            record {
              listed = new_is ∙ rw (at, before, take-append_seam low high, drop-append_seam low high) refl
                  ∙ ap (λ b. low ++ cond b (k ∷ high) high) (sym some) ∙ sym listed_now;
              room = omega (arith, long_now, right.room, le);
            }

      -- one that goes
      module _ (was_some : has k ≡ true) where
        there : places ≡ low ++ k ∷ high
        there = listed_before ∙ ap (λ b. low ++ cond b (k ∷ high) high) was_some

        own_fails : All (λ h. nat_lt h k ≡ false) (k ∷ high)
        own_fails = none_below_own has k (length ranks) lt was_some

        pub listed_within : i < length places
        listed_within = omega (arith, found (k ∷ high) there own_fails, ap length there, length-append low (k ∷ high))

        pub one_dropped : is_some x ≡ false → (new : List ℕ) (now_room : ℕ) → new ≡ remove places i
            → room ≤ now_room → AnswersAreListed (set ranks k x) new now_room
        one_dropped none new now_room new_is le =
            let at = found (k ∷ high) there own_fails in
            record {
              listed = new_is ∙ rw (at, there, take-append_seam low (k ∷ high), drop_past low high k) refl
                  ∙ ap (λ b. low ++ cond b (k ∷ high) high) (sym none) ∙ sym listed_now;
              room = omega (arith, long_now, right.room, le);
            }

-- The demanded ranks of a row that have a bed, while wishes are looked at and bars fall.
use Rattle.std.proofs.Common.{ℕ, ◌+◌, ◌≤◌, ◌<◌, ◌≡◌, ◌⊎◌, Bool, true, false, ◌&&◌, List, [], ◌∷◌}
use Rattle.std.proofs.Common.{length, filter, inl, inr, refl, sym, ◌∙◌, ap, arith, nat_eq, nat_lt, Some, None, Option}
use Rattle.std.proofs.Common.{subst}
use Rattle.std.proofs.Common.{suc, unwrap_or, is_some}
use Rattle.std.specs.Prelude.{slice_get, IfSome, IfNone}
use Rattle.std.specs.Option.{option_or}
use Rattle.std.specs.List.{AllByRecursion}
use Rattle.std.proofs.lemmas.Bool.{cases_Bool, cases_lt, cases_eq, false≢true, and_parts, and_from, or_cases, or_left}
use Rattle.std.proofs.lemmas.Bool.{or_right}
use Rattle.std.proofs.lemmas.Bool.{eqb-true, eq-eqb, ltb-true, lt-ltb, le-ltb, and_right}
use Rattle.std.proofs.lemmas.List.{length-append}
use Rattle.std.proofs.lemmas.List.Folds.{list_any-append}
use Rattle.std.proofs.lemmas.Option.{slice_get_past}
use Rattle.admit_core.specs.Lists.{is_among}
use Rattle.admit_core.proofs.Plain.{same_test}
use Rattle.admit_core.proofs.Tests.{Ascends, same_members}
use Rattle.linked_demand.specs.declared.rows.RowWish.{RowWish}
use Rattle.linked_demand.specs.Rungs.{Rung, housed_in}
use Rattle.linked_demand.specs.Demand.{counted}
use Rattle.linked_demand.specs.Housed.{ranks_of, kept, noted, GivesUp, is_below, AreNoted}
use Rattle.linked_demand.specs.Housed.{AreHoused, within}
use Rattle.linked_demand.proofs.Closing.{any_at}
use Rattle.linked_demand.proofs.Demanded.{Rises, ascends_counted, among_counted, passes, any_place}
use Rattle.linked_demand.proofs.PlaceOrder.{ascends-filter}
use Rattle.linked_demand.proofs.Rungs.{among_above, housed_known, ascends_housed, rises_kept, ranks_kept, housed_kept}
use Rattle.linked_demand.proofs.Rungs.{few_kept, kept_all, ranks_noted, housed_noted, least_noted, most_noted}

module _ (p : ℕ → Bool) (row : List RowWish) (rises : Rises row) where
  -- who passes in a row demands the rank
  pub demands_rank : (k : ℕ) (x : RowWish) → slice_get row k ≡ Some x → p x.wish ≡ true → 0 < x.rank
      → is_among x.rank (counted p 0 row) ≡ true
  demands_rank k x at pass some =
      among_counted p x.rank 0 row rises
      ∙ and_from (nat_lt 0 x.rank) _ (lt-ltb 0 x.rank some)
      (any_at (passes p x.rank) row k x at
      (and_from (p x.wish) (nat_eq x.rank x.rank) pass (eq-eqb x.rank x.rank refl)))

  pub record Demander (r : ℕ) : Type 0 where
    pub place : ℕ
    pub item : RowWish
    pub there : slice_get row place ≡ Some item
    pub rank : item.rank ≡ r
    pub pass : p item.wish ≡ true
    pub some : 0 < r

  -- a demanded rank is that of one who passes
  pub demander_of : (r : ℕ) → is_among r (counted p 0 row) ≡ true → Demander r
  demander_of r t =
      let parts = and_parts (nat_lt 0 r) _ (sym (among_counted p r 0 row rises) ∙ t) in
      let (k, x, at, both) = any_place (passes p r) row parts.1 in
      let pass = and_parts (p x.wish) (nat_eq r x.rank) both in
      record {
        place = k;
        item = x;
        there = at;
        rank = sym (eqb-true r x.rank pass.1);
        pass = pass.0;
        some = ltb-true 0 r parts.0;
      }

-- what is below one that is below is below
pub lower_below : (over : Option ℕ) (r o : ℕ) → r < o → is_below over o ≡ true → is_below over r ≡ true
lower_below None r o lt t = refl
lower_below (Some m) r o lt t = lt-ltb r m (omega (arith, lt, ltb-true o m t))

module _ (p : ℕ → Bool) (row : List RowWish) (over : Option ℕ) (xs : List Rung) where
  -- other wishes are left
  pub left_others : (left other : ℕ → Bool) → AreNoted p left row over xs
      → ((k : ℕ) (x : RowWish) → slice_get row k ≡ Some x → p x.wish ≡ true → other x.wish ≡ false
      → 0 < x.rank → left x.wish ≡ false) → AreNoted p other row over xs
  left_others left other are each = record {
    rises = are.rises;
    sound = are.sound;
    complete = λ k x at pass none some low. are.complete k x at pass (each k x at pass none some) some low;
    known = are.known;
    below = are.below;
  }

  -- a demanded rank is noted
  pub note_rank : (left other : ℕ → Bool) (r : ℕ) → AreNoted p left row over xs
      → (0 < r → is_among r (counted p 0 row) ≡ true)
      → ((k : ℕ) (x : RowWish) → slice_get row k ≡ Some x → p x.wish ≡ true → other x.wish ≡ false
      → 0 < x.rank → (left x.wish ≡ false) ⊎ (x.rank ≡ r)) → AreNoted p other row over (noted r xs)
  note_rank left other r are demanded each =
      let P = λ (ns : List ℕ). Ascends (0 ∷ ns) in
      record {
        rises = subst P (sym (ranks_noted r xs)) are.rises;
        sound = λ q t.
            elim (or_cases (is_among q (housed_in xs)) (nat_eq q r && is_among q (ranks_of xs))
            (sym (housed_noted q r xs) ∙ t)) [
              | inl was ↦ are.sound q was
              | inr now ↦
                  let parts = and_parts (nat_eq q r) (is_among q (ranks_of xs)) now in
                  let same = eqb-true q r parts.0 in
                  let some = among_above 0 q (ranks_of xs) are.rises.0 parts.1 in
                  ap (λ n. is_among n (counted p 0 row)) same ∙ demanded (omega (arith, some, same))
            ];
        complete = λ k x at pass none some low.
            housed_noted x.rank r xs
            ∙ (elim (each k x at pass none some) [
              | inl was ↦ or_left (is_among x.rank (housed_in xs)) _ (are.complete k x at pass was some low)
              | inr same ↦ or_right (is_among x.rank (housed_in xs)) _
                  (and_from (nat_eq x.rank r) _ (eq-eqb x.rank r same) (are.known k x at some low))
            ]);
        known = λ k x at some low. ap (is_among x.rank) (ranks_noted r xs) ∙ are.known k x at some low;
        below = λ q t. are.below q (ap (is_among q) (sym (ranks_noted r xs)) ∙ t);
      }

  module _ (left : ℕ → Bool) (are : AreNoted p left row over xs) (ys : List Rung) (o : ℕ)
      (gives : GivesUp xs ys o) where
    last_has : is_among o (housed_in xs) ≡ true
    last_has =
        ap (is_among o) gives.housed
        ∙ list_any-append (nat_eq o) (housed_in ys) (o ∷ [])
        ∙ or_right (is_among o (housed_in ys)) (is_among o (o ∷ []))
        (or_left (nat_eq o o) false (eq-eqb o o refl))

    given : (q : ℕ) → is_among q (housed_in ys) ≡ (is_among q (housed_in xs) && nat_lt q o)
    given q = ap (λ (zs : List Rung). is_among q (housed_in zs)) gives.kept_are ∙ housed_kept (λ r. nat_lt r o) q xs

    given_known : (q : ℕ) → is_among q (ranks_of ys) ≡ (is_among q (ranks_of xs) && nat_lt q o)
    given_known q =
        ap (λ (zs : List Rung). is_among q (ranks_of zs)) gives.kept_are ∙ ranks_kept (λ r. nat_lt r o) q xs

    still_below : (r : ℕ) → nat_lt r o ≡ true → is_below over r ≡ true
    still_below r t = lower_below over r o (ltb-true r o t) (are.below o (housed_known o xs last_has))

    -- the last one that has a bed is the first one that has none
    pub gives_note : AreNoted p left row (Some o) ys
    gives_note =
        let P = λ (zs : List Rung). Ascends (0 ∷ ranks_of zs) in
        record {
          rises = subst P (sym gives.kept_are) (rises_kept (λ r. nat_lt r o) xs are.rises);
          sound = λ q t. are.sound q (and_parts (is_among q (housed_in xs)) (nat_lt q o) (sym (given q) ∙ t)).0;
          complete = λ k x at pass none some low.
              given x.rank ∙ and_from (is_among x.rank (housed_in xs)) (nat_lt x.rank o)
              (are.complete k x at pass none some (still_below x.rank low)) low;
          known = λ k x at some low.
              given_known x.rank ∙ and_from (is_among x.rank (ranks_of xs)) (nat_lt x.rank o)
              (are.known k x at some (still_below x.rank low)) low;
          below = λ q t. (and_parts (is_among q (ranks_of xs)) (nat_lt q o) (sym (given_known q) ∙ t)).1;
        }

    gives_one : length (housed_in xs) ≡ length (housed_in ys) + 1
    gives_one = ap (λ (ns : List ℕ). length ns) gives.housed ∙ length-append (housed_in ys) (o ∷ [])

    pub gives_housed : (free : ℕ) → length (housed_in xs) ≡ free + 1 → AreHoused p left row free (Some o) ys
    gives_housed free more = record {
      noted_are = gives_note;
      few = omega (arith, more, gives_one);
      demanded = λ m is.
          let same : o ≡ m = ap (λ (v : Option ℕ). unwrap_or v o) is in
          ap (λ n. is_among n (counted p 0 row)) (sym same) ∙ are.sound o last_has;
      full = λ m is. omega (arith, more, gives_one);
    }

-- a rank is noted, and the last one may lose its bed
pub housed_by : (p left other : ℕ → Bool) (row : List RowWish) (free : ℕ) (over : Option ℕ) (xs : List Rung) (r : ℕ)
    → AreHoused p left row free over xs → (0 < r → is_among r (counted p 0 row) ≡ true)
    → ((k : ℕ) (x : RowWish) → slice_get row k ≡ Some x → p x.wish ≡ true → other x.wish ≡ false
    → 0 < x.rank → (left x.wish ≡ false) ⊎ (x.rank ≡ r)) → (o : Option ℕ) (ys : List Rung)
    → IfNone o (ys ≡ noted r xs) → IfNone o (length (housed_in ys) ≤ free) → IfSome o (GivesUp (noted r xs) ys)
    → IfSome o (λ m. free < length (housed_in (noted r xs)))
    → AreHoused p other row free (option_or o over) ys
housed_by p left other row free over xs r are demanded each None ys is few gives many =
    let now = note_rank p row over xs left other r are.noted_are demanded each in
    rw is (record {
      noted_are = now;
      few = rw is at few;
      demanded = are.demanded;
      full = λ m there. omega (arith, are.full m there, least_noted r xs);
    })
housed_by p left other row free over xs r are demanded each (Some o) ys is few gives many =
    let now = note_rank p row over xs left other r are.noted_are demanded each in
    gives_housed p row over (noted r xs) other now ys o gives free
    (omega (arith, many, most_noted r xs are.noted_are.rises.1, are.few))

-- the ranks below one are those before it
number_below : (o n : ℕ) (ns : List ℕ) → n ≡ length (filter (λ r. nat_lt r o) ns) → Ascends ns
    → is_among o ns ≡ true → slice_get ns n ≡ Some o
number_below o n [] is up t = absurd (false≢true t)
number_below o n (m ∷ ms) is up t =
    elim (cases_lt m o) [
      | inl low ↦
          let more : n ≡ suc (length (filter (λ r. nat_lt r o) ms)) = rw (lt-ltb m o low) at is in
          let later : is_among o ms ≡ true =
          elim (or_cases (nat_eq o m) (is_among o ms) t) [
            | inl here ↦ absurd (omega (arith, low, eqb-true o m here))
            | inr there ↦ there
          ] in
          rw more (number_below o (length (filter (λ r. nat_lt r o) ms)) ms refl up.1 later)
      | inr high ↦
          let same : m ≡ o =
          elim (or_cases (nat_eq o m) (is_among o ms) t) [
            | inl here ↦ sym (eqb-true o m here)
            | inr there ↦ omega (arith, high, among_above m o ms up.0 there)
          ] in
          let none : n ≡ 0 =
          (rw (le-ltb m o high) at is) ∙ none_below o m ms (omega (arith, same)) up.0 in
          rw none (ap (λ k. Some k) same)
    ]
  where
    none_below : (k l : ℕ) (ks : List ℕ) → k ≤ l → AllByRecursion (λ j. l < j) ks
        → length (filter (λ r. nat_lt r k) ks) ≡ 0
    none_below k l [] le all = refl
    none_below k l (j ∷ ks) le all = rw (le-ltb j k (omega (arith, le, all.0))) (none_below k l ks le all.1)

pub filter_among : (q : ℕ → Bool) (r : ℕ) (ns : List ℕ) → is_among r (filter q ns) ≡ (is_among r ns && q r)
filter_among q r [] = refl
filter_among q r (m ∷ ms) =
    elim (cases_Bool (q m)) [
      | inl stays ↦ rw stays (elim (cases_Bool (nat_eq r m)) [
        | inl here ↦ rw here (sym (ap q (eqb-true r m here) ∙ stays))
        | inr other ↦ rw other (filter_among q r ms)
      ])
      | inr goes ↦ rw goes (elim (cases_Bool (nat_eq r m)) [
        | inl here ↦
            let none : q r ≡ false = ap q (eqb-true r m here) ∙ goes in
            filter_among q r ms ∙ and_right (is_among r ms) (q r) none ∙ sym (rw here none)
        | inr other ↦ rw other (filter_among q r ms)
      ])
    ]

filter_true : (ns : List ℕ) → filter (λ r. true) ns ≡ ns
filter_true [] = refl
filter_true (n ∷ ns) = ap (λ (ms : List ℕ). n ∷ ms) (filter_true ns)

-- where no wish is left to be looked at, the first rank that has no bed is that of the row
module _ (p : ℕ → Bool) (row : List RowWish) (rises : Rises row) (free : ℕ) (xs : List Rung) where
  housed_are : (over : Option ℕ) → AreNoted p (λ k. false) row over xs
      → housed_in xs ≡ filter (is_below over) (counted p 0 row)
  housed_are over are =
      let ranks = counted p 0 row in
      same_members (housed_in xs) (filter (is_below over) ranks) (ascends_housed xs are.rises.1)
      (ascends-filter (is_below over) ranks (ascends_counted p 0 row))
      (λ r. same_test (is_among r (housed_in xs)) (is_among r (filter (is_below over) ranks))
      (λ t. filter_among (is_below over) r ranks ∙ and_from (is_among r ranks) (is_below over r) (are.sound r t)
      (are.below r (housed_known r xs t)))
      (λ t.
      let parts = and_parts (is_among r ranks) (is_below over r) (sym (filter_among (is_below over) r ranks) ∙ t) in
      let by = demander_of p row rises r parts.0 in
      let low : is_below over by.item.rank ≡ true = ap (is_below over) by.rank ∙ parts.1 in
      ap (λ n. is_among n (housed_in xs)) (sym by.rank)
      ∙ are.complete by.place by.item by.there by.pass refl (omega (arith, by.rank, by.some)) low))

  pub over_is : (over : Option ℕ) → AreHoused p (λ k. false) row free over xs
      → over ≡ slice_get (counted p 0 row) free
  over_is None are =
      let all = housed_are None are.noted_are ∙ filter_true (counted p 0 row) in
      sym (slice_get_past (counted p 0 row) free
      (omega (arith, are.few, ap (λ (ns : List ℕ). length ns) all)))
  over_is (Some o) are =
      let all = ap (λ (ns : List ℕ). length ns) (housed_are (Some o) are.noted_are) in
      sym (number_below o free (counted p 0 row) (omega (arith, all, are.few, are.full o refl))
      (ascends_counted p 0 row) (are.demanded o refl))

-- a bar falls: the ranks past a number go, and other wishes are proposed
module _ (p now left : ℕ → Bool) (row after : List RowWish) (rises : Rises row) (rises_now : Rises after) (free : ℕ)
    (q : ℕ → Bool) (down : (r o : ℕ) → r < o → q o ≡ true → q r ≡ true)
    (here : (k : ℕ) (x : RowWish) → slice_get row k ≡ Some x → q x.rank ≡ true → (j : ℕ)
    × (slice_get after j ≡ Some x))
    (was : (j : ℕ) (x : RowWish) → slice_get after j ≡ Some x → (k : ℕ) × (slice_get row k ≡ Some x)
    × (q x.rank ≡ true))
    (stays : (j : ℕ) (x : RowWish) → slice_get after j ≡ Some x → p x.wish ≡ true → now x.wish ≡ true)
    (fresh : (j : ℕ) (x : RowWish) → slice_get after j ≡ Some x → now x.wish ≡ true → p x.wish ≡ false
    → left x.wish ≡ true) where
  was_below : (over : Option ℕ) (r : ℕ) → q r ≡ true → is_below (within q over) r ≡ true → is_below over r ≡ true
  was_below None r t low = refl
  was_below (Some o) r t low =
      elim (cases_Bool (q o)) [
        | inl stay ↦ rw stay at low
        | inr goes ↦ elim (cases_lt r o) [
          | inl less ↦ lt-ltb r o less
          | inr more ↦ elim (cases_eq o r) [
            | inl same ↦ absurd (false≢true (sym goes ∙ ap q same ∙ t))
            | inr other ↦ absurd (false≢true (sym goes ∙ down o r (omega (arith, more, other)) t))
          ]
        ]
      ]

  now_below : (over : Option ℕ) (r : ℕ) → is_below over r ≡ true → is_below (within q over) r ≡ true
  now_below None r t = refl
  now_below (Some o) r t =
      elim (cases_Bool (q o)) [
        | inl stay ↦ rw stay t
        | inr goes ↦ rw goes refl
      ]

  still_there : (over : Option ℕ) (m : ℕ) → within q over ≡ Some m → (over ≡ Some m) × (q m ≡ true)
  still_there None m is = absurd (none_some is)
    where
      none_some : None ≡ Some m → ⊥
      none_some e = absurd (false≢true (ap (λ (o : Option ℕ). is_some o) e))
  still_there (Some o) m is =
      elim (cases_Bool (q o)) [
        | inl stay ↦
            let kept_is : Some o ≡ Some m = rw stay at is in
            let same : o ≡ m = ap (λ (v : Option ℕ). unwrap_or v o) kept_is in
            (kept_is, ap q (sym same) ∙ stay)
        | inr goes ↦
            let none : None ≡ Some m = rw goes at is in
            absurd (false≢true (ap (λ (v : Option ℕ). is_some v) none))
      ]

  still_demanded : (r : ℕ) → is_among r (counted p 0 row) ≡ true → q r ≡ true
      → is_among r (counted now 0 after) ≡ true
  still_demanded r t stay =
      let by = demander_of p row rises r t in
      let (j, there) = here by.place by.item by.there (ap q by.rank ∙ stay) in
      ap (λ n. is_among n (counted now 0 after)) (sym by.rank)
      ∙ demands_rank now after rises_now j by.item there (stays j by.item there by.pass)
      (omega (arith, by.rank, by.some))

  pub housed_fallen : (over : Option ℕ) (xs : List Rung) → AreHoused p (λ k. false) row free over xs
      → AreHoused now left after free (within q over) (kept q xs)
  housed_fallen over xs are =
      record {
        noted_are = record {
          rises = rises_kept q xs are.noted_are.rises;
          sound = λ r t.
              let parts = and_parts (is_among r (housed_in xs)) (q r) (sym (housed_kept q r xs) ∙ t) in
              still_demanded r (are.noted_are.sound r parts.0) parts.1;
          complete = λ j x at pass none some low.
              let (k, there, stay) = was j x at in
              elim (cases_Bool (p x.wish)) [
                | inl before ↦ housed_kept q x.rank xs ∙ and_from (is_among x.rank (housed_in xs)) (q x.rank)
                    (are.noted_are.complete k x there before refl some (was_below over x.rank stay low)) stay
                | inr anew ↦ absurd (false≢true (sym none ∙ fresh j x at pass anew))
              ];
          known = λ j x at some low.
              let (k, there, stay) = was j x at in
              ranks_kept q x.rank xs ∙ and_from (is_among x.rank (ranks_of xs)) (q x.rank)
              (are.noted_are.known k x there some (was_below over x.rank stay low)) stay;
          below = λ r t. now_below over r
              (are.noted_are.below r (and_parts (is_among r (ranks_of xs)) (q r) (sym (ranks_kept q r xs) ∙ t)).0);
        };
        few = omega (arith, few_kept q xs, are.few);
        demanded = λ m is.
            let (there, stay) = still_there over m is in
            still_demanded m (are.demanded m there) stay;
        full = λ m is.
            let (there, stay) = still_there over m is in
            let all : kept q xs ≡ xs = kept_all q xs (λ r t.
            let low : is_below over r ≡ true = are.noted_are.below r t in
            let less : nat_lt r m ≡ true = ap (λ (v : Option ℕ). is_below v r) (sym there) ∙ low in
            down r m (ltb-true r m less) stay) in
            omega (arith, are.full m there, ap (λ (ys : List Rung). length (housed_in ys)) all);
      }

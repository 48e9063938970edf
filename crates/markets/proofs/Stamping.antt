-- Stamps along a list.
use Rattle.std.proofs.Common.{ℕ, ◌+◌, ◌≤◌, ◌<◌, ◌≡◌, Bool, true, false, not, List, [], ◌∷◌, ◌++◌, length, take}
use Rattle.std.proofs.Common.{replicate, get_or, inl, inr, refl, sym, ◌∙◌, ap, subst, arith, nat_eq, nat_lt}
use Rattle.std.specs.Prelude.{slice_index}
use Rattle.std.specs.List.{list_all}
use Rattle.std.proofs.Math.ListN.{set}
use Rattle.std.proofs.lemmas.Bool.{cases_eq, and_parts, and_from, eq-eqb, ne_eqb, lt-ltb, false≢true}
use Rattle.std.proofs.lemmas.Bool.{false_from_ne_true, or_left, or_right}
use Rattle.std.proofs.lemmas.Cmp.{nat_eq_equiv}
use Rattle.std.proofs.lemmas.List.{get_or-replicate, length-replicate, length-set}
use Rattle.std.proofs.lemmas.List.{take_more}
use Rattle.std.proofs.lemmas.List.Folds.{list_all-append, list_any-append}
use Rattle.std.proofs.lemmas.Grind.{get_or-set_at}
use Rattle.std.proofs.lemmas.Map.Keys.{IsDistinct-push, apart_from_distinct}
use Rattle.admit_core.specs.Lists.{is_among}
use Rattle.admit_core.proofs.FallsLaw.{at_set}
use Rattle.linked_demand.proofs.CalledRows.{among_itself}
use Rattle.markets.specs.Markets.{is_distinct, is_list_below}
use Rattle.markets.specs.Stamps.{AreOlder, AreUpTo, BearStamp}
use Rattle.markets.proofs.Positions.{distinct_from}
use Rattle.markets.proofs.Reading.{list_read}
use Rattle.markets.proofs.BelowCount.{last_differs, earlier, list_below, list_distinct, is_distinct_from}

-- what the stamps say after the first k of a list
pub record AreStamped (n stamp : ℕ) (xs : List ℕ) (stamps : List ℕ) : Type 0 where
  pub as_many : length stamps ≡ n
  pub up_to : AreUpTo stamp stamps
  pub bear : BearStamp stamp xs stamps
  pub is_list : is_list_below n xs ≡ true

pub stamped_none : (stamp : ℕ) (stamps : List ℕ) → AreOlder stamp stamps → AreStamped (length stamps) stamp [] stamps
stamped_none stamp stamps older =
    record {
      as_many = refl;
      up_to = λ q lt. omega (arith, older q lt);
      bear = λ q lt. ne_eqb (slice_index stamps q) stamp (λ e. omega (arith, older q lt, e));
      is_list = refl;
    }

pub stamped_more : (n stamp : ℕ) (xs stamps : List ℕ) (k : ℕ) → k < length xs → get_or xs k 0 < n
    → (slice_index stamps (get_or xs k 0) ≡ stamp → ⊥)
    → AreStamped n stamp (take k xs) stamps → AreStamped n stamp (take (k + 1) xs) (set stamps (get_or xs k 0) stamp)
stamped_more n stamp xs stamps k lt below fresh so =
    let p : ℕ = get_or xs k 0 in
    let front : List ℕ = take k xs in
    let p_lt : p < length stamps = omega (arith, below, so.as_many) in
    let absent : is_among p front ≡ false = sym (so.bear p p_lt) ∙ ne_eqb (slice_index stamps p) stamp fresh in
    let parts = and_parts (is_distinct front) (list_all (λ q. nat_lt q n) front) so.is_list in
    let P : List ℕ → Type 0 = λ ys. AreStamped n stamp ys (set stamps p stamp) in
    subst P (sym (take_more xs k 0 lt)) (record {
      as_many = length-set stamps p stamp ∙ so.as_many;
      up_to = λ q q_lt.
          elim (at_set stamps p stamp q p_lt) [
            | inl here ↦ omega (arith, here.1)
            | inr there ↦ omega
                (arith, there, so.up_to q (omega (arith, q_lt, length-set stamps p stamp)))
          ];
      bear = λ q q_lt.
          elim (cases_eq q p) [
            | inl here ↦
                let now : slice_index (set stamps p stamp) q ≡ stamp = get_or-set_at stamps p q stamp 0 here p_lt in
                eq-eqb (slice_index (set stamps p stamp) q) stamp now
                ∙ sym (list_any-append (nat_eq q) front (p ∷ [])
                ∙ or_right (is_among q front) (is_among q (p ∷ [])) (or_left (nat_eq q p) false (eq-eqb q p here)))
            | inr other ↦
                let now : slice_index (set stamps p stamp) q ≡ slice_index stamps q =
                elim (at_set stamps p stamp q p_lt) [ inl here ↦ absurd (other here.0) | inr there ↦ there ] in
                ap (λ v. nat_eq v stamp) now ∙ so.bear q (omega (arith, q_lt, length-set stamps p stamp))
                ∙ sym (list_any-append (nat_eq q) front (p ∷ [])
                ∙ last_differs (is_among q front) (nat_eq q p) (ne_eqb q p other))
          ];
      is_list =
          and_from (is_distinct (front ++ p ∷ [])) (list_all (λ q. nat_lt q n) (front ++ p ∷ []))
          (is_distinct_from (front ++ p ∷ []) (IsDistinct-push nat_eq_equiv front p
          (distinct_from front parts.0) absent))
          (list_all-append (λ q. nat_lt q n) front (p ∷ []) ∙ rw (parts.1, lt-ltb p n below) refl);
    })

-- a number out of range, or one that bears the stamp already, shows that it is no list
pub out_of_range : (n : ℕ) (xs : List ℕ) (k : ℕ) → k < length xs → n ≤ get_or xs k 0 → is_list_below n xs ≡ false
out_of_range n xs k lt past = false_from_ne_true (is_list_below n xs)
    (λ t. omega (arith, past, list_below n xs (get_or xs k 0) t (among_itself xs k lt)))

pub stands_twice : (n stamp : ℕ) (xs stamps : List ℕ) (k : ℕ) → k < length xs → get_or xs k 0 < n
    → slice_index stamps (get_or xs k 0) ≡ stamp
    → AreStamped n stamp (take k xs) stamps → is_list_below n xs ≡ false
stands_twice n stamp xs stamps k lt below bears so =
    let p : ℕ = get_or xs k 0 in
    let before : is_among p (take k xs) ≡ true = sym (so.bear p (omega (arith, below, so.as_many)))
    ∙ eq-eqb (slice_index stamps p) stamp bears in
    false_from_ne_true (is_list_below n xs) (λ t.
    let apart = list_distinct n xs t in
    let (j, (j_lt, j_at)) = earlier p xs k (omega (arith, lt)) before in
    false≢true (sym (apart_from_distinct nat_eq xs j k 0 apart j_lt lt) ∙ eq-eqb (get_or xs j 0) p j_at))

-- the first k lists stood the test, and the stamps are as many
pub record AllStood (n : ℕ) (lists : List (List ℕ)) (k stamp : ℕ) (stamps : List ℕ) : Type 0 where
  pub stamp_is : stamp ≡ k
  pub as_many : length stamps ≡ n
  pub up_to : AreUpTo stamp stamps
  pub stood : (i : ℕ) → i < k → not (is_list_below n (get_or lists i [])) ≡ false

-- none is tested yet
pub none_newer : (n : ℕ) (stamps : List ℕ) → stamps ≡ replicate n 0 → AreUpTo 0 stamps
none_newer n stamps are q lt =
    let within : q < n = omega (arith, lt, ap length are ∙ length-replicate n 0) in
    omega (arith, ap (λ (xs : List ℕ). slice_index xs q) are ∙ get_or-replicate n q 0 0 within)

pub fresh_stood : (lists : List (List ℕ)) (stamps : List ℕ) → AreUpTo 0 stamps
    → AllStood (length stamps) lists 0 0 stamps
fresh_stood lists stamps fresh =
    record {
      stamp_is = refl;
      as_many = refl;
      up_to = fresh;
      stood = λ i lt. absurd (omega (arith, lt));
    }

-- whether a list stands the test, as it is read
pub told_list : (n : ℕ) (lists : List (List ℕ)) (k : ℕ) (item slice stamps now : List ℕ) (result : Bool)
    → k < length lists
    → item ≡ get_or lists k item → slice ≡ item → now ≡ stamps → length stamps ≡ n
    → result ≡ is_list_below (length now) slice
    → result ≡ is_list_below n (get_or lists k [])
told_list n lists k item slice stamps now result lt item_is slice_is now_is as_many told =
    told ∙ ap (λ m. is_list_below m slice) (ap length now_is ∙ as_many)
    ∙ ap (is_list_below n) (list_read lists k item slice lt item_is slice_is)

pub stood_more : (n : ℕ) (lists : List (List ℕ)) (k stamp : ℕ) (stamps after : List ℕ) → AllStood n lists k stamp stamps
    → length after ≡ length stamps → AreUpTo (stamp + 1) after → is_list_below n (get_or lists k []) ≡ true
    → AllStood n lists (k + 1) (stamp + 1) after
stood_more n lists k stamp stamps after so long up_to told =
    record {
      stamp_is = omega (arith, so.stamp_is);
      as_many = long ∙ so.as_many;
      up_to = up_to;
      stood = λ i i_lt.
          elim (cases_eq i k) [
            | inl here ↦ ap (λ j. not (is_list_below n (get_or lists j []))) here ∙ ap not told
            | inr other ↦ so.stood i (omega (arith, i_lt, other))
          ];
    }

-- Places sorted by a key of each, its candidate and behind it the place: they are an index by candidate.
use Rattle.std.proofs.Common.{ℕ, zero, suc, ◌+◌, ◌≤◌, ◌<◌, ◌≡◌, Bool, false, ◌&&◌, ◌^◌, List, [], ◌∷◌, length, map}
use Rattle.std.proofs.Common.{None, refl, get_or, inl, inr, sym, ◌∙◌, ap, arith, filter, subst, nat_eq, eqb}
use Rattle.std.specs.Prelude.{◌==◌, All}
use Rattle.std.specs.List.{AllByRecursion, IsDistinct, range_with_len}
use Rattle.std.specs.List.Sorted.{IsNonDecreasing, IsNonDecreasingBy, IsPermutation, IsSorted}
use Rattle.std.specs.Ordering.{nat_cmp}
use Rattle.std.proofs.lemmas.Bool.{cases_Bool, eqb-true, eqb-false}
use Rattle.std.proofs.lemmas.Bool.Decides.{Decides-eqb}
use Rattle.std.proofs.lemmas.List.{get_or-map, length-map}
use Rattle.std.proofs.lemmas.Simd.{map-map}
use Rattle.std.proofs.lemmas.List.Elements.{All-map}
use Rattle.std.proofs.lemmas.List.Folds.{map_fixed}
use Rattle.std.proofs.lemmas.List.FromFn.{length-range_with_len, length-map-range_with_len, get_or-map-range_with_len}
use Rattle.std.proofs.lemmas.List.Sorted.{All-permutation, length_permutation, IsPermutation-map}
use Rattle.std.proofs.lemmas.List.Sorted.{IsNonDecreasingBy-from_sort, list_any-IsPermutation}
use Rattle.std.proofs.lemmas.Map.Keys.{IsDistinct-head, IsDistinct-tail, IsDistinct-IsPermutation}
use Rattle.std.proofs.lemmas.Map.Made.{IsDistinct-from_AllPairs}
use Rattle.std.proofs.lemmas.Nat.{mod-mul-add}
use Rattle.std.proofs.lemmas.Option.{unwrap_or-slice_get}
use Rattle.admit_core.proofs.Plain.{any-filter, nat_eq_sym}
use Rattle.admit_core.proofs.Tests.{Ascends, same_members}
use Rattle.admit_core.specs.declared.dossier.Wish.{Wish}
use Rattle.day_state.specs.Kept.{candidate_in, key_at, place_in, all_keys, IsIndex}
use Rattle.day_state.proofs.Numbering.{below_all, range_at}
use Rattle.day_state.proofs.Places.{candidate_in as candidate_there}

-- numbers that do not fall and differ rise
rises_above : (x : ℕ) (xs : List ℕ) → ((k : ℕ) → k < length xs → x ≤ get_or xs k 0)
    → AllByRecursion (λ y. eqb x y ≡ false) xs → AllByRecursion (λ y. x < y) xs
rises_above x [] up apart = tt
rises_above x (y ∷ ys) up apart = (
  omega (arith, up 0 (omega arith), eqb-false x y apart.0),
  rises_above x ys (λ k lt. up (suc k) (omega arith)) apart.1,
)

ascends_apart : (xs : List ℕ) → IsNonDecreasing xs → IsDistinct eqb xs → Ascends xs
ascends_apart [] up apart = tt
ascends_apart (x ∷ xs) up apart = (
  rises_above x xs (λ k lt. up 0 (suc k) 0 (omega arith) (omega arith)) (IsDistinct-head eqb x xs apart),
  ascends_apart xs (λ i j d le lt. up (suc i) (suc j) d (omega arith) (omega arith)) (IsDistinct-tail eqb x xs apart),
)

-- what of a range passes a test ascends
range_above : (p : ℕ → Bool) (b a n : ℕ) → b < a → AllByRecursion (λ k. b < k) (filter p (range_with_len a n))
range_above p b a zero lt = tt
range_above p b a (suc n) lt =
    elim (cases_Bool (p a)) [
      | inl kept ↦ rw kept (lt, range_above p b (a + 1) n (omega arith))
      | inr gone ↦ rw gone (range_above p b (a + 1) n (omega arith))
    ]

range_ascends : (p : ℕ → Bool) (a n : ℕ) → Ascends (filter p (range_with_len a n))
range_ascends p a zero = tt
range_ascends p a (suc n) =
    elim (cases_Bool (p a)) [
      | inl kept ↦ rw kept (range_above p a (a + 1) n (omega arith), range_ascends p (a + 1) n)
      | inr gone ↦ rw gone (range_ascends p (a + 1) n)
    ]

-- of places whose keys ascend those of one candidate do
own_above : (ws : List Wish) (c k : ℕ) (ks : List ℕ) → candidate_in ws k ≡ c
    → AllByRecursion (λ y. key_at ws k < y) (map (key_at ws) ks)
    → AllByRecursion (λ j. k < j) (filter (λ j. candidate_in ws j == c) ks)
own_above ws c k [] is above = tt
own_above ws c k (j ∷ js) is above =
    elim (cases_Bool (candidate_in ws j == c)) [
      | inl own ↦
          let same = eqb-true (candidate_in ws j) c own in
          rw own (omega (arith, above.0, is, same), own_above ws c k js is above.1)
      | inr other ↦ rw other (own_above ws c k js is above.1)
    ]

own_ascends : (ws : List Wish) (c : ℕ) (ks : List ℕ) → Ascends (map (key_at ws) ks)
    → Ascends (filter (λ k. candidate_in ws k == c) ks)
own_ascends ws c [] up = tt
own_ascends ws c (k ∷ ks) up =
    elim (cases_Bool (candidate_in ws k == c)) [
      | inl own ↦ rw own (own_above ws c k ks (eqb-true (candidate_in ws k) c own) up.0, own_ascends ws c ks up.1)
      | inr other ↦ rw other (own_ascends ws c ks up.1)
    ]

-- a key gives its place back
place_back : (ws : List Wish) (k : ℕ) → k < 2 ^ 32 → place_in (key_at ws k) ≡ k
place_back ws k lt = mod-mul-add (candidate_in ws k) 4294967296 k lt

module _ (ws : List Wish) (few : length ws < 2 ^ 32) where
  abbrev places : List ℕ
  places = range_with_len 0 (length ws)

  back_in_range : All (λ k. place_in (key_at ws k) ≡ k) places
  back_in_range k d lt = place_back ws (get_or places k d) (omega (arith, below_all (length ws) k d lt, few))

  keys_apart : IsDistinct eqb (all_keys ws)
  keys_apart = IsDistinct-from_AllPairs Decides-eqb (all_keys ws) (λ i j d i_lt j_lt same.
      let j_in : j < length ws = omega (arith, length-map-range_with_len (key_at ws) 0 (length ws)) in
      let i_is = get_or-map-range_with_len (key_at ws) 0 (length ws) i i d (omega arith) (omega arith) in
      let j_is = get_or-map-range_with_len (key_at ws) 0 (length ws) j j d j_in (omega arith) in
      let alike : i ≡ j =
      sym (place_back ws i (omega (arith, few))) ∙ ap place_in (sym i_is ∙ same ∙ j_is)
      ∙ place_back ws j (omega (arith, few)) in
      omega arith)

  pub index_by_keys : (keys order : List ℕ) → IsPermutation (all_keys ws) keys → IsSorted nat_cmp keys
      → order ≡ map place_in keys
      → IsIndex ws order
  index_by_keys keys order moved sorted made =
      let up : IsNonDecreasing keys = IsNonDecreasingBy-from_sort (λ x. x) keys sorted in
      let back_all : All (λ x. key_at ws (place_in x) ≡ x) keys =
      All-permutation (λ x. key_at ws (place_in x) ≡ x) (all_keys ws) keys moved
      (All-map (λ x. key_at ws (place_in x) ≡ x) (key_at ws) places
      (λ k d lt. ap (key_at ws) (back_in_range k d lt))) in
      let keys_are : map (key_at ws) order ≡ keys =
      ap (map (key_at ws)) made ∙ map-map (key_at ws) place_in keys
      ∙ map_fixed (λ x. key_at ws (place_in x)) keys back_all in
      let shuffled : IsPermutation places order =
      subst (λ (ks : List ℕ). IsPermutation ks order)
      (map-map place_in (key_at ws) places ∙ map_fixed (λ k. place_in (key_at ws k)) places back_in_range)
      (subst (IsPermutation (map place_in (all_keys ws))) (sym made)
      (IsPermutation-map place_in (all_keys ws) keys moved)) in
      let within : All (λ k. k < length ws) order =
      All-permutation (λ k. k < length ws) places order shuffled (below_all (length ws)) in
      let ascending : Ascends (map (key_at ws) order) =
      subst Ascends (sym keys_are)
      (ascends_apart keys up (IsDistinct-IsPermutation eqb nat_eq_sym (all_keys ws) keys moved keys_apart)) in
      record {
        as_long = length_permutation places order shuffled ∙ length-range_with_len 0 (length ws);
        within = within;
        rises = λ i j d le lt.
            let i_in : i < length order = omega (arith, le, lt) in
            let key_up = subst IsNonDecreasing (sym keys_are) up i j 0 le
            (omega (arith, lt, length-map order (key_at ws))) in
            let i_is = get_or-map (key_at ws) order i d 0 i_in in
            let j_is = get_or-map (key_at ws) order j d 0 lt in
            omega (arith, key_up, i_is, j_is, within i d i_in, within j d lt, few);
        own = λ c.
            let p = λ (k : ℕ). candidate_in ws k == c in
            same_members (filter p order) (filter p places) (own_ascends ws c order ascending)
            (range_ascends p 0 (length ws))
            (λ k. any-filter (nat_eq k) p order ∙ sym (list_any-IsPermutation
            (λ j. p j && nat_eq k j) places order shuffled)
            ∙ sym (any-filter (nat_eq k) p places));
      }

-- where candidates rise, the places of the wishes are an index as they are
pub index_in_place : (ws : List Wish) → IsNonDecreasingBy (λ w. w.candidate) ws
    → IsIndex ws (range_with_len 0 (length ws))
index_in_place ws up =
    let n = length ws in
    let nobody : Wish =
    record { id = 0; candidate = 0; programme = 0; school = None; board_rank = 0; preference = 0 } in
    let own = λ (k : ℕ). candidate_there ws k ∙ ap (λ (w : Wish). w.candidate) (unwrap_or-slice_get ws k nobody) in
    record {
      as_long = length-range_with_len 0 n;
      within = below_all n;
      rises = λ i j d le lt.
          let j_in : j < n = omega (arith, lt, length-range_with_len 0 n) in
          rw (range_at n i d (omega (arith, le, j_in)), range_at n j d j_in, own i, own j) (up i j nobody le j_in);
      own = λ c. refl;
    }

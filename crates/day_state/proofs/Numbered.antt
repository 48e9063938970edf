-- How bundles of two wishes or more get their numbers.
use Rattle.std.proofs.Common.{ℕ, zero, ◌+◌, ◌≤◌, ◌<◌, ◌≡◌, Bool, true, false, cond, ◌&&◌, List, [], ◌∷◌, ◌++◌}
use Rattle.std.proofs.Common.{map, length, get_or, filter, inl, inr, refl, sym, ◌∙◌, ap, arith, Option, Some}
use Rattle.std.proofs.Common.{None}
use Rattle.std.proofs.Common.{suc, nat_eq, eqb, subst, not, Result, Ok, Err}
use Rattle.std.specs.Result.{MatchResult}
use Rattle.std.specs.Prelude.{is_some}
use Rattle.std.specs.Prelude.{slice_index, ◌==◌}
use Rattle.std.specs.List.{list_any, range_with_len, dedup}
use Rattle.std.specs.List.Sorted.{IsPermutation, IsSorted, IsBinarySearchResult}
use Rattle.std.specs.Cmp.{both_ways}
use Rattle.std.specs.Ordering.{nat_cmp}
use Rattle.std.proofs.lemmas.Bool.{cases_Bool, eqb-true, eq-eqb, ne_eqb, and_parts, and_from, false≢true}
use Rattle.std.proofs.lemmas.Bool.{cases_lt, not_from_true}
use Rattle.std.proofs.lemmas.Cmp.{nat_eq_equiv}
use Rattle.std.proofs.lemmas.List.{append-nil}
use Rattle.std.proofs.lemmas.List.{get_or_default, get_or_append_left, get_or-append-add, length-append}
use Rattle.std.proofs.lemmas.List.Elements.{All-filter, filter-append}
use Rattle.std.proofs.lemmas.List.Folds.{list_any_at, Any-from_list_any}
use Rattle.std.proofs.lemmas.List.FromFn.{length-range_with_len}
use Rattle.std.proofs.lemmas.List.Kept.{IsStrictlyIncreasing-filter, Contains-dedup_nat, Contains-from_dedup}
use Rattle.std.proofs.lemmas.List.Sorted.{list_any-IsPermutation, searched}
use Rattle.std.proofs.lemmas.Map.Keys.{IsStrictlyIncreasing-dedup}
use Rattle.std.proofs.lemmas.Map.Views.{any-filter_same, list_any-from_Contains, Contains-from_any}
use Rattle.admit_core.proofs.NextCalls.{find_passes}
use Rattle.admit_core.proofs.Plain.{any-map}
use Rattle.admit_core.proofs.Tests.{same_members}
use Rattle.admit_core.specs.Lists.{is_among}
use Rattle.admit_core.specs.declared.dossier.Wish.{Wish}
use Rattle.day_state.specs.declared.bundle_numbers.Later.{Later}
use Rattle.day_state.specs.declared.bundles.Sites.{Sites}
use Rattle.day_state.specs.Kept.{wish_in}
use Rattle.day_state.specs.Bundles.{is_same, number_in, is_later, is_shared, shared_flags, shared_places}
use Rattle.day_state.specs.Bundles.{rank_of, AreLaters, IsLater}
use Rattle.day_state.specs.Bundles.{site_of, together, bundles_of}
use Rattle.day_state.proofs.Ascending.{ascends_from, no_fall, range_rises}
use Rattle.day_state.proofs.Along.{among-filter}
use Rattle.day_state.proofs.Numbering.{range_at, below_all, is_same_some, together_parts, bundle_in, bundles_are}
use Rattle.day_state.proofs.Ordering.{range_more}
use Rattle.day_state.proofs.Sharing.{flags_long, flag_is, true_more, true_most}

in_range : (n q : ℕ) → q < n → is_among q (range_with_len 0 n) ≡ true
in_range n q lt =
    list_any_at (nat_eq q) (range_with_len 0 n) q 0 (omega (arith, lt, length-range_with_len 0 n))
    (rw (range_at n q 0 lt) (eq-eqb q q refl))

-- a shared bundle has a wish that is not its first
pub shared_by_one : (bundles : List (Option ℕ)) (q : ℕ) → is_shared bundles q ≡ true
    → (k : ℕ) × (k < length bundles) × (number_in bundles k ≡ Some q) × (q ≡ k → ⊥)
shared_by_one bundles q shared =
    let n = length bundles in
    let (j, k, within, at, passes) = Any-from_list_any (is_later bundles q) (range_with_len 0 n) shared in
    let j_lt : j < n = omega (arith, within, length-range_with_len 0 n) in
    let same : j ≡ k = sym (range_at n j k j_lt) ∙ at in
    let parts = and_parts (not (k == q)) (is_same (Some q) (number_in bundles k)) passes in
    let both = is_same_some (Some q) (number_in bundles k) parts.1 in
    let own : Some q ≡ Some both.0 = both.1 in (
      k,
      omega (arith, j_lt, same),
      both.2 ∙ sym own,
      λ e. false≢true (sym (not_from_true (k == q) (eq-eqb k q (sym e))) ∙ parts.0),
    )

-- the first wishes of later ones are those of the shared bundles
module _ (bundles : List (Option ℕ)) (laters : List Later) (are : AreLaters bundles laters) where
  -- a later wish makes its bundle a shared one
  pub shares : (l : Later) → IsLater bundles l → is_shared bundles l.first ≡ true
  shares l is =
      let n = length bundles in
      let here : is_later bundles l.first (slice_index (range_with_len 0 n) l.wish) ≡ true =
      rw (range_at n l.wish 0 is.within, ne_eqb l.wish l.first (λ e. is.other (sym e)), is.bundle)
      (eq-eqb l.first l.first refl) in
      list_any_at (is_later bundles l.first) (range_with_len 0 n) l.wish 0
      (omega (arith, is.within, length-range_with_len 0 n)) here

  -- the later wish that passes a test
  pub later_found : (test : Later → Bool) → list_any test laters ≡ true
      → (l : Later) × IsLater bundles l × (test l ≡ true) × ((p : Later → Bool) → p l ≡ true → list_any p laters ≡ true)
  later_found test t =
      let (j, l, within, at, passes) = Any-from_list_any test laters t in (
        l,
        subst (IsLater bundles) at (are.each j l within),
        passes,
        λ p here. list_any_at p laters j l within (rw at here),
      )

  -- whether a wish is the first of one that is later
  among_firsts : (q : ℕ) → is_among q (map (λ (l : Later). l.first) laters) ≡ is_among q (shared_places bundles)
  among_firsts q =
      let n = length bundles in
      let first = λ (l : Later). nat_eq q l.first in
      let listed : is_among q (shared_places bundles) ≡ (is_shared bundles q && is_among q (range_with_len 0 n)) =
      any-filter_same (nat_eq q) (is_shared bundles) (is_shared bundles q)
      (λ j e. ap (is_shared bundles) (sym (eqb-true q j e))) (range_with_len 0 n) in
      any-map (nat_eq q) (λ (l : Later). l.first) laters
      ∙ both_ways (list_any first laters) (is_shared bundles q && is_among q (range_with_len 0 n))
      (λ t.
      let (l, is, passes, rest) = later_found first t in
      let same : q ≡ l.first = eqb-true q l.first passes in
      rw same
      (and_from (is_shared bundles l.first) (is_among l.first (range_with_len 0 n)) (shares l is)
      (in_range n l.first is.begins)))
      (λ t.
      let parts = and_parts (is_shared bundles q) (is_among q (range_with_len 0 n)) t in
      let (k, k_lt, number, other) = shared_by_one bundles q parts.0 in
      let (l, is, passes, rest) = later_found (λ (l : Later). l.wish == k) (are.all k q k_lt number other) in
      let here : number_in bundles k ≡ Some l.first =
      ap (number_in bundles) (sym (eqb-true l.wish k passes)) ∙ is.bundle in
      let both : Some q ≡ Some l.first = sym number ∙ here in
      let same : q ≡ l.first = cc both in
      rest first (eq-eqb q l.first same))
      ∙ sym listed

  -- put in order, each once
  pub shared_is : (found sorted once : List ℕ) → found ≡ map (λ (l : Later). l.first) laters
      → IsPermutation found sorted → IsSorted nat_cmp sorted → once ≡ dedup eqb sorted
      → once ≡ shared_places bundles
  shared_is found sorted once found_is moved rises once_is =
      once_is
      ∙ same_members (dedup eqb sorted) (shared_places bundles)
      (ascends_from (dedup eqb sorted) (IsStrictlyIncreasing-dedup sorted rises))
      (ascends_from (shared_places bundles)
      (IsStrictlyIncreasing-filter (is_shared bundles) (range_with_len 0 (length bundles))
      (range_rises 0 (length bundles))))
      (λ q. once_among q ∙ sym (list_any-IsPermutation (nat_eq q) found sorted moved) ∙ ap (is_among q) found_is
      ∙ among_firsts q)
    where
      once_among : (q : ℕ) → is_among q (dedup eqb sorted) ≡ is_among q sorted
      once_among q =
          both_ways (is_among q (dedup eqb sorted)) (is_among q sorted)
          (λ t. list_any-from_Contains nat_eq_equiv q sorted (Contains-from_dedup eqb sorted q
          (Contains-from_any eqb-true q (dedup eqb sorted) t)))
          (λ t. list_any-from_Contains nat_eq_equiv q (dedup eqb sorted) (Contains-dedup_nat sorted q
          (Contains-from_any eqb-true q sorted t)))

-- how many numbers below one pass a test
passing_below : (ℕ → Bool) → ℕ → ℕ
passing_below p n = length (filter p (range_with_len 0 n))

listed_more : (p : ℕ → Bool) (n : ℕ)
    → filter p (range_with_len 0 (n + 1)) ≡ filter p (range_with_len 0 n) ++ filter p (n ∷ [])
listed_more p n =
    ap (filter p) (range_more 0 n n (omega arith)) ∙ filter-append p (range_with_len 0 n) (n ∷ [])

passing_more : (p : ℕ → Bool) (n : ℕ) → passing_below p (n + 1) ≡ passing_below p n + cond (p n) 1 0
unfolding passing_below
passing_more p n =
    ap (λ (xs : List ℕ). length xs) (listed_more p n)
    ∙ length-append (filter p (range_with_len 0 n)) (filter p (n ∷ []))
    ∙ elim (cases_Bool (p n)) [
      | inl passes ↦ rw passes refl
      | inr fails ↦ rw fails refl
    ]

-- a number that passes is preceded by those that are listed before it
abbrev PassesAt : (ℕ → Bool) → ℕ → Type 0
PassesAt p n =
    (i : ℕ) → i < length (filter p (range_with_len 0 n))
    → passing_below p (slice_index (filter p (range_with_len 0 n)) i) ≡ i

passing_next : (p : ℕ → Bool) (n : ℕ) → PassesAt p n → PassesAt p (n + 1)
unfolding passing_below
passing_next p n so_far i lt =
    let xs = filter p (range_with_len 0 n) in
    let ys = filter p (range_with_len 0 (n + 1)) in
    let more : ys ≡ xs ++ filter p (n ∷ []) = listed_more p n in
    elim (cases_Bool (p n)) [
      | inl passes ↦
          let all : ys ≡ xs ++ n ∷ [] = rw passes at more in
          let long : length ys ≡ length xs + 1 =
          ap (λ (zs : List ℕ). length zs) all ∙ length-append xs (n ∷ []) in
          elim (cases_lt i (length xs)) [
            | inl before ↦
                let read : slice_index ys i ≡ slice_index xs i =
                ap (λ (zs : List ℕ). slice_index zs i) all ∙ get_or_append_left xs (n ∷ []) 0 i before in
                ap (passing_below p) read ∙ so_far i before
            | inr last ↦
                let here : length xs + 0 ≡ i = omega (arith, lt, long, last) in
                let read : slice_index ys i ≡ n =
                ap (λ (zs : List ℕ). slice_index zs i) all
                ∙ subst (λ (j : ℕ). slice_index (xs ++ n ∷ []) j ≡ n) here (get_or-append-add xs (n ∷ []) 0 0) in
                ap (passing_below p) read ∙ omega (arith, here)
          ]
      | inr fails ↦
          let all : ys ≡ xs = rw fails at more ∙ append-nil xs in
          let read : slice_index ys i ≡ slice_index xs i = ap (λ (zs : List ℕ). slice_index zs i) all in
          let before : i < length xs = omega (arith, lt, ap (λ (zs : List ℕ). length zs) all) in
          ap (passing_below p) read ∙ so_far i before
    ]

passing_at : (p : ℕ → Bool) (n : ℕ) → PassesAt p n
passing_at p zero = λ i lt. absurd (omega arith)
passing_at p (suc n) =
    let e : n + 1 ≡ suc n = omega arith in
    subst (PassesAt p) e (passing_next p n (passing_at p n))

-- the number of a bundle is how many shared ones are below it
rank_next : (bundles : List (Option ℕ)) (k : ℕ) → k < length bundles
    → rank_of bundles k ≡ passing_below (is_shared bundles) k
    → rank_of bundles (k + 1) ≡ passing_below (is_shared bundles) (k + 1)
rank_next bundles k lt so_far =
    let flags = shared_flags bundles in
    true_more flags k false (omega (arith, flags_long bundles, lt))
    ∙ rw (flag_is bundles k lt, so_far) (sym (passing_more (is_shared bundles) k))

rank_is : (bundles : List (Option ℕ)) (k : ℕ) → k ≤ length bundles
    → rank_of bundles k ≡ passing_below (is_shared bundles) k
unfolding passing_below
rank_is bundles zero le = refl
rank_is bundles (suc k) le =
    let e : k + 1 ≡ suc k = omega arith in
    subst (λ (j : ℕ). rank_of bundles j ≡ passing_below (is_shared bundles) j) e
    (rank_next bundles k (omega arith) (rank_is bundles k (omega arith)))

-- how many there are
pub shared_long : (bundles : List (Option ℕ)) → length (shared_places bundles) ≡ rank_of bundles (length bundles)
unfolding passing_below
shared_long bundles = sym (rank_is bundles (length bundles) (omega arith))

pub shared_within : (bundles : List (Option ℕ)) (i : ℕ) → i < length (shared_places bundles)
    → slice_index (shared_places bundles) i < length bundles
shared_within bundles i lt =
    All-filter (is_shared bundles) (λ k. k < length bundles) (range_with_len 0 (length bundles))
    (below_all (length bundles)) i 0 lt

rank_listed : (bundles : List (Option ℕ)) (i : ℕ) → i < length (shared_places bundles)
    → rank_of bundles (slice_index (shared_places bundles) i) ≡ i
rank_listed bundles i lt =
    rank_is bundles (slice_index (shared_places bundles) i) (omega (arith, shared_within bundles i lt))
    ∙ passing_at (is_shared bundles) (length bundles) i lt

-- a place among them has 32 bits
pub shared_fits : (bundles : List (Option ℕ)) (shared : List ℕ) → shared ≡ shared_places bundles
    → length bundles < 2147483648 → length shared < 4294967296
shared_fits bundles shared shared_is few =
    let most : rank_of bundles (length bundles) ≤ length bundles =
    true_most (shared_flags bundles) (length bundles) (omega (arith, flags_long bundles)) in
    omega (arith, ap (λ (xs : List ℕ). length xs) shared_is, shared_long bundles, most, few)

-- the place of a number in a rising list, where it was sought
abbrev pub sought : Result ℕ ℕ → ℕ
sought (Ok i) = i
sought (Err i) = 0

-- a first wish is found among those of shared bundles, and its place is the bundle's number
pub sought_rank : (bundles : List (Option ℕ)) (shared : List ℕ) (x : ℕ) (r : Result ℕ ℕ)
    → IsBinarySearchResult (λ y. nat_cmp y x) shared r → shared ≡ shared_places bundles
    → x < length bundles → is_shared bundles x ≡ true → sought r ≡ rank_of bundles x
sought_rank bundles shared x r found shared_is lt is =
    let s = shared_places bundles in
    let n = length bundles in
    let rises = IsStrictlyIncreasing-filter (is_shared bundles) (range_with_len 0 n) (range_rises 0 n) in
    let found_there : IsBinarySearchResult (λ y. nat_cmp y x) s r =
    subst (λ (xs : List ℕ). IsBinarySearchResult (λ y. nat_cmp y x) xs r) shared_is found in
    let listed : is_among x s ≡ true = among-filter (is_shared bundles) x n lt ∙ is in
    let (j, y, j_lt, at, passes) = Any-from_list_any (nat_eq x) s listed in
    let here : get_or s j 0 ≡ x = get_or_default s j 0 y j_lt ∙ at ∙ sym (eqb-true x y passes) in
    by r (searched s x r found_there (no_fall s rises)) j j_lt here
  where
    by : (r : Result ℕ ℕ) → MatchResult r (λ i. (i < length (shared_places bundles))
        × (get_or (shared_places bundles) i 0 ≡ x)) (λ i. (i ≤ length (shared_places bundles))
        × ((k : ℕ) → k < i → get_or (shared_places bundles) k 0 < x)
        × ((k : ℕ) → i ≤ k → k < length (shared_places bundles) → x < get_or (shared_places bundles) k 0))
        → (j : ℕ) → j < length (shared_places bundles) → get_or (shared_places bundles) j 0 ≡ x
        → sought r ≡ rank_of bundles x
    by (Ok i) (i_lt, at) j j_lt here = sym (rank_listed bundles i i_lt) ∙ ap (rank_of bundles) at
    by (Err i) (le, below, above) j j_lt here =
        elim (cases_lt j i) [
          | inl before ↦ absurd (omega (arith, below j before, here))
          | inr behind ↦ absurd (omega (arith, above j behind j_lt, here))
        ]

-- a wish without a site is in no bundle, and one with a site is in one
module _ (sites : Sites) (ws : List Wish) where
  pub bundle_sited : (k b : ℕ) → k < length ws → number_in (bundles_of sites ws) k ≡ Some b
      → is_some (site_of sites (wish_in ws k)) ≡ true
  bundle_sited k b lt e =
      let w = wish_in ws k in
      let p = λ (x : ℕ). together sites w (wish_in ws x) in
      let joined = find_passes p (range_with_len 0 (length ws)) b (sym (bundle_in sites ws k lt) ∙ e) in
      let parts = together_parts sites w (wish_in ws b) joined in
      rw parts.2 refl

  pub bundle_unsited : (k : ℕ) → k < length ws → number_in (bundles_of sites ws) k ≡ None
      → is_some (site_of sites (wish_in ws k)) ≡ false
  bundle_unsited k lt e =
      let w = wish_in ws k in
      let both : is_same (number_in (bundles_of sites ws) k) (number_in (bundles_of sites ws) k) ≡ together sites w w =
      (bundles_are sites ws).shared k k lt lt in
      elim (cases_Bool (together sites w w)) [
        | inl own ↦
            let some = is_same_some (number_in (bundles_of sites ws) k) (number_in (bundles_of sites ws) k)
            (both ∙ own) in
            absurd (let wrong = sym e ∙ some.1 in cc)
        | inr none ↦ unsited (site_of sites w) (rw (eq-eqb w.candidate w.candidate refl) at none)
      ]
    where
      unsited : (o : Option ℕ) → is_same o o ≡ false → is_some o ≡ false
      unsited None e = refl
      unsited (Some h) e = absurd (false≢true (sym e ∙ eq-eqb h h refl))

-- Entries of wishes that share their bundles, and where those of a block begin.
use Rattle.std.proofs.Common.{ℕ, zero, suc, ◌+◌, ◌≤◌, ◌<◌, ◌≡◌, Bool, true, false, List, [], ◌∷◌, ◌++◌, length}
use Rattle.std.proofs.Common.{get_or, take, set, replicate, inl, inr, refl, sym, ◌∙◌, ap, arith, Option, Some, None}
use Rattle.std.proofs.Common.{map, subst}
use Rattle.std.specs.Prelude.{slice_index, slice_index_or, is_some, ◌==◌, ◌/◌, ◌||◌, All}
use Rattle.std.specs.Cmp.{IsEquivalence}
use Rattle.std.specs.List.{find, list_any, dedup}
use Rattle.std.specs.List.Sorted.{IsPermutation}
use Rattle.std.proofs.lemmas.Bool.{cases_Bool, cases_eq, cases_lt, eqb-true, eq-eqb, ne_eqb, false≢true}
use Rattle.std.proofs.lemmas.Option.{unwrap_or-slice_get}
use Rattle.std.proofs.lemmas.List.{length-set, get_or-set_same, get_or-set_other, take_more, take_all, get_or-map}
use Rattle.std.proofs.lemmas.List.{length-map, length-replicate, get_or-replicate, get_or_default, ext_get_or}
use Rattle.std.proofs.lemmas.List.{get_or_past}
use Rattle.std.proofs.lemmas.List.Elements.{All-append, All-cons, All-nil}
use Rattle.std.proofs.Math.ListN.{get_or-map as map_read}
use Rattle.std.proofs.lemmas.Cmp.{nat_eq_equiv, on_equiv}
use Rattle.std.proofs.lemmas.List.Filters.{All-dedup}
use Rattle.std.proofs.lemmas.List.Folds.{Any-from_list_any, list_any-append, list_any_at}
use Rattle.std.proofs.lemmas.List.Kept.{Any-dedup}
use Rattle.std.proofs.lemmas.List.FromFn.{length-map-range_with_len, get_or-map-range_with_len}
use Rattle.std.proofs.lemmas.List.Sorted.{All-permutation, list_any-IsPermutation}
use Rattle.admit_core.proofs.NextCalls.{find_passes}
use Rattle.admit_core.proofs.Plain.{or_false, or_true}
use Rattle.admit_core.specs.declared.dossier.Wish.{Wish}
use Rattle.day_state.specs.declared.bundle_numbers.Later.{Later}
use Rattle.day_state.specs.declared.bundles.Sites.{Sites}
use Rattle.day_state.specs.declared.numbers.BundleNumber.{BundleNumber}
use Rattle.day_state.specs.declared.numbers.BundleNumber.TheVariants.{NoSite, Alone, Shared}
use Rattle.day_state.specs.declared.numbers.SharedWish.{SharedWish}
use Rattle.day_state.specs.Kept.{wish_in}
use Rattle.day_state.specs.Bundles.{number_in, is_shared, rank_of, number_of, number_at, all_numbers}
use Rattle.day_state.specs.Bundles.{bundles_of, site_of, AreLaters, IsLater, IsEntry, AreEntries, AreSited, HaveEntries}
use Rattle.day_state.specs.Bundles.{AreEntriesOf, AreStarts, number_for, number_found, numbers_with}
use Rattle.day_state.proofs.Laters.{firsts_are}
use Rattle.day_state.proofs.Numbering.{bundles_are, find_has}
use Rattle.day_state.proofs.Numbered.{bundle_sited, bundle_unsited, shared_by_one, shares}

-- one more of a list has what all before it have
pub all_more : {X : Type 0} (P : X → Type 0) (xs : List X) (i : ℕ) (d : X) → i < length xs → All P (take i xs)
    → P (get_or xs i d) → All P (take (i + 1) xs)
all_more P xs i d lt so_far here =
    rw (take_more xs i d lt)
    (All-append P (take i xs) (get_or xs i d ∷ []) so_far (All-cons P (get_or xs i d) [] here (All-nil P)))

-- the first one that passes is found
found_at : {X : Type 0} (p : X → Bool) (xs : List X) (i : ℕ) (d : X) → i < length xs
    → All (λ x. p x ≡ false) (take i xs) → p (get_or xs i d) ≡ true → find p xs ≡ Some (get_or xs i d)
found_at p [] i d lt none here = absurd (omega arith)
found_at p (x ∷ xs) zero d lt none here = rw here refl
found_at p (x ∷ xs) (suc i) d lt none here =
    rw (none 0 d (omega arith))
    (found_at p xs i d (omega arith) (λ k e k_lt. none (suc k) e (omega arith)) here)

found_none : {X : Type 0} (p : X → Bool) (xs : List X) → All (λ x. p x ≡ false) xs → find p xs ≡ None
found_none p [] none = refl
found_none p (x ∷ xs) none =
    rw (none 0 x (omega arith)) (found_none p xs (λ k d lt. none (suc k) d (omega arith)))

-- what is found has what all have
found_has : {X : Type 0} (P : X → Type 0) (p : X → Bool) (xs : List X) (y : X) → All P xs → find p xs ≡ Some y → P y
found_has P p [] y all e = absurd (cc)
found_has P p (x ∷ xs) y all e =
    elim (cases_Bool (p x)) [
      | inl passes ↦ let same : x ≡ y = let found = rw passes at e in (cc) in subst P same (all 0 x (omega arith))
      | inr fails ↦ found_has P p xs y (λ k d lt. all (suc k) d (omega arith)) (rw fails at e)
    ]

-- entries of earlier blocks are of other wishes
pub apart_blocks : (entries : List SharedWish) (start wish : ℕ)
    → All (λ e. e.wish / 64 < wish / 64) (take start entries)
    → All (λ e. (e.wish == wish) ≡ false) (take start entries)
apart_blocks entries start wish before k d lt =
    ne_eqb (get_or (take start entries) k d).wish wish
    (λ same. omega (arith, before k d lt, ap (λ (n : ℕ). n / 64) same))

pub number_here : (entries : List SharedWish) (i wish : ℕ) (e d : SharedWish) → i < length entries
    → All (λ e. (e.wish == wish) ≡ false) (take i entries) → e ≡ get_or entries i d → (e.wish == wish) ≡ true
    → e.number ≡ number_found (find (λ e. e.wish == wish) entries)
number_here entries i wish e d lt none read passes =
    let test = λ (x : SharedWish). x.wish == wish in
    let here : test (get_or entries i d) ≡ true = ap test (sym read) ∙ passes in
    ap (λ (x : SharedWish). x.number) read ∙ ap number_found (sym (found_at test entries i d lt none here))

pub number_nowhere : (entries : List SharedWish) (i wish : ℕ) → length entries ≤ i
    → All (λ e. (e.wish == wish) ≡ false) (take i entries)
    → 0 ≡ number_found (find (λ e. e.wish == wish) entries)
number_nowhere entries i wish le none =
    let test = λ (x : SharedWish). x.wish == wish in
    let P = λ (xs : List SharedWish). All (λ e. (e.wish == wish) ≡ false) xs in
    ap number_found (sym (found_none test entries (subst P (take_all i entries le) none)))

-- the places where blocks begin, as far as the first i entries tell them
pub record AreStartsTo (entries : List SharedWish) (starts : List ℕ) (i : ℕ) : Type 0 where
  pub starts_are : AreStarts entries starts
  pub begun : All (λ e. e.wish / 64 < length starts) (take i entries)

pub starts_none : (entries : List SharedWish) (starts : List ℕ) → starts ≡ [] → AreStartsTo entries starts 0
starts_none entries starts none = rw none (record {
  starts_are = λ block. All-nil (λ e. e.wish / 64 < block);
  begun = All-nil (λ e. e.wish / 64 < 0);
})

pub starts_more : (entries : List SharedWish) (starts new : List ℕ) (i : ℕ) (e d : SharedWish) → i < length entries
    → e ≡ get_or entries i d → length starts < e.wish / 64 + 1 → length new ≡ e.wish / 64 + 1
    → ((k d : ℕ) → k < e.wish / 64 + 1 → k < length starts → get_or new k d ≡ get_or starts k d)
    → ((k d : ℕ) → length starts ≤ k → k < e.wish / 64 + 1 → get_or new k d ≡ i)
    → AreStartsTo entries starts i → AreStartsTo entries new (i + 1)
starts_more entries starts new i e d lt read few long before after are = record {
  starts_are = λ block.
      let P = λ (x : SharedWish). x.wish / 64 < block in
      elim (cases_lt block (length starts)) [
        | inl old ↦
            let same : slice_index new block ≡ slice_index starts block =
            before block 0 (omega (arith, few, old)) old in
            rw same (are.starts_are block)
        | inr other ↦
            elim (cases_lt block (e.wish / 64 + 1)) [
              | inl made ↦
                  let same : slice_index new block ≡ i = after block 0 (omega (arith, other)) made in
                  rw same (λ k d k_lt. omega (arith, are.begun k d k_lt, other))
              | inr past ↦
                  let none : slice_index new block ≡ 0 = get_or_past new block 0 (omega (arith, past, long)) in
                  rw none (All-nil P)
            ]
      ];
  begun =
      let P = λ (x : SharedWish). x.wish / 64 < length new in
      let here : e.wish / 64 < length new = omega (arith, long) in
      all_more P entries i d lt (λ k d k_lt. omega (arith, are.begun k d k_lt, few, long)) (subst P read here);
}

pub starts_same : (entries : List SharedWish) (starts : List ℕ) (i : ℕ) (e d : SharedWish) → i < length entries
    → e ≡ get_or entries i d → e.wish / 64 + 1 ≤ length starts
    → AreStartsTo entries starts i → AreStartsTo entries starts (i + 1)
starts_same entries starts i e d lt read long are = record {
  starts_are = are.starts_are;
  begun =
      let P = λ (x : SharedWish). x.wish / 64 < length starts in
      let here : e.wish / 64 < length starts = omega (arith, long) in
      all_more P entries i d lt are.begun (subst P read here);
}

-- numbers by flags and entries, read at a place
numbers_long : (sited several : List Bool) (entries : List SharedWish)
    → length (numbers_with sited several entries) ≡ length sited
numbers_long sited several entries =
    length-map-range_with_len
    (λ k. number_for entries k (slice_index_or sited k false) (slice_index_or several k false))
    0 (length sited)

number_get : (sited several : List Bool) (entries : List SharedWish) (k : ℕ) → k < length sited
    → get_or (numbers_with sited several entries) k NoSite
    ≡ number_for entries k (slice_index_or sited k false) (slice_index_or several k false)
number_get sited several entries k lt =
    get_or-map-range_with_len
    (λ j. number_for entries j (slice_index_or sited j false) (slice_index_or several j false))
    0 (length sited) k k NoSite lt (omega arith)

pub number_read : (sited several : List Bool) (entries : List SharedWish) (ns : List BundleNumber) (k : ℕ)
    (has shares : Bool) → numbers_with sited several entries ≡ ns → k < length ns
    → has ≡ slice_index_or sited k false → shares ≡ slice_index_or several k false
    → number_for entries k has shares ≡ number_at ns k
number_read sited several entries ns k has shares ns_are lt has_is shares_is =
    let long : length ns ≡ length sited =
    ap (λ (xs : List BundleNumber). length xs) (sym ns_are) ∙ numbers_long sited several entries in
    (λ i. number_for entries k (has_is i) (shares_is i))
    ∙ sym (unwrap_or-slice_get (numbers_with sited several entries) k NoSite
    ∙ number_get sited several entries k (omega (arith, lt, long)))
    ∙ ap (λ (xs : List BundleNumber). number_at xs k) ns_are

-- the flags of the first i wishes tell whether these have a site
pub record AreSitedTo (sites : Sites) (ws : List Wish) (flags : List Bool) (i : ℕ) : Type 0 where
  pub long : length flags ≡ length ws
  pub each : (k : ℕ) → k < i → slice_index_or flags k false ≡ is_some (site_of sites (wish_in ws k))

pub sited_none : (sites : Sites) (ws : List Wish) (flags : List Bool) (n : ℕ) → flags ≡ replicate n false
    → n ≡ length ws → AreSitedTo sites ws flags 0
sited_none sites ws flags n none n_is = record {
  long = ap (λ (xs : List Bool). length xs) none ∙ length-replicate n false ∙ n_is;
  each = λ k lt. absurd (omega arith);
}

pub sited_more : (sites : Sites) (ws : List Wish) (flags new : List Bool) (i : ℕ) (d : Wish) → i < length ws
    → new ≡ set flags i (is_some (site_of sites (get_or ws i d))) → AreSitedTo sites ws flags i
    → AreSitedTo sites ws new (i + 1)
sited_more sites ws flags new i d lt new_is are =
    let v : Bool = is_some (site_of sites (get_or ws i d)) in
    let none = wish_in [] 0 in
    let read : get_or ws i d ≡ wish_in ws i =
    get_or_default ws i d none lt ∙ sym (unwrap_or-slice_get ws i none) in
    rw new_is (record {
      long = length-set flags i v ∙ are.long;
      each = λ k k_lt. elim (cases_eq k i) [
        | inl same ↦
            ap (λ (j : ℕ). get_or (set flags i v) j false) same
            ∙ get_or-set_same flags i v false (omega (arith, lt, are.long))
            ∙ ap (λ (w : Wish). is_some (site_of sites w)) read
            ∙ ap (λ (j : ℕ). is_some (site_of sites (wish_in ws j))) (sym same)
        | inr other ↦ get_or-set_other flags i k v false other ∙ are.each k (below i k k_lt other)
      ];
    })
  where
    below : (i k : ℕ) → k < i + 1 → (k ≡ i → ⊥) → k < i
    below i k lt other = elim (cases_lt k i) [ inl less ↦ less | inr more ↦ absurd (other (omega (arith, lt, more))) ]

pub sited_all : (sites : Sites) (ws : List Wish) (flags : List Bool) (i : ℕ) → length ws ≤ i
    → AreSitedTo sites ws flags i → AreSited sites ws flags
sited_all sites ws flags i le are = record {
  long = are.long;
  each = λ k lt. are.each k (omega (arith, lt, le));
}

-- which wishes have an entry
pub have_none : (entries : List SharedWish) (n : ℕ) (flags : List Bool) → flags ≡ replicate n false
    → HaveEntries (take 0 entries) n flags
have_none entries n flags none = rw none (record {
  long = length-replicate n false;
  each = λ k lt. get_or-replicate n k false false lt;
})

pub have_more : (entries : List SharedWish) (n : ℕ) (flags new : List Bool) (i : ℕ) (e d : SharedWish)
    → i < length entries
    → e ≡ get_or entries i d → e.wish < n → new ≡ set flags e.wish true
    → HaveEntries (take i entries) n flags → HaveEntries (take (i + 1) entries) n new
have_more entries n flags new i e d lt read within new_is are = rw new_is (record {
  long = length-set flags e.wish true ∙ are.long;
  each = λ k k_lt.
      let test = λ (x : SharedWish). x.wish == k in
      let more : list_any test (take (i + 1) entries) ≡ (list_any test (take i entries) || ((e.wish == k) || false)) =
      ap (list_any test) (take_more entries i d lt) ∙ list_any-append test (take i entries) (get_or entries i d ∷ [])
      ∙ ap (λ (x : SharedWish). list_any test (take i entries) || ((x.wish == k) || false)) (sym read) in
      elim (cases_eq k e.wish) [
        | inl same ↦
            let here : list_any test (take (i + 1) entries) ≡ true =
            more ∙ rw (eq-eqb e.wish k (sym same)) (or_true (list_any test (take i entries))) in
            rw here (ap (λ (j : ℕ). get_or (set flags e.wish true) j false) same
            ∙ get_or-set_same flags e.wish true false (omega (arith, within, are.long)))
        | inr other ↦
            let here : list_any test (take (i + 1) entries) ≡ list_any test (take i entries) =
            more ∙ rw (ne_eqb e.wish k (λ p. other (sym p))) (or_false (list_any test (take i entries))) in
            rw here (get_or-set_other flags e.wish k true false other ∙ are.each k k_lt)
      ];
})

pub have_all : (entries : List SharedWish) (n : ℕ) (flags : List Bool) (i : ℕ) → length entries ≤ i
    → HaveEntries (take i entries) n flags → HaveEntries entries n flags
have_all entries n flags i le are =
    let P = λ (xs : List SharedWish). HaveEntries xs n flags in
    subst P (take_all i entries le) are

-- the entries of the first i later wishes and of the first ones of their bundles
pub record AreEntriesTo (bundles : List (Option ℕ)) (laters : List Later) (entries : List SharedWish)
    (i : ℕ) : Type 0 where
  pub each : All (IsEntry bundles) entries
  pub firsts : All (λ (l : Later). list_any (λ (e : SharedWish). e.wish == l.first) entries ≡ true) (take i laters)
  pub wishes : All (λ (l : Later). list_any (λ (e : SharedWish). e.wish == l.wish) entries ≡ true) (take i laters)

pub entries_none : (bundles : List (Option ℕ)) (laters : List Later) (entries : List SharedWish) → entries ≡ []
    → AreEntriesTo bundles laters entries 0
entries_none bundles laters entries none = rw none (record {
  each = All-nil (IsEntry bundles);
  firsts = All-nil (λ (l : Later). list_any (λ (e : SharedWish). e.wish == l.first) [] ≡ true);
  wishes = All-nil (λ (l : Later). list_any (λ (e : SharedWish). e.wish == l.wish) [] ≡ true);
})

still : (p : SharedWish → Bool) (xs ys : List SharedWish) → list_any p xs ≡ true → list_any p (xs ++ ys) ≡ true
still p xs ys t = list_any-append p xs ys ∙ ap (λ b. b || list_any p ys) t

among_last : (p : SharedWish → Bool) (xs ys : List SharedWish) → list_any p ys ≡ true → list_any p (xs ++ ys) ≡ true
among_last p xs ys t = list_any-append p xs ys ∙ ap (λ b. list_any p xs || b) t ∙ or_true (list_any p xs)

module _ (sites : Sites) (ws : List Wish) (laters : List Later) (are : AreLaters (bundles_of sites ws) laters) where
  pub first_shared : (l d : Later) (i : ℕ) → i < length laters → l ≡ get_or laters i d
      → (l.first < length (bundles_of sites ws)) × (is_shared (bundles_of sites ws) l.first ≡ true)
  first_shared l d i lt read =
      let bundles = bundles_of sites ws in
      let is : IsLater bundles l = subst (IsLater bundles) (sym read) (are.each i d lt) in
      (is.begins, shares bundles laters are l is)

  pub entries_more : (entries between new : List SharedWish) (l d : Later) (i number : ℕ) → i < length laters
      → l ≡ get_or laters i d → number ≡ rank_of (bundles_of sites ws) l.first
      → between ≡ entries ++ record { wish = l.first; number = number } ∷ []
      → new ≡ between ++ record { wish = l.wish; number = number } ∷ []
      → AreEntriesTo (bundles_of sites ws) laters entries i → AreEntriesTo (bundles_of sites ws) laters new (i + 1)
  entries_more entries between new l d i number lt read number_is between_is new_is so_far =
      let bundles = bundles_of sites ws in
      let is : IsLater bundles l = subst (IsLater bundles) (sym read) (are.each i d lt) in
      let shared : is_shared bundles l.first ≡ true = shares bundles laters are l is in
      let one : SharedWish = record { wish = l.first; number = number } in
      let two : SharedWish = record { wish = l.wish; number = number } in
      let told : number_of bundles (Some l.first) ≡ Shared number = rw (shared, number_is) refl in
      let own : number_in bundles l.first ≡ Some l.first =
      (firsts_are sites ws).own l.wish l.first is.within is.bundle in
      let one_is : IsEntry bundles one =
      record { within = is.begins; number = ap (number_of bundles) own ∙ told } in
      let two_is : IsEntry bundles two =
      record { within = is.within; number = ap (number_of bundles) is.bundle ∙ told } in
      let E = IsEntry bundles in
      let keep = λ (p : SharedWish → Bool) (t : list_any p entries ≡ true).
      still p (entries ++ one ∷ []) (two ∷ []) (still p entries (one ∷ []) t) in
      let F = λ (xs : List SharedWish) (x : Later). list_any (λ (e : SharedWish). e.wish == x.first) xs ≡ true in
      let W = λ (xs : List SharedWish) (x : Later). list_any (λ (e : SharedWish). e.wish == x.wish) xs ≡ true in
      let all = (entries ++ one ∷ []) ++ two ∷ [] in
      let first_here : F all l =
      still (λ e. e.wish == l.first) (entries ++ one ∷ []) (two ∷ [])
      (among_last (λ e. e.wish == l.first) entries (one ∷ []) (ap (λ b. b || false) (eq-eqb l.first l.first refl))) in
      let wish_here : W all l =
      among_last (λ e. e.wish == l.wish) (entries ++ one ∷ []) (two ∷ [])
      (ap (λ b. b || false) (eq-eqb l.wish l.wish refl)) in
      let all_is : new ≡ all = new_is ∙ ap (λ (xs : List SharedWish). xs ++ two ∷ []) between_is in
      rw all_is (record {
        each = All-append E (entries ++ one ∷ []) (two ∷ [])
            (All-append E entries (one ∷ []) so_far.each (All-cons E one [] one_is (All-nil E)))
            (All-cons E two [] two_is (All-nil E));
        firsts = all_more (F all) laters i d lt
            (λ k d k_lt. keep (λ e. e.wish == (get_or (take i laters) k d).first) (so_far.firsts k d k_lt))
            (subst (F all) read first_here);
        wishes = all_more (W all) laters i d lt
            (λ k d k_lt. keep (λ e. e.wish == (get_or (take i laters) k d).wish) (so_far.wishes k d k_lt))
            (subst (W all) read wish_here);
      })

  -- what one later wish has that passes a test
  pub entries_all : (entries sorted : List SharedWish) (i : ℕ) → length laters ≤ i
      → AreEntriesTo (bundles_of sites ws) laters entries i → IsPermutation entries sorted
      → AreEntries (bundles_of sites ws) sorted
  entries_all entries sorted i le so_far moved =
      let bundles = bundles_of sites ws in
      let everyone = take_all i laters le in
      let F = λ (x : Later). list_any (λ (e : SharedWish). e.wish == x.first) entries ≡ true in
      let W = λ (x : Later). list_any (λ (e : SharedWish). e.wish == x.wish) entries ≡ true in
      let firsts : All F laters = subst (All F) everyone so_far.firsts in
      let wishes : All W laters = subst (All W) everyone so_far.wishes in
      record {
        each = All-permutation (IsEntry bundles) entries sorted moved so_far.each;
        all = λ k b lt at shared.
            let test = λ (e : SharedWish). e.wish == k in
            sym (list_any-IsPermutation test entries sorted moved)
            ∙ elim (cases_eq b k) [
              | inl same ↦
                  let (j, j_lt, at_j, other) = shared_by_one bundles k (rw same at shared) in
                  let (n, l, n_lt, read, passes) = Any-from_list_any (λ (x : Later). x.wish == j) laters
                  (are.all j k j_lt at_j other) in
                  let is : IsLater bundles l = subst (IsLater bundles) read (are.each n l n_lt) in
                  let here : number_in bundles j ≡ Some l.first =
                  ap (number_in bundles) (sym (eqb-true l.wish j passes)) ∙ is.bundle in
                  let both : Some k ≡ Some l.first = sym at_j ∙ here in
                  let first : l.first ≡ k = let e : k ≡ l.first = cc both in sym e in
                  let P = λ (m : ℕ). list_any (λ (e : SharedWish). e.wish == m) entries ≡ true in
                  subst P first (subst F read (firsts n l n_lt))
              | inr other ↦
                  let (n, l, n_lt, read, passes) = Any-from_list_any (λ (x : Later). x.wish == k) laters
                  (are.all k b lt at other) in
                  let P = λ (m : ℕ). list_any (λ (e : SharedWish). e.wish == m) entries ≡ true in
                  subst P (eqb-true l.wish k passes) (subst W read (wishes n l n_lt))
            ];
      }

-- each once, they are still all
pub entries_once : (bundles : List (Option ℕ)) (sorted once : List SharedWish)
    → once ≡ dedup (λ x y. x.wish == y.wish) sorted
    → AreEntries bundles sorted → AreEntries bundles once
entries_once bundles sorted once once_is are =
    let E = λ (x y : SharedWish). x.wish == y.wish in
    let equiv : IsEquivalence E = on_equiv (λ (e : SharedWish). e.wish) nat_eq_equiv in
    rw once_is (record {
      each = All-dedup E (IsEntry bundles) sorted are.each;
      all = λ k b lt at shared.
          let test = λ (e : SharedWish). e.wish == k in
          let (n, e, n_lt, read, passes) = Any-from_list_any test sorted (are.all k b lt at shared) in
          let (m, f, m_lt, kept, same) = Any-dedup equiv sorted e (n, n_lt, read) in
          let here : f.wish ≡ k = sym (eqb-true e.wish f.wish same) ∙ eqb-true e.wish k passes in
          list_any_at test (dedup E sorted) m f m_lt (rw kept (eq-eqb f.wish k here));
    })

-- the wishes of entries are among all
pub entries_within : (sites : Sites) (ws : List Wish) (entries : List SharedWish) (n : ℕ)
    → AreEntries (bundles_of sites ws) entries → n ≡ length ws → All (λ (e : SharedWish). e.wish < n) entries
entries_within sites ws entries n are n_is k d lt =
    omega (arith, (are.each k d lt).within, (bundles_are sites ws).as_long, n_is)

-- the numbers by flags and entries are those of all bundles
module _ (sites : Sites) (ws : List Wish) (entries : List SharedWish) (are : AreEntries (bundles_of sites ws) entries)
    (sited several : List Bool) (sites_are : AreSited sites ws sited)
    (have : HaveEntries entries (length ws) several) where
  by_entry : (k : ℕ) (has : Bool) → list_any (λ (e : SharedWish). e.wish == k) entries ≡ true
      → number_for entries k has true ≡ number_of (bundles_of sites ws) (number_in (bundles_of sites ws) k)
  by_entry k has some =
      let bundles = bundles_of sites ws in
      let test = λ (e : SharedWish). e.wish == k in
      let (e, found) = find_has test entries some in
      let is : IsEntry bundles e = found_has (IsEntry bundles) test entries e are.each found in
      let same : e.wish ≡ k = eqb-true e.wish k (find_passes test entries e found) in
      ap (λ (o : Option SharedWish). Shared (number_found o)) found
      ∙ sym (ap (λ (j : ℕ). number_of bundles (number_in bundles j)) (sym same) ∙ is.number)

  by_site : (k : ℕ) (o : Option ℕ) → k < length ws → k < length (bundles_of sites ws)
      → number_in (bundles_of sites ws) k ≡ o → list_any (λ (e : SharedWish). e.wish == k) entries ≡ false
      → number_for entries k (is_some (site_of sites (wish_in ws k))) false ≡ number_of (bundles_of sites ws) o
  by_site k None k_in k_b at none =
      ap (λ b. number_for entries k b false) (bundle_unsited sites ws k k_in at)
  by_site k (Some b) k_in k_b at none =
      let bundles = bundles_of sites ws in
      elim (cases_Bool (is_shared bundles b)) [
        | inl shared ↦ absurd (false≢true (sym none ∙ are.all k b k_b at shared))
        | inr alone ↦
            ap (λ b. number_for entries k b false) (bundle_sited sites ws k b k_in at) ∙ rw alone refl
      ]

  number_is : (k : ℕ) → k < length ws → k < length (bundles_of sites ws)
      → number_for entries k (slice_index_or sited k false) (slice_index_or several k false)
      ≡ number_of (bundles_of sites ws) (number_in (bundles_of sites ws) k)
  number_is k k_in k_b =
      let bundles = bundles_of sites ws in
      let test = λ (e : SharedWish). e.wish == k in
      let has = sites_are.each k k_in in
      elim (cases_Bool (list_any test entries)) [
        | inl some ↦
            ap (number_for entries k (slice_index_or sited k false)) (have.each k k_in ∙ some)
            ∙ by_entry k (slice_index_or sited k false) some
        | inr none ↦
            ap (number_for entries k (slice_index_or sited k false)) (have.each k k_in ∙ none)
            ∙ ap (λ b. number_for entries k b false) has
            ∙ by_site k (number_in bundles k) k_in k_b refl none
      ]

  pub numbers_are : numbers_with sited several entries ≡ all_numbers sites ws
  numbers_are =
      let bundles = bundles_of sites ws in
      let b_long = (bundles_are sites ws).as_long in
      ext_get_or NoSite (numbers_with sited several entries) (all_numbers sites ws)
      (numbers_long sited several entries ∙ sites_are.long ∙ sym b_long
      ∙ sym (length-map bundles (number_of bundles)))
      (λ k lt.
      let k_sited : k < length sited = omega (arith, lt, numbers_long sited several entries) in
      let k_in : k < length ws = omega (arith, k_sited, sites_are.long) in
      let k_b : k < length bundles = omega (arith, k_in, b_long) in
      number_get sited several entries k k_sited ∙ number_is k k_in k_b
      ∙ sym (get_or-map (number_of bundles) bundles k None NoSite k_b
      ∙ ap (number_of bundles) (sym (unwrap_or-slice_get bundles k None))))

-- so the entries are those of the numbers
pub entries_tell : (sites : Sites) (ws : List Wish) (entries : List SharedWish)
    → AreEntries (bundles_of sites ws) entries → AreEntriesOf (all_numbers sites ws) entries
entries_tell sites ws entries are =
    let bundles = bundles_of sites ws in
    record {
      each = λ j e lt. number_by bundles (get_or entries j e).wish ∙ (are.each j e lt).number;
      all = λ k n is.
          let (b, at, shared) = by_number bundles (number_in bundles k) n (sym (number_by bundles k) ∙ is) in
          are.all k b (there bundles k b at) at shared;
    }
  where
    number_by : (bundles : List (Option ℕ)) (k : ℕ)
        → number_at (map (number_of bundles) bundles) k ≡ number_of bundles (number_in bundles k)
    number_by bundles k =
        unwrap_or-slice_get (map (number_of bundles) bundles) k NoSite
        ∙ map_read (number_of bundles) bundles k None
        ∙ ap (number_of bundles) (sym (unwrap_or-slice_get bundles k None))

    by_number : (bundles : List (Option ℕ)) (o : Option ℕ) (n : ℕ) → number_of bundles o ≡ Shared n
        → (b : ℕ) × (o ≡ Some b) × (is_shared bundles b ≡ true)
    by_number bundles None n is = absurd (cc)
    by_number bundles (Some b) n is =
        elim (cases_Bool (is_shared bundles b)) [
          | inl shared ↦ (b, refl, shared)
          | inr alone ↦ let e : Alone ≡ Shared n = rw alone at is in absurd (cc)
        ]

    there : (bundles : List (Option ℕ)) (k b : ℕ) → number_in bundles k ≡ Some b → k < length bundles
    there bundles k b at =
        elim (cases_lt k (length bundles)) [
          | inl lt ↦ lt
          | inr le ↦
              let e : None ≡ Some b =
              sym (unwrap_or-slice_get bundles k None ∙ get_or_past bundles k None le) ∙ at in
              absurd (cc)
        ]

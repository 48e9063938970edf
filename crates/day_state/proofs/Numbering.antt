-- The first wishes of bundles, as a walk in the order of the candidates finds them.
use Rattle.std.proofs.Common.{ℕ, ◌+◌, ◌≤◌, ◌<◌, ◌≡◌, Bool, true, false, ◌&&◌, List, [], ◌∷◌, length, get_or, set}
use Rattle.std.proofs.Common.{replicate, inl, inr, refl, sym, ◌∙◌, ap, arith, nat_eq, filter, Option, Some, None, zero}
use Rattle.std.proofs.Common.{suc}
use Rattle.std.specs.Prelude.{slice_index, ◌==◌, All}
use Rattle.std.specs.Option.{ForSome}
use Rattle.std.specs.List.{find, list_any, range_with_len}
use Rattle.std.specs.Cmp.{both_ways}
use Rattle.std.proofs.lemmas.Bool.{cases_Bool, cases_eq, eqb-true, eq-eqb, and_parts, and_from, and_right}
use Rattle.std.proofs.lemmas.Bool.{false_from_ne_true, false≢true}
use Rattle.std.proofs.lemmas.Option.{unwrap_or-slice_get}
use Rattle.std.proofs.lemmas.List.{length-set, length-replicate, get_or-replicate, get_or-set_same, get_or-set_other}
use Rattle.std.proofs.lemmas.List.{get_or_default}
use Rattle.std.proofs.lemmas.List.Folds.{list_any_at, Any-from_list_any}
use Rattle.std.proofs.lemmas.List.FromFn.{length-range_with_len, get_or-range_with_len, length-map-range_with_len}
use Rattle.std.proofs.lemmas.List.FromFn.{get_or-map-range_with_len}
use Rattle.admit_core.specs.declared.dossier.Wish.{Wish}
use Rattle.admit_core.proofs.NextCalls.{find_passes}
use Rattle.admit_core.proofs.Plain.{any-filter, find_same}
use Rattle.day_state.specs.declared.bundles.Sites.{Sites}
use Rattle.day_state.specs.Kept.{candidate_in, wish_in, IsIndex}
use Rattle.day_state.specs.Bundles.{site_of, is_same, together, number_in, joined, bundle_there, noted, bundle_of}
use Rattle.day_state.specs.Bundles.{bundles_of, noted_candidate, AreSitesBelow, AreTheirs}
use Rattle.day_state.proofs.Places.{candidate_in as candidate_there}
use Rattle.day_state.proofs.Along.{among-filter}

pub is_same_some : (a b : Option ℕ) → is_same a b ≡ true → (n : ℕ) × (a ≡ Some n) × (b ≡ Some n)
is_same_some None b e = absurd (cc)
is_same_some (Some n) None e = absurd (cc)
is_same_some (Some n) (Some m) e = let same = eqb-true m n e in (n, refl, rw same refl)

some_is_same : (a b : Option ℕ) (n : ℕ) → a ≡ Some n → b ≡ Some n → is_same a b ≡ true
some_is_same a b n p q = rw (p, q) (eq-eqb n n refl)

-- what together says
pub together_parts : (sites : Sites) (v w : Wish) → together sites v w ≡ true
    → (w.candidate ≡ v.candidate) × (n : ℕ) × (site_of sites v ≡ Some n) × (site_of sites w ≡ Some n)
together_parts sites v w e =
    let parts = and_parts (w.candidate == v.candidate) (is_same (site_of sites v) (site_of sites w)) e in
    let site = is_same_some (site_of sites v) (site_of sites w) parts.1 in
    (eqb-true w.candidate v.candidate parts.0, site.0, site.1, site.2)

together_from : (sites : Sites) (v w : Wish) (n : ℕ) → w.candidate ≡ v.candidate → site_of sites v ≡ Some n
    → site_of sites w ≡ Some n → together sites v w ≡ true
together_from sites v w n same p q =
    and_from (w.candidate == v.candidate) (is_same (site_of sites v) (site_of sites w))
    (eq-eqb w.candidate v.candidate same) (some_is_same (site_of sites v) (site_of sites w) n p q)

alike : (sites : Sites) (v w z : Wish) (n : ℕ) → w.candidate ≡ v.candidate → site_of sites v ≡ Some n
    → site_of sites w ≡ Some n → together sites v z ≡ together sites w z
alike sites v w z n same p q =
    ap (λ (c : ℕ). (z.candidate == c) && is_same (site_of sites v) (site_of sites z)) (sym same)
    ∙ ap (λ (o : Option ℕ). (z.candidate == w.candidate) && is_same o (site_of sites z)) (p ∙ sym q)

find_first : (p : ℕ → Bool) (xs : List ℕ) (i : ℕ) → i < length xs → p (slice_index xs i) ≡ true
    → ((j : ℕ) → j < i → p (slice_index xs j) ≡ false) → find p xs ≡ Some (slice_index xs i)
find_first p [] i lt passes none = absurd (omega arith)
find_first p (x ∷ xs) zero lt passes none = rw passes refl
find_first p (x ∷ xs) (suc i) lt passes none =
    rw (none 0 (omega arith)) (find_first p xs i (omega arith) passes (λ j j_lt. none (suc j) (omega arith)))

find_within : (p : ℕ → Bool) (xs : List ℕ) (n y : ℕ) → All (λ k. k < n) xs → find p xs ≡ Some y → y < n
find_within p [] n y within e = absurd (cc)
find_within p (x ∷ xs) n y within e =
    elim (cases_Bool (p x)) [
      | inl passes ↦ let same : x ≡ y = let found = rw passes at e in (cc) in rw (← same) (within 0 0 (omega arith))
      | inr fails ↦ find_within p xs n y (λ k d lt. within (suc k) d (omega arith)) (rw fails at e)
    ]

find_nothing : {X : Type 0} (p : X → Bool) → ((x : X) → p x ≡ false) → (xs : List X) → find p xs ≡ None
find_nothing p none [] = refl
find_nothing p none (x ∷ xs) = rw (none x) (find_nothing p none xs)

pub find_has : {X : Type 0} (p : X → Bool) (xs : List X) → list_any p xs ≡ true → (y : X) × (find p xs ≡ Some y)
find_has p [] e = absurd (cc)
find_has p (x ∷ xs) e =
    elim (cases_Bool (p x)) [
      | inl passes ↦ (x, rw passes refl)
      | inr fails ↦ let rest = find_has p xs (rw fails at e) in (rest.0, rw fails rest.1)
    ]

-- the first place in an order whose wish is together with the one at k
abbrev pub first_in : Sites → List Wish → List ℕ → ℕ → Option ℕ
first_in sites ws order k = find (λ x. together sites (wish_in ws k) (wish_in ws x)) order

-- f is the bundle of the candidate who came last to site h on the way up to i
pub record IsLast (sites : Sites) (ws : List Wish) (order : List ℕ) (i h f : ℕ) : Type 0 where
  pub at : ℕ
  pub before : at < i
  pub site : site_of sites (wish_in ws (slice_index order at)) ≡ Some h
  pub first : first_in sites ws order (slice_index order at) ≡ Some f
  pub latest : (j : ℕ) → j < i → site_of sites (wish_in ws (slice_index order j)) ≡ Some h
      → (wish_in ws (slice_index order j)).candidate ≤ (wish_in ws (slice_index order at)).candidate

abbrev pub LastAt : Sites → List Wish → List ℕ → ℕ → ℕ → Option ℕ → Type 0
LastAt sites ws order i h None = (j : ℕ) → j < i → site_of sites (wish_in ws (slice_index order j)) ≡ Some h → ⊥
LastAt sites ws order i h (Some f) = IsLast sites ws order i h f

-- the way along an order, up to i
pub record IsWalked (sites : Sites) (ws : List Wish) (order : List ℕ) (count : ℕ) (last numbers : List (Option ℕ))
    (i : ℕ) : Type 0 where
  pub sites_long : length last ≡ count
  pub long : length numbers ≡ length ws
  pub last_at : (h : ℕ) → h < count → LastAt sites ws order i h (number_in last h)
  pub walked : (j : ℕ) → j < i → number_in numbers (slice_index order j) ≡ first_in sites ws order (slice_index order j)

pub number_none : (n k : ℕ) → k < n → number_in (replicate n None) k ≡ None
number_none n k lt = unwrap_or-slice_get (replicate n None) k None ∙ get_or-replicate n k None None lt

candidates_rise : (ws : List Wish) (order : List ℕ) (i j : ℕ) → IsIndex ws order → i ≤ j → j < length order
    → (wish_in ws (slice_index order i)).candidate ≤ (wish_in ws (slice_index order j)).candidate
candidates_rise ws order i j index le lt =
    rw (candidate_there ws (slice_index order i), candidate_there ws (slice_index order j)) at
    (index.rises i j 0 le lt)

-- the wish at hand joins the bundle that its site had last, where it is of the same candidate
joins : (sites : Sites) (ws : List Wish) (order : List ℕ) (i h : ℕ) (found : Option ℕ) → IsIndex ws order
    → i < length order
    → let x = slice_index order i in
    site_of sites (wish_in ws x) ≡ Some h → LastAt sites ws order i h found
    → first_in sites ws order x ≡ Some (joined ws found x)
joins sites ws order i h None index lt site last =
    let x = slice_index order i in
    let p = λ (y : ℕ). together sites (wish_in ws x) (wish_in ws y) in
    find_first p order i lt (together_from sites (wish_in ws x) (wish_in ws x) h refl site site)
    (λ j j_lt. false_from_ne_true (p (slice_index order j)) (λ t.
    let parts = together_parts sites (wish_in ws x) (wish_in ws (slice_index order j)) t in
    let same : Some parts.1 ≡ Some h = sym parts.2 ∙ site in
    last j j_lt (parts.3 ∙ same)))
joins sites ws order i h (Some f) index lt site last =
    let x = slice_index order i in
    let m = slice_index order last.at in
    let p = λ (y : ℕ). together sites (wish_in ws x) (wish_in ws y) in
    let q = λ (y : ℕ). together sites (wish_in ws m) (wish_in ws y) in
    let found = together_parts sites (wish_in ws m) (wish_in ws f) (find_passes q order f last.first) in
    elim (cases_Bool ((wish_in ws f).candidate == (wish_in ws x).candidate)) [
      | inl mine ↦
          let same : (wish_in ws x).candidate ≡ (wish_in ws m).candidate =
          sym (eqb-true (wish_in ws f).candidate (wish_in ws x).candidate mine) ∙ found.0 in
          rw mine (find_same p q (λ y. sym
          (alike sites (wish_in ws m) (wish_in ws x) (wish_in ws y) h same last.site site)) order ∙ last.first)
      | inr other ↦
          rw other
          (find_first p order i lt (together_from sites (wish_in ws x) (wish_in ws x) h refl site site)
          (λ j j_lt. false_from_ne_true (p (slice_index order j)) (λ t.
          let parts = together_parts sites (wish_in ws x) (wish_in ws (slice_index order j)) t in
          let there : site_of sites (wish_in ws (slice_index order j)) ≡ Some h = parts.3 ∙ sym parts.2 ∙ site in
          let below = last.latest j j_lt there in
          let above = candidates_rise ws order last.at i index (omega (arith, last.before)) lt in
          let same : (wish_in ws f).candidate ≡ (wish_in ws x).candidate =
          omega (arith, below, above, parts.0, found.0) in
          absurd (let yes = eq-eqb (wish_in ws f).candidate (wish_in ws x).candidate same in cc))))
    ]

pub number_here : (sites : Sites) (ws : List Wish) (order : List ℕ) (count : ℕ) (last numbers : List (Option ℕ)) (i : ℕ)
    (o : Option ℕ) → IsIndex ws order → i < length order
    → IsWalked sites ws order count last numbers i
    → let x = slice_index order i in
    site_of sites (wish_in ws x) ≡ o → ForSome o (λ h. h < count) → first_in sites ws order x ≡ bundle_there ws last o x
number_here sites ws order count last numbers i None index lt walk site within =
    let x = slice_index order i in
    find_nothing (λ y. together sites (wish_in ws x) (wish_in ws y))
    (λ y. rw site (and_right ((wish_in ws y).candidate == (wish_in ws x).candidate) false refl)) order
number_here sites ws order count last numbers i (Some h) index lt walk site within =
    joins sites ws order i h (number_in last h) index lt site (walk.last_at h (within h refl))

last_stays : (sites : Sites) (ws : List Wish) (order : List ℕ) (i h : ℕ) (found : Option ℕ)
    → (site_of sites (wish_in ws (slice_index order i)) ≡ Some h → ⊥)
    → LastAt sites ws order i h found → LastAt sites ws order (i + 1) h found
last_stays sites ws order i h None other last = λ j lt e.
    elim (cases_eq j i) [
      | inl here ↦ other (rw here at e)
      | inr before ↦ last j (omega arith) e
    ]
last_stays sites ws order i h (Some f) other last = record {
  at = last.at;
  before = omega (arith, last.before);
  site = last.site;
  first = last.first;
  latest = λ j lt e. elim (cases_eq j i) [
    | inl here ↦ absurd (other (rw here at e))
    | inr before ↦ last.latest j (omega arith) e
  ];
}

number_set_same : (ns : List (Option ℕ)) (k : ℕ) (o : Option ℕ) → k < length ns → number_in (set ns k o) k ≡ o
number_set_same ns k o lt = unwrap_or-slice_get (set ns k o) k None ∙ get_or-set_same ns k o None lt

number_set_other : (ns : List (Option ℕ)) (k j : ℕ) (o : Option ℕ) → (j ≡ k → ⊥)
    → number_in (set ns k o) j ≡ number_in ns j
number_set_other ns k j o ne = unwrap_or-slice_get (set ns k o) j None ∙ get_or-set_other ns k j o None ne
    ∙ sym (unwrap_or-slice_get ns j None)

-- what came last to each site after one more
last_noted : (sites : Sites) (ws : List Wish) (order : List ℕ) (count : ℕ) (last : List (Option ℕ)) (i : ℕ)
    (o : Option ℕ) → IsIndex ws order → i < length order → length last ≡ count
    → ((h : ℕ) → h < count → LastAt sites ws order i h (number_in last h))
    → let x = slice_index order i in
    site_of sites (wish_in ws x) ≡ o → first_in sites ws order x ≡ bundle_there ws last o x
    → (h : ℕ) → h < count → LastAt sites ws order (i + 1) h (number_in (noted last o (bundle_there ws last o x)) h)
last_noted sites ws order count last i None index lt long at site number h h_lt =
    last_stays sites ws order i h (number_in last h) (λ e. let none = sym site ∙ e in cc) (at h h_lt)
last_noted sites ws order count last i (Some g) index lt long at site number h h_lt =
    let x = slice_index order i in
    let b = joined ws (number_in last g) x in
    elim (cases_eq h g) [
      | inl same ↦
          rw (same, number_set_same last g (Some b) (omega (arith, long, h_lt, same)))
          (record {
            at = i;
            before = omega arith;
            site = site;
            first = number;
            latest = λ j j_lt e. candidates_rise ws order j i index (omega arith) lt;
          })
      | inr other ↦
          rw (number_set_other last g h (Some b) other)
          (last_stays sites ws order i h (number_in last h) (λ e. let both = sym site ∙ e in other (cc)) (at h h_lt))
    ]

noted_long : (last : List (Option ℕ)) (o number : Option ℕ) → length (noted last o number) ≡ length last
noted_long last None number = refl
noted_long last (Some h) number = length-set last h number

-- one more wish on the way
more_walked : (sites : Sites) (ws : List Wish) (order : List ℕ) (count : ℕ) (last numbers : List (Option ℕ))
    (i : ℕ) → IsIndex ws order → i < length order
    → ForSome (site_of sites (wish_in ws (slice_index order i))) (λ h. h < count)
    → IsWalked sites ws order count last numbers i
    → let x = slice_index order i in
    let site = site_of sites (wish_in ws x) in
    IsWalked sites ws order count (noted last site (bundle_there ws last site x))
    (set numbers x (bundle_there ws last site x)) (i + 1)
more_walked sites ws order count last numbers i index lt within walk =
    let x = slice_index order i in
    let site = site_of sites (wish_in ws x) in
    let number = bundle_there ws last site x in
    let is = number_here sites ws order count last numbers i site index lt walk refl within in
    let x_in : x < length ws = index.within i 0 lt in
    record {
      sites_long = noted_long last site number ∙ walk.sites_long;
      long = length-set numbers x number ∙ walk.long;
      last_at = last_noted sites ws order count last i site index lt walk.sites_long walk.last_at refl is;
      walked = λ j j_lt. elim (cases_eq (slice_index order j) x) [
        | inl same ↦ rw same (number_set_same numbers x number (omega (arith, walk.long, x_in)) ∙ sym is)
        | inr other ↦
            number_set_other numbers x (slice_index order j) number other
            ∙ elim (cases_eq j i) [
              | inl here ↦ absurd (other (ap (slice_index order) here))
              | inr before ↦ walk.walked j (omega arith)
            ]
      ];
    }

-- the same, where its site was found
pub walked_more : (sites : Sites) (ws : List Wish) (order : List ℕ) (count : ℕ)
    (last numbers new_last new_numbers : List (Option ℕ)) (i : ℕ) (o : Option ℕ) → IsIndex ws order
    → i < length order → AreSitesBelow sites ws count
    → let x = slice_index order i in
    o ≡ site_of sites (wish_in ws x) → new_last ≡ noted last o (bundle_there ws last o x)
    → new_numbers ≡ set numbers x (bundle_there ws last o x) → IsWalked sites ws order count last numbers i
    → IsWalked sites ws order count new_last new_numbers (i + 1)
walked_more sites ws order count last numbers new_last new_numbers i o index lt below site last_is numbers_is walk =
    let x = slice_index order i in
    rw (last_is, numbers_is, site)
    (more_walked sites ws order count last numbers i index lt (below x (index.within i 0 lt)) walk)

-- a wish and the first one of its bundle are of one candidate
joined_candidate : (ws : List Wish) (found : Option ℕ) (place : ℕ)
    → (wish_in ws (joined ws found place)).candidate ≡ (wish_in ws place).candidate
joined_candidate ws None place = refl
joined_candidate ws (Some f) place =
    elim (cases_Bool ((wish_in ws f).candidate == (wish_in ws place).candidate)) [
      | inl mine ↦ rw mine (eqb-true (wish_in ws f).candidate (wish_in ws place).candidate mine)
      | inr other ↦ rw other refl
    ]

theirs_none : (ws : List Wish) (count : ℕ) → AreTheirs ws (replicate count None) (replicate count 0)
theirs_none ws count = record {
  long = length-replicate count 0 ∙ sym (length-replicate count None);
  each = λ h lt b e.
      let nobody : Option ℕ = None in
      let none = number_none count h (omega (arith, lt, length-replicate count nobody)) in
      let wrong : None ≡ Some b = sym none ∙ e in
      absurd (cc);
}

theirs_noted : (ws : List Wish) (last : List (Option ℕ)) (candidates : List ℕ) (o : Option ℕ) (place candidate : ℕ)
    → (wish_in ws place).candidate ≡ candidate → ForSome o (λ h. h < length last) → AreTheirs ws last candidates
    → AreTheirs ws (noted last o (bundle_there ws last o place)) (noted_candidate candidates o candidate)
theirs_noted ws last candidates None place candidate own within are = are
theirs_noted ws last candidates (Some g) place candidate own within are =
    let b = joined ws (number_in last g) place in
    let g_in : g < length last = within g refl in
    record {
      long = length-set candidates g candidate ∙ are.long ∙ sym (length-set last g (Some b));
      each = λ h lt f e. elim (cases_eq h g) [
        | inl same ↦
            let here : number_in (set last g (Some b)) h ≡ Some b = rw same (number_set_same last g (Some b) g_in) in
            let both : Some b ≡ Some f = sym here ∙ e in
            let is : b ≡ f = cc both in
            let now : slice_index (set candidates g candidate) h ≡ candidate =
            rw same (get_or-set_same candidates g candidate 0 (omega (arith, g_in, are.long))) in
            now ∙ sym own ∙ sym (joined_candidate ws (number_in last g) place)
            ∙ ap (λ (k : ℕ). (wish_in ws k).candidate) is
        | inr other ↦
            get_or-set_other candidates g h candidate 0 other
            ∙ are.each h (omega (arith, lt, length-set last g (Some b))) f
            (sym (number_set_other last g h (Some b) other) ∙ e)
      ];
    }

-- what came last to each site is known of its candidate, before the first wish
pub theirs_begin : (ws : List Wish) (count : ℕ) (last : List (Option ℕ)) (candidates : List ℕ)
    → last ≡ replicate count None → candidates ≡ replicate count 0 → AreTheirs ws last candidates
theirs_begin ws count last candidates last_is candidates_are = rw (last_is, candidates_are) (theirs_none ws count)

-- and after one more
pub theirs_more : (ws : List Wish) (last : List (Option ℕ)) (candidates : List ℕ) (new_last : List (Option ℕ))
    (new_candidates : List ℕ) (o : Option ℕ) (place candidate : ℕ)
    → (wish_in ws place).candidate ≡ candidate → ForSome o (λ h. h < length last) → AreTheirs ws last candidates
    → new_last ≡ noted last o (bundle_there ws last o place)
    → new_candidates ≡ noted_candidate candidates o candidate → AreTheirs ws new_last new_candidates
theirs_more ws last candidates new_last new_candidates o place candidate own within are last_is candidates_are =
    rw (last_is, candidates_are) (theirs_noted ws last candidates o place candidate own within are)

-- each place stands somewhere in the order
pub place_of : (ws : List Wish) (order : List ℕ) (k : ℕ) → IsIndex ws order → k < length ws
    → (j : ℕ) × (j < length order) × (slice_index order j ≡ k)
place_of ws order k index lt =
    let q = λ (x : ℕ). candidate_in ws x == candidate_in ws k in
    let n = length ws in
    let some : list_any (λ x. q x && nat_eq k x) order ≡ true =
    sym (any-filter (nat_eq k) q order) ∙ ap (list_any (nat_eq k)) (index.own (candidate_in ws k))
    ∙ among-filter q k n lt ∙ eq-eqb (candidate_in ws k) (candidate_in ws k) refl in
    let (j, x, within, at, passes) = Any-from_list_any (λ x. q x && nat_eq k x) order some in
    let same = eqb-true k x (and_parts (q x) (nat_eq k x) passes).1 in
    (j, within, get_or_default order j 0 x within ∙ at ∙ sym same)

bundles_shared : (sites : Sites) (ws : List Wish) (order : List ℕ) (j k : ℕ)
    → ((i : ℕ) × (i < length order) × (slice_index order i ≡ k))
    → is_same (first_in sites ws order j) (first_in sites ws order k) ≡ together sites (wish_in ws j) (wish_in ws k)
bundles_shared sites ws order j k place =
    let v = wish_in ws j in
    let w = wish_in ws k in
    let p = λ (x : ℕ). together sites v (wish_in ws x) in
    let q = λ (x : ℕ). together sites w (wish_in ws x) in
    both_ways (is_same (find p order) (find q order)) (together sites v w)
    (λ t.
    let (b, at_j, at_k) = is_same_some (find p order) (find q order) t in
    let one = together_parts sites v (wish_in ws b) (find_passes p order b at_j) in
    let other = together_parts sites w (wish_in ws b) (find_passes q order b at_k) in
    together_from sites v w one.1 (sym other.0 ∙ one.0) one.2 (other.2 ∙ sym other.3 ∙ one.3))
    (λ t.
    let parts = together_parts sites v w t in
    let here : p (slice_index order place.0) ≡ true = rw place.2 t in
    let found = find_has p order (list_any_at p order place.0 0 place.1 here) in
    let also : find q order ≡ Some found.0 =
    sym (find_same p q (λ x. alike sites v w (wish_in ws x) parts.1 parts.0 parts.2 parts.3) order) ∙ found.1 in
    some_is_same (find p order) (find q order) found.0 found.1 also)

find_among : (p q : ℕ → Bool) → ((x : ℕ) → p x ≡ true → q x ≡ true) → (xs : List ℕ) → find p (filter q xs) ≡ find p xs
find_among p q weaker [] = refl
find_among p q weaker (x ∷ xs) =
    elim (cases_Bool (q x)) [
      | inl kept ↦ rw (kept, find_among p q weaker xs) refl
      | inr left ↦
          let out : p x ≡ false = false_from_ne_true (p x) (λ t. false≢true (sym left ∙ weaker x t)) in
          rw (left, out) (find_among p q weaker xs)
    ]

-- the first place in the order is the first place of all
pub first_is : (sites : Sites) (ws : List Wish) (order : List ℕ) (k : ℕ) → IsIndex ws order
    → first_in sites ws order k ≡ bundle_of sites ws k
first_is sites ws order k index =
    let c = candidate_in ws k in
    let p = λ (x : ℕ). together sites (wish_in ws k) (wish_in ws x) in
    let q = λ (x : ℕ). candidate_in ws x == c in
    let weaker : (x : ℕ) → p x ≡ true → q x ≡ true = λ x t.
    eq-eqb (candidate_in ws x) c (candidate_there ws x ∙ (together_parts sites (wish_in ws k) (wish_in ws x) t).0
    ∙ sym (candidate_there ws k)) in
    sym (find_among p q weaker order) ∙ ap (find p) (index.own c) ∙ find_among p q weaker (range_with_len 0 (length ws))

-- a list of the wishes' bundles, two of which are the same exactly where the wishes are together
pub record AreBundles (sites : Sites) (ws : List Wish) (bundles : List (Option ℕ)) : Type 0 where
  pub as_long : length bundles ≡ length ws
  pub within : (k : ℕ) → k < length ws → ForSome (number_in bundles k) (λ b. b < length ws)
  pub shared : (j k : ℕ) → j < length ws → k < length ws
      → is_same (number_in bundles j) (number_in bundles k) ≡ together sites (wish_in ws j) (wish_in ws k)

pub range_at : (n k d : ℕ) → k < n → get_or (range_with_len 0 n) k d ≡ k
range_at n k d lt = get_or-range_with_len 0 n k d lt ∙ omega arith

-- all places are below their number
pub below_all : (n : ℕ) → All (λ k. k < n) (range_with_len 0 n)
below_all n i d lt =
    let i_lt : i < n = omega (arith, lt, length-range_with_len 0 n) in
    rw (range_at n i d i_lt) i_lt

pub bundle_in : (sites : Sites) (ws : List Wish) (k : ℕ) → k < length ws
    → number_in (bundles_of sites ws) k ≡ bundle_of sites ws k
bundle_in sites ws k lt =
    unwrap_or-slice_get (bundles_of sites ws) k None
    ∙ get_or-map-range_with_len (bundle_of sites ws) 0 (length ws) k k None lt (omega arith)

pub bundles_are : (sites : Sites) (ws : List Wish) → AreBundles sites ws (bundles_of sites ws)
bundles_are sites ws =
    let n = length ws in
    record {
      as_long = length-map-range_with_len (bundle_of sites ws) 0 n;
      within = λ k lt b e. find_within (λ x. together sites (wish_in ws k) (wish_in ws x)) (range_with_len 0 n) n b
          (below_all n) (sym (bundle_in sites ws k lt) ∙ e);
      shared = λ j k j_lt k_lt.
          rw (bundle_in sites ws j j_lt, bundle_in sites ws k k_lt)
          (bundles_shared sites ws (range_with_len 0 n) j k
          (k, omega (arith, k_lt, length-range_with_len 0 n), range_at n k 0 k_lt));
    }

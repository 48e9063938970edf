-- The later wishes of bundles, listed on the walk in the order of the candidates.
use Rattle.std.proofs.Common.{ℕ, ◌+◌, ◌≤◌, ◌<◌, ◌≡◌, true, List, [], ◌∷◌, ◌++◌, length, set}
use Rattle.std.proofs.Common.{replicate, inl, inr, refl, sym, ◌∙◌, ap, arith, Option, Some, None, subst}
use Rattle.std.specs.Prelude.{slice_index, ◌==◌, All}
use Rattle.std.specs.Option.{ForSome}
use Rattle.std.specs.List.{list_any, range_with_len}
use Rattle.std.proofs.lemmas.Bool.{cases_Bool, cases_eq, eq-eqb, ne_eqb}
use Rattle.std.proofs.lemmas.Option.{unwrap_or-slice_get}
use Rattle.std.proofs.lemmas.List.{set-get_or, length-replicate}
use Rattle.std.proofs.lemmas.List.Elements.{All-append, All-nil}
use Rattle.std.proofs.lemmas.List.Folds.{list_any-append}
use Rattle.admit_core.proofs.NextCalls.{find_passes}
use Rattle.admit_core.proofs.Plain.{or_true}
use Rattle.admit_core.specs.declared.dossier.Wish.{Wish}
use Rattle.day_state.specs.declared.bundle_numbers.Later.{Later}
use Rattle.day_state.specs.declared.bundles.Sites.{Sites}
use Rattle.day_state.specs.Kept.{wish_in, IsIndex}
use Rattle.day_state.specs.Bundles.{site_of, together, number_in, bundle_there, noted, noted_candidate, bundles_of}
use Rattle.day_state.specs.Bundles.{AreSitesBelow, AreTheirs, AreLaters, IsLater, later_at}
use Rattle.day_state.proofs.Numbering.{IsWalked, is_same_some, number_none, number_here, walked_more, theirs_begin}
use Rattle.day_state.proofs.Numbering.{theirs_more, place_of, first_is, bundle_in, bundles_are}

-- the first wish of a bundle is one of the wishes, and is in the bundle
pub record AreFirsts (bundles : List (Option ℕ)) : Type 0 where
  pub within : (k b : ℕ) → k < length bundles → number_in bundles k ≡ Some b → b < length bundles
  pub own : (k b : ℕ) → k < length bundles → number_in bundles k ≡ Some b → number_in bundles b ≡ Some b

pub firsts_are : (sites : Sites) (ws : List Wish) → AreFirsts (bundles_of sites ws)
firsts_are sites ws =
    let n = length ws in
    let bundles = bundles_of sites ws in
    let are = bundles_are sites ws in
    let within : (k b : ℕ) → k < length bundles → number_in bundles k ≡ Some b → b < length bundles = λ k b lt e.
    omega (arith, are.as_long, are.within k (omega (arith, lt, are.as_long)) b e) in
    record {
      within = within;
      own = λ k b lt e.
          let k_in : k < n = omega (arith, lt, are.as_long) in
          let b_in : b < n = omega (arith, within k b lt e, are.as_long) in
          let p = λ (x : ℕ). together sites (wish_in ws k) (wish_in ws x) in
          let joined : together sites (wish_in ws k) (wish_in ws b) ≡ true =
          find_passes p (range_with_len 0 n) b (sym (bundle_in sites ws k k_in) ∙ e) in
          let both = is_same_some (number_in bundles k) (number_in bundles b) (are.shared k b k_in b_in ∙ joined) in
          let same : Some b ≡ Some both.0 = sym e ∙ both.1 in
          both.2 ∙ sym same;
    }

-- the later wishes among the first i of an order
pub record AreLatersTo (bundles : List (Option ℕ)) (order : List ℕ) (i : ℕ) (laters : List Later) : Type 0 where
  pub each : All (IsLater bundles) laters
  pub all : (j b : ℕ) → j < i → number_in bundles (slice_index order j) ≡ Some b → (b ≡ slice_index order j → ⊥)
      → list_any (λ (l : Later). l.wish == slice_index order j) laters ≡ true

laters_none : (bundles : List (Option ℕ)) (order : List ℕ) → AreLatersTo bundles order 0 []
laters_none bundles order = record {
  each = All-nil (IsLater bundles);
  all = λ j b lt e other. absurd (omega arith);
}

one_later : (bundles : List (Option ℕ)) (l : Later) → IsLater bundles l → All (IsLater bundles) (l ∷ [])
one_later bundles l is i d lt = let first : i ≡ 0 = omega arith in rw first is

-- each wish that is listed here is one
listed_are : (bundles : List (Option ℕ)) (x : ℕ) (o : Option ℕ) → AreFirsts bundles → number_in bundles x ≡ o
    → x < length bundles → All (IsLater bundles) (later_at x o)
listed_are bundles x None firsts e lt = All-nil (IsLater bundles)
listed_are bundles x (Some b) firsts e lt =
    elim (cases_Bool (b == x)) [
      | inl own ↦ rw own (All-nil (IsLater bundles))
      | inr other ↦
          rw other
          (one_later bundles (record { wish = x; first = b })
          (record {
            within = lt;
            begins = firsts.within x b lt e;
            bundle = e;
            other = λ (same : b ≡ x). absurd (let yes = eq-eqb b x same in cc);
          }))
    ]

-- and one that is later is listed
listed_has : (x b : ℕ) (o : Option ℕ) → o ≡ Some b → (b ≡ x → ⊥)
    → list_any (λ (l : Later). l.wish == x) (later_at x o) ≡ true
listed_has x b o e other =
    rw (e, ne_eqb b x other, eq-eqb x x refl) refl

laters_more : (bundles : List (Option ℕ)) (order : List ℕ) (i : ℕ) (laters new : List Later) → AreFirsts bundles
    → AreLatersTo bundles order i laters → slice_index order i < length bundles
    → let x = slice_index order i in
    new ≡ laters ++ later_at x (number_in bundles x) → AreLatersTo bundles order (i + 1) new
laters_more bundles order i laters new firsts are lt new_is =
    let x = slice_index order i in
    let o = number_in bundles x in
    rw new_is (record {
      each = All-append (IsLater bundles) laters (later_at x o) are.each (listed_are bundles x o firsts refl lt);
      all = λ j b j_lt e other.
          let test = λ (l : Later). l.wish == slice_index order j in
          list_any-append test laters (later_at x o)
          ∙ elim (cases_eq j i) [
            | inl here ↦
                let found : list_any test (later_at x o) ≡ true =
                rw here (listed_has x b o (rw here at e) (rw here at other)) in
                rw found (or_true (list_any test laters))
            | inr before ↦ rw (are.all j b (omega arith) e other) refl
          ];
    })

-- the way along an order up to i: what came last to each site, and the later wishes
pub record IsFollowed (sites : Sites) (ws : List Wish) (order : List ℕ) (count : ℕ) (last : List (Option ℕ))
    (candidates : List ℕ) (laters : List Later) (i : ℕ) : Type 0 where
  pub walked : IsWalked sites ws order count last (bundles_of sites ws) i
  pub theirs : AreTheirs ws last candidates
  pub listed : AreLatersTo (bundles_of sites ws) order i laters

pub followed_none : (sites : Sites) (ws : List Wish) (order : List ℕ) (count : ℕ) (last : List (Option ℕ))
    (candidates : List ℕ) (laters : List Later) → last ≡ replicate count None → candidates ≡ replicate count 0
    → laters ≡ [] → IsFollowed sites ws order count last candidates laters 0
followed_none sites ws order count last candidates laters last_is candidates_are none = record {
  walked = rw last_is (record {
    sites_long = length-replicate count None;
    long = (bundles_are sites ws).as_long;
    last_at = λ h lt. rw (number_none count h lt) (λ j j_lt e. absurd (omega arith));
    walked = λ j j_lt. absurd (omega arith);
  });
  theirs = theirs_begin ws count last candidates last_is candidates_are;
  listed = rw none (laters_none (bundles_of sites ws) order);
}

module _ (sites : Sites) (ws : List Wish) (order : List ℕ) (count : ℕ) (last : List (Option ℕ))
    (candidates : List ℕ) (laters : List Later) (i : ℕ) (o : Option ℕ) (index : IsIndex ws order)
    (lt : i < length order) (below : AreSitesBelow sites ws count)
    (site : o ≡ site_of sites (wish_in ws (slice_index order i)))
    (way : IsFollowed sites ws order count last candidates laters i) where
  x_in : slice_index order i < length ws
  x_in = index.within i 0 lt

  pub site_in : ForSome o (λ h. h < length last)
  site_in h e =
      omega (arith, below (slice_index order i) x_in h (sym site ∙ e), way.walked.sites_long)

  -- what the walk finds is the wish's bundle
  found_is : bundle_there ws last o (slice_index order i) ≡ number_in (bundles_of sites ws) (slice_index order i)
  found_is =
      let x = slice_index order i in
      let here = λ (h : ℕ) (e : o ≡ Some h). below x x_in h (sym site ∙ e) in
      sym (number_here sites ws order count last (bundles_of sites ws) i o index lt way.walked (sym site) here)
      ∙ first_is sites ws order x index
      ∙ sym (bundle_in sites ws x x_in)

  pub followed_more : (candidate : ℕ) (new_last : List (Option ℕ)) (new_candidates : List ℕ) (new_laters : List Later)
      → let x = slice_index order i in
      (wish_in ws x).candidate ≡ candidate → new_last ≡ noted last o (bundle_there ws last o x)
      → new_candidates ≡ noted_candidate candidates o candidate
      → new_laters ≡ laters ++ later_at x (bundle_there ws last o x)
      → IsFollowed sites ws order count new_last new_candidates new_laters (i + 1)
  followed_more candidate new_last new_candidates new_laters own last_is candidates_are laters_are =
      let x = slice_index order i in
      let bundles = bundles_of sites ws in
      let stays : bundles ≡ set bundles x (bundle_there ws last o x) =
      sym (ap (set bundles x) (found_is ∙ unwrap_or-slice_get bundles x None) ∙ set-get_or bundles x None) in
      record {
        walked = walked_more sites ws order count last bundles new_last bundles i o index lt below site last_is stays
            way.walked;
        theirs = theirs_more ws last candidates new_last new_candidates o x candidate own site_in way.theirs last_is
            candidates_are;
        listed = laters_more bundles order i laters new_laters (firsts_are sites ws) way.listed
            (omega (arith, x_in, (bundles_are sites ws).as_long))
            (laters_are ∙ ap (λ (f : Option ℕ). laters ++ later_at x f) found_is);
      }

-- at the end all are listed
pub followed_all : (sites : Sites) (ws : List Wish) (order : List ℕ) (count : ℕ) (last : List (Option ℕ))
    (candidates : List ℕ) (laters : List Later) (i : ℕ) → IsIndex ws order → length order ≤ i
    → IsFollowed sites ws order count last candidates laters i → AreLaters (bundles_of sites ws) laters
followed_all sites ws order count last candidates laters i index le way = record {
  each = way.listed.each;
  all = λ k b lt e other.
      let (j, j_lt, at_j) = place_of ws order k index (omega (arith, lt, (bundles_are sites ws).as_long)) in
      subst (λ (y : ℕ). list_any (λ (l : Later). l.wish == y) laters ≡ true) at_j
      (way.listed.all j b (omega (arith, j_lt, le)) (rw at_j e) (rw at_j other));
}

-- The lists of a dossier's market name its programmes, none twice.
use Rattle.std.proofs.Common.{ℕ, ◌<◌, ◌≡◌, ◌≢◌, Bool, true, not, ◌&&◌, List, [], ◌∷◌, map, length, get_or, inl, inr}
use Rattle.std.proofs.Common.{refl, sym, ◌∙◌, subst, arith, nat_eq, nat_lt, Option, Some, None}
use Rattle.std.specs.Prelude.{All, is_some}
use Rattle.std.specs.List.{list_any, list_all, AllPairs, IsDistinct}
use Rattle.std.proofs.lemmas.Bool.{and_parts, or_cases, or_left, or_right, eqb-true, lt-ltb, false≢true}
use Rattle.std.proofs.lemmas.Bool.Decides.{Decides-eqb}
use Rattle.std.proofs.lemmas.List.{length-map}
use Rattle.std.proofs.Math.ListN.{get_or-map}
use Rattle.std.proofs.lemmas.List.Elements.{filter_passes, All-filter}
use Rattle.std.proofs.lemmas.List.Folds.{Any-from_list_any}
use Rattle.std.proofs.lemmas.List.Kept.{AllPairs-filter}
use Rattle.std.proofs.lemmas.List.Sorted.{list_any-IsPermutation}
use Rattle.std.proofs.lemmas.Map.Made.{IsDistinct-from_AllPairs}
use Rattle.admit_core.specs.DossierRows.{DossierRows}
use Rattle.admit_core.specs.Lists.{is_among, sorted_by}
use Rattle.admit_core.specs.Validity.{IsValid, IsValidWish, IsApart}
use Rattle.admit_core.specs.declared.dossier.Wish.{Wish}
use Rattle.admit_core.proofs.Tests.{among-map_filter}
use Rattle.admit_core.proofs.SortedLists.{IsPermutation-sorted_by, IsDistinct-sorted_by}
use Rattle.admit_core.proofs.Plain.{any-map}
use Rattle.markets.specs.Markets.{is_list_below}
use Rattle.markets.proofs.Firsts.{all_of}
use Rattle.markets.specs.Dossiers.{counts, counted, named, own, by_preference}
use Rattle.markets.proofs.InTurn.{in_turn_has}
use Rattle.markets.proofs.BelowCount.{is_distinct_from}

-- a wish of a candidate for a programme
abbrev pub is_for : ℕ → ℕ → Wish → Bool
is_for p c w = nat_eq c w.candidate && nat_eq p w.programme

-- a list names a programme where a wish is for it
pub lists_wish : (ws : List Wish) (p c : ℕ) → is_among p (by_preference (own ws c)) ≡ list_any (is_for p c) ws
lists_wish ws p c =
    let key : Wish → ℕ = λ w. w.preference in
    let theirs : List Wish = own ws c in
    any-map (nat_eq p) (λ w. w.programme) (sorted_by key theirs)
    ∙ sym (list_any-IsPermutation (λ w. nat_eq p w.programme) theirs (sorted_by key theirs)
    (IsPermutation-sorted_by key theirs))
    ∙ sym (any-map (nat_eq p) (λ w. w.programme) theirs)
    ∙ among-map_filter (λ w. w.programme) (λ w. nat_eq c w.candidate) p ws

-- who lists something is one of the market's candidates
any_named : (p c : ℕ) (ws : List Wish) → list_any (is_for p c) ws ≡ true → is_among c (map (λ w. w.candidate) ws) ≡ true
any_named p c [] t = absurd (false≢true t)
any_named p c (w ∷ ws) t =
    elim (or_cases (is_for p c w) (list_any (is_for p c) ws) t) [
      | inl here ↦ or_left (nat_eq c w.candidate) (is_among c (map (λ v. v.candidate) ws))
          (and_parts (nat_eq c w.candidate) (nat_eq p w.programme) here).0
      | inr later ↦ or_right (nat_eq c w.candidate) (is_among c (map (λ v. v.candidate) ws)) (any_named p c ws later)
    ]

pub lister_named : (ws : List Wish) (p c : ℕ) → is_among p (by_preference (own ws c)) ≡ true
    → is_among c (named ws) ≡ true
lister_named ws p c t = in_turn_has c (map (λ w. w.candidate) ws) (any_named p c ws (sym (lists_wish ws p c) ∙ t))

no_school : (o : Option ℕ) → not (is_some o) ≡ true → o ≡ None
no_school None t = refl
no_school (Some h) t = absurd (false≢true t)

-- one of the wishes that count passes a test; it is as all wishes are
pub one_counted : (d : DossierRows) (P : Wish → Type 0) (t : Wish → Bool) → All P d.wishes
    → list_any t (counted d) ≡ true
    → (w : Wish) × (P w × (t w ≡ true))
one_counted d P t all some =
    let (k, w, lt, at, passes) = Any-from_list_any t (counted d) some in
    (w, (subst P at (All-filter counts P d.wishes all k w lt), passes))

module _ (d : DossierRows) (valid : IsValid d) where
  -- the wishes of a candidate that count are for different programmes
  own_apart : (c : ℕ) → AllPairs (λ (v w : Wish). v.programme ≢ w.programme) (own (counted d) c)
  own_apart c = λ i j e i_lt j_lt.
      let ws : List Wish = own (counted d) c in
      let is_own : Wish → Bool = λ w. nat_eq c w.candidate in
      let are : AllPairs IsApart ws = AllPairs-filter IsApart is_own (counted d)
      (AllPairs-filter IsApart counts d.wishes valid.wishes_apart) in
      let theirs : All (λ w. is_own w ≡ true) ws = filter_passes is_own (counted d) in
      let count : All (λ w. counts w ≡ true) ws =
      All-filter is_own (λ w. counts w ≡ true) (counted d) (filter_passes counts d.wishes) in
      let v : Wish = get_or ws i e in
      let w : Wish = get_or ws j e in
      let i_in : i < length ws = omega (arith, i_lt, j_lt) in
      let none : (x : Wish) → counts x ≡ true
      → x.school ≡ None = λ x t. no_school x.school (and_parts (nat_lt 0 x.preference) (not (is_some x.school)) t).1 in
      λ same. (are i j e i_lt j_lt).named
      (sym (eqb-true c v.candidate (theirs i e i_in)) ∙ eqb-true c w.candidate (theirs j e j_lt)) same
      (none v (count i e i_in) ∙ sym (none w (count j e j_lt)))

  programmes_apart : (c : ℕ) → IsDistinct nat_eq (map (λ w. w.programme) (own (counted d) c))
  programmes_apart c =
      let ws : List Wish = own (counted d) c in
      let programme : Wish → ℕ = λ w. w.programme in
      IsDistinct-from_AllPairs Decides-eqb (map programme ws) (λ i j e i_lt j_lt same.
      let long : length (map programme ws) ≡ length ws = length-map ws programme in
      let x : Wish = record { id = 0; candidate = 0; programme = e; school = None; board_rank = 0; preference = 0 } in
      own_apart c i j x i_lt (omega (arith, j_lt, long))
      (sym (get_or-map programme ws i x) ∙ same ∙ get_or-map programme ws j x))

  -- so a list is one
  pub is_list_of : (c : ℕ) → is_list_below (length d.programmes) (by_preference (own (counted d) c)) ≡ true
  is_list_of c =
      let list : List ℕ = by_preference (own (counted d) c) in
      let once : IsDistinct nat_eq list = IsDistinct-sorted_by (λ w. w.preference) (λ w. w.programme)
      (own (counted d) c)
      (programmes_apart c) in
      let below : list_all (λ p. nat_lt p (length d.programmes)) list ≡ true =
      all_of (λ p. nat_lt p (length d.programmes)) list (λ p among.
      let (w, (is, for)) = one_counted d (IsValidWish d) (is_for p c) valid.wishes
      (sym (lists_wish (counted d) p c) ∙ among) in
      let same : p ≡ w.programme = eqb-true p w.programme (and_parts (nat_eq c w.candidate)
      (nat_eq p w.programme) for).1 in
      lt-ltb p (length d.programmes) (omega (arith, same, is.programme))) in
      rw (is_distinct_from list once, below) refl

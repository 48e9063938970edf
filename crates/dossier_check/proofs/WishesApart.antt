-- Two wishes of the dossier are apart.
use Rattle.std.proofs.Common.{◌≡◌, ◌↔◌, ℕ, ◌+◌, ◌<◌, Bool, true, false, not, ◌&&◌, ◌||◌, nat_eq, nat_lt, List, [], ◌∷◌}
use Rattle.std.proofs.Common.{if◌then◌else◌, length, find, get_or, take, drop, option_map, Option, Some, None, IsSome}
use Rattle.std.proofs.Common.{refl, sym, ap, ◌∙◌, arith, true≢false, AllPairs, drop-cons}
use Rattle.std.specs.List.{list_any, enumerate_from}
use Rattle.std.specs.Option.{option_map_or, option_or}
use Rattle.std.proofs.lemmas.Bool.Decides.{nat_tests}
use Rattle.std.proofs.lemmas.Bool.{and_parts, and_from}
use Rattle.std.proofs.lemmas.List.{take-append-drop}
use Rattle.std.proofs.lemmas.List.Folds.{find-append, list_any_at}
use Rattle.std.proofs.lemmas.Option.{same_Some}
use Rattle.admit_core.proofs.Plain.{mapped_none}
use Rattle.admit_core.proofs.NoFaults.{Passes}
use Rattle.admit_core.specs.declared.tables.BoardRow.{BoardRow}
use Rattle.admit_core.specs.declared.tables.WishRow.{WishRow}
use Rattle.admit_core.specs.declared.tables.Tables.{Tables}
use Rattle.admit_core.specs.declared.refusal.Reason.TheVariants.{PreferenceMixed}
use Rattle.admit_core.specs.Lists.{is_among}
use Rattle.admit_core.specs.Relations.{programme_ids, school_ids, same_school, is_boarded, are_mixed, mixed_with}
use Rattle.admit_core.specs.Relations.{first_wish_of, preference_mixed}
use Rattle.admit_core.specs.Standing.{place_of, board_rank_of, wish_of_row, dossier_of}
use Rattle.admit_core.specs.Validity.{IsApart}
use Rattle.dossier_check.proofs.Found.{not_found}
use Rattle.dossier_check.proofs.NoFault.{HasNoFault}
use Rattle.dossier_check.proofs.Pairs.{all_pairs_map, same_at}
use Rattle.dossier_check.proofs.Places.{IsFound, found, any_some, nat_eq_sound, nat_eq_same, nat_eq_self, same_place}
use Rattle.dossier_check.proofs.RowFacts.{same_wish_apart, programmes_known, schools_known, all_boarded}
use Rattle.dossier_check.proofs.RowFacts.{board_ranks_apart, preferences_apart}

find-enumerate_from : {X : Type 0} (p : X → Bool) (n : ℕ) (xs : List X) (x : X) → find p xs ≡ Some x
    → (m : ℕ) × (find (λ y. p y.1) (enumerate_from n xs) ≡ Some (m, x))
find-enumerate_from p n [] x e = cc
find-enumerate_from {X} p n (y ∷ ys) x e = by (p y) refl (find-enumerate_from p (n + 1) ys x)
  where
    by : (b : Bool) → p y ≡ b
        → (find p ys ≡ Some x → (m : ℕ) × (find (λ y. p y.1) (enumerate_from (n + 1) ys) ≡ Some (m, x)))
        → (m : ℕ) × (find (λ y. p y.1) (enumerate_from n (y ∷ ys)) ≡ Some (m, x))
    by true f rest = let same : y ≡ x = cc (rw f at e) in (n, rw (f, same) refl)
    by false f rest = let later = rest (rw f at e) in (later.0, rw f later.1)

unmixed : (a b : Bool) → (not a && b || a && not b) ≡ false → a ≡ b
unmixed true true e = refl
unmixed true false e = cc
unmixed false true e = cc
unmixed false false e = refl

self_unmixed : (a : Bool) → (not a && a || a && not a) ≡ false
self_unmixed true = refl
self_unmixed false = refl

if_unmixed : (b : Bool) (n : ℕ) → (if b then Some n else None) ≡ None → b ≡ false
if_unmixed true n e = cc
if_unmixed false n e = refl

-- all wishes of a candidate have a preference, or none has
module _ (rows : List WishRow) (fine : Passes preference_mixed rows) where
  unlike_first : (before : List WishRow) (row first : WishRow)
      → find (λ r. nat_eq row.candidate r.candidate) before ≡ Some first → preference_mixed before row ≡ None
      → are_mixed row first ≡ false
  unlike_first before row first e none =
      let (m, is) = find-enumerate_from (λ r. nat_eq row.candidate r.candidate) 2 before first e in
      let at : option_map_or (mixed_with row) (first_wish_of before row.candidate) None ≡ None =
      mapped_none PreferenceMixed (option_map_or (mixed_with row) (first_wish_of before row.candidate) None) none in
      if_unmixed (are_mixed row first) m (rw is at at)

  like_first : (k : ℕ) (d first : WishRow) → k < length rows
      → find (λ r. nat_eq (get_or rows k d).candidate r.candidate) rows ≡ Some first
      → nat_eq (get_or rows k d).preference 0 ≡ nat_eq first.preference 0
  like_first k d first lt e = by (list_any test (take k rows)) refl
    where
      row : WishRow
      row = get_or rows k d

      test : WishRow → Bool
      test r = nat_eq row.candidate r.candidate

      by : (b : Bool) → list_any test (take k rows) ≡ b → nat_eq row.preference 0 ≡ nat_eq first.preference 0
      by true any =
          let (other, is) = any_some test (take k rows) any in
          let both : option_or (find test (take k rows)) (find test (drop k rows)) ≡ Some first =
          sym (find-append test (take k rows) (drop k rows)) ∙ ap (find test) (take-append-drop k rows) ∙ e in
          let same : other ≡ first = same_Some _ _ (rw is at both) in
          let mixed : are_mixed row other ≡ false = unlike_first (take k rows) row other is (fine.at k d lt) in
          unmixed _ _ mixed ∙ ap (λ r. nat_eq r.preference 0) same
      by false none =
          let both : option_or (find test (take k rows)) (find test (drop k rows)) ≡ Some first =
          sym (find-append test (take k rows) (drop k rows)) ∙ ap (find test) (take-append-drop k rows) ∙ e in
          let here : find test (drop k rows) ≡ Some row = rw (drop-cons rows k d lt, nat_eq_self row.candidate) refl in
          let same : row ≡ first = same_Some _ _ (rw (not_found test (take k rows) none, here) at both) in
          ap (λ r. nat_eq r.preference 0) same

  -- of two wishes of a candidate both have a preference, or neither has
  pub alike : (i j : ℕ) (d : WishRow) → i < length rows → j < length rows
      → (get_or rows i d).candidate ≡ (get_or rows j d).candidate
      → nat_eq (get_or rows i d).preference 0 ≡ nat_eq (get_or rows j d).preference 0
  alike i j d in_i in_j candidates =
      let own : WishRow → Bool = λ r. nat_eq (get_or rows j d).candidate r.candidate in
      let any : list_any own rows ≡ true =
      list_any_at own rows j d in_j (nat_eq_self (get_or rows j d).candidate) in
      let (first, is) = any_some own rows any in
      like_first i d first in_i (rw candidates is) ∙ sym (like_first j d first in_j is)

true_parts : (a b c : Bool) → a ≡ true → b ≡ true → c ≡ true → (a && b && c) ≡ false → ⊥
true_parts true true true ea eb ec e = cc
true_parts false b c ea eb ec e = cc
true_parts true false c ea eb ec e = cc
true_parts true true false ea eb ec e = cc

zero_is : (m : ℕ) → nat_eq m 0 ≡ true → m ≡ 0
zero_is m e = nat_eq_sound m 0 e

module _ (t : Tables) (fine : HasNoFault t) where
  -- schools of the same place are the same
  schools_same : (a b : Option ℕ) → option_map_or (λ h. is_among h (school_ids t)) a true ≡ true
      → option_map_or (λ h. is_among h (school_ids t)) b true ≡ true
      → option_map (place_of (school_ids t)) a ≡ option_map (place_of (school_ids t)) b → a ≡ b
  schools_same None None known_a known_b same = refl
  schools_same None (Some k) known_a known_b same = cc
  schools_same (Some h) None known_a known_b same = cc
  schools_same (Some h) (Some k) known_a known_b same =
      ap Some (same_place (school_ids t) h k known_a known_b (same_Some _ _ same))

  same_school_self : (a : Option ℕ) → same_school a a ≡ true
  same_school_self None = refl
  same_school_self (Some h) = nat_eq_self h

  -- in one school two candidates have different ranks
  one_candidate : (school c e : ℕ) → is_boarded t school c ≡ true → is_boarded t school e ≡ true
      → board_rank_of t c (Some school) ≡ board_rank_of t e (Some school) → c ≡ e
  one_candidate school c e has_c has_e same =
      let row_of : ℕ → BoardRow → Bool = λ x b. nat_eq school b.school && nat_eq x b.candidate in
      let (a, a_is) = any_some (row_of c) t.boarding has_c in
      let (b, b_is) = any_some (row_of e) t.boarding has_e in
      let at_a : IsFound (row_of c) t.boarding a = found (row_of c) t.boarding a a_is in
      let at_b : IsFound (row_of e) t.boarding b = found (row_of e) t.boarding b b_is in
      let a_parts = and_parts (nat_eq school a.school) (nat_eq c a.candidate) at_a.passes in
      let b_parts = and_parts (nat_eq school b.school) (nat_eq e b.candidate) at_b.passes in
      let ranks : a.rank ≡ b.rank = rw (a_is, b_is) at same in
      let school_a : school ≡ a.school = nat_eq_sound school a.school a_parts.0 in
      let school_b : school ≡ b.school = nat_eq_sound school b.school b_parts.0 in
      let here : get_or t.boarding at_a.place a ≡ a = at_a.is a in
      let there : get_or t.boarding at_b.place a ≡ b = at_b.is a in
      let forth : (nat_eq a.school b.school && nat_eq a.rank b.rank) ≡ true =
      and_from _ _ (nat_eq_same a.school b.school (sym school_a ∙ school_b)) (nat_eq_same a.rank b.rank ranks) in
      let back : (nat_eq b.school a.school && nat_eq b.rank a.rank) ≡ true =
      and_from _ _ (nat_eq_same b.school a.school (sym school_b ∙ school_a)) (nat_eq_same b.rank a.rank (sym ranks)) in
      let places : at_a.place ≡ at_b.place =
      same_at (λ row r. nat_eq row.school r.school && nat_eq row.rank r.rank) t.boarding
      (board_ranks_apart t fine) at_a.place at_b.place a at_a.within at_b.within
      (rw (here, there) forth) (rw (here, there) back) in
      let rows : a ≡ b = sym here ∙ ap (λ i. get_or t.boarding i a) places ∙ there in
      nat_eq_sound c a.candidate a_parts.1 ∙ ap (λ r. r.candidate) rows ∙ sym (nat_eq_sound e b.candidate b_parts.1)

  ranks_differ : (a b : Option ℕ) (c e : ℕ) → option_map_or (λ h. is_boarded t h c) a true ≡ true
      → option_map_or (λ h. is_boarded t h e) b true ≡ true
      → a ≡ b → IsSome a → (board_rank_of t c a ≡ board_rank_of t e b) ↔ (c ≡ e)
  ranks_differ None b c e has_c has_e same some = absurd (true≢false (sym some))
  ranks_differ (Some h) None c e has_c has_e same some = cc
  ranks_differ (Some h) (Some k) c e has_c has_e same some =
      let school : k ≡ h = sym (same_Some h k same) in
      let other : is_boarded t h e ≡ true = rw school at has_e in (
        λ ranks. one_candidate h c e has_c other (ranks ∙ ap (λ s. board_rank_of t e (Some s)) school),
        λ candidates. ap (λ x. board_rank_of t x (Some h)) candidates
            ∙ ap (λ s. board_rank_of t e (Some s)) (sym school),
      )

  module _ (i j : ℕ) (d : WishRow) (lt : i < j) (in_j : j < length t.wishes) where
    in_i : i < length t.wishes
    in_i = omega arith

    abbrev v : WishRow
    v = get_or t.wishes i d

    abbrev w : WishRow
    w = get_or t.wishes j d

    schools_of : option_map (place_of (school_ids t)) v.school ≡ option_map (place_of (school_ids t)) w.school
        → v.school ≡ w.school
    schools_of same = schools_same v.school w.school (schools_known t fine i d in_i)
        (schools_known t fine j d in_j) same

    differ : v.candidate ≡ w.candidate → place_of (programme_ids t) v.programme ≡ place_of (programme_ids t) w.programme
        → option_map (place_of (school_ids t)) v.school ≡ option_map (place_of (school_ids t)) w.school → ⊥
    differ candidates programmes schools =
        let programme : v.programme ≡ w.programme =
        same_place (programme_ids t) v.programme w.programme (programmes_known t fine i d in_i)
        (programmes_known t fine j d in_j) programmes in
        let school : same_school w.school v.school ≡ true = rw (schools_of schools) (same_school_self w.school) in
        true_parts (nat_eq w.candidate v.candidate) (nat_eq w.programme v.programme) (same_school w.school v.school)
        (nat_eq_same w.candidate v.candidate (sym candidates))
        (nat_eq_same w.programme v.programme (sym programme)) school
        (same_wish_apart t fine i j d lt in_j)

    some_school : (s : Option ℕ) → IsSome (option_map (place_of (school_ids t)) s) → IsSome s
    some_school None some = some
    some_school (Some h) some = refl

    -- both have a preference, or neither has
    like : v.candidate ≡ w.candidate → nat_eq v.preference 0 ≡ nat_eq w.preference 0
    like candidates = alike t.wishes fine.wishes.like_first i j d in_i in_j candidates

    twice : v.candidate ≡ w.candidate → v.preference ≡ w.preference → v.preference ≡ 0
    twice candidates same = by (nat_lt 0 w.preference) refl
      where
        by : (b : Bool) → nat_lt 0 w.preference ≡ b → v.preference ≡ 0
        by true e =
            absurd (true≢false (sym (and_from _ _ (nat_eq_same w.candidate v.candidate (sym candidates))
            (nat_eq_same w.preference v.preference (sym same))) ∙ preferences_apart t fine i j d lt in_j e))
        by false e = let none : w.preference ≡ 0 = grind (arith, nat_tests) in same ∙ none

    apart_rows : IsApart (wish_of_row t v) (wish_of_row t w)
    apart_rows = record {
      named = differ;
      ranks = λ some same. ranks_differ v.school w.school v.candidate w.candidate (all_boarded t fine i d in_i)
          (all_boarded t fine j d in_j) (schools_of same) (some_school v.school some);
      both_ranked = λ candidates. (
        λ zero. zero_is w.preference (sym (like candidates) ∙ nat_eq_same v.preference 0 zero),
        λ zero. zero_is v.preference (like candidates ∙ nat_eq_same w.preference 0 zero),
      );
      preferences = twice;
    }

  pub wishes_apart : AllPairs IsApart (dossier_of t).wishes
  wishes_apart = all_pairs_map IsApart (wish_of_row t) t.wishes apart_rows

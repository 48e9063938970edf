-- Wishes in another order: tests that stand at none of them there stand at none in the order of the file.
use Rattle.std.proofs.Common.{◌≡◌, ℕ, ◌+◌, ◌<◌, Bool, true, false, not, ◌&&◌, ◌||◌, nat_eq, nat_lt, List, [], ◌∷◌}
use Rattle.std.proofs.Common.{if◌then◌else◌, length, find, get_or, map, take, Option, Some, None, refl, sym, ap, ◌∙◌}
use Rattle.std.proofs.Common.{AllPairs, arith}
use Rattle.std.specs.List.{IsDistinct, enumerate_from}
use Rattle.std.specs.List.Sorted.{IsPermutation}
use Rattle.std.specs.Option.{option_map_or}
use Rattle.std.proofs.lemmas.List.Sorted.{All-permutation, IsPermutation-map, IsPermutation-sym, list_any-IsPermutation}
use Rattle.std.proofs.lemmas.Map.Keys.{IsDistinct-IsPermutation, IsDistinct-from_apart, apart_from_distinct}
use Rattle.std.proofs.lemmas.Option.{same_Some}
use Rattle.admit_core.proofs.NoFaults as NoFaults
use Rattle.admit_core.proofs.NoFaults.{Passes, PassesAll, and_then, before_row, differ, differ_when, no_tests, none_in}
use Rattle.admit_core.proofs.Plain.{nat_eq_sym}
use Rattle.admit_core.specs.declared.refusal.Reason.{Reason}
use Rattle.admit_core.specs.declared.refusal.Reason.TheVariants.{Repeat, Unknown, Unranked, NoBoardingRank}
use Rattle.admit_core.specs.declared.refusal.Reason.TheVariants.{PreferenceTaken}
use Rattle.admit_core.specs.declared.slot.Slot.TheVariants as slots
use Rattle.admit_core.specs.declared.tables.Tables.{Tables}
use Rattle.admit_core.specs.declared.tables.WishRow.{WishRow}
use Rattle.admit_core.specs.Faults.{first_in, repeats}
use Rattle.admit_core.specs.Lists.{is_among}
use Rattle.admit_core.specs.Relations.{same_school, same_wish, programme_ids, school_ids, is_ranked, is_boarded}
use Rattle.admit_core.specs.Relations.{are_mixed, first_wish_of, preference_mixed, preference_taken}
use Rattle.admit_core.specs.Relations.{wish_tests}
use Rattle.dossier_check.specs.RowsBefore.{KnowsCandidates}
use Rattle.dossier_check.specs.Wished.{has_preference}
use Rattle.dossier_check.specs.WishTests.{id_repeats, other_tests}
use Rattle.dossier_check.proofs.FaultFree.{first_passes, rest_pass, pass_all, apart, apart_when, all_known}
use Rattle.dossier_check.proofs.Places.{IsFound, found, nat_eq_sound}
use Rattle.dossier_check.proofs.WishesApart.{alike}

-- what no two have in common, no two have in another order
pairs_moved : {R : Type 0} (same : R → R → Bool) → ((a b : R) → same a b ≡ same b a) → (xs ys : List R)
    → IsPermutation xs ys → AllPairs (λ r row. same row r ≡ false) xs → AllPairs (λ r row. same row r ≡ false) ys
pairs_moved same flips xs ys moved pairs i j d lt within =
    let apart : IsDistinct same xs =
    IsDistinct-from_apart same xs (λ m n e m_lt n_lt. flips (get_or xs m e) (get_or xs n e) ∙ pairs m n e m_lt n_lt) in
    flips (get_or ys j d) (get_or ys i d)
    ∙ apart_from_distinct same ys i j d (IsDistinct-IsPermutation same flips xs ys moved apart) lt within

school_flips : (a b : Option ℕ) → same_school a b ≡ same_school b a
school_flips None None = refl
school_flips None (Some k) = refl
school_flips (Some h) None = refl
school_flips (Some h) (Some k) = nat_eq_sym h k

wish_flips : (a b : WishRow) → same_wish a b ≡ same_wish b a
wish_flips a b =
    rw (
      nat_eq_sym a.candidate b.candidate,
      nat_eq_sym a.programme b.programme,
      school_flips a.school b.school,
    )
    refl

none_of : (a b : Bool) → (a && (b && false)) ≡ false
none_of true true = refl
none_of true false = refl
none_of false b = refl

taken_flips : (c e p q : ℕ) → (nat_lt 0 p && (nat_eq c e && nat_eq p q)) ≡ (nat_lt 0 q && (nat_eq e c && nat_eq q p))
taken_flips c e p q = by (nat_eq p q) refl
  where
    by : (b : Bool) → nat_eq p q ≡ b
        → (nat_lt 0 p && (nat_eq c e && nat_eq p q)) ≡ (nat_lt 0 q && (nat_eq e c && nat_eq q p))
    by true is = rw (nat_eq_sound p q is, nat_eq_sym c e) refl
    by false is = let back : nat_eq q p ≡ false = nat_eq_sym q p ∙ is in
        rw (is, back) (none_of (nat_lt 0 p) (nat_eq c e) ∙ sym (none_of (nat_lt 0 q) (nat_eq e c)))

mixed_flips : (a b : Bool) → (not a && b || a && not b) ≡ (not b && a || b && not a)
mixed_flips true true = refl
mixed_flips true false = refl
mixed_flips false true = refl
mixed_flips false false = refl

alike_not_mixed : (a b : Bool) → a ≡ b → (not a && b || a && not b) ≡ false
alike_not_mixed true true e = refl
alike_not_mixed true false e = cc
alike_not_mixed false true e = cc
alike_not_mixed false false e = refl

when_false : (a b : Bool) → (a ≡ true → b ≡ false) → (a && b) ≡ false
when_false true b f = f refl
when_false false b f = refl

second_false : (a b : Bool) → (a && b) ≡ false → a ≡ true → b ≡ false
second_false true b f e = f
second_false false b f e = cc

-- whether two wishes share a preference, and whether one of a candidate's two wishes alone has one
abbrev shares : WishRow → WishRow → Bool
shares row r = nat_eq row.candidate r.candidate && nat_eq row.preference r.preference

abbrev takes : WishRow → WishRow → Bool
takes row r = has_preference row && shares row r

abbrev unlike : WishRow → WishRow → Bool
unlike row r = nat_eq row.candidate r.candidate && are_mixed row r

unlike_flips : (a b : WishRow) → unlike a b ≡ unlike b a
unlike_flips a b =
    rw (nat_eq_sym a.candidate b.candidate)
    (ap (λ m. nat_eq b.candidate a.candidate && m) (mixed_flips (nat_eq a.preference 0) (nat_eq b.preference 0)))

find_unnumbered : {X : Type 0} (p : X → Bool) (n : ℕ) (xs : List X) (first : ℕ × X)
    → find (λ y. p y.1) (enumerate_from n xs) ≡ Some first → find p xs ≡ Some first.1
find_unnumbered p n [] first e = cc
find_unnumbered {X} p n (x ∷ xs) first e = by (p x) refl (find_unnumbered p (n + 1) xs first)
  where
    by : (b : Bool) → p x ≡ b
        → (find (λ y. p y.1) (enumerate_from (n + 1) xs) ≡ Some first → find p xs ≡ Some first.1)
        → find p (x ∷ xs) ≡ Some first.1
    by true f rest =
        let same : (n, x) ≡ first = same_Some (n, x) first (rw f at e) in
        rw f (ap (λ (y : ℕ × X). Some y.1) same)
    by false f rest = rw f (rest (rw f at e))

-- a wish that is like all before it
none_mixed : (before : List WishRow) (row d : WishRow)
    → ((j : ℕ) → j < length before → unlike row (get_or before j d) ≡ false) → preference_mixed before row ≡ None
none_mixed before row d none = by (first_wish_of before row.candidate) refl
  where
    by : (o : Option (ℕ × WishRow)) → first_wish_of before row.candidate ≡ o → preference_mixed before row ≡ None
    by None e = rw e refl
    by (Some first) e =
        let own : WishRow → Bool = λ r. nat_eq row.candidate r.candidate in
        let at : IsFound own before first.1 = found own before first.1 (find_unnumbered own 2 before first e) in
        let here : unlike row first.1 ≡ false = rw (at.is d) at (none at.place at.within) in
        let fine : are_mixed row first.1 ≡ false = second_false (own first.1) (are_mixed row first.1) here at.passes in
        rw (e, fine) refl

like_pairs : (rows : List WishRow) → Passes preference_mixed rows → AllPairs (λ r row. unlike row r ≡ false) rows
like_pairs rows fine i j d lt within =
    let r = get_or rows i d in
    let row = get_or rows j d in
    when_false (nat_eq row.candidate r.candidate) (are_mixed row r)
    (λ e. alike_not_mixed (nat_eq row.preference 0) (nat_eq r.preference 0)
    (alike rows fine j i d within (omega arith) (nat_eq_sound row.candidate r.candidate e)))

like_passes : (rows : List WishRow) → AllPairs (λ r row. unlike row r ≡ false) rows → Passes preference_mixed rows
like_passes rows pairs =
    record {
      at = λ k d lt. none_mixed (take k rows) (get_or rows k d) d
          (before_row (λ row r. unlike row r ≡ false) rows pairs k d lt);
    }

module _ (t : Tables) (ordered rows : List WishRow) (moved : IsPermutation ordered rows) where
  known_moved : (known : WishRow → Bool) (reason : Reason)
      → Passes (λ before row. if known row then None else Some reason) ordered
      → Passes (λ before row. if known row then None else Some reason) rows
  known_moved known reason fine =
      NoFaults.all_known known reason rows
      (All-permutation (λ row. known row ≡ true) ordered rows moved (all_known known reason ordered fine))

  once_moved : Passes (repeats same_wish) ordered → Passes (repeats same_wish) rows
  once_moved fine =
      differ same_wish Repeat rows
      (pairs_moved same_wish wish_flips ordered rows moved (apart same_wish Repeat ordered fine))

  taken_moved : Passes preference_taken ordered → Passes preference_taken rows
  taken_moved fine =
      let before : AllPairs (λ r row. has_preference row ≡ true → shares row r ≡ false) ordered =
      apart_when shares PreferenceTaken ordered has_preference fine in
      let after : AllPairs (λ r row. takes row r ≡ false) rows =
      pairs_moved takes (λ a b. taken_flips a.candidate b.candidate a.preference b.preference) ordered rows moved
      (λ i j d lt within. when_false _ _ (before i j d lt within)) in
      differ_when has_preference shares PreferenceTaken rows
      (λ i j d lt within. second_false _ _ (after i j d lt within))

  mixed_moved : Passes preference_mixed ordered → Passes preference_mixed rows
  mixed_moved fine = like_passes rows (pairs_moved unlike unlike_flips ordered rows moved (like_pairs ordered fine))

  passes_again : PassesAll (other_tests t) ordered → PassesAll (other_tests t) rows
  passes_again from_once =
      let from_programmes = rest_pass from_once in
      let from_schools = rest_pass from_programmes in
      let from_ranked = rest_pass from_schools in
      let from_boarded = rest_pass from_ranked in
      let from_mixed = rest_pass from_boarded in
      let from_taken = rest_pass from_mixed in
      and_then (once_moved (first_passes from_once))
      (and_then (known_moved (λ row. is_among row.programme (programme_ids t)) (Unknown 3)
      (first_passes from_programmes))
      (and_then (known_moved (λ row. option_map_or (λ h. is_among h (school_ids t)) row.school true) (Unknown 4)
      (first_passes from_schools))
      (and_then (known_moved (λ row. is_ranked t row.programme row.candidate) Unranked (first_passes from_ranked))
      (and_then (known_moved (λ row. option_map_or (λ h. is_boarded t h row.candidate) row.school true) NoBoardingRank
      (first_passes from_boarded))
      (and_then (mixed_moved (first_passes from_mixed)) (and_then (taken_moved (first_passes from_taken)) no_tests))))))

-- wishes that have no fault in another order, but maybe of their ids, have none
pub no_fault_moved : (t : Tables) (rows ordered : List WishRow) → IsPermutation rows ordered
    → first_in slots.Wishes (other_tests t) ordered ≡ None → first_in slots.Wishes (other_tests t) rows ≡ None
no_fault_moved t rows ordered moved none =
    none_in slots.Wishes (other_tests t) rows
    (passes_again t ordered rows (IsPermutation-sym rows ordered moved)
    (pass_all slots.Wishes (other_tests t) ordered none))

-- no fault of the ids, and none of the rest
pub no_wish_fault : (t : Tables) → first_in slots.Wishes (id_repeats ∷ []) t.wishes ≡ None
    → first_in slots.Wishes (other_tests t) t.wishes ≡ None → first_in slots.Wishes (wish_tests t) t.wishes ≡ None
no_wish_fault t ids others =
    none_in slots.Wishes (wish_tests t) t.wishes
    (and_then (first_passes (pass_all slots.Wishes (id_repeats ∷ []) t.wishes ids))
    (pass_all slots.Wishes (other_tests t) t.wishes others))

-- who has a wish in one order has one in the other
pub candidates_moved : (candidates : List ℕ) (rows ordered : List WishRow) → IsPermutation rows ordered
    → KnowsCandidates candidates ordered → KnowsCandidates candidates rows
candidates_moved candidates rows ordered moved knows candidate =
    knows candidate
    ∙ list_any-IsPermutation (nat_eq candidate) (map (λ w. w.candidate) ordered) (map (λ w. w.candidate) rows)
    (IsPermutation-map (λ w. w.candidate) ordered rows (IsPermutation-sym rows ordered moved))

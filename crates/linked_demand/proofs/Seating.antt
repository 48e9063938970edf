-- What is known of the wishes of a dossier, programme by programme and candidate by candidate.
use Rattle.std.proofs.Common.{ℕ, zero, suc, ◌+◌, ◌≤◌, ◌<◌, ◌≡◌, Bool, true, false, ◌&&◌, ◌||◌, List, [], ◌∷◌, ◌++◌, map}
use Rattle.std.proofs.Common.{length, take, get_or, inl, inr, refl, sym, ◌∙◌, ap, arith, nat_eq, nat_lt, Some}
use Rattle.std.proofs.Common.{subst}
use Rattle.std.specs.Prelude.{slice_get, All, if◌then◌else◌}
use Rattle.std.specs.List.{before_first, list_any, range_with_len, IsDistinct}
use Rattle.std.proofs.lemmas.Bool.{cases_Bool, cases_order, false≢true, eqb-true, eq-eqb, le-ltb, ltb-true, lt-ltb}
use Rattle.std.proofs.lemmas.Bool.{ne_eqb}
use Rattle.std.proofs.lemmas.Bool.{or_left, or_right, or_cases, or_from, and_parts, and_from}
use Rattle.std.proofs.lemmas.List.FromFn.{map-range_with_len_more}
use Rattle.std.proofs.lemmas.Map.Steps.{length-le_from_distinct_below}
use Rattle.std.proofs.lemmas.List.{length-replicate, get_or-replicate}
use Rattle.std.proofs.lemmas.Option.{slice_get_within}
use Rattle.admit_core.specs.declared.dossier.Wish.{Wish}
use Rattle.admit_core.specs.declared.ranking.CallOrder.{CallOrder}
use Rattle.admit_core.specs.declared.ranking.RankGroup.{RankGroup}
use Rattle.admit_core.specs.CallOrder.{AreCallOrders}
use Rattle.admit_core.specs.DossierRows.{DossierRows, group_of, limit_of}
use Rattle.admit_core.specs.Validity.{IsValid, IsValidGroup}
use Rattle.admit_core.proofs.ClosedEvenings.{among_filter}
use Rattle.admit_core.proofs.OrderPermutes.{distinct-order}
use Rattle.admit_core.specs.Lists.{is_among}
use Rattle.admit_core.specs.Proposals.{order_of}
use Rattle.day_state.specs.Kept.{wish_in}
use Rattle.proposals.specs.Called.{AreCalled}
use Rattle.proposals.proofs.Front.{among_more}
use Rattle.linked_demand.specs.Called.{order_at}
use Rattle.linked_demand.specs.Links.{IsPlaceOf, claim_of}
use Rattle.linked_demand.specs.Notes.{IsNoted, Noted, nothing_noted}
use Rattle.linked_demand.specs.Opens.{applies_in, line_of}
use Rattle.linked_demand.specs.Seats.{AreSeated, IsLineup, is_below, is_called_by_limit, is_passed}
use Rattle.linked_demand.proofs.Lining.{among_claim, among_some, applies_claim, le_next, place_at, wish_in_is}

-- what holds where these are done holds where the same are
pub seated_by : (s : DossierRows) (orders : List CallOrder) (old new : ℕ → ℕ → Bool) (notes : Noted)
    → ((i : ℕ) (w : Wish) → slice_get s.wishes i ≡ Some w → new w.programme w.candidate
    ≡ old w.programme w.candidate)
    → AreSeated s orders old notes → AreSeated s orders new notes
seated_by s orders old new notes same are = record {
  one_each = are.one_each;
  place = λ i w at t. are.place i w at (sym (same i w at) ∙ t);
  called = λ i w at. are.called i w at ∙ ap (λ b. b && is_called_by_limit s orders w) (sym (same i w at));
}

one_more : (below here among one : Bool) → (below || (here && (among || one)))
    ≡ ((below || (here && among)) || (one && here))
one_more true here among one = refl
one_more false true true one = refl
one_more false true false true = refl
one_more false true false false = refl
one_more false false among true = refl
one_more false false among false = refl

-- a flag that is put for one more
flag_more : (done own test holds : Bool) → (own ≡ true → test ≡ holds)
    → (if own then test else (done && holds)) ≡ ((done || own) && holds)
flag_more done true test holds is = is refl ∙ own_holds done holds
  where
    own_holds : (a b : Bool) → b ≡ ((a || true) && b)
    own_holds true b = refl
    own_holds false b = refl
flag_more true false test holds is = refl
flag_more false false test holds is = refl

module _ (s : DossierRows) (orders : List CallOrder) (n : ℕ) (order : List ℕ) (i x : ℕ)
    (lt : i < length order) (x_is : x ≡ get_or order i 0) where
  -- who is done now was done, or is this one in this programme
  done_now : (w : Wish) → is_passed n (take (i + 1) order) w.programme w.candidate
      ≡ (is_passed n (take i order) w.programme w.candidate || (nat_eq w.candidate x && nat_eq w.programme n))
  done_now w =
      let more : is_among w.candidate (take (i + 1) order)
      ≡ (is_among w.candidate (take i order) || nat_eq w.candidate x) =
      among_more w.candidate order i lt ∙ ap (λ y. is_among w.candidate (take i order) || nat_eq w.candidate y)
      (sym x_is) in
      ap (λ b. nat_lt w.programme n || (nat_eq w.programme n && b)) more
      ∙ one_more (nat_lt w.programme n) (nat_eq w.programme n) (is_among w.candidate (take i order))
      (nat_eq w.candidate x)

  -- for one who has a claim their place is noted
  pub seated_more : (notes new : Noted) (place : ℕ) (is_called : Bool)
      → order ≡ line_of s orders n → IsDistinct nat_eq order
      → is_called ≡ nat_lt (length (before_first (nat_eq x) (order_of s orders n))) (limit_of s n) → place ≡ i
      → AreSeated s orders (is_passed n (take i order)) notes
      → IsNoted (claim_of s n x) place is_called notes new
      → AreSeated s orders (is_passed n (take (i + 1) order)) new
  seated_more notes new place is_called is apart called_is place_is are noted =
      let claim = claim_of s n x in
      let done = is_passed n (take i order) in
      let within : (j : ℕ) (w : Wish) → slice_get s.wishes j ≡ Some w → j < length notes.places =
      λ j w at. omega (arith, slice_get_within s.wishes j w at, are.one_each) in
      let put : (j : ℕ) (w : Wish) → slice_get s.wishes j ≡ Some w → get_or new.places j 0
      ≡ (if (nat_eq w.candidate x && nat_eq w.programme n) then place else get_or notes.places j 0) =
      λ j w at. noted.places_are j (within j w at)
      ∙ ap (λ b. if b then place else get_or notes.places j 0) (among_claim s n x j w at) in
      let line_place : IsPlaceOf x (line_of s orders n) place =
      let P = λ (o : List ℕ). IsPlaceOf x o place in
      let Q = λ (k : ℕ). IsPlaceOf x order k in
      let R = λ (c : ℕ). IsPlaceOf c order i in
      subst P is (subst Q (sym place_is) (subst R (sym x_is) (place_at order i apart lt))) in
      record {
        one_each = noted.as_long ∙ are.one_each;
        place = λ j w at t. elim (cases_Bool (nat_eq w.candidate x && nat_eq w.programme n)) [
          | inl own ↦
              let parts = and_parts (nat_eq w.candidate x) (nat_eq w.programme n) own in
              let value : get_or new.places j 0 ≡ place =
              put j w at ∙ ap (λ b. if b then place else get_or notes.places j 0) own in
              let P = λ (c : ℕ). IsPlaceOf c (line_of s orders n) place in
              let Q = λ (p : ℕ). IsPlaceOf w.candidate (line_of s orders p) place in
              let R = λ (k : ℕ). IsPlaceOf w.candidate (line_of s orders w.programme) k in
              subst R (sym value)
              (subst Q (sym (eqb-true w.programme n parts.1))
              (subst P (sym (eqb-true w.candidate x parts.0)) line_place))
          | inr other ↦
              let value : get_or new.places j 0 ≡ get_or notes.places j 0 = put j w at
              ∙ ap (λ b. if b then place else get_or notes.places j 0) other in
              let R = λ (k : ℕ). IsPlaceOf w.candidate (line_of s orders w.programme) k in
              subst R (sym value) (are.place j w at
              (or_left_of (done w.programme w.candidate) (nat_eq w.candidate x && nat_eq w.programme n)
              (sym (done_now w) ∙ t) other))
        ];
        called = λ j w at.
            let own = nat_eq w.candidate x && nat_eq w.programme n in
            noted.called_are j (within j w at)
            ∙ ap (λ b. if b then is_called else get_or notes.called_by_limit j false) (among_claim s n x j w at)
            ∙ ap (λ b. if own then is_called else b) (are.called j w at)
            ∙ flag_more (done w.programme w.candidate) own is_called (is_called_by_limit s orders w) (λ t.
            let parts = and_parts (nat_eq w.candidate x) (nat_eq w.programme n) t in
            called_is
            ∙ ap (λ p. nat_lt (length (before_first (nat_eq x) (order_of s orders p))) (limit_of s p))
            (sym (eqb-true w.programme n parts.1))
            ∙ ap (λ c. nat_lt (length (before_first (nat_eq c) (order_of s orders w.programme)))
            (limit_of s w.programme)) (sym (eqb-true w.candidate x parts.0))
            ∙ sym (le_next (length (before_first (nat_eq w.candidate) (order_of s orders w.programme)))
            (limit_of s w.programme)))
            ∙ ap (λ b. b && is_called_by_limit s orders w) (sym (done_now w));
      }
    where
      or_left_of : (a b : Bool) → (a || b) ≡ true → b ≡ false → a ≡ true
      or_left_of true b t none = refl
      or_left_of false b t none = absurd (false≢true (sym none ∙ t))

-- at the front of a call order the programmes before it are done
pub seated_start : (s : DossierRows) (orders : List CallOrder) (n : ℕ) (order : List ℕ) (notes : Noted)
    → AreSeated s orders (is_below n) notes → AreSeated s orders (is_passed n (take 0 order)) notes
seated_start s orders n order notes are =
    seated_by s orders (is_below n) (is_passed n (take 0 order)) notes
    (λ i w at. none_here (nat_lt w.programme n) (nat_eq w.programme n)) are
  where
    none_here : (a b : Bool) → (a || (b && false)) ≡ a
    none_here true b = refl
    none_here false true = refl
    none_here false false = refl

-- numbers below a bound that are apart are at most so many
below_bound : (xs : List ℕ) (n : ℕ) → ((k : ℕ) → get_or xs k 0 < n)
    → (q : ℕ) → list_any (nat_eq q) xs ≡ true → q < n
below_bound [] n fits q t = absurd (false≢true t)
below_bound (x ∷ xs) n fits q t =
    elim (or_cases (nat_eq q x) (list_any (nat_eq q) xs) t) [
      | inl here ↦ omega (arith, eqb-true q x here, fits 0)
      | inr there ↦ below_bound xs n (λ k. fits (suc k)) q there
    ]

pub few_apart : (xs : List ℕ) (n : ℕ) → IsDistinct nat_eq xs → ((k : ℕ) → get_or xs k 0 < n)
    → length xs ≤ n
few_apart xs n apart fits = length-le_from_distinct_below xs n apart (below_bound xs n fits)

-- the programmes that are gone through
pub record IsBuilt (s : DossierRows) (orders : List CallOrder) (n : ℕ) (claims : List (List (List ℕ)))
    (notes : Noted) : Type 0 where
  pub claims_are : claims ≡ map (λ p. map (claim_of s p) (line_of s orders p)) (range_with_len 0 n)
  pub seated : AreSeated s orders (is_below n) notes

-- none yet
pub built_none : (s : DossierRows) (orders : List CallOrder) (claims : List (List (List ℕ)))
    (notes : Noted) → claims ≡ [] → notes ≡ nothing_noted (length s.wishes)
    → IsBuilt s orders 0 claims notes
built_none s orders claims notes claims_are nothing =
    let n = length s.wishes in
    let P = λ (x : Noted). AreSeated s orders (is_below 0) x in
    record {
      claims_are = claims_are;
      seated = subst P (sym nothing) (record {
        one_each = length-replicate n 0;
        place = λ i w at t. absurd (omega (arith, ltb-true w.programme 0 t));
        called = λ i w at. get_or-replicate n i false false (slice_get_within s.wishes i w at)
            ∙ sym (ap (λ b. b && is_called_by_limit s orders w) (le-ltb w.programme 0 (omega arith)));
      });
    }

-- one more
pub built_more : (s : DossierRows) (orders : List CallOrder) (n : ℕ) (claims : List (List (List ℕ)))
    (notes : Noted) (own : List (List ℕ)) (new : Noted)
    → AreCalled s orders
    → IsBuilt s orders n claims notes
    → own ≡ map (claim_of s n) (line_of s orders n)
    → AreSeated s orders (is_passed n (line_of s orders n)) new
    → IsBuilt s orders (n + 1) (claims ++ own ∷ []) new
built_more s orders n claims notes own new called built own_are seated =
    record {
      claims_are =
          ap (λ (cs : List (List (List ℕ))). cs ++ own ∷ []) built.claims_are
          ∙ ap (λ (r : List (List ℕ)). map (λ p. map (claim_of s p) (line_of s orders p)) (range_with_len 0 n)
          ++ r ∷ []) own_are
          ∙ sym (map-range_with_len_more (λ p. map (claim_of s p) (line_of s orders p)) 0 n n (omega arith));
      seated =
          seated_by s orders (is_passed n (line_of s orders n)) (is_below (n + 1)) new
          (λ i w at.
          let is = wish_in_is s.wishes i w at in
          let among : is_among w.candidate (order_of s orders w.programme) ≡ true =
          let P = λ (v : Wish). is_among v.candidate (order_of s orders v.programme) ≡ true in
          subst P is (called.each i (slice_get_within s.wishes i w at)) in
          let own : is_among i (claim_of s w.programme w.candidate) ≡ true =
          among_claim s w.programme w.candidate i w at
          ∙ and_from (nat_eq w.candidate w.candidate) (nat_eq w.programme w.programme)
          (eq-eqb w.candidate w.candidate refl)
          (eq-eqb w.programme w.programme refl) in
          let applies : applies_in s w.programme w.candidate ≡ true =
          applies_claim s w.programme w.candidate ∙ among_some i (claim_of s w.programme w.candidate) own in
          let in_line : is_among w.candidate (line_of s orders w.programme) ≡ true =
          among_filter (applies_in s w.programme) w.candidate (order_of s orders w.programme) among applies in
          elim (cases_order w.programme n) [
            | inl same ↦
                let Q = λ (p : ℕ). is_among w.candidate (line_of s orders p) ≡ true in
                lt-ltb w.programme (n + 1) (omega (arith, same))
                ∙ sym (or_right (nat_lt w.programme n)
                (nat_eq w.programme n && is_among w.candidate (line_of s orders n))
                (and_from (nat_eq w.programme n) (is_among w.candidate (line_of s orders n))
                (eq-eqb w.programme n same) (subst Q same in_line)))
            | inr other ↦ elim other [
              | inl below ↦
                  lt-ltb w.programme (n + 1) (omega (arith, below))
                  ∙ sym (or_left (nat_lt w.programme n)
                  (nat_eq w.programme n && is_among w.candidate (line_of s orders n)) (lt-ltb w.programme n below))
              | inr above ↦
                  le-ltb w.programme (n + 1) (omega (arith, above))
                  ∙ sym (or_from (nat_lt w.programme n)
                  (nat_eq w.programme n && is_among w.candidate (line_of s orders n))
                  (le-ltb w.programme n (omega (arith, above)))
                  (ap (λ b. b && is_among w.candidate (line_of s orders n))
                  (ne_eqb w.programme n (λ e. omega (arith, e, above)))))
            ]
          ]) seated;
    }

-- and all of them
pub built_all : (s : DossierRows) (orders : List CallOrder) (n : ℕ) (claims : List (List (List ℕ)))
    (notes : Noted)
    → n ≡ length s.programmes
    → ((k : ℕ) → k < length s.wishes → (wish_in s.wishes k).programme < length s.programmes)
    → IsBuilt s orders n claims notes → IsLineup s orders claims notes
built_all s orders n claims notes n_is programmes built =
    let programme : (i : ℕ) (w : Wish) → slice_get s.wishes i ≡ Some w → w.programme < length s.programmes =
    λ i w at. let P = λ (v : Wish). v.programme < length s.programmes in
    subst P (wish_in_is s.wishes i w at) (programmes i (slice_get_within s.wishes i w at)) in
    let done : (i : ℕ) (w : Wish) → slice_get s.wishes i ≡ Some w → nat_lt w.programme n ≡ true =
    λ i w at. lt-ltb w.programme n (omega (arith, n_is, programme i w at)) in
    record {
      programmes_are = programme;
      claims_are = built.claims_are ∙ ap (λ k. map (λ p. map (claim_of s p) (line_of s orders p)) (range_with_len 0 k))
          n_is;
      notes_are = record {
        one_each = built.seated.one_each;
        places_are = λ i w at. built.seated.place i w at (done i w at);
        called_are = λ i w at. built.seated.called i w at
            ∙ ap (λ b. b && is_called_by_limit s orders w) (done i w at);
      };
    }

-- in the order at a place no candidate stands twice
pub once_at : (groups : List RankGroup) (orders : List CallOrder) → All IsValidGroup groups
    → AreCallOrders groups orders → (j : ℕ)
    → IsDistinct nat_eq (order_at orders j)
unfolding IsDistinct
once_at [] [] valid are j = tt
once_at [] (o ∷ os) valid are j = absurd are
once_at (g ∷ gs) [] valid are j = absurd are
once_at (g ∷ gs) (o ∷ os) valid are zero = distinct-order g o (valid zero g (omega arith)).ranking are.0
once_at (g ∷ gs) (o ∷ os) valid are (suc j) = once_at gs os (λ k d lt. valid (suc k) d (omega arith)) are.1 j

pub called_once : (d : DossierRows) → IsValid d → (orders : List CallOrder) → AreCallOrders d.groups orders
    → (p : ℕ) → IsDistinct nat_eq (order_of d orders p)
called_once d valid orders are p = once_at d.groups orders valid.groups are (group_of d p)

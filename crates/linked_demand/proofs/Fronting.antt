-- The proposed wishes, by the claims at the fronts of the lines.
use Rattle.std.proofs.Common.{ℕ, zero, suc, ◌+◌, ◌≤◌, ◌<◌, ◌≡◌, Bool, true, false, ◌&&◌, ◌||◌, List, [], ◌∷◌, map}
use Rattle.std.proofs.Common.{length, take, get_or, inl, inr, refl, sym, ◌∙◌, ap, arith, nat_eq, nat_lt, Option, Some}
use Rattle.std.proofs.Common.{None, option_map, unwrap_or, subst}
use Rattle.std.specs.Prelude.{slice_get, slice_index}
use Rattle.std.specs.List.{list_any, range_with_len}
use Rattle.std.proofs.lemmas.Bool.{cases_Bool, cases_lt, eq-eqb, eqb-true, ne_eqb, lt-ltb, le-ltb, false≢true}
use Rattle.std.proofs.lemmas.List.{get_or_read, get_or-map, length-map}
use Rattle.std.proofs.lemmas.List.Folds.{list_any_more, list_any-append}
use Rattle.std.proofs.lemmas.List.FromFn.{get_or-map-range_with_len}
use Rattle.admit_core.specs.declared.dossier.Wish.{Wish}
use Rattle.admit_core.specs.declared.state.Mark.{Mark}
use Rattle.admit_core.specs.declared.ranking.CallOrder.{CallOrder}
use Rattle.admit_core.specs.DossierRows.{DossierRows}
use Rattle.admit_core.specs.Lists.{is_among}
use Rattle.admit_core.specs.State.{State, entries, is_waiting, seats_left}
use Rattle.admit_core.specs.Proposals.{needs_no_seat}
use Rattle.admit_core.proofs.Plain.{and_false, nat_eq_sym, or_false, and_true}
use Rattle.day_state.proofs.Ordering.{range_more}
use Rattle.linked_demand.specs.Demand.{is_proposed_at}
use Rattle.linked_demand.specs.Fronts.{AreFronts, claimed_open, front_of, reached_open}
use Rattle.linked_demand.specs.Links.{LinksRow, IsPlaceOf, IsSeatPlace, claim_of}
use Rattle.linked_demand.specs.Opens.{ahead_by, is_proposed_by, line_of}
use Rattle.linked_demand.proofs.Flagging.{share}
use Rattle.linked_demand.proofs.Lining.{among_claim}

-- one more claim
pub claimed_more : (opens : List Bool) (claims : List (List ℕ)) (i : ℕ) (claim : List ℕ) (k : ℕ)
    → i < length claims → claim ≡ get_or claims i []
    → (claimed_open opens (take i claims) k || (is_among k claim && get_or opens k false)) ≡ claimed_open
    opens (take (i + 1) claims) k
claimed_more opens claims i claim k lt read =
    share (list_any (is_among k) (take i claims)) (is_among k claim) (get_or opens k false)
    ∙ ap (λ (ks : List ℕ). (list_any (is_among k) (take i claims) || is_among k ks) && get_or opens k false) read
    ∙ ap (λ b. b && get_or opens k false) (sym (list_any_more (is_among k) claims i [] lt))

any_range_more : (g : ℕ → Bool) (n : ℕ) → list_any g (range_with_len 0 (n + 1))
    ≡ (list_any g (range_with_len 0 n) || g n)
any_range_more g n =
    ap (list_any g) (range_more 0 n n (omega arith))
    ∙ list_any-append g (range_with_len 0 n) (n ∷ [])
    ∙ ap (λ b. list_any g (range_with_len 0 n) || b) (or_false (g n))

module _ {lines : List (List (List ℕ))} {reached : List ℕ} (are : AreFronts lines reached) (p : ℕ)
    (lt : p < length lines)
    (claims : List (List ℕ)) (claims_read : claims ≡ get_or lines p claims) where
  line_is : claims ≡ get_or lines p []
  line_is = get_or_read lines p claims lt claims_read []

  module _ (front : ℕ) (number_is : front ≡ slice_index reached p) where
    pub front_within : front ≤ length claims
    front_within = omega (arith, are.within p lt, number_is, ap length line_is)

    -- one more line
    pub reached_more : (opens : List Bool) (k : ℕ)
        → (reached_open opens lines reached p k || claimed_open opens (take front claims) k) ≡ reached_open
        opens lines reached (p + 1) k
    reached_more opens k =
        let g = λ (q : ℕ). list_any (is_among k) (front_of lines reached q) in
        let own : list_any (is_among k) (take front claims) ≡ g p =
        ap (λ (row : List (List ℕ)). list_any (is_among k) (take front row)) line_is
        ∙ ap (λ (j : ℕ). list_any (is_among k) (take j (get_or lines p []))) number_is in
        share (list_any g (range_with_len 0 p)) (list_any (is_among k) (take front claims)) (get_or opens k false)
        ∙ ap (λ b. (list_any g (range_with_len 0 p) || b) && get_or opens k false) own
        ∙ ap (λ b. b && get_or opens k false) (sym (any_range_more g p))

next_lt : (a n : ℕ) → (nat_lt a n || nat_eq n a) ≡ nat_lt a (suc n)
next_lt a n =
    elim (cases_lt a n) [
      | inl before ↦ ap (λ b. b || nat_eq n a) (lt-ltb a n before) ∙ sym (lt-ltb a (suc n) (omega (arith, before)))
      | inr after ↦ elim (cases_lt n a) [
        | inl far ↦ ap (λ b. b || nat_eq n a) (le-ltb a n after) ∙ ne_eqb n a (λ e. omega (arith, far, e))
            ∙ sym (le-ltb a (suc n) (omega (arith, far)))
        | inr near ↦ ap (λ b. b || nat_eq n a) (le-ltb a n after) ∙ eq-eqb n a (omega (arith, after, near))
            ∙ sym (lt-ltb a (suc n) (omega (arith, near, after)))
      ]
    ]

own_line : (own before here next : Bool) → own ≡ true → (before || here) ≡ next
    → ((own && before) || (here && own)) ≡ (own && next)
own_line true before here next t more = ap (λ b. before || b) (and_true here) ∙ more
own_line false before here next t more = absurd (false≢true t)

other_line : (own before here next : Bool) → own ≡ false → ((own && before) || (here && own)) ≡ (own && next)
other_line true before here next t = absurd (false≢true (sym t))
other_line false before here next t = and_false here

module _ (d : DossierRows) (orders : List CallOrder) (i : ℕ) (w : Wish) (at : slice_get d.wishes i ≡ Some w)
    (place : ℕ) (stands : IsSeatPlace d orders w place) where
  -- who stands at a place of the line of the wish's programme is its candidate where the place is theirs
  candidate_at : (p j : ℕ) → w.programme ≡ p → j < length (line_of d orders p)
      → nat_eq w.candidate (get_or (line_of d orders p) j 0) ≡ nat_eq j place
  candidate_at p j same lt =
      let P = λ (q : ℕ). IsPlaceOf w.candidate (line_of d orders q) place in
      let here : IsPlaceOf w.candidate (line_of d orders p) place = subst P same stands in
      let line = line_of d orders p in
      elim (cases_Bool (nat_eq j place)) [
        | inl own ↦ eq-eqb w.candidate (get_or line j 0)
            (sym here.here ∙ ap (λ (k : ℕ). get_or line k 0) (sym (eqb-true j place own))) ∙ sym own
        | inr other ↦ here.once j lt other ∙ sym other
      ]

  -- the wish is in one of the first claims of a line where that is of its programme and it stands there
  any_taken : (p j : ℕ) → j ≤ length (line_of d orders p)
      → list_any (is_among i) (take j (map (claim_of d p) (line_of d orders p)))
      ≡ (nat_eq w.programme p && nat_lt place j)
  any_taken p zero le = sym (ap (λ b. nat_eq w.programme p && b) (le-ltb place 0 (omega arith))
      ∙ and_false (nat_eq w.programme p))
  any_taken p (suc j) le =
      let line = line_of d orders p in
      let claims = map (claim_of d p) line in
      let x = get_or line j 0 in
      let lt : j < length line = omega (arith, le) in
      let next : suc j ≡ j + 1 = omega arith in
      let own : is_among i (get_or claims j []) ≡ (nat_eq w.candidate x && nat_eq w.programme p) =
      ap (is_among i) (get_or-map (claim_of d p) line j 0 [] lt) ∙ among_claim d p x i w at in
      ap (λ (k : ℕ). list_any (is_among i) (take k claims)) next
      ∙ list_any_more (is_among i) claims j [] (omega (arith, lt, length-map line (claim_of d p)))
      ∙ ap (λ b. b || is_among i (get_or claims j [])) (any_taken p j (omega (arith, le)))
      ∙ ap (λ b. (nat_eq w.programme p && nat_lt place j) || b) own
      ∙ elim (cases_Bool (nat_eq w.programme p)) [
        | inl same ↦
            own_line (nat_eq w.programme p) (nat_lt place j) (nat_eq w.candidate x) (nat_lt place (suc j)) same
            (ap (λ b. nat_lt place j || b) (candidate_at p j (eqb-true w.programme p same) lt) ∙ next_lt place j)
        | inr other ↦ other_line (nat_eq w.programme p) (nat_lt place j) (nat_eq w.candidate x)
            (nat_lt place (suc j)) other
      ]

  module _ (lines : List (List (List ℕ))) (reached : List ℕ) (count : ℕ)
      (lines_are : lines ≡ map (λ p. map (claim_of d p) (line_of d orders p)) (range_with_len 0 count))
      (within : (p : ℕ) → p < count → slice_index reached p ≤ length (line_of d orders p)) where
    -- and in a front of the first so many lines where its place is reached
    any_front : (n : ℕ) → n ≤ count
        → list_any (λ p. list_any (is_among i) (front_of lines reached p))
        (range_with_len 0 n) ≡ (nat_lt w.programme n && nat_lt place (slice_index reached w.programme))
    any_front zero le = sym (ap (λ b. b && nat_lt place (slice_index reached w.programme))
        (le-ltb w.programme 0 (omega arith)))
    any_front (suc n) le =
        let g = λ (p : ℕ). list_any (is_among i) (front_of lines reached p) in
        let last = nat_lt place (slice_index reached w.programme) in
        let lt : n < count = omega (arith, le) in
        let next : suc n ≡ n + 1 = omega arith in
        let row : get_or lines n [] ≡ map (claim_of d n) (line_of d orders n) =
        ap (λ (ls : List (List (List ℕ))). get_or ls n []) lines_are
        ∙ get_or-map-range_with_len (λ p. map (claim_of d p) (line_of d orders p)) 0 count n n [] lt (omega arith) in
        let own : g n ≡ (nat_eq w.programme n && nat_lt place (slice_index reached n)) =
        ap (λ (r : List (List ℕ)). list_any (is_among i) (take (slice_index reached n) r)) row
        ∙ any_taken n (slice_index reached n) (within n lt) in
        let turned : (nat_eq w.programme n && nat_lt place (slice_index reached n)) ≡ (nat_eq n w.programme && last) =
        elim (cases_Bool (nat_eq w.programme n)) [
          | inl same ↦
              ap (λ b. b && nat_lt place (slice_index reached n)) same
              ∙ ap (λ (p : ℕ). nat_lt place (slice_index reached p)) (sym (eqb-true w.programme n same))
              ∙ sym (ap (λ b. b && last) (sym (nat_eq_sym w.programme n) ∙ same))
          | inr other ↦
              ap (λ b. b && nat_lt place (slice_index reached n)) other
              ∙ sym (ap (λ b. b && last) (sym (nat_eq_sym w.programme n) ∙ other))
        ] in
        ap (λ (k : ℕ). list_any g (range_with_len 0 k)) next
        ∙ any_range_more g n
        ∙ ap (λ b. b || g n) (any_front n (omega (arith, le)))
        ∙ ap (λ b. (nat_lt w.programme n && last) || b) (own ∙ turned)
        ∙ share (nat_lt w.programme n) (nat_eq n w.programme) last
        ∙ ap (λ b. b && last) (next_lt w.programme n)

    -- so of all lines
    pub any_reached : w.programme < count
        → list_any (λ p. list_any (is_among i) (front_of lines reached p)) (range_with_len 0 count) ≡ nat_lt
        place (slice_index reached w.programme)
    any_reached lt =
        any_front count (omega arith)
        ∙ ap (λ b. b && nat_lt place (slice_index reached w.programme)) (lt-ltb w.programme count lt)

none_open : (waits served : Bool) → ((waits && false) && served) ≡ false
none_open true served = refl
none_open false served = refl

unproposed : (s : State) (orders : List CallOrder) (opens : List Bool) (flag : Bool) (entry : Option (Wish × Mark))
    → flag ≡ false
    → unwrap_or (option_map (λ e. is_proposed_by s orders opens e.0 e.1 flag) entry) false ≡ false
unproposed s orders opens flag None closed = refl
unproposed s orders opens flag (Some (w, m)) closed =
    ap (λ b. (is_waiting m && b) && (needs_no_seat s orders w || nat_lt (ahead_by s orders opens w)
    (seats_left s w.programme))) closed
    ∙ none_open (is_waiting m) (needs_no_seat s orders w || nat_lt (ahead_by s orders opens w)
    (seats_left s w.programme))

-- a wish that is not open is not proposed
pub closed_at : (row : LinksRow) (k : ℕ) → get_or row.opens k false ≡ false → is_proposed_at row k ≡ false
closed_at row k closed = unproposed row.state row.orders row.opens (get_or row.opens k false)
    (slice_get (entries row.state) k) closed

-- an open wish that needs no seat or is reached
pub gathered : (opened exempt reached : Bool)
    → ((opened && exempt) || (reached && opened)) ≡ (opened && (exempt || reached))
gathered true exempt true = refl
gathered true true false = refl
gathered true false false = refl
gathered false exempt reached = and_false reached

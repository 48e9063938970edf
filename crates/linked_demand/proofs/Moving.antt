-- Which wishes become proposed where one wish is closed.
use Rattle.std.proofs.Common.{ℕ, ◌<◌, ◌≡◌, Bool, true, false, not, ◌&&◌, ◌||◌, List, [], ◌∷◌, length, refl, sym, ◌∙◌}
use Rattle.std.proofs.Common.{ap, arith, nat_eq, nat_le, zero, suc, get_or, Option, Some, None, zip, unwrap_or}
use Rattle.std.proofs.Common.{option_map, nat_lt, inl, inr}
use Rattle.std.proofs.Math.ListN.{set}
use Rattle.std.specs.Prelude.{slice_get, slice_index}
use Rattle.std.specs.List.{list_any}
use Rattle.std.proofs.lemmas.Bool.{cases_Bool, eqb-true, eq-eqb, eqb-false, ne_eqb}
use Rattle.std.proofs.lemmas.List.{get_or-set_same, get_or-set_other, length-set, get_or-map}
use Rattle.std.proofs.lemmas.Option.{slice_get_within, slice_get-get_or}
use Rattle.admit_core.proofs.Plain.{and_false, and_not, is_and_true}
use Rattle.admit_core.specs.declared.dossier.Wish.{Wish}
use Rattle.admit_core.specs.declared.state.Mark.{Mark}
use Rattle.admit_core.specs.declared.ranking.CallOrder.{CallOrder}
use Rattle.admit_core.specs.State.{State, entries, is_waiting, holds_seat, seats_left}
use Rattle.admit_core.specs.DossierRows.{limit_of}
use Rattle.admit_core.specs.Proposals.{needs_no_seat, position_of}
use Rattle.linked_demand.specs.Line.{LineRow, is_reached, is_answer}
use Rattle.linked_demand.specs.Opens.{flagged, is_flagged_in, wants_by, ahead_by, is_proposed_by, applies_in, line_of}
use Rattle.linked_demand.specs.Opens.{seat_row}
use Rattle.linked_demand.specs.Links.{LinksRow, IsSeatPlace, WaitsAt}
use Rattle.linked_demand.specs.Demand.{is_proposed_at}
use Rattle.linked_demand.proofs.Opens.{row_other, reached_in_line}
use Rattle.linked_demand.proofs.Closing.{Closes, any_at, wish_of}

at_zip : {X Y : Type 0} (xs : List X) (ys : List Y) (i : ℕ) (x : X) (y : Y) → slice_get xs i ≡ Some x
    → slice_get ys i ≡ Some y → slice_get (zip xs ys) i ≡ Some (x, y)
at_zip [] ys i x y a b = absurd (omega (arith, slice_get_within [] i x a))
at_zip (u ∷ xs) [] i x y a b = absurd (omega (arith, slice_get_within [] i y b))
at_zip (u ∷ xs) (v ∷ ys) zero x y a b =
    let e : u ≡ x = ap (λ o. unwrap_or o x) a in
    let f : v ≡ y = ap (λ o. unwrap_or o y) b in
    rw (e, f) refl
at_zip (u ∷ xs) (v ∷ ys) (suc i) x y a b = at_zip xs ys i x y a b

-- a flagged waiting wish finds its candidate
flag_found : (s : State) (opens : List Bool) (j : ℕ) (v : Wish) (n : Mark) → WaitsAt s j v n
    → j < length opens → get_or opens j false ≡ true
    → list_any (is_flagged_in v.programme v.candidate) (flagged s opens) ≡ true
flag_found s opens j v n waits lt t =
    any_at (is_flagged_in v.programme v.candidate) (flagged s opens) j ((v, n), true)
    (at_zip (entries s) opens j (v, n) true waits.here (slice_get-get_or opens j false lt ∙ ap Some t))
    (rw (eq-eqb v.candidate v.candidate refl, eq-eqb v.programme v.programme refl) refl)

waits_here : (s : State) (j : ℕ) (v : Wish) (n : Mark) → WaitsAt s j v n
    → applies_in s.dossier v.programme v.candidate ≡ true
waits_here s j v n waits =
    any_at (λ (w : Wish). (nat_eq w.candidate v.candidate) && (nat_eq w.programme v.programme))
    s.dossier.wishes j v (wish_of s.dossier.wishes s.marks j v n waits.here)
    (rw (eq-eqb v.candidate v.candidate refl, eq-eqb v.programme v.programme refl) refl)

no_left : (a b : Bool) → (a || b) ≡ false → a ≡ false
no_left true b t = t
no_left false b t = refl

module _ {s : State} {orders : List CallOrder} {opens : List Bool} {lines : List LineRow}
    {claims : List (List (List ℕ))} {places : List ℕ} {exempt : List Bool} {i : ℕ} {w : Wish}
    (k : Closes s orders opens lines claims places exempt i w) (j : ℕ) (v : Wish) (n : Mark)
    (waits : WaitsAt s j v n) (place : ℕ) (at : IsSeatPlace s.dossier orders v place)
    (lt : j < length opens) (other : nat_eq j i ≡ false) where
  flag_same : get_or (set opens i false) j false ≡ get_or opens j false
  flag_same = get_or-set_other opens i j false false (eqb-false j i other)

  by_reach : (os : List Bool) → is_proposed_by s orders os v n (get_or opens j false)
      ≡ ((is_waiting n && get_or opens j false) && (needs_no_seat s orders v || is_reached
      (seat_row s orders os v.programme) place))
  by_reach os = rw (reached_in_line s orders os v place (waits_here s j v n waits) at) refl

  -- an open wish that needs a seat has its place set
  flag_set : needs_no_seat s orders v ≡ false → get_or opens j false ≡ true
      → get_or (seat_row s orders (set opens i false) v.programme).flags place false ≡ true
  flag_set not_exempt t =
      let found : list_any (is_flagged_in v.programme v.candidate) (flagged s (set opens i false)) ≡ true =
      flag_found s (set opens i false) j v n waits (omega (arith, lt, length-set opens i false)) (flag_same ∙ t) in
      let no_seat : holds_seat s v.candidate v.programme ≡ false = no_left
      (holds_seat s v.candidate v.programme) (nat_le (position_of s orders v) (limit_of s.dossier v.programme))
      not_exempt in
      let wants : wants_by s (set opens i false) v.programme v.candidate ≡ true = rw (found, no_seat) refl in
      get_or-map (wants_by s (set opens i false) v.programme)
      (line_of s.dossier orders v.programme) place 0 false at.within
      ∙ ap (wants_by s (set opens i false) v.programme) at.here ∙ wants

  -- in another programme nothing becomes proposed
  pub stays_proposed : nat_eq w.programme v.programme ≡ false
      → is_proposed_by s orders (set opens i false) v n
      (get_or (set opens i false) j false) ≡ is_proposed_by s orders opens v n (get_or opens j false)
  stays_proposed apart =
      rw flag_same (by_reach (set opens i false)
      ∙ ap (λ (r : LineRow).
      (is_waiting n && get_or opens j false) && (needs_no_seat s orders v || is_reached r place))
      (row_other s opens i w k.mark k.at.here orders v.programme apart)
      ∙ sym (by_reach opens))

none_bits : (waits own q : Bool) → (waits && ((own && false) && q)) ≡ false
none_bits true true q = refl
none_bits true false q = refl
none_bits false own q = refl

turn_bits : (waits own next cand q : Bool) → (waits ≡ true → own ≡ true → next ≡ cand)
    → (waits && ((own && next) && q)) ≡ (((waits && cand) && own) && q)
turn_bits false own next cand q h = refl
turn_bits true true next cand q h = rw (h refl refl) (ap (λ b. b && q) (is_and_true cand))
turn_bits true false next cand q h = rw (and_false cand) refl

closed_bits : (waits seat old place : Bool) → (((waits && false) && seat) && old) ≡ (waits && (place && false))
closed_bits true seat old true = refl
closed_bits true seat old false = refl
closed_bits false seat old place = refl

newly_bits : (waits flag exempt old new answer : Bool) → (exempt ≡ false → flag ≡ true → (new && not old) ≡ answer)
    → (((waits && flag) && (exempt || new)) && not ((waits && flag) && (exempt || old)))
    ≡ (waits && (answer && (flag && not exempt)))
newly_bits false flag exempt old new answer h = refl
newly_bits true false exempt old new answer h = sym (and_false answer)
newly_bits true true true old new answer h = sym (and_false answer)
newly_bits true true false old new answer h = h refl refl ∙ is_and_true answer

module _ {s : State} {orders : List CallOrder} {opens : List Bool} {lines : List LineRow}
    {claims : List (List (List ℕ))} {places : List ℕ} {exempt : List Bool} {i : ℕ} {w : Wish}
    (k : Closes s orders opens lines claims places exempt i w) (answer : Option ℕ)
    (fresh : (place : ℕ) → place < length (line_of s.dossier orders w.programme)
    → get_or (seat_row s orders (set opens i false) w.programme).flags place false ≡ true
    → (is_reached (seat_row s orders (set opens i false) w.programme)
    place && not (is_reached (seat_row s orders opens w.programme) place)) ≡ is_answer answer place) where
  -- a wish becomes proposed where it stands in the programme at the place that is the answer, is open, and needs a seat
  newly_at : (j : ℕ) (v : Wish) (n : Mark) → WaitsAt s j v n → nat_eq j i ≡ false
      → (is_proposed_by s orders (set opens i false) v n
      (get_or (set opens i false) j false) && not (is_proposed_by s orders opens v n (get_or opens j false)))
      ≡ (is_waiting n && ((nat_eq v.programme w.programme && is_answer answer
      (slice_index places j)) && (get_or opens j false && not (needs_no_seat s orders v))))
  newly_at j v n waits other =
      let at = k.links.places_are j v (wish_of s.dossier.wishes s.marks j v n waits.here) in
      let place = slice_index places j in
      let lt : j < length opens = omega (
        arith,
        k.links.opens_each,
        slice_get_within s.dossier.wishes j v
            (wish_of s.dossier.wishes s.marks j v n waits.here),
      ) in
      elim (cases_Bool (nat_eq v.programme w.programme)) [
        | inl own ↦
            let same : v.programme ≡ w.programme = eqb-true v.programme w.programme own in
            let new = seat_row s orders (set opens i false) v.programme in
            let old = seat_row s orders opens v.programme in
            let moved : get_or new.flags place false ≡ true
            → (is_reached new place && not (is_reached old place)) ≡ is_answer answer place =
            rw same (fresh place (rw same at at.within)) in
            rw (
              own,
              flag_same k j v n waits place at lt other,
              by_reach k j v n waits place at lt other
                  (set opens i false),
              by_reach k j v n waits place at lt other opens,
            )
            (newly_bits (is_waiting n) (get_or opens j false) (needs_no_seat s orders v)
            (is_reached old place) (is_reached new place) (is_answer answer place)
            (λ not_exempt t. moved (flag_set k j v n waits place at lt other not_exempt t)))
        | inr apart ↦
            rw (
              apart,
              stays_proposed k j v n waits place at lt other
                  (ne_eqb w.programme v.programme (λ e. eqb-false v.programme w.programme apart (sym e))),
            )
            (and_not (is_proposed_by s orders opens v n (get_or opens j false)) ∙ sym (and_false (is_waiting n)))
      ]

  -- the same for every wish, as the rows of the links say it
  newly_all : (j : ℕ) (v : Wish) (n : Mark) → slice_get (entries s) j ≡ Some (v, n)
      → (is_proposed_at (record { state = s; orders = orders; opens = set opens i false })
      j && not (is_proposed_at (record { state = s; orders = orders; opens = opens }) j))
      ≡ (is_waiting n && ((nat_eq v.programme w.programme && is_answer answer
      (slice_index places j)) && (get_or (set opens i false) j false && not (get_or exempt j false))))
  newly_all j v n here =
      let l0 : LinksRow = record { state = s; orders = orders; opens = opens } in
      let l1 : LinksRow = record { state = s; orders = orders; opens = set opens i false } in
      let new_is : is_proposed_at l1 j ≡ is_proposed_by s orders (set opens i false) v n
      (get_or (set opens i false) j false) =
      ap (λ (o : Option (Wish × Mark)). unwrap_or
      (option_map (λ e. is_proposed_by s orders (set opens i false) e.0 e.1
      (get_or (set opens i false) j false)) o) false) here in
      let old_is : is_proposed_at l0 j ≡ is_proposed_by s orders opens v n (get_or opens j false) =
      ap (λ (o : Option (Wish × Mark)). unwrap_or
      (option_map (λ e. is_proposed_by s orders opens e.0 e.1 (get_or opens j false)) o) false) here in
      let closed_at : get_or (set opens i false) i false ≡ false =
      get_or-set_same opens i false false
      (omega (
        arith,
        k.links.opens_each,
        slice_get_within s.dossier.wishes i w
            (wish_of s.dossier.wishes s.marks i w k.mark k.at.here),
      )) in
      elim (cases_Bool (is_waiting n)) [
        | inl waits ↦ elim (cases_Bool (nat_eq j i)) [
          | inl here_it_is ↦
              let flag : get_or (set opens i false) j false ≡ false = rw (eqb-true j i here_it_is) closed_at in
              rw (new_is, flag) (closed_bits (is_waiting n)
              (needs_no_seat s orders v || nat_lt (ahead_by s orders (set opens i false) v) (seats_left s v.programme))
              (not (is_proposed_at l0 j)) (nat_eq v.programme w.programme && is_answer answer (slice_index places j)))
          | inr other ↦
              let flag : get_or (set opens i false) j false ≡ get_or opens j false = get_or-set_other opens
              i j false false (eqb-false j i other) in
              let exempt_is : get_or exempt j false ≡ needs_no_seat s orders v = k.links.exempt_are j v
              (wish_of s.dossier.wishes s.marks j v n here) in
              let moved = newly_at j v n (record { here = here; waits = waits }) other in
              rw (new_is, old_is, exempt_is)
              (moved ∙ ap (λ b. is_waiting
              n && ((nat_eq v.programme w.programme && is_answer answer
              (slice_index places j)) && (b && not (needs_no_seat s orders v)))) (sym flag))
        ]
        | inr gone ↦ rw (new_is, gone) refl
      ]

  abbrev newly : ℕ × (Wish × Mark) → Bool
  newly x =
      is_proposed_at (record { state = s; orders = orders; opens = set opens i false })
      x.0 && not (is_proposed_at (record { state = s; orders = orders; opens = opens }) x.0)

  -- where no place is the answer, nothing becomes proposed
  pub newly_none : answer ≡ None → (j : ℕ) (e : Wish × Mark) → slice_get (entries s) j ≡ Some e → newly (j, e) ≡ false
  newly_none none j e here =
      newly_all j e.0 e.1 here ∙ rw none
      (none_bits (is_waiting e.1) (nat_eq e.0.programme w.programme)
      (get_or (set opens i false) j false && not (get_or exempt j false)))

  -- else the wishes of the claim at that place that are open and need a seat
  pub newly_some : (next : ℕ) → answer ≡ Some next → next < length (line_of s.dossier orders w.programme)
      → (j : ℕ) (e : Wish × Mark) → slice_get (entries s) j ≡ Some e
      → newly (j, e)
      ≡ ((is_waiting e.1 && (nat_eq e.0.candidate
      (get_or (line_of s.dossier orders w.programme) next 0)) && (nat_eq e.0.programme w.programme))
      && (get_or (set opens i false) j false && not (get_or exempt j false)))
  newly_some next some lt j e here =
      let c = get_or (line_of s.dossier orders w.programme) next 0 in
      newly_all j e.0 e.1 here
      ∙ rw some (turn_bits (is_waiting e.1) (nat_eq e.0.programme w.programme)
      (nat_eq next (slice_index places j)) (nat_eq e.0.candidate c)
      (get_or (set opens i false) j false && not (get_or exempt j false)) (λ waits own.
      let at = k.links.places_are j e.0 (wish_of s.dossier.wishes s.marks j e.0 e.1 here) in
      let same : e.0.programme ≡ w.programme = eqb-true e.0.programme w.programme own in
      elim (cases_Bool (nat_eq next (slice_index places j))) [
        | inl it ↦ it ∙ sym (eq-eqb e.0.candidate c
            (sym at.here ∙ rw (same, eqb-true next (slice_index places j) it) refl))
        | inr apart ↦ apart ∙ sym (rw same at (at.once next (rw same lt) apart))
      ]))

-- The proposed wishes, where it is known how far the seats reach.
use Rattle.std.proofs.Common.{ℕ, zero, suc, ◌+◌, ◌≤◌, ◌<◌, ◌≡◌, Bool, true, false, ◌&&◌, ◌||◌, List, [], map, length}
use Rattle.std.proofs.Common.{get_or, inl, inr, refl, sym, ◌∙◌, ap, arith, nat_eq, nat_lt, filter, subst}
use Rattle.std.specs.Prelude.{slice_index}
use Rattle.std.specs.List.{list_any, range_with_len}
use Rattle.std.proofs.lemmas.Bool.{cases_Bool, cases_lt, false≢true, ltb-false, ltb-true, ne_eqb}
use Rattle.std.proofs.lemmas.List.{get_or_default, get_or_past, length-map}
use Rattle.std.proofs.lemmas.List.FromFn.{get_or-map-range_with_len, length-map-range_with_len}
use Rattle.std.proofs.lemmas.Option.{slice_get_within}
use Rattle.std.proofs.lemmas.Simd.{map-map}
use Rattle.admit_core.specs.declared.dossier.Wish.{Wish}
use Rattle.admit_core.specs.declared.state.Mark.{Mark}
use Rattle.admit_core.specs.declared.ranking.CallOrder.{CallOrder}
use Rattle.admit_core.specs.Lists.{is_among}
use Rattle.admit_core.specs.State.{State, seats_left}
use Rattle.day_state.proofs.Along.{among-filter}
use Rattle.linked_demand.specs.Demand.{all_proposed, is_proposed_at}
use Rattle.linked_demand.specs.Fronts.{AreFronts, ListsAlso, front_of, exempt_open, reached_open}
use Rattle.linked_demand.specs.Line.{is_reached}
use Rattle.linked_demand.specs.Links.{AllOpenWait, LinksRow, WaitsAt, claim_of}
use Rattle.linked_demand.specs.Opens.{line_of, seat_row, wants_by}
use Rattle.linked_demand.specs.Wants.{IsReached, reach_in, seat_rows}
use Rattle.linked_demand.proofs.Closing.{Closes, programme_within, proposed_at_is, proposed_right, wish_of}
use Rattle.linked_demand.proofs.Fronting.{any_reached, closed_at, gathered}
use Rattle.linked_demand.proofs.Leaving.{reached_is, row_there}
use Rattle.linked_demand.proofs.Reach.{reach_within}

-- no place past a range is one of it
pub none_past : (q : ℕ → Bool) (k a n : ℕ) → a + n ≤ k → is_among k (filter q (range_with_len a n)) ≡ false
none_past q k a zero le = refl
none_past q k a (suc n) le =
    let later = none_past q k (a + 1) n (omega (arith, le)) in
    let other : nat_eq k a ≡ false = ne_eqb k a (λ e. omega (arith, e, le)) in
    elim (cases_Bool (q a)) [ inl kept ↦ rw (kept, other) later | inr dropped ↦ rw dropped later ]

closed_flag : (flag exempt reached : Bool) → flag ≡ false → ((flag && exempt) || (reached && flag)) ≡ false
closed_flag false exempt true t = refl
closed_flag false exempt false t = refl
closed_flag true exempt reached t = absurd (false≢true (sym t))

module _ {s : State} {orders : List CallOrder} {opens : List Bool} {reached : List ℕ}
    {claims : List (List (List ℕ))} {places : List ℕ} {exempt : List Bool}
    (right : IsReached s orders opens reached claims places exempt) where
  row_at : (p : ℕ) → p < length s.dossier.programmes
      → get_or claims p [] ≡ map (claim_of s.dossier p) (line_of s.dossier orders p)
  row_at p lt =
      ap (λ (rows : List (List (List ℕ))). get_or rows p []) right.links.claims_are
      ∙ get_or-map-range_with_len (λ q. map (claim_of s.dossier q) (line_of s.dossier orders q)) 0
      (length s.dossier.programmes) p p [] lt (omega arith)

  many : length claims ≡ length s.dossier.programmes
  many =
      ap length right.links.claims_are
      ∙ length-map-range_with_len (λ q. map (claim_of s.dossier q) (line_of s.dossier orders q)) 0
      (length s.dossier.programmes)

  number_at : (p : ℕ) → p < length s.dossier.programmes → slice_index reached p ≡ reach_in (seat_row s orders opens p)
  number_at p lt =
      ap (λ (ns : List ℕ). get_or ns p 0)
      (right.reached_are ∙ map-map reach_in (seat_row s orders opens) (range_with_len 0 (length s.dossier.programmes)))
      ∙ get_or-map-range_with_len (λ q. reach_in (seat_row s orders opens q)) 0
      (length s.dossier.programmes) p p 0 lt (omega arith)

  within_line : (p : ℕ) → p < length s.dossier.programmes → slice_index reached p ≤ length (line_of s.dossier orders p)
  within_line p lt =
      omega (
        arith,
        number_at p lt,
        reach_within (seats_left s p) (seat_row s orders opens p).flags,
        length-map (line_of s.dossier orders p) (wants_by s opens p),
      )

  -- the fronts of the lines
  pub fronts : AreFronts claims reached
  fronts = record {
    one_each =
        ap length right.reached_are
        ∙ length-map (seat_rows s orders opens) reach_in
        ∙ length-map-range_with_len (seat_row s orders opens) 0 (length s.dossier.programmes)
        ∙ sym many;
    within = λ p lt.
        let here : p < length s.dossier.programmes = omega (arith, lt, many) in
        omega (
          arith,
          within_line p here,
          ap length (row_at p here),
          length-map (line_of s.dossier orders p)
              (claim_of s.dossier p),
        );
  }

  -- the list of those who need no seat, and then of those who are reached
  module _ (now found : List ℕ) (first : (k : ℕ) → is_among k now ≡ exempt_open opens exempt k)
      (second : ListsAlso (reached_open opens claims reached (length claims)) now found) where
    found_read : (k : ℕ) → is_among k found
        ≡ (exempt_open opens exempt k || reached_open opens claims reached (length s.dossier.programmes) k)
    found_read k =
        second k
        ∙ ap (λ b. b || reached_open opens claims reached (length claims) k) (first k)
        ∙ ap (λ (n : ℕ). exempt_open opens exempt k || reached_open opens claims reached n k) many

    -- none of them is past the last wish
    found_past : (k : ℕ) → length s.dossier.wishes ≤ k → is_among k found ≡ false
    found_past k past =
        found_read k
        ∙ closed_flag (get_or opens k false) (get_or exempt k false)
        (list_any (λ p. list_any (is_among k) (front_of claims reached p))
        (range_with_len 0 (length s.dossier.programmes)))
        (get_or_past opens k false (omega (arith, past, right.links.opens_each)))

  -- they say who is proposed
  flag_right : ((k : ℕ) → get_or opens k false ≡ true → (w : Wish) × (m : Mark) × WaitsAt s k w m) → (k : ℕ)
      → k < length s.dossier.wishes
      → (exempt_open opens exempt k || reached_open opens claims reached (length s.dossier.programmes)
      k) ≡ is_proposed_at (record { state = s; orders = orders; opens = opens }) k
  flag_right waits k lt =
      let row : LinksRow = record { state = s; orders = orders; opens = opens } in
      let flag = get_or opens k false in
      let needless = get_or exempt k false in
      elim (cases_Bool (get_or opens k false)) [
        | inl opened ↦
            let (w, m, at) = waits k opened in
            let here = wish_of s.dossier.wishes s.marks k w m at.here in
            let closes : Closes s orders opens (seat_rows s orders opens) claims places exempt k w =
            record { links = right.links; mark = m; at = at } in
            let place : ℕ = slice_index places k in
            let stands = right.links.places_are k w here in
            let line = seat_row s orders opens w.programme in
            let reach : nat_lt place (slice_index reached w.programme) ≡ is_reached line place =
            reached_is s orders opens w.programme place (slice_index reached w.programme)
            (nat_lt place (slice_index reached w.programme))
            (number_at w.programme (programme_within closes)) stands.within refl in
            ap (λ b. (flag && needless) || (b && flag))
            (any_reached s.dossier orders k w here place stands claims reached (length s.dossier.programmes)
            right.links.claims_are within_line (programme_within closes) ∙ reach)
            ∙ gathered flag needless (is_reached line place)
            ∙ proposed_right closes place stands line
            (row_there s orders opens w.programme (programme_within closes)) flag needless (is_reached line place)
            (get_or_default opens k false flag (omega (arith, lt, right.links.opens_each)))
            (get_or_default exempt k false needless (omega (arith, lt, right.links.exempt_each))) refl
            ∙ sym (proposed_at_is row k w m at)
        | inr closed ↦
            closed_flag flag needless _ closed ∙ sym (closed_at row k closed)
      ]

  pub found_right : (row : LinksRow) → record { state = s; orders = orders; opens = opens } ≡ row
      → AllOpenWait row.state row.opens → (now found : List ℕ)
      → (AllOpenWait s opens → (k : ℕ) → is_among k now ≡ exempt_open opens exempt k)
      → ListsAlso (reached_open opens claims reached (length claims)) now found
      → (k : ℕ) → is_among k found
      ≡ is_among k (filter (is_proposed_at row) (range_with_len 0 (length row.state.dossier.wishes)))
  found_right row is waits now found first second =
      let P = λ (r : LinksRow). (k : ℕ) → is_among k found
      ≡ is_among k (filter (is_proposed_at r) (range_with_len 0 (length r.state.dossier.wishes))) in
      let Q = λ (r : LinksRow). AllOpenWait r.state r.opens in
      let here : AllOpenWait s opens = subst Q (sym is) waits in
      let own : LinksRow = record { state = s; orders = orders; opens = opens } in
      let count = length s.dossier.wishes in
      subst P is
      (λ k. elim (cases_Bool (nat_lt k count)) [
        | inl within ↦
            let lt : k < count = ltb-true k count within in
            found_read now found (first here) second k ∙ flag_right here k lt
            ∙ sym (among-filter (is_proposed_at own) k count lt)
        | inr past ↦
            let le : count ≤ k = ltb-false k count past in
            found_past now found (first here) second k le
            ∙ sym (none_past (is_proposed_at own) k 0 count (omega (arith, le)))
      ])

-- a list that has just the proposed wishes
module _ (l : LinksRow) (listed : List ℕ) (are : (k : ℕ) → is_among k listed ≡ is_among k (all_proposed l)) where
  pub proposed_within : (k : ℕ) → is_among k listed ≡ true → k < length l.state.dossier.wishes
  proposed_within k t =
      elim (cases_lt k (length l.state.dossier.wishes)) [
        | inl less ↦ less
        | inr past ↦
            let none = none_past (is_proposed_at l) k 0 (length l.state.dossier.wishes) (omega (arith, past)) in
            absurd (false≢true (sym none ∙ sym (are k) ∙ t))
      ]

  -- has each that waits
  pub all_listed : (k : ℕ) (w : Wish) (m : Mark) → WaitsAt l.state k w m → is_proposed_at l k ≡ true
      → is_among k listed ≡ true
  all_listed k w m at pass =
      let d = l.state.dossier in
      let lt = slice_get_within d.wishes k w (wish_of d.wishes l.state.marks k w m at.here) in
      are k ∙ among-filter (is_proposed_at l) k (length d.wishes) lt ∙ pass

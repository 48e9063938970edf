-- Who wants a seat and who needs none, by place.
use Rattle.std.proofs.Common.{ℕ, suc, ◌+◌, ◌<◌, ◌≡◌, Bool, true, false, not, ◌&&◌, ◌||◌, List, [], ◌∷◌, ◌++◌, map}
use Rattle.std.proofs.Common.{length, get_or, take, inl, inr, refl, sym, ◌∙◌, ap, arith, nat_eq, filter, Some, subst}
use Rattle.std.specs.Prelude.{slice_get, All}
use Rattle.std.specs.List.{list_any, enumerate_from, range_with_len, AllByRecursion}
use Rattle.std.proofs.Math.Bool.{or_comm}
use Rattle.std.proofs.lemmas.Bool.{cases_Bool, and_parts, eqb-true}
use Rattle.std.proofs.lemmas.List.{get_or-map, length-map, map-append, take_more}
use Rattle.std.proofs.lemmas.Simd.{map-map}
use Rattle.std.proofs.lemmas.List.FromFn.{map-range_with_len_more, get_or-map-range_with_len, length-map-range_with_len}
use Rattle.std.proofs.lemmas.Option.{slice_get_within}
use Rattle.admit_core.proofs.Plain.{map_same}
use Rattle.admit_core.specs.declared.dossier.Wish.{Wish}
use Rattle.admit_core.specs.declared.ranking.CallOrder.{CallOrder}
use Rattle.admit_core.specs.DossierRows.{DossierRows}
use Rattle.admit_core.specs.State.{State, holds_seat}
use Rattle.day_state.specs.Kept.{has_seat_there}
use Rattle.linked_demand.specs.Line.{LineRow}
use Rattle.linked_demand.specs.Links.{claim_of, IsLinked}
use Rattle.linked_demand.specs.Opens.{wants_by, line_of, seat_row, wanting_at, exempt_at}
use Rattle.linked_demand.specs.Notes.{Noted}
use Rattle.linked_demand.specs.Seats.{IsLineup}
use Rattle.linked_demand.specs.Wants.{wants_along, seat_rows, reach_in, IsReached}
use Rattle.linked_demand.proofs.Closing.{claim_flagged, read_range}
use Rattle.linked_demand.proofs.Lining.{claim_within, wish_in_is}

-- one more value of a function of places
pub more_of : {X : Type 0} (f : ℕ → X) (n : ℕ) (xs new : List X) (x : X) → new ≡ xs ++ x ∷ []
    → xs ≡ map f (range_with_len 0 n) → x ≡ f n → new ≡ map f (range_with_len 0 (n + 1))
more_of {X} f n xs new x pushed are is =
    pushed
    ∙ ap (λ (ys : List X). ys ++ x ∷ []) are
    ∙ ap (λ (y : X). map f (range_with_len 0 n) ++ y ∷ []) is
    ∙ sym (map-range_with_len_more f 0 n n (omega arith))

-- one more of a list that a function is taken over
pub map_take_more : {X Y : Type 0} (f : X → Y) (xs : List X) (i : ℕ) (d : X) → i < length xs
    → map f (take (i + 1) xs) ≡ map f (take i xs) ++ f (get_or xs i d) ∷ []
map_take_more {X} f xs i d lt = ap (map f) (take_more xs i d lt) ∙ map-append f (take i xs) (get_or xs i d ∷ [])

pub share : (a b c : Bool) → ((a && c) || (b && c)) ≡ ((a || b) && c)
share true b true = refl
share true true false = refl
share true false false = refl
share false b c = refl

-- flags that are those of a list where a fact holds are found where it holds
any_scaled : (f g : ℕ → Bool) (b : Bool) (ks : List ℕ) → AllByRecursion (λ k. f k ≡ (g k && b)) ks
    → list_any f ks ≡ (list_any g ks && b)
any_scaled f g b [] all = refl
any_scaled f g b (k ∷ ks) all = rw (all.0, any_scaled f g b ks all.1) (share (g k) (list_any g ks) b)

all_placed : (P : ℕ → Type 0) (t : Wish → Bool) (ws : List Wish) (a : ℕ)
    → ((j : ℕ) (w : Wish) → slice_get ws j ≡ Some w → t w ≡ true → P (a + j))
    → AllByRecursion P (map (λ x. x.0) (filter (λ x. t x.1) (enumerate_from a ws)))
all_placed P t [] a h = tt
all_placed P t (w ∷ ws) a h =
    let rest = all_placed P t ws (a + 1)
    (λ j v at passes. subst P (let z : a + suc j ≡ a + 1 + j = omega arith in z) (h (suc j) v at passes)) in
    elim (cases_Bool (t w)) [
      | inl passes ↦ rw passes (subst P (let z : a + 0 ≡ a = omega arith in z) (h 0 w refl passes), rest)
      | inr fails ↦ rw fails rest
    ]

module _ (s : State) (orders : List CallOrder) (opens : List Bool)
    (long : length opens ≡ length s.dossier.wishes) (marks : length s.marks ≡ length s.dossier.wishes) where
  -- a candidate wants a seat where a wish of their claim does
  pub wants_claim : (p c : ℕ) → list_any (wanting_at s opens) (claim_of s.dossier p c) ≡ wants_by s opens p c
  wants_claim p c =
      let ws = s.dossier.wishes in
      let t = λ (w : Wish). (nat_eq w.candidate c) && (nat_eq w.programme p) in
      any_scaled (wanting_at s opens) (λ k. get_or opens k false) (not (holds_seat s c p)) (claim_of s.dossier p c)
      (all_placed (λ k. wanting_at s opens k ≡ (get_or opens k false && not (holds_seat s c p))) t ws 0
      (λ j w at passes.
      let parts = and_parts (nat_eq w.candidate c) (nat_eq w.programme p) passes in
      let j_is : 0 + j ≡ j = omega arith in
      let P = λ (k : ℕ). wanting_at s opens k ≡ (get_or opens k false && not (holds_seat s c p)) in
      subst P (sym j_is)
      (ap (λ (v : Wish). get_or opens j false && not (holds_seat s v.candidate v.programme)) (wish_in_is ws j w at)
      ∙ ap (λ x. get_or opens j false && not (holds_seat s x w.programme)) (eqb-true w.candidate c parts.0)
      ∙ ap (λ x. get_or opens j false && not (holds_seat s c x)) (eqb-true w.programme p parts.1))))
      ∙ ap (λ b. b && not (holds_seat s c p)) (claim_flagged s opens p c long marks)

  -- who of a programme's line wants a seat, as the claims tell it
  pub wants_right : (p : ℕ) (row : List (List ℕ))
      → row ≡ map (claim_of s.dossier p) (line_of s.dossier orders p)
      → wants_along s opens row ≡ map (wants_by s opens p) (line_of s.dossier orders p)
  wants_right p row row_is =
      ap (map (list_any (wanting_at s opens))) row_is
      ∙ map-map (list_any (wanting_at s opens)) (claim_of s.dossier p) (line_of s.dossier orders p)
      ∙ map_same (λ c. list_any (wanting_at s opens) (claim_of s.dossier p c)) (wants_by s opens p)
      (λ c. wants_claim p c) (line_of s.dossier orders p)

pub claims_each : {d : DossierRows} {orders : List CallOrder} {claims : List (List (List ℕ))}
    {notes : Noted} → IsLineup d orders claims notes
    → length claims ≡ length d.programmes
claims_each {d} {orders} are = ap length are.claims_are
    ∙ length-map-range_with_len (λ q. map (claim_of d q) (line_of d orders q)) 0 (length d.programmes)

-- the claims of a programme that are read
pub row_right : {d : DossierRows} {orders : List CallOrder} {claims : List (List (List ℕ))}
    {notes : Noted} → IsLineup d orders claims notes
    → (p : ℕ) → p < length d.programmes → (row : List (List ℕ)) → row ≡ get_or claims p row
    → row ≡ map (claim_of d p) (line_of d orders p)
row_right {d} {orders} {claims} are p lt row read =
    read_range (λ q. map (claim_of d q) (line_of d orders q)) (length d.programmes) p claims row are.claims_are lt read

pub row_within : (d : DossierRows) (orders : List CallOrder) (p n : ℕ) (row : List (List ℕ))
    → row ≡ map (claim_of d p) (line_of d orders p) → n ≡ length d.wishes
    → (j : ℕ) → j < length row → All (λ k. k < n) (get_or row j [])
row_within d orders p n row is n_is j lt =
    let line = line_of d orders p in
    let in_line : j < length line = omega (arith, lt, ap length is, length-map line (claim_of d p)) in
    let P = λ (ks : List ℕ). All (λ k. k < n) ks in
    subst P (sym (ap (λ (r : List (List ℕ)). get_or r j []) is
    ∙ get_or-map (claim_of d p) line j 0 [] in_line)) (claim_within d p (get_or line j 0) n n_is)

-- the links of a lineup with its lines and the flags of those who need no seat
linked : (s : State) (orders : List CallOrder) (opens : List Bool) (lines : List LineRow)
    (claims : List (List (List ℕ))) (notes : Noted) (exempt : List Bool) (n : ℕ)
    → length s.marks ≡ length s.dossier.wishes → length opens ≡ length s.dossier.wishes
    → IsLineup s.dossier orders claims notes
    → n ≡ length s.dossier.programmes → lines ≡ map (seat_row s orders opens) (range_with_len 0 n)
    → exempt ≡ map (exempt_at s notes.called_by_limit) (range_with_len 0 (length s.dossier.wishes))
    → IsLinked s orders opens lines claims notes.places exempt
linked s orders opens lines claims notes exempt n marks long lineup n_is lines_are exempt_are =
    let ws = s.dossier.wishes in
    record {
      marks_each = marks;
      opens_each = long;
      places_each = lineup.notes_are.one_each;
      programmes_are = lineup.programmes_are;
      lines_are = lines_are ∙ ap (λ k. map (seat_row s orders opens) (range_with_len 0 k)) n_is;
      claims_are = lineup.claims_are;
      places_are = lineup.notes_are.places_are;
      exempt_each = ap length exempt_are ∙ length-map-range_with_len (exempt_at s notes.called_by_limit) 0 (length ws);
      exempt_are = λ i w at.
          ap (λ (fs : List Bool). get_or fs i false) exempt_are
          ∙ get_or-map-range_with_len (exempt_at s notes.called_by_limit) 0 (length ws) i i false
          (slice_get_within ws i w at)
          (omega arith)
          ∙ or_comm (get_or notes.called_by_limit i false) (has_seat_there s i)
          ∙ ap (λ (v : Wish). holds_seat s v.candidate v.programme || get_or notes.called_by_limit i false)
          (wish_in_is ws i w at)
          ∙ ap (λ b. holds_seat s w.candidate w.programme || b) (lineup.notes_are.called_are i w at);
    }

-- how far the seats reach of all programmes up to one
pub all_reached : (s : State) (orders : List CallOrder) (opens : List Bool) (reached : List ℕ)
    (claims : List (List (List ℕ))) (notes : Noted) (exempt : List Bool) (n : ℕ)
    → length s.marks ≡ length s.dossier.wishes → length opens ≡ length s.dossier.wishes
    → IsLineup s.dossier orders claims notes
    → n ≡ length s.dossier.programmes → reached ≡ map (λ p. reach_in (seat_row s orders opens p)) (range_with_len 0 n)
    → exempt ≡ map (exempt_at s notes.called_by_limit) (range_with_len 0 (length s.dossier.wishes))
    → IsReached s orders opens reached claims notes.places exempt
all_reached s orders opens reached claims notes exempt n marks long lineup n_is reached_are exempt_are =
    let count = length s.dossier.programmes in
    record {
      links = linked s orders opens (seat_rows s orders opens) claims notes exempt count marks long
          lineup refl refl exempt_are;
      reached_are =
          reached_are
          ∙ ap (λ k. map (λ p. reach_in (seat_row s orders opens p)) (range_with_len 0 k)) n_is
          ∙ sym (map-map reach_in (seat_row s orders opens) (range_with_len 0 count));
    }

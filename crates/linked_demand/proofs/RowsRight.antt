-- The rows of the first boarders of the schools are those of the schools.
use Rattle.std.proofs.Common.{ℕ, zero, suc, ◌≤◌, ◌<◌, ◌≡◌, Bool, true, false, not, ◌&&◌, List, [], ◌∷◌, map, length}
use Rattle.std.proofs.Common.{get_or, inl, inr, refl, sym, ◌∙◌, ap, arith, nat_eq, nat_le, nat_lt, filter, Option, Some}
use Rattle.std.proofs.Common.{None}
use Rattle.std.proofs.Common.{unwrap_or, zip, subst, take, Vec}
use Rattle.std.specs.Prelude.{slice_get, slice_index, All, is_some}
use Rattle.std.specs.List.{list_any, range_with_len}
use Rattle.std.specs.List.Sorted.{IsNonDecreasingBy}
use Rattle.std.specs.declared.alloc.Global.{Global}
use Rattle.std.proofs.lemmas.Bool.{cases_Bool, cases_lt, false≢true, eqb-true, eq-eqb, and_parts, and_from, and_right}
use Rattle.std.proofs.lemmas.Bool.{ltb-false, le-ltb, le-leb, lt-leb, lt-ltb}
use Rattle.std.proofs.lemmas.Bool.{or_cases, or_left, or_right}
use Rattle.std.proofs.lemmas.List.{get_or_default, get_or-map, length-map}
use Rattle.std.proofs.lemmas.List.Elements.{All-filter, filter_passes}
use Rattle.std.proofs.lemmas.List.Kept.{IsNonDecreasingBy-filter}
use Rattle.std.proofs.lemmas.Option.{slice_get_cases, slice_get_within, unwrap_or-slice_get}
use Rattle.admit_core.specs.declared.dossier.Wish.{Wish}
use Rattle.admit_core.specs.declared.state.Mark.{Mark}
use Rattle.admit_core.specs.declared.ranking.CallOrder.{CallOrder}
use Rattle.admit_core.specs.DossierRows.{DossierRows}
use Rattle.admit_core.specs.Lists.{is_among}
use Rattle.admit_core.specs.Proposals.{is_behind_bar, is_open}
use Rattle.admit_core.specs.State.{State, entries, is_waiting, holds_bed, is_school}
use Rattle.admit_core.proofs.Tests.{Ascends}
use Rattle.admit_core.proofs.Plain.{filter_same}
use Rattle.day_state.specs.Kept.{has_bed_there, holds_bed_in, mark_in, wish_in}
use Rattle.linked_demand.specs.declared.rows.RowWish.{RowWish}
use Rattle.linked_demand.specs.Rows.{item_at, needs_bed, row_in, row_item, rows_to, AllItems, AreEndsAt, AreItems}
use Rattle.linked_demand.specs.Rows.{AreRows, IsEnd, IsRow, WaitsFor}
use Rattle.linked_demand.specs.Boarders.{boards_in, rank_at, AreByRank, AreBySchool}
use Rattle.linked_demand.specs.Filled.{wants_bed, is_in_row, row_along}
use Rattle.linked_demand.specs.Seats.{boards_at, boarders_of}
use Rattle.linked_demand.specs.Opens.{opens_of}
use Rattle.linked_demand.proofs.Boarding.{all_by_rank, front_of_end}
use Rattle.linked_demand.proofs.ClaimSpans.{turn_two}
use Rattle.linked_demand.proofs.Closing.{wish_of}
use Rattle.linked_demand.proofs.Falling.{flag_map}
use Rattle.linked_demand.proofs.Lining.{filter_twice}
use Rattle.linked_demand.proofs.RowsTo.{length_rows, row_back}
use Rattle.linked_demand.proofs.PlaceOrder.{InPlaceOrder, in_order_from, in_place_order, ascends-filter, ascends-range}

-- a wish stands in the row of a school where it waits for it, its candidate has no bed there, and it ranks at most at
-- the bar
record StandsIn (s : State) (bars : List ℕ) (h : ℕ) (w : Wish) (m : Mark) (school : Option ℕ) : Type 0 where
  waits : is_waiting m ≡ true
  has : is_school school h ≡ true
  no_bed : not (holds_bed s w.candidate h) ≡ true
  low : w.board_rank ≤ slice_index bars h

open_parts : (waits bed behind : Bool) → ((waits && not (waits && (not bed && behind))) && not bed) ≡ true
    → (waits ≡ true) × (not bed ≡ true) × (behind ≡ false)
open_parts true false false t = (refl, refl, refl)
open_parts true false true t = absurd (false≢true t)
open_parts true true behind t = absurd (false≢true t)
open_parts false bed behind t = absurd (false≢true t)

open_from : (waits bed behind : Bool) → waits ≡ true → not bed ≡ true → behind ≡ false
    → ((waits && not (waits && (not bed && behind))) && not bed) ≡ true
open_from true false false w b t = refl
open_from true false true w b t = absurd (false≢true (sym t))
open_from true true behind w b t = absurd (false≢true b)
open_from false bed behind w b t = absurd (false≢true w)

-- it is open, its candidate has no bed there, and it has the school
stands_by : (s : State) (bars : List ℕ) (h : ℕ) (w : Wish) (m : Mark) (school : Option ℕ)
    → ((is_waiting m && not (is_waiting m && is_behind_bar s bars w school)) && not (holds_bed_in s w.candidate school))
    ≡ true
    → is_school school h ≡ true → StandsIn s bars h w m school
stands_by s bars h w m None passes t = absurd (false≢true t)
stands_by s bars h w m (Some g) passes t =
    let is : g ≡ h = eqb-true g h t in
    let parts = open_parts (is_waiting m) (holds_bed s w.candidate g)
    (nat_lt (slice_index bars g) w.board_rank) passes in
    let P = λ (n : ℕ). not (holds_bed s w.candidate n) ≡ true in
    let Q = λ (n : ℕ). w.board_rank ≤ slice_index bars n in
    record {
      waits = parts.0;
      has = t;
      no_bed = subst P is parts.1;
      low = subst Q is (ltb-false (slice_index bars g) w.board_rank parts.2);
    }

stands_back : (s : State) (bars : List ℕ) (h : ℕ) (w : Wish) (m : Mark) (school : Option ℕ)
    → StandsIn s bars h w m school
    → ((is_waiting m && not (is_waiting m && is_behind_bar s bars w school)) && not (holds_bed_in s w.candidate school))
    ≡ true
stands_back s bars h w m None in_row = absurd (false≢true in_row.has)
stands_back s bars h w m (Some g) in_row =
    let is : g ≡ h = eqb-true g h in_row.has in
    let P = λ (n : ℕ). not (holds_bed s w.candidate n) ≡ true in
    let Q = λ (n : ℕ). w.board_rank ≤ slice_index bars n in
    open_from (is_waiting m) (holds_bed s w.candidate g) (nat_lt (slice_index bars g) w.board_rank) in_row.waits
    (subst P (sym is) in_row.no_bed) (le-ltb (slice_index bars g) w.board_rank (subst Q (sym is) in_row.low))

pub entry_there : (ws : List Wish) (ms : List Mark) (k : ℕ) → length ms ≡ length ws → k < length ws
    → slice_get (zip ws ms) k ≡ Some (wish_in ws k, mark_in ms k)
entry_there [] ms k long lt = absurd (omega arith)
entry_there (w ∷ ws) [] k long lt = absurd (omega arith)
entry_there (w ∷ ws) (m ∷ ms) zero long lt = refl
entry_there (w ∷ ws) (m ∷ ms) (suc k) long lt = entry_there ws ms k (omega arith) (omega arith)

-- the flag of the wish at a place
flag_there : (s : State) (bars : List ℕ) (opens : List Bool) (k : ℕ) → length s.marks ≡ length s.dossier.wishes
    → opens ≡ opens_of s bars → k < length s.dossier.wishes
    → get_or opens k false ≡ is_open s bars (wish_in s.dossier.wishes k) (mark_in s.marks k)
flag_there s bars opens k long are lt =
    let ws = s.dossier.wishes in
    let f = λ (e : Wish × Mark). is_open s bars e.0 e.1 in
    ap (λ (os : List Bool). get_or os k false) are
    ∙ flag_map f (entries s) k (wish_in ws k, mark_in s.marks k) (entry_there ws s.marks k long lt)

among_kept : (q : ℕ → Bool) (k : ℕ) (ks : List ℕ) → q k ≡ true → is_among k ks ≡ true → is_among k (filter q ks) ≡ true
among_kept q k [] passes t = t
among_kept q k (x ∷ ks) passes t =
    elim (cases_Bool (nat_eq k x)) [
      | inl here ↦
          let kept : q x ≡ true = ap q (sym (eqb-true k x here)) ∙ passes in
          rw (kept, here) refl
      | inr other ↦
          let later = among_kept q k ks passes (rw other at t) in
          elim (cases_Bool (q x)) [ inl kept ↦ rw (kept, other) later | inr dropped ↦ rw dropped later ]
    ]

pub entry_is : (ws : List Wish) (ms : List Mark) (k : ℕ) (w : Wish) (m : Mark)
    → slice_get (zip ws ms) k ≡ Some (w, m) → (wish_in ws k ≡ w) × (mark_in ms k ≡ m)
entry_is [] ms k w m at = absurd (omega (arith, slice_get_within (zip [] ms) k (w, m) at))
entry_is (v ∷ ws) [] k w m at = absurd (omega (arith, slice_get_within (zip (v ∷ ws) []) k (w, m) at))
entry_is (v ∷ ws) (n ∷ ms) zero w m at = (
  ap (λ (o : Option (Wish × Mark)). (unwrap_or o (w, m)).0) at,
  ap
      (λ (o : Option (Wish × Mark)). (unwrap_or o (w, m)).1) at,
)
entry_is (v ∷ ws) (n ∷ ms) (suc k) w m at = entry_is ws ms k w m at

-- what holds of each item of the row of a school
record IsInRow (s : State) (bars : List ℕ) (h : ℕ) (x : RowWish) : Type 0 where
  wish : Wish
  mark : Mark
  waits : WaitsFor s h x wish mark
  low : x.rank ≤ slice_index bars h

row_each : (s : State) (orders : List CallOrder) (bars : List ℕ) (opens : List Bool) (places : List ℕ) (h : ℕ)
    → length s.marks ≡ length s.dossier.wishes → opens ≡ opens_of s bars → All (λ k. k < length s.dossier.wishes) places
    → All (IsInRow s bars h) (row_along s orders opens places h)
row_each s orders bars opens places h long are within k d lt =
    let ws = s.dossier.wishes in
    let n = length ws in
    let q = is_in_row s opens h in
    let ys = filter q places in
    let f = row_item s orders in
    let k_in : k < length ys = omega (arith, lt, length-map ys f) in
    let p = get_or ys k 0 in
    let below : All (λ j. j < n) ys = All-filter q (λ j. j < n) places within in
    let p_in : p < n = below k 0 k_in in
    let parts = and_parts (wants_bed s opens p) (is_school (wish_in ws p).school h)
    (filter_passes q places k 0 k_in) in
    let R = λ (b : Bool). (b && not (has_bed_there s p)) ≡ true in
    let in_row = stands_by s bars h (wish_in ws p) (mark_in s.marks p) (wish_in ws p).school
    (subst R (flag_there s bars opens p long are p_in) parts.0) parts.1 in
    let P = λ (x : RowWish). IsInRow s bars h x in
    subst P (sym (get_or-map f ys k 0 d k_in)) (record {
      wish = wish_in ws p;
      mark = mark_in s.marks p;
      waits = record {
        waits = record { here = entry_there ws s.marks p long p_in; waits = in_row.waits };
        has = in_row.has;
        no_bed = in_row.no_bed;
        rank = refl;
      };
      low = in_row.low;
    })

-- the items that are equal to one
abbrev is_item : RowWish → RowWish → Bool
is_item x y = nat_eq x.rank y.rank && nat_eq x.wish y.wish

any_item : (x : RowWish) (f : ℕ → RowWish) (p : ℕ) (ks : List ℕ) → (f p).rank ≡ x.rank → (f p).wish ≡ x.wish
    → is_among p ks ≡ true → list_any (is_item x) (map f ks) ≡ true
any_item x f p [] rank wish t = absurd (false≢true t)
any_item x f p (k ∷ ks) rank wish t =
    elim (or_cases (nat_eq p k) (is_among p ks) t) [
      | inl here ↦
          let same : f k ≡ f p = ap f (sym (eqb-true p k here)) in
          or_left (is_item x (f k)) (list_any (is_item x) (map f ks))
          (and_from (nat_eq x.rank (f k).rank) (nat_eq x.wish (f k).wish)
          (eq-eqb x.rank (f k).rank (sym (ap (λ (z : RowWish). z.rank) same ∙ rank)))
          (eq-eqb x.wish (f k).wish (sym (ap (λ (z : RowWish). z.wish) same ∙ wish))))
      | inr later ↦ or_right (is_item x (f k)) (list_any (is_item x) (map f ks)) (any_item x f p ks rank wish later)
    ]

item_place : (x : RowWish) (xs : List RowWish) → list_any (is_item x) xs ≡ true
    → (k : ℕ) × (y : RowWish) × (slice_get xs k ≡ Some y) × (y.rank ≡ x.rank) × (y.wish ≡ x.wish)
item_place x [] t = absurd (false≢true t)
item_place x (y ∷ xs) t =
    elim (or_cases (is_item x y) (list_any (is_item x) xs) t) [
      | inl here ↦
          let parts = and_parts (nat_eq x.rank y.rank) (nat_eq x.wish y.wish) here in
          (0, y, refl, sym (eqb-true x.rank y.rank parts.0), sym (eqb-true x.wish y.wish parts.1))
      | inr later ↦ let (k, y, at, rank, wish) = item_place x xs later in (suc k, y, at, rank, wish)
    ]

has_some : (school : Option ℕ) (h : ℕ) → is_school school h ≡ true → is_some school ≡ true
has_some None h t = absurd (false≢true t)
has_some (Some g) h t = refl

row_all : (s : State) (orders : List CallOrder) (bars : List ℕ) (opens : List Bool) (places : List ℕ) (h : ℕ)
    (x : RowWish) (w : Wish) (m : Mark) → length s.marks ≡ length s.dossier.wishes → opens ≡ opens_of s bars
    → AreByRank s.dossier places
    → WaitsFor s h x w m
    → x.rank ≤ slice_index bars h → list_any (is_item x) (row_along s orders opens places h) ≡ true
row_all s orders bars opens places h x w m long are by_rank waits low =
    let ws = s.dossier.wishes in
    let ms = s.marks in
    let n = length ws in
    let p = x.wish in
    let (wish, mark) = entry_is ws ms p w m waits.waits.here in
    let p_in : p < n = slice_get_within ws p w (wish_of ws ms p w m waits.waits.here) in
    let open_now = stands_back s bars h w m w.school
    (record {
      waits = waits.waits.waits;
      has = waits.has;
      no_bed = waits.no_bed;
      low = omega (arith, waits.rank, low);
    }) in
    let P = λ (v : Wish). ((is_waiting m && not (is_waiting m && is_behind_bar s bars v v.school))
    && not (holds_bed_in s v.candidate v.school)) ≡ true in
    let Q = λ (o : Mark). (is_open s bars (wish_in ws p) o && not (has_bed_there s p)) ≡ true in
    let R = λ (b : Bool). (b && not (has_bed_there s p)) ≡ true in
    let S = λ (v : Wish). is_school v.school h ≡ true in
    let wants : wants_bed s opens p ≡ true =
    subst R (sym (flag_there s bars opens p long are p_in)) (subst Q (sym mark) (subst P (sym wish) open_now)) in
    let in_row : is_in_row s opens h p ≡ true =
    and_from (wants_bed s opens p) (is_school (wish_in ws p).school h) wants (subst S (sym wish) waits.has) in
    let boards : boards_at s.dossier p ≡ true = has_some (wish_in ws p).school h (subst S (sym wish) waits.has) in
    let in_places : is_among p places ≡ true = all_by_rank s.dossier places by_rank p p_in ∙ boards in
    let rank : (wish_in ws p).board_rank ≡ x.rank = ap (λ (v : Wish). v.board_rank) wish ∙ sym waits.rank in
    any_item x (row_item s orders) p (filter (is_in_row s opens h) places) rank refl
    (among_kept (is_in_row s opens h) p places in_row in_places)

-- those items that pass a test, by place
pub places_kept : (f : ℕ → RowWish) (q : RowWish → Bool) (ks : List ℕ) → ((k : ℕ) → (f k).wish ≡ k)
    → map (λ x. x.wish) (filter q (map f ks)) ≡ filter (λ k. q (f k)) ks
places_kept f q [] own = refl
places_kept f q (k ∷ ks) own =
    elim (cases_Bool (q (f k))) [
      | inl kept ↦ rw kept
          (ap (λ (j : ℕ). j ∷ map (λ (x : RowWish). x.wish) (filter q (map f ks))) (own k)
          ∙ ap (λ (js : List ℕ). k ∷ js) (places_kept f q ks own))
      | inr dropped ↦ rw dropped (places_kept f q ks own)
    ]

-- each item of the row of a school is that of its wish
own_items : (f : ℕ → RowWish) → ((k : ℕ) → (f k).wish ≡ k) → (ks : List ℕ)
    → All (λ (x : RowWish). x ≡ f x.wish) (map f ks)
own_items f own ks i e lt =
    let k_in : i < length ks = omega (arith, lt, length-map ks f) in
    let is : get_or (map f ks) i e ≡ f (get_or ks i 0) = get_or-map f ks i 0 e k_in in
    is ∙ ap f (sym (ap (λ (x : RowWish). x.wish) is ∙ own (get_or ks i 0)))

items_along : (s : State) (orders : List CallOrder) (opens : List Bool) (places : List ℕ) (h : ℕ)
    → AreItems s orders (row_along s orders opens places h)
items_along s orders opens places h k x at =
    let f = row_item s orders in
    let row = row_along s orders opens places h in
    let Q : RowWish → Type 0 = λ x. x ≡ f x.wish in
    let is : get_or row k x ≡ x = sym (unwrap_or-slice_get row k x) ∙ ap (λ (o : Option RowWish). unwrap_or o x) at in
    subst Q is (own_items f (λ k. refl) (filter (is_in_row s opens h) places) k x (slice_get_within row k x at))

-- the items of a row rise where the places do
pub items_rise : (f : ℕ → RowWish) (rank : ℕ → ℕ) → ((k : ℕ) → (f k).rank ≡ rank k) → (ks : List ℕ)
    → IsNonDecreasingBy rank ks
    → IsNonDecreasingBy (λ (x : RowWish). x.rank) (map f ks)
items_rise f rank same ks rises j k d le lt =
    let k_in : k < length ks = omega (arith, lt, length-map ks f) in
    let j_is = ap (λ (x : RowWish). x.rank) (get_or-map f ks j 0 d (omega (arith, le, k_in))) ∙ same (get_or ks j 0) in
    let k_is = ap (λ (x : RowWish). x.rank) (get_or-map f ks k 0 d k_in) ∙ same (get_or ks k 0) in
    omega (arith, rises j k 0 le k_in, j_is, k_is)

filter_turned : (t q : ℕ → Bool) (ks : List ℕ) → filter t (filter q ks) ≡ filter q (filter t ks)
filter_turned t q ks =
    filter_twice t q ks ∙ filter_same (λ k. q k && t k) (λ k. t k && q k) (λ k. turn_two (q k) (t k)) ks
    ∙ sym (filter_twice q t ks)

-- a row along the wishes with a school by rank is that of its school
row_right : (s : State) (orders : List CallOrder) (bars : List ℕ) (opens : List Bool) (places : List ℕ) (h : ℕ)
    → length s.marks ≡ length s.dossier.wishes → opens ≡ opens_of s bars → All (λ k. k < length s.dossier.wishes) places
    → AreByRank s.dossier places → IsRow s bars h (row_along s orders opens places h)
row_right s orders bars opens places h long are within by_rank =
    let d = s.dossier in
    let q = is_in_row s opens h in
    let row = row_along s orders opens places h in
    let rank_of : RowWish → ℕ = λ x. x.rank in
    let all : All (IsInRow s bars h) row = row_each s orders bars opens places h long are within in
    let rises = items_rise (row_item s orders) (rank_at d) (λ k. refl) (filter q places)
    (IsNonDecreasingBy-filter (rank_at d) q places by_rank.rises) in
    let read : (k : ℕ) (x : RowWish) → slice_get row k ≡ Some x → (k < length row) × (get_or row k x ≡ x) =
    λ k x at. (
      slice_get_within row k x at,
      sym (unwrap_or-slice_get row k x) ∙ ap (λ (o : Option RowWish). unwrap_or o x) at,
    ) in
    let in_row : (k : ℕ) (x : RowWish) → slice_get row k ≡ Some x
    → IsInRow s bars h x = λ k x at. let P = λ (z : RowWish). IsInRow s bars h z in subst P
    (read k x at).1 (all k x (read k x at).0) in
    let order : InPlaceOrder rank_of (λ x. x.wish) row =
    in_order_from rank_of (λ x. x.wish) row (λ r.
    let t = λ (k : ℕ). nat_eq (rank_at d k) r in
    let same : map (λ (x : RowWish). x.wish) (filter (λ x. nat_eq x.rank r) row) ≡ filter q (filter t (boarders_of d)) =
    places_kept (row_item s orders) (λ x. nat_eq x.rank r) (filter q places) (λ k. refl)
    ∙ filter_turned t q places ∙ ap (filter q) (by_rank.own r) in
    let P = λ (ks : List ℕ). Ascends ks in
    subst P (sym same) (ascends-filter q (filter t (boarders_of d)) (ascends-filter t (boarders_of d)
    (ascends-filter (boards_at d) (range_with_len 0 (length d.wishes)) (ascends-range 0 (length d.wishes)))))) in
    record {
      rises = λ j k x y le a b.
          let (k_in, k_is) = read k y b in
          let (j_in, j_is) = read j x a in
          omega (arith, rises j k y le k_in, ap rank_of k_is, ap rank_of (get_or_default row j y x j_in ∙ j_is));
      in_order = λ j k x y lt a b same. in_place_order rank_of (λ x. x.wish) row order j k x y lt a b same;
      each = λ k x at. let one = in_row k x at in (one.wish, one.mark, one.waits);
      below = λ k x at. (in_row k x at).low;
      all = λ x w m waits low. item_place x row (row_all s orders bars opens places h x w m long are by_rank waits low);
    }

-- a wish with a school stands in the dossier
boards_within : (d : DossierRows) (h k : ℕ) → boards_in d h k ≡ true → k < length d.wishes
boards_within d h k t =
    elim (slice_get_cases d.wishes k).1 [
      | inl there ↦ slice_get_within d.wishes k there.0 there.2
      | inr past ↦
          let none : wish_in d.wishes k ≡ wish_in [] k = wish_past d.wishes k past.0 in
          absurd (false≢true (ap (λ (w : Wish). is_school w.school h) (sym none) ∙ t))
    ]
  where
    wish_past : (ws : List Wish) (j : ℕ) → length ws ≤ j → wish_in ws j ≡ wish_in [] j
    wish_past [] j le = refl
    wish_past (w ∷ ws) zero le = absurd (omega (arith, le))
    wish_past (w ∷ ws) (suc j) le = wish_past ws j (omega (arith, le))

bed_bits : (waits bed behind : Bool) → (not behind && (waits && not bed))
    ≡ ((waits && not (waits && (not bed && behind))) && not bed)
bed_bits true true true = refl
bed_bits true true false = refl
bed_bits true false true = refl
bed_bits true false false = refl
bed_bits false bed true = refl
bed_bits false bed false = refl

-- one who waits for a bed and ranks at most at the bar is open and wants one
bed_wanted : (s : State) (bars : List ℕ) (h : ℕ) (w : Wish) (m : Mark) (school : Option ℕ)
    → is_school school h ≡ true
    → (nat_le w.board_rank (slice_index bars h) && (is_waiting m && not (holds_bed_in s w.candidate school)))
    ≡ ((is_waiting m && not (is_waiting m && is_behind_bar s bars w school)) && not (holds_bed_in s w.candidate school))
bed_wanted s bars h w m None t = absurd (false≢true t)
bed_wanted s bars h w m (Some g) t =
    let is : g ≡ h = eqb-true g h t in
    let low : nat_le w.board_rank (slice_index bars h) ≡ not (nat_lt (slice_index bars g) w.board_rank) =
    ap (λ (n : ℕ). nat_le w.board_rank (slice_index bars n)) (sym is)
    ∙ le_is (slice_index bars g) w.board_rank in
    ap (λ (b : Bool). b && (is_waiting m && not (holds_bed s w.candidate g))) low
    ∙ bed_bits (is_waiting m) (holds_bed s w.candidate g) (nat_lt (slice_index bars g) w.board_rank)
  where
    le_is : (a b : ℕ) → nat_le b a ≡ not (nat_lt a b)
    le_is a b =
        elim (cases_lt a b) [
          | inl less ↦ lt-leb b a less ∙ sym (ap not (lt-ltb a b less))
          | inr more ↦ le-leb b a (omega (arith, more)) ∙ sym (ap not (le-ltb a b (omega (arith, more))))
        ]

module _ (s : State) (orders : List CallOrder) (bars : List ℕ) (places : List ℕ) (h : ℕ)
    (long : length s.marks ≡ length s.dossier.wishes) where
  item : ℕ → RowWish
  item = item_at s.dossier orders

  abbrev low : RowWish → Bool
  low x = nat_le x.rank (slice_index bars h)

  -- whether one comes into the row by what is kept of it
  comes : (k : ℕ) → (boards_in s.dossier h k && (low (row_item s orders k) && needs_bed s (row_item s orders k)))
      ≡ is_in_row s (opens_of s bars) h k
  comes k =
      elim (cases_Bool (boards_in s.dossier h k)) [
        | inl has ↦
            let w = wish_in s.dossier.wishes k in
            let m = mark_in s.marks k in
            let flag = flag_there s bars (opens_of s bars) k long refl (boards_within s.dossier h k has) in
            ap (λ (b : Bool). b && (low (row_item s orders k) && needs_bed s (row_item s orders k))) has
            ∙ bed_wanted s bars h w m w.school has
            ∙ ap (λ (b : Bool). b && not (has_bed_there s k)) (sym flag)
            ∙ sym (and_right_true (wants_bed s (opens_of s bars) k) (boards_in s.dossier h k) has)
        | inr none ↦
            ap (λ (b : Bool). b && (low (row_item s orders k) && needs_bed s (row_item s orders k))) none
            ∙ sym (and_right (wants_bed s (opens_of s bars) k) (boards_in s.dossier h k) none)
      ]
    where
      and_right_true : (a b : Bool) → b ≡ true → (a && b) ≡ a
      and_right_true true b t = t
      and_right_true false b t = refl

  -- what is kept of some places, by a test
  kept_of : (f : ℕ → RowWish) (q : RowWish → Bool) (ks : List ℕ)
      → filter q (map f ks) ≡ map f (filter (λ k. q (f k)) ks)
  kept_of f q [] = refl
  kept_of f q (k ∷ ks) =
      elim (cases_Bool (q (f k))) [
        | inl stays ↦ rw stays (ap (λ (xs : List RowWish). f k ∷ xs) (kept_of f q ks))
        | inr goes ↦ rw goes (kept_of f q ks)
      ]

  -- the first boarders of a school who wait for a bed are its row
  pub row_is : (own : List RowWish) (end : ℕ) → own ≡ map (row_item s orders) (filter (boards_in s.dossier h) places)
      → IsEnd (slice_index bars h) own end
      → row_in s (take end own) ≡ row_along s orders (opens_of s bars) places h
  row_is own end own_is ends =
      let f = row_item s orders in
      let q = needs_bed s in
      let parts = front_of_end (slice_index bars h) own end ends in
      let both = λ (k : ℕ). low (f k) && q (f k) in
      ap (λ (xs : List RowWish). filter q xs) parts.0
      ∙ filter_twice q low own
      ∙ ap (λ (xs : List RowWish). filter (λ x. low x && q x) xs) own_is
      ∙ kept_of f (λ x. low x && q x) (filter (boards_in s.dossier h) places)
      ∙ ap (map f)
      (filter_twice both (boards_in s.dossier h) places
      ∙ filter_same (λ k. boards_in s.dossier h k && both k) (is_in_row s (opens_of s bars) h) comes places)

-- so the rows of the first boarders are those of the schools
pub rows_right : (s : State) (orders : List CallOrder) (bars : List ℕ) (boarders : List (Vec RowWish Global))
    (ends : List ℕ) → length s.marks ≡ length s.dossier.wishes → AreBySchool s.dossier orders boarders
    → AreEndsAt bars boarders ends
    → AreRows s bars (rows_to s boarders ends) × AllItems s orders (rows_to s boarders ends)
rows_right s orders bars boarders ends long by_school ends_are =
    let places = by_school.places in
    let along : (h : ℕ) (row : List RowWish) → slice_get (rows_to s boarders ends) h ≡ Some row
    → row ≡ row_along s orders (opens_of s bars) places h = λ h row at.
    let (own, found, is) = row_back s boarders ends ends_are.one_each h row at in
    is ∙ row_is s orders bars places h long own.items (slice_index ends h) (by_school.rows_are.each h own found)
    (ends_are.each h own found) in (
      record {
        one_each = length_rows s boarders ends ends_are.one_each ∙ by_school.rows_are.one_each;
        each = λ h row at.
            let P = λ (xs : List RowWish). IsRow s bars h xs in
            subst P (sym (along h row at))
            (row_right s orders bars (opens_of s bars) places h long refl by_school.within by_school.by_rank);
      },
      λ h row at.
          let P = λ (xs : List RowWish). AreItems s orders xs in
          subst P (sym (along h row at)) (items_along s orders (opens_of s bars) places h),
    )

-- Where the wishes past a new bar are closed, the flags and the rows are those of the new bars.
use Rattle.std.proofs.Common.{ℕ, ◌-◌, ◌≤◌, ◌<◌, ◌≡◌, Bool, true, false, not, ◌&&◌, ◌||◌, List, [], ◌∷◌, map, length}
use Rattle.std.proofs.Common.{inl, inr, refl, sym, ◌∙◌, ap, arith, nat_eq, nat_lt, zero, suc, get_or, take, drop}
use Rattle.std.proofs.Common.{Option, Some, None, subst, unwrap_or, ◌≢◌}
use Rattle.std.specs.Prelude.{slice_index, slice_set, slice_get}
use Rattle.std.proofs.lemmas.Bool.{cases_Bool, false≢true, cases_lt, and_parts, and_from, or_cases, or_left, or_right}
use Rattle.std.proofs.lemmas.Bool.{eqb-true, eq-eqb, eqb-false, ltb-true, ltb-false, lt-ltb}
use Rattle.std.proofs.lemmas.List.{get_or-set_same, get_or-set_other, length-set, length-map}
use Rattle.std.proofs.lemmas.Option.{slice_get_within, slice_get_cases}
use Rattle.admit_core.proofs.Plain.{and_false, is_and_true}
use Rattle.admit_core.specs.declared.dossier.Wish.{Wish}
use Rattle.admit_core.specs.declared.state.Mark.{Mark}
use Rattle.admit_core.specs.State.{State, entries, is_waiting, holds_bed, has_school, is_school}
use Rattle.admit_core.specs.Proposals.{is_open, is_behind_bar}
use Rattle.day_state.specs.declared.numbers.BundleNumber.TheVariants.{NoSite}
use Rattle.linked_demand.specs.declared.rows.RowWish.{RowWish}
use Rattle.linked_demand.specs.Opens.{opens_of, is_past}
use Rattle.linked_demand.specs.Rows.{IsRow, closed, CutsAt}
use Rattle.linked_demand.proofs.Opens.{opens_fallen}

same_flags : (xs ys : List Bool) → length xs ≡ length ys
    → ((i : ℕ) → i < length xs → get_or xs i false ≡ get_or ys i false) → xs ≡ ys
same_flags [] [] e h = refl
same_flags [] (y ∷ ys) e h = absurd (omega arith)
same_flags (x ∷ xs) [] e h = absurd (omega arith)
same_flags (x ∷ xs) (y ∷ ys) e h =
    let first : x ≡ y = h 0 (omega arith) in
    let rest : xs ≡ ys = same_flags xs ys (omega arith) (λ i lt. h (suc i) (omega arith)) in
    (cc)

abbrev pub is_wish_of : ℕ → List RowWish → Bool
is_wish_of i [] = false
is_wish_of i (x ∷ xs) = nat_eq i x.wish || is_wish_of i xs

pub length_closed : (xs : List RowWish) (opens : List Bool) → length (closed xs opens) ≡ length opens
length_closed [] opens = refl
length_closed (x ∷ xs) opens = length-set (closed xs opens) x.wish false ∙ length_closed xs opens

pub flag_closed : (xs : List RowWish) (opens : List Bool) (i : ℕ) → i < length opens
    → get_or (closed xs opens) i false ≡ (get_or opens i false && not (is_wish_of i xs))
flag_closed [] opens i lt = is_and_true (get_or opens i false)
flag_closed (x ∷ xs) opens i lt =
    elim (cases_Bool (nat_eq i x.wish)) [
      | inl here ↦
          let same = eqb-true i x.wish here in
          rw (
            here,
            same,
            get_or-set_same (closed xs opens) x.wish false false
                (omega (arith, length_closed xs opens)),
          ) (sym (and_false (get_or opens x.wish false)))
      | inr other ↦ rw other
          (get_or-set_other (closed xs opens) x.wish i false false (eqb-false i x.wish other)
          ∙ flag_closed xs opens i lt)
    ]

pub flag_map : (f : Wish × Mark → Bool) (es : List (Wish × Mark)) (i : ℕ) (e : Wish × Mark)
    → slice_get es i ≡ Some e → get_or (map f es) i false ≡ f e
flag_map f [] i e at = absurd (omega (arith, slice_get_within [] i e at))
flag_map f (y ∷ es) zero e at = ap (λ (o : Option (Wish × Mark)). f (unwrap_or o y)) at
flag_map f (y ∷ es) (suc i) e at = flag_map f es i e at

-- what stands behind the end of a row
pub found_behind : (row : List RowWish) (end i : ℕ) → is_wish_of i (drop end row) ≡ true
    → (k : ℕ) × (x : RowWish) × (end ≤ k) × (slice_get row k ≡ Some x) × (i ≡ x.wish)
found_behind [] zero i t = absurd (false≢true t)
found_behind [] (suc end) i t = absurd (false≢true t)
found_behind (x ∷ row) zero i t =
    elim (or_cases (nat_eq i x.wish) (is_wish_of i row) t) [
      | inl here ↦ (0, x, omega arith, refl, eqb-true i x.wish here)
      | inr later ↦ let (k, y, le, at, same) = found_behind row 0 i later in (suc k, y, omega arith, at, same)
    ]
found_behind (x ∷ row) (suc end) i t = let (k, y, le, at, same) = found_behind row end i t in
    (suc k, y, omega arith, at, same)

behind_found : (row : List RowWish) (end k : ℕ) (x : RowWish) → end ≤ k → slice_get row k ≡ Some x
    → is_wish_of x.wish (drop end row) ≡ true
behind_found [] end k x le at = absurd (omega (arith, slice_get_within [] k x at))
behind_found (y ∷ row) zero zero x le at =
    or_left (nat_eq x.wish y.wish) (is_wish_of x.wish row)
    (eq-eqb x.wish y.wish (ap (λ (o : Option RowWish). (unwrap_or o y).wish) (sym at)))
behind_found (y ∷ row) zero (suc k) x le at = or_right (nat_eq x.wish y.wish) (is_wish_of x.wish row)
    (behind_found row 0 k x (omega arith) at)
behind_found (y ∷ row) (suc end) zero x le at = absurd (omega arith)
behind_found (y ∷ row) (suc end) (suc k) x le at = behind_found row end k x (omega arith) at

pub in_front : (row : List RowWish) (end k : ℕ) (x : RowWish) → slice_get (take end row) k ≡ Some x
    → (k < end) × (slice_get row k ≡ Some x)
in_front [] zero k x at = absurd (omega (arith, slice_get_within [] k x at))
in_front [] (suc end) k x at = absurd (omega (arith, slice_get_within [] k x at))
in_front (y ∷ row) zero k x at = absurd (omega (arith, slice_get_within [] k x at))
in_front (y ∷ row) (suc end) zero x at = (omega arith, at)
in_front (y ∷ row) (suc end) (suc k) x at = let (lt, found) = in_front row end k x at in (omega arith, found)

pub front_at : (row : List RowWish) (end k : ℕ) (x : RowWish) → k < end → slice_get row k ≡ Some x
    → slice_get (take end row) k ≡ Some x
front_at [] end k x lt at = absurd (omega (arith, slice_get_within [] k x at))
front_at (y ∷ row) zero k x lt at = absurd (omega arith)
front_at (y ∷ row) (suc end) zero x lt at = at
front_at (y ∷ row) (suc end) (suc k) x lt at = front_at row end k x (omega arith) at

below_bit : (waits free behind : Bool) → waits ≡ true → free ≡ true
    → (waits && not (waits && (free && behind))) ≡ true → behind ≡ false
below_bit true true true a b t = sym t
below_bit true true false a b t = refl
below_bit true false behind a b t = absurd (false≢true b)
below_bit false free behind a b t = absurd (false≢true a)

same_bits : (opens dropped past : Bool) → (dropped ≡ true → past ≡ true) → (opens ≡ true → past ≡ true → dropped ≡ true)
    → (opens && not dropped) ≡ (opens && not past)
same_bits false dropped past a b = refl
same_bits true true past a b = rw (a refl) refl
same_bits true false true a b = sym (b refl refl)
same_bits true false false a b = refl

-- an open wish with a school where its candidate has no bed ranks at most at the bar
pub open_below : (s : State) (bars : List ℕ) (w : Wish) (m : Mark) (school : Option ℕ) (h : ℕ)
    → is_school school h ≡ true
    → not (holds_bed s w.candidate h) ≡ true
    → (is_waiting m && not (is_waiting m && is_behind_bar s bars w school)) ≡ true → w.board_rank ≤ slice_index bars h
open_below s bars w m None h has no_bed t = absurd (false≢true has)
open_below s bars w m (Some g) h has no_bed t =
    let same : g ≡ h = eqb-true g h has in
    let waits = (and_parts (is_waiting m) (not (is_waiting m && is_behind_bar s bars w (Some g))) t).0 in
    let free : not (holds_bed s w.candidate g) ≡ true = rw same no_bed in
    ltb-false (slice_index bars h) w.board_rank
    (rw (← same) (below_bit (is_waiting m) (not (holds_bed s w.candidate g))
    (nat_lt (slice_index bars g) w.board_rank) waits free t))

module _ (s : State) (bars : List ℕ) (h to : ℕ) (row kept : List RowWish) (after : List Bool)
    (right : IsRow s bars h row)
    (cut : CutsAt to row (opens_of s bars) kept after) (within : h < length bars) (le : to ≤ slice_index bars h) where
  -- a wish that is closed is past the bar
  closed_past : (i : ℕ) (w : Wish) (m : Mark) → slice_get (entries s) i ≡ Some (w, m)
      → is_wish_of i (drop cut.end row) ≡ true → is_past s h to w ≡ true
  closed_past i w m at t =
      let (k, x, far, found, same) = found_behind row cut.end i t in
      let (v, n, waits) = right.each k x found in
      let entry : Some (v, n) ≡ Some (w, m) = sym waits.waits.here ∙ ap (λ j. slice_get (entries s) j) (sym same)
      ∙ at in
      let wish : v ≡ w = ap (λ (o : Option (Wish × Mark)). (unwrap_or o (w, m)).0) entry in
      let P = λ (u : Wish). is_past s h to u ≡ true in
      subst P wish
      (and_from (has_school v h) (not (holds_bed s v.candidate h) && nat_lt to v.board_rank) waits.has
      (and_from (not (holds_bed s v.candidate h)) (nat_lt to v.board_rank) waits.no_bed
      (lt-ltb to v.board_rank (omega (arith, cut.past k x far found, waits.rank)))))

  -- an open wish that is past the bar is closed
  past_closed : (i : ℕ) (w : Wish) (m : Mark) → slice_get (entries s) i ≡ Some (w, m)
      → is_open s bars w m ≡ true → is_past s h to w ≡ true
      → is_wish_of i (drop cut.end row) ≡ true
  past_closed i w m at opens past =
      let outer = and_parts (has_school w h) (not (holds_bed s w.candidate h) && nat_lt to w.board_rank) past in
      let inner = and_parts (not (holds_bed s w.candidate h)) (nat_lt to w.board_rank) outer.1 in
      let behind : to < w.board_rank = ltb-true to w.board_rank inner.1 in
      let waits = (and_parts (is_waiting m) (not (is_waiting m && is_behind_bar s bars w w.school)) opens).0 in
      let x : RowWish = record {
        rank = w.board_rank;
        wish = i;
        programme = 0;
        place = 0;
        bundle = NoSite;
        shared = false;
        called_by_limit = false;
      } in
      let (k, y, found, rank, wish) = right.all x w m
      (record {
        waits = record { here = at; waits = waits };
        has = outer.0;
        no_bed = inner.0;
        rank =
            refl;
      }) (open_below s bars w m w.school h outer.0 inner.0 opens) in
      elim (cases_lt k cut.end) [
        | inl front ↦
            elim (slice_get_cases row (cut.end - 1)).1 [
              | inl there ↦
                  let last = cut.last there.0 (omega arith) there.2 in
                  absurd (omega (
                    arith,
                    last,
                    behind,
                    rank,
                    right.rises k (cut.end - 1) y there.0
                        (omega arith) found there.2,
                  ))
              | inr past_end ↦ absurd (omega (arith, past_end.0, cut.within, slice_get_within row k y found))
            ]
        | inr far ↦
            let P = λ (j : ℕ). is_wish_of j (drop cut.end row) ≡ true in
            subst P wish (behind_found row cut.end k y far found)
      ]

  one_flag : (i : ℕ) (w : Wish) (m : Mark) → slice_get (entries s) i ≡ Some (w, m)
      → (is_open s bars w m && not (is_wish_of i (drop cut.end row))) ≡ (is_open s bars w m && not (is_past s h to w))
  one_flag i w m at = same_bits (is_open s bars w m) (is_wish_of i (drop cut.end row)) (is_past s h to w)
      (closed_past i w m at) (past_closed i w m at)

  -- the flags are those of the new bars
  pub flags_fallen : after ≡ opens_of s (slice_set bars h to)
  flags_fallen =
      let f = λ (e : Wish × Mark). is_open s bars e.0 e.1 in
      let g = λ (e : Wish × Mark). is_open s bars e.0 e.1 && not (is_past s h to e.0) in
      let xs = drop cut.end row in
      let each : (i : ℕ) → i < length (closed xs (opens_of s bars))
      → get_or (closed xs (opens_of s bars)) i false ≡ get_or (map g (entries s)) i false =
      λ i lt.
      elim (slice_get_cases (entries s) i).1 [
        | inl there ↦
            flag_closed xs (opens_of s bars) i (omega (arith, length_closed xs (opens_of s bars)))
            ∙ ap (λ b. b && not (is_wish_of i xs)) (flag_map f (entries s) i there.0 there.2)
            ∙ one_flag i there.0.0 there.0.1 there.2
            ∙ sym (flag_map g (entries s) i there.0 there.2)
        | inr past_end ↦ absurd
            (omega (arith, past_end.0, length_closed xs (opens_of s bars), length-map (entries s) f))
      ] in
      cut.after_is
      ∙ same_flags (closed xs (opens_of s bars)) (map g (entries s))
      (length_closed xs (opens_of s bars) ∙ length-map (entries s) f ∙ sym (length-map (entries s) g)) each
      ∙ sym (opens_fallen s bars h to within le)

  -- the row keeps those of at most the new bar
  pub row_fallen : IsRow s (slice_set bars h to) h kept
  row_fallen =
      let now : slice_index (slice_set bars h to) h ≡ to = get_or-set_same bars h to 0 within in
      let is : kept ≡ take cut.end row = cut.kept_is in
      let was : (k : ℕ) (x : RowWish) → slice_get kept k ≡ Some x → (k < cut.end) × (slice_get row k ≡ Some x) =
      λ k x at. in_front row cut.end k x (rw is at at) in
      record {
        rises = λ j k x y jk a b. right.rises j k x y jk (was j x a).1 (was k y b).1;
        in_order = λ j k x y jk a b same. right.in_order j k x y jk (was j x a).1 (was k y b).1 same;
        each = λ k x at. right.each k x (was k x at).1;
        below = λ k x at.
            rw now (elim (slice_get_cases row (cut.end - 1)).1 [
              | inl there ↦
                  let found = was k x at in
                  omega (
                    arith,
                    cut.last there.0 (omega (arith, found.0)) there.2,
                    right.rises k
                        (cut.end - 1) x there.0 (omega (arith, found.0)) found.1 there.2,
                  )
              | inr past_end ↦ absurd
                  (omega (arith, past_end.0, cut.within, (was k x at).0, slice_get_within row k x (was k x at).1))
            ]);
        all = λ x w m waits low.
            let low_now : x.rank ≤ to = rw now at low in
            let (k, y, found, rank, wish) = right.all x w m waits (omega (arith, low_now)) in
            elim (cases_lt k cut.end) [
              | inl front ↦ (k, y, rw is (front_at row cut.end k y front found), rank, wish)
              | inr far ↦ absurd (omega (arith, cut.past k y far found, rank, low_now))
            ];
      }

-- the row of another school stays
pub row_stays : (s : State) (bars : List ℕ) (h to g : ℕ) (row : List RowWish) → g ≢ h → IsRow s bars g row
    → IsRow s (slice_set bars h to) g row
row_stays s bars h to g row other right =
    let kept : slice_index (slice_set bars h to) g ≡ slice_index bars g = get_or-set_other bars h g to 0 other in
    record {
      rises = right.rises;
      in_order = right.in_order;
      each = right.each;
      below = λ k x at. omega (arith, kept, right.below k x at);
      all = λ x w m waits low. right.all x w m waits (omega (arith, kept, low));
    }

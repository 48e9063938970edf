-- The steps of a fall: one for each wish that becomes barred, and one for each that becomes proposed.
use Rattle.std.proofs.Common.{ℕ, ◌+◌, ◌≤◌, ◌<◌, ◌≡◌, Bool, true, false, not, ◌&&◌, ◌||◌, List, [], ◌∷◌, map, length}
use Rattle.std.proofs.Common.{filter, inl, inr, refl, sym, ◌∙◌, ap, arith, nat_lt, zero, suc, get_or, drop, Option}
use Rattle.std.proofs.Common.{Some, cond, count_by, subst, unwrap_or}
use Rattle.std.specs.Prelude.{slice_get, slice_index, slice_set}
use Rattle.std.specs.List.{enumerate_from}
use Rattle.std.proofs.Math.ListN.{set}
use Rattle.std.proofs.lemmas.Bool.{cases_Bool, cases_lt, false≢true}
use Rattle.std.proofs.lemmas.List.{length-take-le, length-drop, get_or_past}
use Rattle.std.proofs.lemmas.List.Sums.{length-filter}
use Rattle.std.proofs.lemmas.Option.{slice_get_within}
use Rattle.admit_core.specs.declared.dossier.Wish.{Wish}
use Rattle.admit_core.specs.declared.state.Mark.{Mark}
use Rattle.admit_core.specs.declared.ranking.CallOrder.{CallOrder}
use Rattle.admit_core.specs.State.{State, entries, is_waiting, seats_left}
use Rattle.admit_core.specs.Proposals.{is_open, is_behind_bar, is_proposed, needs_no_seat, ahead}
use Rattle.admit_core.proofs.DemandLaws.{behind_lower}
use Rattle.admit_core.proofs.Plain.{waits_open}
use Rattle.linked_demand.specs.declared.rows.RowWish.{RowWish}
use Rattle.linked_demand.specs.Line.{set_count}
use Rattle.linked_demand.specs.Links.{LinksRow}
use Rattle.linked_demand.specs.Opens.{opens_of}
use Rattle.linked_demand.specs.Rows.{IsRow, closed, CutsAt}
use Rattle.linked_demand.specs.Demand.{is_proposed_at}
use Rattle.linked_demand.specs.Marks.{is_new}
use Rattle.linked_demand.specs.Ticks.{becomes_barred, becomes_proposed, changes_between}
use Rattle.linked_demand.proofs.KeptAnswers.{proposed_entry}
use Rattle.linked_demand.proofs.Counting.{count_sum, count_alike, count_places}
use Rattle.linked_demand.proofs.Falling.{is_wish_of, flag_closed, found_behind, flag_map}
use Rattle.linked_demand.proofs.Reach.{count_true, count_false}
use Rattle.linked_demand.proofs.TickLaw.{fall_at_most}
use Rattle.linked_demand.proofs.RoundFalls.{not_behind}

-- one flag that is taken away
set_one : (opens : List Bool) (i : ℕ) → get_or opens i false ≡ true
    → set_count (set opens i false) + 1 ≡ set_count opens
set_one [] i t = absurd (false≢true t)
set_one (true ∷ opens) zero t = omega (arith, count_true opens, count_false opens)
set_one (false ∷ opens) zero t = absurd (false≢true t)
set_one (true ∷ opens) (suc i) t = omega (arith, set_one opens i t, count_true opens, count_true (set opens i false))
set_one (false ∷ opens) (suc i) t = omega (arith, set_one opens i t, count_false opens, count_false (set opens i false))

-- each wish is set when it is closed
abbrev AreSet : List RowWish → List Bool → Type 0
AreSet [] opens = Unit {0}
AreSet (x ∷ xs) opens = (get_or (closed xs opens) x.wish false ≡ true) × AreSet xs opens

closed_count : (xs : List RowWish) (opens : List Bool) → AreSet xs opens
    → set_count (closed xs opens) + length xs ≡ set_count opens
closed_count [] opens all = omega arith
closed_count (x ∷ xs) opens all = omega (arith, set_one (closed xs opens) x.wish all.0, closed_count xs opens all.1)

are_set : (xs : List RowWish) (opens : List Bool)
    → ((k : ℕ) (x : RowWish) → slice_get xs k ≡ Some x → get_or opens x.wish false ≡ true)
    → ((j k : ℕ) (x y : RowWish) → j < k → slice_get xs j ≡ Some x → slice_get xs k ≡ Some y
    → x.wish ≡ y.wish → ⊥) → AreSet xs opens
are_set [] opens each apart = tt
are_set (x ∷ xs) opens each apart =
    let flag : get_or opens x.wish false ≡ true = each 0 x refl in
    let here : get_or (closed xs opens) x.wish false ≡ true =
    elim (cases_lt x.wish (length opens)) [
      | inl within ↦ elim (cases_Bool (is_wish_of x.wish xs)) [
        | inl again ↦
            let (k, y, le, at, same) = found_behind xs 0 x.wish again in
            absurd (apart 0 (suc k) x y (omega arith) refl at same)
        | inr once ↦ flag_closed xs opens x.wish within ∙ rw (flag, once) refl
      ]
      | inr past ↦ absurd (false≢true (sym (get_or_past opens x.wish false past) ∙ flag))
    ] in (
      here,
      are_set xs opens (λ k y at. each (suc k) y at)
          (λ j k y z lt a b. apart (suc j) (suc k) y z (omega arith) a b),
    )

behind_at : (row : List RowWish) (end k n : ℕ) (x : RowWish) → n ≡ end + k
    → slice_get (drop end row) k ≡ Some x → slice_get row n ≡ Some x
behind_at row zero k n x is at =
    let P = λ (m : ℕ). slice_get row m ≡ Some x in
    let same : k ≡ n = omega (arith, is) in
    subst P same at
behind_at [] (suc end) k n x is at = absurd (omega (arith, slice_get_within {A = RowWish} [] k x at))
behind_at (y ∷ row) (suc end) k zero x is at = absurd (omega (arith, is))
behind_at (y ∷ row) (suc end) k (suc n) x is at = behind_at row end k n x (omega (arith, is)) at

filter_map : {X : Type 0} (f : X → Bool) (xs : List X)
    → length (filter (λ (b : Bool). b) (map f xs)) ≡ length (filter f xs)
filter_map f [] = refl
filter_map f (x ∷ xs) =
    let rest = filter_map f xs in
    elim (cases_Bool (f x)) [ inl passes ↦ rw passes (ap suc rest) | inr fails ↦ rw fails rest ]

count_map : {X : Type 0} (f : X → Bool) (xs : List X) → set_count (map f xs) ≡ count_by f xs
count_map f xs = omega (arith, length-filter (λ (b : Bool). b) (map f xs), length-filter f xs, filter_map f xs)

split_bits : (waits low high : Bool) → (high ≡ true → low ≡ true)
    → cond (waits && not (waits && low)) 1 0 + cond ((waits && low) && not (waits && high)) 1 0 ≡ cond
    (waits && not (waits && high)) 1 0
split_bits false low high h = omega arith
split_bits true true true h = omega arith
split_bits true true false h = omega arith
split_bits true false false h = omega arith
split_bits true false true h = absurd (false≢true (h refl))

new_bits : (opens seat before : Bool) → (((opens && seat) && not before) && opens) ≡ ((opens && seat) && not before)
new_bits true true true = refl
new_bits true true false = refl
new_bits true false before = refl
new_bits false seat before = refl

module _ (s : State) (bars : List ℕ) (h to : ℕ) (within : h < length bars) (le : to ≤ slice_index bars h) where
  abbrev low : List ℕ
  low = slice_set bars h to

  -- the open wishes are those that stay open and those that become barred
  opens_split : count_by (λ (e : Wish × Mark). is_open s low e.0 e.1) (entries s) + count_by
      (becomes_barred s bars low) (entries s)
      ≡ count_by (λ (e : Wish × Mark). is_open s bars e.0 e.1) (entries s)
  opens_split =
      omega (
        arith,
        count_sum (λ (x : ℕ × (Wish × Mark)). is_open s low x.1.0 x.1.1)
            (λ (x : ℕ × (Wish × Mark)). becomes_barred s bars low x.1)
            (λ (x : ℕ × (Wish × Mark)). is_open s bars x.1.0 x.1.1) (entries s)
            (λ j e at. split_bits (is_waiting e.1) (is_behind_bar s low e.0 e.0.school)
            (is_behind_bar s bars e.0 e.0.school)
            (behind_lower s [] low bars (fall_at_most bars h to within le) e.0 e.0.school)),
        count_places (λ (e : Wish × Mark). is_open s low e.0 e.1) (entries s) 0,
        count_places (becomes_barred s bars low) (entries s) 0,
        count_places (λ (e : Wish × Mark). is_open s bars e.0 e.1) (entries s) 0,
      )

  module _ (row : List RowWish) (right : IsRow s bars h row) where
    row_open : (k : ℕ) (x : RowWish) → slice_get row k ≡ Some x → get_or (opens_of s bars) x.wish false ≡ true
    row_open k x at =
        let (w, m, waits) = right.each k x at in
        flag_map (λ (e : Wish × Mark). is_open s bars e.0 e.1) (entries s) x.wish (w, m) waits.waits.here
        ∙ waits_open (is_waiting m) (is_behind_bar s bars w w.school) waits.waits.waits
        (not_behind s bars h w w.school waits.has (omega (arith, right.below k x at, waits.rank)))

    row_apart : (j k : ℕ) (x y : RowWish) → j < k → slice_get row j ≡ Some x → slice_get row k ≡ Some y
        → x.wish ≡ y.wish → ⊥
    row_apart j k x y lt a b same =
        let (v, n, early) = right.each j x a in
        let (w, m, late) = right.each k y b in
        let P = λ (i : ℕ). slice_get (entries s) i ≡ Some (v, n) in
        let rank : v.board_rank ≡ w.board_rank =
        ap (λ (o : Option (Wish × Mark)). (unwrap_or o (v, n)).0.board_rank)
        (sym (subst P same early.waits.here) ∙ late.waits.here) in
        omega (arith, right.in_order j k x y lt a b (early.rank ∙ rank ∙ sym late.rank), same)

    -- as many become barred as are dropped from the row
    dropped_are_barred : (end : ℕ) → end ≤ length row → closed (drop end row) (opens_of s bars) ≡ opens_of s low
        → length row ≡ end + count_by (becomes_barred s bars low) (entries s)
    dropped_are_barred end within_row is =
        let count =
        closed_count (drop end row) (opens_of s bars)
        (are_set (drop end row) (opens_of s bars)
        (λ k x at. row_open (end + k) x (behind_at row end k (end + k) x refl at))
        (λ j k x y lt a b. row_apart (end + j) (end + k) x y (omega (arith, lt))
        (behind_at row end j (end + j) x refl a) (behind_at row end k (end + k) y refl b))) in
        omega (
          arith,
          count,
          ap set_count is,
          count_map (λ (e : Wish × Mark). is_open s low e.0 e.1) (entries s),
          count_map (λ (e : Wish × Mark). is_open s bars e.0 e.1) (entries s),
          opens_split,
          length-drop end row,
          within_row,
        )

-- what is new between the links of two bars
new_between : (old new : LinksRow) (bars low : List ℕ) → new.state ≡ old.state → new.orders ≡ old.orders
    → old.opens ≡ opens_of old.state bars → new.opens ≡ opens_of old.state low
    → count_by (is_new old.state low old new) (enumerate_from 0 (entries old.state)) ≡ count_by
    (becomes_proposed old.state old.orders bars low) (entries old.state)
new_between old new bars low state orders old_opens new_opens =
    let s = old.state in
    let os = old.orders in
    let now_opens : new.opens ≡ opens_of new.state low = new_opens ∙ ap (λ (t : State). opens_of t low) (sym state) in
    let now : (j : ℕ) (e : Wish × Mark) → slice_get (entries s) j ≡ Some e
    → is_proposed_at new j ≡ is_proposed s os low e.0 e.1 =
    λ j e at.
    let P = λ (t : State). slice_get (entries t) j ≡ Some e in
    proposed_entry new low now_opens j e (subst P (sym state) at)
    ∙ ap (λ (t : State). is_proposed t new.orders low e.0 e.1) state
    ∙ ap (λ (o : List CallOrder). is_proposed s o low e.0 e.1) orders in
    count_alike (is_new s low old new) (λ (x : ℕ × (Wish × Mark)). becomes_proposed s os bars low x.1) (entries s)
    (λ j e at.
    rw (now j e at, proposed_entry old bars old_opens j e at)
    (new_bits (is_open s low e.0 e.1)
    (needs_no_seat s os e.0 || nat_lt (ahead s os low e.0) (seats_left s e.0.programme))
    (is_proposed s os bars e.0 e.1)))
    ∙ count_places (becomes_proposed s os bars low) (entries s) 0

-- the steps of a fall are its changes
pub steps_spent : (old new : LinksRow) (bars : List ℕ) (h to : ℕ) → h < length bars
    → to ≤ slice_index bars h → new.state ≡ old.state → new.orders ≡ old.orders
    → old.opens ≡ opens_of old.state bars → new.opens ≡ opens_of old.state (slice_set bars h to)
    → (row kept : List RowWish) → IsRow old.state bars h row
    → CutsAt to row old.opens kept new.opens → (before after : ℕ)
    → after + length kept ≡ before + length row + count_by (is_new old.state (slice_set bars h to) old new)
    (enumerate_from 0 (entries old.state))
    → after ≡ before + changes_between old.state old.orders bars (slice_set bars h to)
steps_spent old new bars h to within le state orders old_opens new_opens row kept right cut before after told =
    let is : closed (drop cut.end row) (opens_of old.state bars) ≡ opens_of old.state (slice_set bars h to) =
    ap (closed (drop cut.end row)) (sym old_opens) ∙ sym cut.after_is ∙ new_opens in
    omega (
      arith,
      told,
      new_between old new bars (slice_set bars h to) state orders old_opens new_opens,
      dropped_are_barred old.state bars h to within le row right cut.end cut.within is,
      ap length cut.kept_is,
      length-take-le cut.end row cut.within,
    )

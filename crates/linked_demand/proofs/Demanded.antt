-- The ranks that a row tells are the demanded ranks of its school.
use Rattle.std.proofs.Common.{ℕ, ◌≤◌, ◌<◌, ◌≡◌, Bool, true, false, not, ◌&&◌, ◌||◌, List, [], ◌∷◌, map, inl, inr, refl}
use Rattle.std.proofs.Common.{sym, ◌∙◌, arith, nat_eq, nat_lt, suc, get_or, filter, Some, subst, ap}
use Rattle.std.specs.Prelude.{slice_get}
use Rattle.std.specs.List.{list_any, AllByRecursion}
use Rattle.std.proofs.lemmas.Bool.{cases_Bool, false≢true, cases_lt, and_parts, and_from, and_right, or_cases, eqb-true}
use Rattle.std.proofs.lemmas.Bool.{eq-eqb, eqb-false, ne_eqb, ltb-true, lt-ltb}
use Rattle.admit_core.specs.declared.dossier.Wish.{Wish}
use Rattle.admit_core.specs.declared.state.Mark.{Mark}
use Rattle.admit_core.specs.declared.ranking.CallOrder.{CallOrder}
use Rattle.admit_core.specs.Lists.{is_among}
use Rattle.admit_core.specs.State.{State, entries, is_waiting, holds_bed, has_school, seats_left}
use Rattle.admit_core.specs.Proposals.{is_open, is_barred, is_proposed, needs_no_seat, ahead, demands_bed}
use Rattle.admit_core.specs.Proposals.{demanded_ranks}
use Rattle.admit_core.proofs.Tests.{Ascends, same_members, ascends_ascending}
use Rattle.admit_core.proofs.DemandLaws.{demanded}
use Rattle.admit_core.proofs.Plain.{same_test}
use Rattle.day_state.specs.declared.numbers.BundleNumber.TheVariants.{NoSite}
use Rattle.linked_demand.specs.declared.rows.RowWish.{RowWish}
use Rattle.linked_demand.specs.Links.{LinksRow, WaitsAt}
use Rattle.linked_demand.specs.Opens.{opens_of}
use Rattle.linked_demand.specs.Rows.{IsRow}
use Rattle.linked_demand.specs.Demand.{is_proposed_at, counted}
use Rattle.linked_demand.proofs.Opens.{proposed_by_bars}
use Rattle.linked_demand.proofs.Closing.{any_at, proposed_at_is}
use Rattle.linked_demand.proofs.Falling.{open_below, flag_map}

-- a row that does not fall
abbrev pub Rises : List RowWish → Type 0
Rises [] = Unit {0}
Rises (x ∷ xs) = AllByRecursion (λ y. x.rank ≤ y.rank) xs × Rises xs

at_least : (x : RowWish) (xs : List RowWish)
    → ((k : ℕ) (y : RowWish) → slice_get xs k ≡ Some y → x.rank ≤ y.rank) → AllByRecursion (λ y. x.rank ≤ y.rank) xs
at_least x [] h = tt
at_least x (y ∷ xs) h = (h 0 y refl, at_least x xs (λ k z at. h (suc k) z at))

pub rises_row : (xs : List RowWish)
    → ((j k : ℕ) (x y : RowWish) → j ≤ k → slice_get xs j ≡ Some x → slice_get xs k ≡ Some y → x.rank ≤ y.rank)
    → Rises xs
rises_row [] h = tt
rises_row (x ∷ xs) h = (
  at_least x xs (λ k y at. h 0 (suc k) x y (omega arith) refl at),
  rises_row xs
      (λ j k y z le a b. h (suc j) (suc k) y z (omega arith) a b),
)

-- what is counted lies above the last one, and rises
above_counted : (p : ℕ → Bool) (low last : ℕ) (xs : List RowWish) → low ≤ last
    → AllByRecursion (λ m. low < m) (counted p last xs)
above_counted p low last [] le = tt
above_counted p low last (x ∷ xs) le =
    elim (cases_Bool (nat_lt last x.rank && p x.wish)) [
      | inl counts ↦
          let above = ltb-true last x.rank (and_parts (nat_lt last x.rank) (p x.wish) counts).0 in
          rw counts (omega (arith, above), above_counted p low x.rank xs (omega (arith, above)))
      | inr not_so ↦ rw not_so (above_counted p low last xs le)
    ]

pub ascends_counted : (p : ℕ → Bool) (last : ℕ) (xs : List RowWish) → Ascends (counted p last xs)
ascends_counted p last [] = tt
ascends_counted p last (x ∷ xs) =
    elim (cases_Bool (nat_lt last x.rank && p x.wish)) [
      | inl counts ↦ rw counts (above_counted p x.rank x.rank xs (omega arith), ascends_counted p x.rank xs)
      | inr not_so ↦ rw not_so (ascends_counted p last xs)
    ]

-- who passes at a rank
abbrev pub passes : (ℕ → Bool) → ℕ → RowWish → Bool
passes p r x = p x.wish && nat_eq r x.rank

none_below : (p : ℕ → Bool) (r n : ℕ) (xs : List RowWish) → r < n → AllByRecursion (λ y. n ≤ y.rank) xs
    → list_any (passes p r) xs ≡ false
none_below p r n [] lt all = refl
none_below p r n (x ∷ xs) lt all =
    rw (
      and_right (p x.wish) (nat_eq r x.rank) (ne_eqb r x.rank (λ e. omega (arith, e, lt, all.0))),
      none_below p r n xs lt all.1,
    ) refl

skip : (above later here : Bool) → (above ≡ true → here ≡ true → ⊥) → (above && later) ≡ (above && (here || later))
skip false later here h = refl
skip true later false h = refl
skip true later true h = absurd (h refl refl)

-- a rank is counted where it is above the last one and some wish passes at it
pub among_counted : (p : ℕ → Bool) (r last : ℕ) (xs : List RowWish) → Rises xs
    → is_among r (counted p last xs) ≡ (nat_lt last r && list_any (passes p r) xs)
among_counted p r last [] rises = sym (and_right (nat_lt last r) false refl)
among_counted p r last (x ∷ xs) rises =
    elim (cases_Bool (nat_lt last x.rank && p x.wish)) [
      | inl counts ↦
          let parts = and_parts (nat_lt last x.rank) (p x.wish) counts in
          let above = ltb-true last x.rank parts.0 in
          rw (counts, parts.1) (elim (cases_Bool (nat_eq r x.rank)) [
            | inl here ↦ rw (here, lt-ltb last r (omega (arith, above, eqb-true r x.rank here))) refl
            | inr other ↦ rw other (among_counted p r x.rank xs rises.1 ∙ elim (cases_lt r x.rank) [
              | inl low ↦ rw (none_below p r x.rank xs low rises.0)
                  (and_right (nat_lt x.rank r) false refl ∙ sym (and_right (nat_lt last r) false refl))
              | inr high ↦ rw (
                lt-ltb x.rank r (omega (arith, high, eqb-false r x.rank other)),
                lt-ltb last
                    r (omega (arith, high, above)),
              ) refl
            ])
          ])
      | inr not_so ↦ rw not_so
          (among_counted p r last xs rises.1 ∙ skip (nat_lt last r) (list_any (passes p r) xs) (passes p r x)
          (λ above t.
          let parts = and_parts (p x.wish) (nat_eq r x.rank) t in
          let same = eqb-true r x.rank parts.1 in
          false≢true (sym not_so ∙ and_from (nat_lt last x.rank) (p x.wish)
          (lt-ltb last x.rank (omega (arith, same, ltb-true last r above))) parts.0)))
    ]

pub any_place : {X : Type 0} (q : X → Bool) (xs : List X) → list_any q xs ≡ true
    → (k : ℕ) × (x : X) × (slice_get xs k ≡ Some x) × (q x ≡ true)
any_place q [] t = absurd (false≢true t)
any_place q (x ∷ xs) t =
    elim (or_cases (q x) (list_any q xs) t) [
      | inl here ↦ (0, x, refl, here)
      | inr later ↦ let (k, y, at, passed) = any_place q xs later in (suc k, y, at, passed)
    ]

abbrev pub demands_at : State → List CallOrder → List ℕ → ℕ → ℕ → Wish × Mark → Bool
demands_at s orders bars h r e = demands_bed s orders bars h e.0 e.1 && nat_eq r e.0.board_rank

module _ (l : LinksRow) (bars : List ℕ) (h : ℕ) (row : List RowWish) (right : IsRow l.state bars h row)
    (opens_are : l.opens ≡ opens_of l.state bars) where
  -- a waiting wish is proposed by the flags exactly where it is under the bars
  pub proposed_at_bars : (i : ℕ) (w : Wish) (m : Mark) → WaitsAt l.state i w m
      → is_proposed_at l i ≡ is_proposed l.state l.orders bars w m
  proposed_at_bars i w m waits =
      let flag : get_or l.opens i false ≡ is_open l.state bars w m =
      rw opens_are (flag_map (λ (e : Wish × Mark). is_open l.state bars e.0 e.1) (entries l.state) i
      (w, m) waits.here) in
      proposed_at_is l i w m waits ∙ rw (flag, opens_are) (proposed_by_bars l.state l.orders bars w m)

  -- who demands a rank stands in the row, and passes there
  pub demander : (r k : ℕ) (e : Wish × Mark) → slice_get (entries l.state) k ≡ Some e
      → demands_at l.state l.orders bars h r e ≡ true
      → (j : ℕ) × (y : RowWish) × (slice_get row j ≡ Some y) × (y.rank ≡ r) × (y.wish ≡ k) × (is_proposed_at l k ≡ true)
      × (0 < r)
  demander r k e at both =
      let w = e.0 in
      let m = e.1 in
      let proposed = is_proposed l.state l.orders bars w m in
      let demand = and_parts (demands_bed l.state l.orders bars h w m) (nat_eq r w.board_rank) both in
      let outer = and_parts
      ((has_school w h && nat_lt 0 w.board_rank) && not (holds_bed l.state w.candidate h)) proposed demand.0 in
      let middle = and_parts (has_school w h && nat_lt 0 w.board_rank)
      (not (holds_bed l.state w.candidate h)) outer.0 in
      let inner = and_parts (has_school w h) (nat_lt 0 w.board_rank) middle.0 in
      let opens = (and_parts (is_open l.state bars w m)
      (needs_no_seat l.state l.orders w || nat_lt (ahead l.state l.orders bars w)
      (seats_left l.state w.programme)) outer.1).0 in
      let waiting = (and_parts (is_waiting m) (not (is_barred l.state bars w m)) opens).0 in
      let waits : WaitsAt l.state k w m = record { here = at; waits = waiting } in
      let same = eqb-true r w.board_rank demand.1 in
      let x : RowWish = record {
        rank = r;
        wish = k;
        programme = 0;
        place = 0;
        bundle = NoSite;
        shared = false;
        called_by_limit = false;
      } in
      let low = open_below l.state bars w m w.school h inner.0 middle.1 opens in
      let (j, y, found, rank, wish) = right.all x w m
      (record { waits = waits; has = inner.0; no_bed = middle.1; rank = same }) (omega (arith, same, low)) in (
        j,
        y,
        found,
        rank,
        wish,
        proposed_at_bars k w m waits
            ∙ outer.1,
        omega (arith, same, ltb-true 0 w.board_rank inner.1),
      )

  told : (r : ℕ) → list_any (demands_at l.state l.orders bars h r) (entries l.state) ≡ true
      → (nat_lt 0 r && list_any (passes (is_proposed_at l) r) row) ≡ true
  told r t =
      let (k, e, at, both) = any_place (demands_at l.state l.orders bars h r) (entries l.state) t in
      let (j, y, found, rank, wish, passed, some) = demander r k e at both in
      and_from (nat_lt 0 r) (list_any (passes (is_proposed_at l) r) row) (lt-ltb 0 r some)
      (any_at (passes (is_proposed_at l) r) row j y found
      (and_from (is_proposed_at l y.wish) (nat_eq r y.rank) (ap (is_proposed_at l) wish ∙ passed)
      (eq-eqb r y.rank (sym rank))))

  -- who passes in the row demands the rank
  pub demands_back : (j : ℕ) (x : RowWish) → slice_get row j ≡ Some x → is_proposed_at l x.wish ≡ true → 0 < x.rank
      → (e : Wish × Mark) × (slice_get (entries l.state) x.wish ≡ Some e)
      × (demands_at l.state l.orders bars h x.rank e ≡ true)
  demands_back j x at passed some =
      let (w, m, waits) = right.each j x at in
      let proposed = sym (proposed_at_bars x.wish w m waits.waits) ∙ passed in (
        (w, m),
        waits.waits.here,
        rw (
          waits.has,
          waits.no_bed,
          proposed,
          eq-eqb x.rank w.board_rank waits.rank,
          ← waits.rank,
          lt-ltb 0 x.rank some,
        ) refl,
      )

  untold : (r : ℕ) → (nat_lt 0 r && list_any (passes (is_proposed_at l) r) row) ≡ true
      → list_any (demands_at l.state l.orders bars h r) (entries l.state) ≡ true
  untold r t =
      let parts = and_parts (nat_lt 0 r) (list_any (passes (is_proposed_at l) r) row) t in
      let (j, x, at, passed) = any_place (passes (is_proposed_at l) r) row parts.1 in
      let pass = and_parts (is_proposed_at l x.wish) (nat_eq r x.rank) passed in
      let same : r ≡ x.rank = eqb-true r x.rank pass.1 in
      let (e, there, both) = demands_back j x at pass.0 (omega (arith, same, ltb-true 0 r parts.0)) in
      let P = λ (n : ℕ). demands_at l.state l.orders bars h n e ≡ true in
      any_at (demands_at l.state l.orders bars h r) (entries l.state) x.wish e there (subst P (sym same) both)

  -- the ranks that the row tells are the demanded ones
  pub ranks_told : counted (is_proposed_at l) 0 row ≡ demanded_ranks l.state l.orders bars h
  ranks_told =
      same_members (counted (is_proposed_at l) 0 row) (demanded_ranks l.state l.orders bars h)
      (ascends_counted (is_proposed_at l) 0 row)
      (ascends_ascending (map (λ (e : Wish × Mark). e.0.board_rank)
      (filter (λ (e : Wish × Mark). demands_bed l.state l.orders bars h e.0 e.1) (entries l.state))))
      (λ r. among_counted (is_proposed_at l) r 0 row (rises_row row right.rises)
      ∙ same_test (nat_lt 0 r && list_any (passes (is_proposed_at l) r) row)
      (list_any (demands_at l.state l.orders bars h r) (entries l.state)) (untold r) (told r)
      ∙ sym (demanded l.state l.orders bars h r))

-- What the flags of open wishes say is what the bars say, and how it changes where a bar falls or one wish is closed.
use Rattle.std.proofs.Common.{ℕ, ◌≤◌, ◌<◌, ◌≡◌, Bool, true, false, not, ◌&&◌, ◌||◌, List, [], ◌∷◌, map, length, inl}
use Rattle.std.proofs.Common.{inr, refl, sym, ◌∙◌, ap, arith, nat_eq, nat_lt, filter, zero, suc, get_or, take, Option}
use Rattle.std.proofs.Common.{Some, None, zip}
use Rattle.std.proofs.Math.ListN.{set}
use Rattle.std.specs.Prelude.{slice_index, slice_set, slice_get}
use Rattle.std.specs.List.{list_any, before_first}
use Rattle.std.proofs.lemmas.Bool.{cases_Bool, and_parts, and_left, and_right, or_cases, or_left, or_right, false≢true}
use Rattle.std.proofs.lemmas.Bool.{ltb-true, lt-ltb, eqb-true, eqb-false, ne_eqb, eq-eqb}
use Rattle.std.proofs.lemmas.List.Sums.{length-filter}
use Rattle.std.proofs.lemmas.List.{get_or-set_same, get_or-set_other}
use Rattle.admit_core.specs.declared.dossier.Wish.{Wish}
use Rattle.admit_core.specs.declared.state.Mark.{Mark}
use Rattle.admit_core.specs.declared.ranking.CallOrder.{CallOrder}
use Rattle.admit_core.specs.State.{State, entries, is_waiting, holds_seat, holds_bed, is_school, seats_left}
use Rattle.admit_core.specs.Proposals.{is_behind_bar, is_open, wants_seat, ahead, before, order_of, is_proposed}
use Rattle.admit_core.proofs.Tests.{Implies}
use Rattle.admit_core.proofs.Plain.{map_same, is_and_true, count_same}
use Rattle.proposals.proofs.Front.{up_to, before_is}
use Rattle.linked_demand.specs.Line.{LineRow, set_count, is_reached}
use Rattle.linked_demand.specs.Links.{IsPlaceOf, IsSeatPlace}
use Rattle.linked_demand.specs.Opens.{opens_of, flagged, is_flagged_in, wants_by, ahead_by, is_proposed_by, applies_in}
use Rattle.linked_demand.specs.Opens.{line_of, seat_row, is_past}

-- bits
open_twice : (waits behind : Bool) → (waits && (waits && not (waits && behind))) ≡ (waits && not (waits && behind))
open_twice true behind = refl
open_twice false behind = refl

-- a test over entries with what a function says of them
pub any_zip_map : {X Y : Type 0} (q : X → Y → Bool) (f : X → Y) (xs : List X)
    → list_any (λ (x : X × Y). q x.0 x.1) (zip xs (map f xs)) ≡ list_any (λ x. q x (f x)) xs
any_zip_map q f [] = refl
any_zip_map q f (x ∷ xs) = ap (λ b. q x (f x) || b) (any_zip_map q f xs)

-- by the flags of bars a candidate wants a seat exactly where they do under the bars
pub wants_by_bars : (s : State) (bars : List ℕ) (p c : ℕ) → wants_by s (opens_of s bars) p c ≡ wants_seat s bars p c
wants_by_bars s bars p c =
    let q = λ (e : Wish × Mark) (flag : Bool). is_flagged_in p c (e, flag) in
    let f = λ (e : Wish × Mark). is_open s bars e.0 e.1 in
    ap (λ b. b && not (holds_seat s c p)) (any_zip_map q f (entries s))

pub ahead_by_bars : (s : State) (orders : List CallOrder) (bars : List ℕ) (w : Wish)
    → ahead_by s orders (opens_of s bars) w ≡ ahead s orders bars w
ahead_by_bars s orders bars w =
    count_same (wants_by s (opens_of s bars) w.programme) (wants_seat s bars w.programme)
    (wants_by_bars s bars w.programme) (before s orders w)

pub proposed_by_bars : (s : State) (orders : List CallOrder) (bars : List ℕ) (w : Wish) (m : Mark)
    → is_proposed_by s orders (opens_of s bars) w m (is_open s bars w m) ≡ is_proposed s orders bars w m
proposed_by_bars s orders bars w m =
    rw (ahead_by_bars s orders bars w, open_twice (is_waiting m) (is_behind_bar s bars w w.school)) refl

-- who wants a seat by any flags has a wish for the programme
and_drop : (b c d : Bool) → ((b && c) && d) ≡ true → (c && d) ≡ true
and_drop true c d t = t
and_drop false c d t = absurd (false≢true t)

pub any_zip_first : {X Y : Type 0} (q : X × Y → Bool) (r : X → Bool) → ((x : X) (y : Y) → q (x, y) ≡ true → r x ≡ true)
    → (xs : List X) (ys : List Y) → list_any q (zip xs ys) ≡ true → list_any r xs ≡ true
any_zip_first q r h [] ys t = absurd (false≢true t)
any_zip_first q r h (x ∷ xs) [] t = absurd (false≢true t)
any_zip_first q r h (x ∷ xs) (y ∷ ys) t =
    elim (or_cases (q (x, y)) (list_any q (zip xs ys)) t) [
      | inl here ↦ or_left (r x) (list_any r xs) (h x y here)
      | inr later ↦ or_right (r x) (list_any r xs) (any_zip_first q r h xs ys later)
    ]

pub wants_applies : (s : State) (opens : List Bool) (p c : ℕ) → wants_by s opens p c ≡ true
    → applies_in s.dossier p c ≡ true
wants_applies s opens p c t =
    let r = λ (w : Wish). (nat_eq w.candidate c) && (nat_eq w.programme p) in
    any_zip_first (λ (e : Wish × Mark). r e.0) r (λ w m u. u) s.dossier.wishes s.marks
    (any_zip_first (is_flagged_in p c) (λ (e : Wish × Mark). r e.0)
    (λ e flag. and_drop flag (nat_eq e.0.candidate c) (nat_eq e.0.programme p))
    (entries s) opens (and_parts (list_any (is_flagged_in p c) (flagged s opens)) (not (holds_seat s c p)) t).0)

-- those who fail a test that the counted pass may be left out
filter_up_to : (q f : ℕ → Bool) (c : ℕ) → Implies q f → f c ≡ true → (order : List ℕ)
    → length (filter q (up_to c order)) ≡ length (filter q (up_to c (filter f order)))
filter_up_to q f c h pass [] = refl
filter_up_to q f c h pass (x ∷ order) =
    elim (cases_Bool (nat_eq c x)) [
      | inl here ↦ rw (here, rw (eqb-true c x here) at pass, here) refl
      | inr other ↦ elim (cases_Bool (f x)) [
        | inl kept ↦
            let same = filter_up_to q f c h pass order in
            rw (kept, other) (elim (cases_Bool (q x))
            [ inl counts ↦ rw counts (ap suc same) | inr none ↦ rw none same ])
        | inr left ↦ elim (cases_Bool (q x)) [
          | inl counts ↦ absurd (false≢true (sym left ∙ h x counts))
          | inr none ↦ rw (left, other, none) (filter_up_to q f c h pass order)
        ]
      ]
    ]

up_to_take : (c : ℕ) (xs : List ℕ) (k : ℕ) → IsPlaceOf c xs k → up_to c xs ≡ take k xs
up_to_take c [] k at = absurd (omega (arith, at.within))
up_to_take c (x ∷ xs) zero at = rw (eq-eqb c x (sym at.here)) refl
up_to_take c (x ∷ xs) (suc k) at =
    rw (at.once 0 (omega arith) (ne_eqb 0 (suc k) (λ e. omega (arith, e))))
    (ap (λ (ys : List ℕ). x ∷ ys) (up_to_take c xs k (record {
      within = omega (arith, at.within);
      here = at.here;
      once = λ j lt ne. at.once (suc j) (omega arith)
          (ne_eqb (suc j) (suc k) (λ e. omega (arith, e, eqb-false j k ne)));
    })))

-- the set places of a front are those of the front who pass
front_count : (f : ℕ → Bool) (xs : List ℕ) (k : ℕ)
    → length (filter (λ (b : Bool). b) (take k (map f xs))) ≡ length (filter f (take k xs))
front_count f [] zero = refl
front_count f [] (suc k) = refl
front_count f (x ∷ xs) zero = refl
front_count f (x ∷ xs) (suc k) =
    elim (cases_Bool (f x)) [
      | inl passes ↦ rw passes (ap suc (front_count f xs k))
      | inr fails ↦ rw fails (front_count f xs k)
    ]

-- as many are set before the place as stand ahead of the wish
pub ahead_in_line : (s : State) (orders : List CallOrder) (opens : List Bool) (w : Wish) (k : ℕ)
    → applies_in s.dossier w.programme w.candidate ≡ true → IsSeatPlace s.dossier orders w k
    → set_count (take k (seat_row s orders opens w.programme).flags) ≡ ahead_by s orders opens w
ahead_in_line s orders opens w k waits at =
    let wants = wants_by s opens w.programme in
    let order = order_of s.dossier orders w.programme in
    let line = line_of s.dossier orders w.programme in
    let c = w.candidate in
    let whole : length (filter wants (up_to c order)) ≡ length (filter wants (up_to c line)) =
    filter_up_to wants (applies_in s.dossier w.programme) c (wants_applies s opens w.programme) waits order in
    let front : length (filter wants (up_to c line)) ≡ length (filter wants (take k line)) =
    ap (λ ys. length (filter wants ys)) (up_to_take c line k at) in
    let all : length (filter wants (before_first (nat_eq c) order)) ≡ length
    (filter wants (up_to c order)) = ap (λ ys. length (filter wants ys)) (before_is c order) in
    omega (
      arith,
      whole,
      front,
      all,
      front_count wants line k,
      length-filter (λ (b : Bool). b) (take k (map wants line)),
      length-filter wants (before_first (nat_eq c) order),
    )

-- so a seat is left for the wish exactly where its place is reached
pub reached_in_line : (s : State) (orders : List CallOrder) (opens : List Bool) (w : Wish) (k : ℕ)
    → applies_in s.dossier w.programme w.candidate ≡ true → IsSeatPlace s.dossier orders w k
    → is_reached (seat_row s orders opens w.programme) k ≡ nat_lt (ahead_by s orders opens w) (seats_left s w.programme)
reached_in_line s orders opens w k waits at = ap (λ n. nat_lt n (seats_left s w.programme))
    (ahead_in_line s orders opens w k waits at)

-- closing one wish changes nothing for another candidate or programme
pub any_set_other : {X Y : Type 0} (q : X × Y → Bool) (xs : List X) (ys : List Y) (i : ℕ) (x : X) (y : Y)
    → slice_get xs i ≡ Some x
    → ((z : Y) → q (x, z) ≡ false) → list_any q (zip xs (set ys i y)) ≡ list_any q (zip xs ys)
any_set_other q [] ys i x y at h = refl
any_set_other q (v ∷ xs) [] i x y at h = refl
any_set_other q (v ∷ xs) (z ∷ ys) zero x y at h =
    let same : v ≡ x = cc in
    rw (same, h y, h z) refl
any_set_other q (v ∷ xs) (z ∷ ys) (suc i) x y at h = ap (λ b. q (v, z) || b) (any_set_other q xs ys i x y at h)

and_middle : (a b c : Bool) → (b && c) ≡ false → ((a && b) && c) ≡ false
and_middle true b c t = t
and_middle false b c t = refl

map_all : {Y : Type 0} (f g : ℕ → Y) (xs : List ℕ)
    → ((j : ℕ) → j < length xs → g (get_or xs j 0) ≡ f (get_or xs j 0)) → map g xs ≡ map f xs
map_all f g [] h = refl
map_all f g (x ∷ xs) h = rw (h 0 (omega arith), map_all f g xs (λ j lt. h (suc j) (omega arith))) refl

-- two functions that differ on one place of a list
pub map_at : {Y : Type 0} (f g : ℕ → Y) (xs : List ℕ) (k : ℕ) → k < length xs
    → ((j : ℕ) → j < length xs → nat_eq j k ≡ false → g (get_or xs j 0) ≡ f (get_or xs j 0))
    → map g xs ≡ set (map f xs) k (g (get_or xs k 0))
map_at f g [] k lt h = absurd (omega arith)
map_at f g (x ∷ xs) zero lt h = ap (λ ys. g x ∷ ys)
    (map_all f g xs (λ j within. h (suc j) (omega arith) (ne_eqb (suc j) 0 (λ e. omega (arith, e)))))
map_at f g (x ∷ xs) (suc k) lt h =
    rw (h 0 (omega arith) (ne_eqb 0 (suc k) (λ e. omega (arith, e))))
    (ap (λ ys. f x ∷ ys)
    (map_at f g xs k (omega arith)
    (λ j within ne. h (suc j) (omega arith) (ne_eqb (suc j) (suc k) (λ e. omega (arith, e, eqb-false j k ne))))))

module _ (s : State) (opens : List Bool) (i : ℕ) (w : Wish) (m : Mark)
    (at : slice_get (entries s) i ≡ Some (w, m)) where
  pub wants_other : (p c : ℕ) → (nat_eq w.candidate c && nat_eq w.programme p) ≡ false
      → wants_by s (set opens i false) p c ≡ wants_by s opens p c
  wants_other p c t =
      ap (λ b. b && not (holds_seat s c p))
      (any_set_other (is_flagged_in p c) (entries s) opens i (w, m) false at
      (λ z. and_middle z (nat_eq w.candidate c) (nat_eq w.programme p) t))

  -- so the line of another programme stays
  pub row_other : (orders : List CallOrder) (p : ℕ) → nat_eq w.programme p ≡ false
      → seat_row s orders (set opens i false) p ≡ seat_row s orders opens p
  row_other orders p t =
      ap (λ (flags : List Bool). let r : LineRow = record { flags = flags; quota = seats_left s p } in r)
      (map_same (wants_by s (set opens i false) p) (wants_by s opens p)
      (λ c. wants_other p c (and_right (nat_eq w.candidate c) (nat_eq w.programme p) t)) (line_of s.dossier orders p))

  -- and that of its own programme changes at most at the place of its candidate
  pub row_own : (orders : List CallOrder) (k : ℕ) → IsSeatPlace s.dossier orders w k
      → (seat_row s orders (set opens i false) w.programme).flags
      ≡ set (seat_row s orders opens w.programme).flags k (wants_by s (set opens i false) w.programme w.candidate)
  row_own orders k place =
      let new = wants_by s (set opens i false) w.programme in
      let old = wants_by s opens w.programme in
      let line = line_of s.dossier orders w.programme in
      map_at old new line k place.within
      (λ j lt ne. wants_other w.programme (get_or line j 0)
      (and_left (nat_eq w.candidate (get_or line j 0)) (nat_eq w.programme w.programme) (place.once j lt ne)))
      ∙ ap (λ c. set (map old line) k (new c)) place.here

-- a bar falls: the open wishes that are past the new bar, and no others, are barred
no_longer_open : (waits held low high past : Bool) → (high ≡ true → low ≡ true) → low ≡ past
    → (waits && not (waits && (not held && low)))
    ≡ ((waits && not (waits && (not held && high))) && not (not held && past))
no_longer_open false held low high past h e = refl
no_longer_open true true low high past h e = refl
no_longer_open true false true true past h e = refl
no_longer_open true false true false past h e = rw (← e) refl
no_longer_open true false false true past h e = absurd (false≢true (h refl))
no_longer_open true false false false past h e = rw (← e) refl

pub fallen_open : (s : State) (bars : List ℕ) (h to : ℕ) (w : Wish) (m : Mark) (school : Option ℕ)
    → h < length bars → to ≤ slice_index bars h
    → (is_waiting m && not (is_waiting m && is_behind_bar s (slice_set bars h to) w school))
    ≡ ((is_waiting m && not (is_waiting m && is_behind_bar s bars w school)) && not (is_school school
    h && (not (holds_bed s w.candidate h) && nat_lt to w.board_rank)))
fallen_open s bars h to w m None within le = is_and_true (is_waiting m && not (is_waiting m && false))
fallen_open s bars h to w m (Some g) within le =
    elim (cases_Bool (nat_eq g h)) [
      | inl here ↦
          let same : g ≡ h = eqb-true g h here in
          let now : slice_index (slice_set bars h to) g ≡ to = rw same (get_or-set_same bars h to 0 within) in
          rw (here, same, rw same at now)
          (no_longer_open (is_waiting m) (holds_bed s w.candidate h) (nat_lt to w.board_rank)
          (nat_lt (slice_index bars h) w.board_rank) (nat_lt to w.board_rank)
          (λ t. lt-ltb to w.board_rank (omega (arith, ltb-true (slice_index bars h) w.board_rank t))) refl)
      | inr other ↦
          let kept : slice_index (slice_set bars h to) g ≡ slice_index bars g = get_or-set_other bars h g to
          0 (eqb-false g h other) in
          rw (other, kept) (is_and_true (is_waiting m && not (is_waiting m && is_behind_bar s bars w (Some g))))
    ]

-- the flags after a fall
pub opens_fallen : (s : State) (bars : List ℕ) (h to : ℕ) → h < length bars → to ≤ slice_index bars h
    → opens_of s (slice_set bars h to) ≡ map (λ (w, m). is_open s bars w m && not (is_past s h to w)) (entries s)
opens_fallen s bars h to within le =
    map_same (λ (e : Wish × Mark). is_open s (slice_set bars h to) e.0 e.1)
    (λ (e : Wish × Mark). is_open s bars e.0 e.1 && not (is_past s h to e.0))
    (λ e. fallen_open s bars h to e.0 e.1 e.0.school within le) (entries s)

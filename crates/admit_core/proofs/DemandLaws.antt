-- The demanded ranks stand below the bars, and stay demanded when bars fall that they stand below.
use Rattle.std.proofs.Common.{ℕ, ◌≤◌, ◌<◌, ◌≡◌, Bool, true, false, not, ◌&&◌, ◌||◌, List, map, length, inl, inr, refl}
use Rattle.std.proofs.Common.{sym, ◌∙◌, arith, nat_eq, nat_lt, filter, Option, Some, None}
use Rattle.std.specs.Prelude.{slice_index, Contains, IsTrue}
use Rattle.std.specs.List.{list_any, range_with_len}
use Rattle.std.proofs.lemmas.Bool.{and_parts, and_from, or_cases, or_left, or_right, and_right, and_cases, both_ways}
use Rattle.std.proofs.lemmas.Bool.{false≢true, eqb-true, ltb-true, ltb-false, lt-ltb, le-ltb}
use Rattle.std.proofs.lemmas.Cmp.{nat_eq_equiv}
use Rattle.std.proofs.lemmas.List.{length-map}
use Rattle.std.proofs.lemmas.List.Folds.{Any-from_list_any}
use Rattle.std.proofs.lemmas.List.FromFn.{length-range_with_len}
use Rattle.std.proofs.lemmas.Map.Views.{Contains-from_any, list_any-from_Contains}
use Rattle.admit_core.specs.declared.dossier.Wish.{Wish}
use Rattle.admit_core.specs.declared.state.Mark.{Mark}
use Rattle.admit_core.specs.declared.ranking.CallOrder.{CallOrder}
use Rattle.admit_core.specs.Lists.{is_among}
use Rattle.admit_core.specs.State.{State, entries, is_waiting, holds_bed, holds_seat, has_school, is_school, seats_left}
use Rattle.admit_core.specs.State.{free_beds}
use Rattle.admit_core.specs.Proposals.{is_behind_bar, is_barred, is_open, is_open_in, wants_seat, ahead, before}
use Rattle.admit_core.specs.Proposals.{needs_no_seat, is_proposed, demands_bed, demanded_ranks}
use Rattle.admit_core.specs.Falls.{IsAtMost, IsLawful}
use Rattle.admit_core.specs.Boarding.{boarding}
use Rattle.admit_core.proofs.Tests.{increasing-ascending, any_implied, count_implied, among-ascending, among-map_filter}

-- the wish demands a bed of the school at this rank
abbrev pub demands_at : State → List CallOrder → List ℕ → ℕ → ℕ → Wish × Mark → Bool
demands_at s orders bars h r e = demands_bed s orders bars h e.0 e.1 && nat_eq r e.0.board_rank

-- a rank is demanded where some wish demands a bed at it
pub demanded : (s : State) (orders : List CallOrder) (bars : List ℕ) (h r : ℕ)
    → is_among r (demanded_ranks s orders bars h) ≡ list_any (demands_at s orders bars h r) (entries s)
demanded s orders bars h r =
    let rank = λ (e : Wish × Mark). e.0.board_rank in
    let demands = λ (e : Wish × Mark). demands_bed s orders bars h e.0 e.1 in
    among-ascending r (map rank (filter demands (entries s))) ∙ among-map_filter rank demands r (entries s)

-- the parts of what it takes to demand a bed
pub record Demands (s : State) (orders : List CallOrder) (bars : List ℕ) (h : ℕ) (w : Wish) (m : Mark) : Type 0 where
  pub has : has_school w h ≡ true
  pub ranked : nat_lt 0 w.board_rank ≡ true
  pub no_bed : not (holds_bed s w.candidate h) ≡ true
  pub opens : is_open s bars w m ≡ true
  pub seat : (needs_no_seat s orders w || nat_lt (ahead s orders bars w) (seats_left s w.programme)) ≡ true

pub demand_parts : (s : State) (orders : List CallOrder) (bars : List ℕ) (h : ℕ) (w : Wish) (m : Mark)
    → demands_bed s orders bars h w m ≡ true → Demands s orders bars h w m
demand_parts s orders bars h w m t =
    let outer = and_parts (has_school w h && nat_lt 0 w.board_rank && not (holds_bed s w.candidate h))
    (is_proposed s orders bars w m) t in
    let middle = and_parts (has_school w h && nat_lt 0 w.board_rank) (not (holds_bed s w.candidate h)) outer.0 in
    let inner = and_parts (has_school w h) (nat_lt 0 w.board_rank) middle.0 in
    let proposed = and_parts (is_open s bars w m)
    (needs_no_seat s orders w || nat_lt (ahead s orders bars w) (seats_left s w.programme)) outer.1 in
    record { has = inner.0; ranked = inner.1; no_bed = middle.1; opens = proposed.0; seat = proposed.1 }

pub demand_from : (s : State) (orders : List CallOrder) (bars : List ℕ) (h : ℕ) (w : Wish) (m : Mark)
    → Demands s orders bars h w m → demands_bed s orders bars h w m ≡ true
demand_from s orders bars h w m d = rw (d.has, d.ranked, d.no_bed, d.opens, d.seat) refl

-- a wish stays open where the bars rise
open_step : (waits lower upper : Bool) → (upper ≡ true → lower ≡ true) → (waits && not (waits && lower)) ≡ true
    → (waits && not (waits && upper)) ≡ true
open_step false lower upper h t = t
open_step true lower false h t = refl
open_step true true true h t = t
open_step true false true h t = h refl

and_first : (a b c d : Bool) → (a ≡ true → d ≡ true) → ((a && b) && c) ≡ true → ((d && b) && c) ≡ true
and_first a b c d h t =
    let outer = and_parts (a && b) c t in
    let inner = and_parts a b outer.0 in
    and_from (d && b) c (and_from d b (h inner.0) inner.1) outer.1

-- an open wish waits, and is not behind its bar
pub not_barred_step : (waits behind : Bool) → (waits && not (waits && behind)) ≡ true → behind ≡ false
not_barred_step true true t = sym t
not_barred_step true false t = refl
not_barred_step false true t = sym t
not_barred_step false false t = refl

module _ (s : State) (orders : List CallOrder) (lower upper : List ℕ) (at_most : IsAtMost lower upper) where
  -- behind the higher bar is behind the lower one
  pub behind_lower : (w : Wish) (school : Option ℕ) → is_behind_bar s upper w school ≡ true
      → is_behind_bar s lower w school ≡ true
  behind_lower w None t = t
  behind_lower w (Some h) t =
      let parts = and_parts (not (holds_bed s w.candidate h)) (nat_lt (slice_index upper h) w.board_rank) t in
      let over : slice_index upper h < w.board_rank = ltb-true (slice_index upper h) w.board_rank parts.1 in
      and_from (not (holds_bed s w.candidate h)) (nat_lt (slice_index lower h) w.board_rank) parts.0
      (lt-ltb (slice_index lower h) w.board_rank (omega (arith, at_most.each h)))

  -- open under the lower bars is open under the higher ones
  pub open_under_higher : (w : Wish) (m : Mark) → is_open s lower w m ≡ true → is_open s upper w m ≡ true
  open_under_higher w m t =
      open_step (is_waiting m) (is_behind_bar s lower w w.school) (is_behind_bar s upper w w.school)
      (behind_lower w w.school) t

  -- who wants a seat under the lower bars wants it under the higher ones
  wants_under_higher : (p c : ℕ) → wants_seat s lower p c ≡ true → wants_seat s upper p c ≡ true
  wants_under_higher p c t =
      let opens = λ (bars : List ℕ) (e : Wish × Mark). is_open_in s bars p c e.0 e.1 in
      let parts = and_parts (list_any (opens lower) (entries s)) (not (holds_seat s c p)) t in
      and_from (list_any (opens upper) (entries s)) (not (holds_seat s c p))
      (any_implied (opens lower) (opens upper)
      (λ e. and_first (is_open s lower e.0 e.1) (nat_eq e.0.candidate c) (nat_eq e.0.programme p)
      (is_open s upper e.0 e.1)
      (open_under_higher e.0 e.1))
      (entries s) parts.0)
      parts.1

  -- no more stand ahead under the lower bars
  pub ahead_at_most : (w : Wish) → ahead s orders lower w ≤ ahead s orders upper w
  ahead_at_most w =
      count_implied (wants_seat s lower w.programme) (wants_seat s upper w.programme) (wants_under_higher w.programme)
      (before s orders w)

  -- a seat that is left under the higher bars is left under the lower ones
  pub seat_stays : (w : Wish) → (needs_no_seat s orders w || nat_lt (ahead s orders upper w) (seats_left s w.programme))
      ≡ true
      → (needs_no_seat s orders w || nat_lt (ahead s orders lower w) (seats_left s w.programme)) ≡ true
  seat_stays w t =
      let left = seats_left s w.programme in
      elim (or_cases (needs_no_seat s orders w) (nat_lt (ahead s orders upper w) left) t) [
        | inl whatever ↦ or_left (needs_no_seat s orders w) (nat_lt (ahead s orders lower w) left) whatever
        | inr seat ↦ or_right (needs_no_seat s orders w) (nat_lt (ahead s orders lower w) left)
            (lt-ltb (ahead s orders lower w) left
            (omega (arith, ahead_at_most w, ltb-true (ahead s orders upper w) left seat)))
      ]

  -- a rank that is at most the bar is not behind it
  not_behind : (w : Wish) (school : Option ℕ) (h : ℕ) → is_school school h ≡ true → w.board_rank ≤ slice_index lower h
      → is_behind_bar s lower w school ≡ false
  not_behind w None h has le = refl
  not_behind w (Some g) h has le =
      and_right (not (holds_bed s w.candidate g)) (nat_lt (slice_index lower g) w.board_rank)
      (le-ltb (slice_index lower g) w.board_rank (rw (eqb-true g h has) le))

  -- a wish that demands a bed at a rank that is at most the lower bar still demands it
  still_demands : (h : ℕ) (w : Wish) (m : Mark) → w.board_rank ≤ slice_index lower h → Demands s orders upper h w m
      → Demands s orders lower h w m
  still_demands h w m le d =
      let waits = (and_parts (is_waiting m) (not (is_barred s upper w m)) d.opens).0 in
      record {
        has = d.has;
        ranked = d.ranked;
        no_bed = d.no_bed;
        opens = rw (waits, not_behind w w.school h d.has le) refl;
        seat = seat_stays w d.seat;
      }

  pub stay_demanded : (h r : ℕ) → IsTrue (is_among r (demanded_ranks s orders upper h)) → r ≤ slice_index lower h
      → IsTrue (is_among r (demanded_ranks s orders lower h))
  stay_demanded h r t le =
      demanded s orders lower h r
      ∙ any_implied (demands_at s orders upper h r) (demands_at s orders lower h r)
      (λ e both.
      let parts = and_parts (demands_bed s orders upper h e.0 e.1) (nat_eq r e.0.board_rank) both in
      let still = still_demands h e.0 e.1 (rw (← eqb-true r e.0.board_rank parts.1) le)
      (demand_parts s orders upper h e.0 e.1 parts.0) in
      and_from (demands_bed s orders lower h e.0 e.1) (nat_eq r e.0.board_rank)
      (demand_from s orders lower h e.0 e.1 still) parts.1)
      (entries s)
      (sym (demanded s orders upper h r) ∙ t)

-- who is not behind the bar of a school and has no bed there ranks at most at the bar
pub not_over : (s : State) (bars : List ℕ) (w : Wish) (school : Option ℕ) (h : ℕ) → is_school school h ≡ true
    → not (holds_bed s w.candidate h) ≡ true → is_behind_bar s bars w school ≡ false → w.board_rank ≤ slice_index bars h
not_over s bars w None h has no_bed t = absurd (false≢true has)
not_over s bars w (Some g) h has no_bed t =
    rw (← eqb-true g h has)
    (elim (and_cases (not (holds_bed s w.candidate g)) (nat_lt (slice_index bars g) w.board_rank) t) [
      | inl held ↦
          let free : not (holds_bed s w.candidate g) ≡ true = rw (eqb-true g h has) no_bed in
          absurd (both_ways (not (holds_bed s w.candidate g)) held free)
      | inr below ↦ ltb-false (slice_index bars g) w.board_rank below
    ])

-- a demanded rank is from 1 to the bar
pub below_bar : (s : State) (orders : List CallOrder) (bars : List ℕ) (h r : ℕ)
    → IsTrue (is_among r (demanded_ranks s orders bars h)) → (1 ≤ r) × (r ≤ slice_index bars h)
below_bar s orders bars h r t =
    let (k, e, within, at, both) = Any-from_list_any (demands_at s orders bars h r) (entries s)
    (sym (demanded s orders bars h r) ∙ t) in
    let w = e.0 in
    let m = e.1 in
    let parts = and_parts (demands_bed s orders bars h w m) (nat_eq r w.board_rank) both in
    let d = demand_parts s orders bars h w m parts.0 in
    rw (eqb-true r w.board_rank parts.1) (
      ltb-true 0 w.board_rank d.ranked,
      not_over s bars w w.school h d.has d.no_bed
          (not_barred_step (is_waiting m) (is_behind_bar s bars w w.school) d.opens),
    )

-- a rank of a list, as a test and as an element
among_ranks : (ranks : List ℕ) (r : ℕ) → Contains ranks r → IsTrue (is_among r ranks)
among_ranks ranks r = list_any-from_Contains nat_eq_equiv r ranks

contains_ranks : (ranks : List ℕ) (r : ℕ) → IsTrue (is_among r ranks) → Contains ranks r
contains_ranks ranks r = Contains-from_any eqb-true r ranks

-- the boarding schools of a state are a lawful system
pub boarding_is_lawful : (s : State) (orders : List CallOrder) (ceilings : List ℕ)
    → IsLawful (boarding s orders ceilings)
boarding_is_lawful s orders ceilings =
    let ranks = demanded_ranks s orders in
    record {
      one_free_each = length-map (range_with_len 0 (length ceilings)) (free_beds s)
          ∙ length-range_with_len 0 (length ceilings);
      ascending = λ bars i _ _. increasing-ascending (map (λ (e : Wish × Mark). e.0.board_rank)
          (filter (λ (e : Wish × Mark). demands_bed s orders bars i e.0 e.1) (entries s)));
      from_one = λ bars i r _ _ demanded. (below_bar s orders bars i r (among_ranks (ranks bars i) r demanded)).0;
      to_bar = λ bars i r _ _ demanded. (below_bar s orders bars i r (among_ranks (ranks bars i) r demanded)).1;
      stay_demanded = λ lower upper i r at_most _ _ demanded le.
          contains_ranks (ranks lower i) r (stay_demanded s orders lower upper at_most i r
          (among_ranks (ranks upper i) r demanded) le);
    }

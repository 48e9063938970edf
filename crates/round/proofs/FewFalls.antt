-- Each fall of a school's bar bars a waiting wish for good.
use Rattle.std.proofs.Common.{ℕ, ◌+◌, ◌-◌, ◌≤◌, ◌<◌, ◌≡◌, Bool, true, false, cond, not, ◌&&◌, ◌||◌, List, [], ◌∷◌}
use Rattle.std.proofs.Common.{length, get_or, inl, inr, refl, sym, ◌∙◌, subst, arith, filter, nat_eq, nat_lt, zero, suc}
use Rattle.std.proofs.Common.{Option, Some, None}
use Rattle.std.specs.Prelude.{slice_index, is_some}
use Rattle.std.proofs.lemmas.Bool.{cases_Bool, and_parts, and_from, not-true, eqb-true, lt-ltb, false≢true, cases_eq}
use Rattle.std.proofs.lemmas.Cmp.{nat_eq_equiv}
use Rattle.std.proofs.lemmas.List.{length-set, get_or-set_same, get_or-set_other}
use Rattle.std.proofs.lemmas.List.Elements.{Contains-get_or}
use Rattle.std.proofs.lemmas.List.Folds.{Any-from_list_any}
use Rattle.std.proofs.lemmas.List.Sums.{length-filter}
use Rattle.std.proofs.lemmas.Map.Views.{list_any-from_Contains}
use Rattle.admit_core.specs.declared.dossier.Wish.{Wish}
use Rattle.admit_core.specs.declared.state.Mark.{Mark}
use Rattle.admit_core.specs.declared.records.Fall.{Fall}
use Rattle.admit_core.specs.declared.ranking.CallOrder.{CallOrder}
use Rattle.admit_core.specs.State.{State, entries, is_waiting, is_school, holds_bed, seats_left}
use Rattle.admit_core.specs.Proposals.{is_behind_bar, is_barred, is_open, is_proposed, needs_no_seat, ahead}
use Rattle.admit_core.specs.Proposals.{demands_bed, demanded_ranks}
use Rattle.admit_core.specs.Falls.{FallingSystem, IsAtMost, is_overfilled, fall_of, fallen, AreFalls}
use Rattle.admit_core.specs.Boarding.{boarding}
use Rattle.admit_core.proofs.DemandLaws.{demanded, behind_lower, boarding_is_lawful}
use Rattle.admit_core.proofs.FallsLaw.{over_in, over_rank, falls_under}
use Rattle.admit_core.proofs.Tests.{Implies, filter_implied}
use Rattle.round.proofs.BedLaw.{parts_of_demand}
use Rattle.round.specs.PassLaws.{waiting_boarders, FallsAreFew}

-- one more passes the weaker test
filter_grows : {X : Type 0} (p q : X → Bool) → Implies p q → (xs : List X) (k : ℕ) (x : X) → k < length xs
    → get_or xs k x ≡ x → p x ≡ false → q x ≡ true
    → length (filter p xs) + 1 ≤ length (filter q xs)
filter_grows p q h [] k x lt here fails passes = absurd (omega arith)
filter_grows p q h (y ∷ ys) zero x lt here fails passes =
    rw (here, fails, passes) (omega (arith, filter_implied p q h ys))
filter_grows p q h (y ∷ ys) (suc k) x lt here fails passes =
    let rest = filter_grows p q h ys k x (omega arith) here fails passes in
    elim (cases_Bool (p y)) [
      | inl both ↦ rw (both, h y both) (omega (arith, rest))
      | inr first ↦ rw first
          (elim (q y) as (λ b. length (filter p ys) + 1 ≤ length (cond b (y ∷ filter q ys) (filter q ys)))
          [ true ↦ omega (arith, rest) | false ↦ rest ])
    ]

-- a wish with this school, whose candidate has no bed there and ranks behind the bar, is barred
barred_from : (s : State) (bars : List ℕ) (w : Wish) (m : Mark) (school : Option ℕ) (h : ℕ) → is_school school h ≡ true
    → is_waiting m ≡ true
    → not (holds_bed s w.candidate h) ≡ true → slice_index bars h < w.board_rank
    → (is_waiting m && is_behind_bar s bars w school) ≡ true
barred_from s bars w m None h has waits free behind = absurd (false≢true has)
barred_from s bars w m (Some g) h has waits free behind =
    let same : g ≡ h = eqb-true g h has in
    let free_there : not (holds_bed s w.candidate g) ≡ true = rw same free in
    let behind_there : nat_lt (slice_index bars g) w.board_rank ≡ true =
    rw same (lt-ltb (slice_index bars h) w.board_rank behind) in
    rw (waits, free_there, behind_there) refl

boards_from : (school : Option ℕ) (waits : Bool) (behind : Bool) → (school ≡ None → behind ≡ false)
    → (waits && behind) ≡ true → (waits && is_some school) ≡ true
boards_from None true behind none t = absurd (false≢true (sym (none refl) ∙ t))
boards_from None false behind none t = t
boards_from (Some g) true behind none t = refl
boards_from (Some g) false behind none t = t

no_bar : (s : State) (bars : List ℕ) (w : Wish) (school : Option ℕ) → school ≡ None
    → is_behind_bar s bars w school ≡ false
no_bar s bars w None e = refl
no_bar s bars w (Some g) e = absurd (cc)

-- a proposed wish is open
opens_of : (s : State) (orders : List CallOrder) (bars : List ℕ) (w : Wish) (m : Mark)
    → is_proposed s orders bars w m ≡ true → is_open s bars w m ≡ true
opens_of s orders bars w m t =
    (and_parts (is_open s bars w m) (needs_no_seat s orders w || nat_lt (ahead s orders bars w)
    (seats_left s w.programme)) t).0

module _ (s : State) (orders : List CallOrder) (ceilings : List ℕ) where
  abbrev sys : FallingSystem
  sys = boarding s orders ceilings

  abbrev barred : List ℕ → Wish × Mark → Bool
  barred bars e = is_barred s bars e.0 e.1

  -- no more than the waiting wishes with a school are barred
  barred_at_most : (bars : List ℕ) → length (filter (barred bars) (entries s)) ≤ waiting_boarders s
  barred_at_most bars =
      let boards = λ (e : Wish × Mark). is_waiting e.1 && is_some e.0.school in
      omega (
        arith,
        length-filter boards (entries s),
        filter_implied (barred bars) boards (λ e t. boards_from e.0.school (is_waiting e.1)
            (is_behind_bar s bars e.0 e.0.school) (no_bar s bars e.0 e.0.school) t) (entries s),
      )

  -- a fall lowers one bar, and no other
  fall_lowers : (bars : List ℕ) (i : ℕ) → IsAtMost bars ceilings → is_overfilled sys bars i ≡ true
      → IsAtMost (fallen bars (fall_of sys bars i)) bars
  fall_lowers bars i under over =
      let lawful = boarding_is_lawful s orders ceilings in
      let to : ℕ = (fall_of sys bars i).to in
      let rank = over_rank sys lawful bars i under over in
      let i_bar : i < length bars = omega (arith, (over_in sys lawful bars i over).0, under.as_many) in
      record {
        as_many = length-set bars i to;
        each = λ j. elim (cases_eq j i) [
          | inl here ↦ rw here (omega (arith, get_or-set_same bars i to 0 i_bar, rank.1))
          | inr there ↦ omega (arith, get_or-set_other bars i j to 0 there)
        ];
      }

  -- what is barred stays barred
  stays_barred : (lower upper : List ℕ) → IsAtMost lower upper → Implies (barred upper) (barred lower)
  stays_barred lower upper at_most e t =
      let parts = and_parts (is_waiting e.1) (is_behind_bar s upper e.0 e.0.school) t in
      and_from (is_waiting e.1) (is_behind_bar s lower e.0 e.0.school) parts.0
      (behind_lower s orders lower upper at_most e.0 e.0.school parts.1)

  -- THE STEP: a fall bars one wish more
  bars_one_more : (bars : List ℕ) (i : ℕ) → IsAtMost bars ceilings → is_overfilled sys bars i ≡ true
      → length (filter (barred bars) (entries s))
      + 1 ≤ length (filter (barred (fallen bars (fall_of sys bars i))) (entries s))
  bars_one_more bars i under over =
      let lawful = boarding_is_lawful s orders ceilings in
      let ranks = demanded_ranks s orders bars i in
      let free : ℕ = slice_index sys.free i in
      let r : ℕ = slice_index ranks free in
      let within = over_in sys lawful bars i over in
      let rank = over_rank sys lawful bars i under over in
      let i_bar : i < length bars = omega (arith, within.0, under.as_many) in
      let among = list_any-from_Contains nat_eq_equiv r ranks (Contains-get_or ranks free 0 within.1) in
      let asks = λ (e : Wish × Mark). demands_bed s orders bars i e.0 e.1 && nat_eq r e.0.board_rank in
      let (k, e, lt, here, both) = Any-from_list_any asks (entries s) (sym (demanded s orders bars i r) ∙ among) in
      let w = e.0 in
      let m = e.1 in
      let outer = and_parts (demands_bed s orders bars i w m) (nat_eq r w.board_rank) both in
      let parts = parts_of_demand s orders bars i w m outer.0 in
      let opens = and_parts (is_waiting m) (not (is_barred s bars w m)) (opens_of s orders bars w m parts.offers) in
      let low : slice_index (fallen bars (fall_of sys bars i)) i ≡ r - 1 = get_or-set_same bars i (r - 1) 0 i_bar in
      let now = barred_from s (fallen bars (fall_of sys bars i)) w m w.school i parts.has opens.0 parts.no_bed
      (omega (arith, low, rank.0, eqb-true r w.board_rank outer.1)) in
      filter_grows (barred bars) (barred (fallen bars (fall_of sys bars i)))
      (stays_barred (fallen bars (fall_of sys bars i)) bars (fall_lowers bars i under over)) (entries s) k e lt here
      (not-true (is_barred s bars w m) opens.1) now

  -- falls bar as many wishes as they are
  falls_bar : (bars : List ℕ) (falls : List Fall) → IsAtMost bars ceilings → AreFalls sys bars falls
      → length (filter (barred bars) (entries s)) + length falls ≤ waiting_boarders s
  falls_bar bars [] under are = omega (arith, barred_at_most bars)
  falls_bar bars (f ∷ fs) under are =
      let P : Fall → Type 0 = λ g. IsAtMost (fallen bars g) ceilings in
      let Q : Fall → Type 0 = λ g. length (filter (barred bars) (entries s))
      + 1 ≤ length (filter (barred (fallen bars g)) (entries s)) in
      let step = subst Q (sym are.1) (bars_one_more bars f.school under are.0) in
      let next = subst P (sym are.1) (falls_under sys (boarding_is_lawful s orders ceilings) bars f.school under
      are.0) in
      omega (arith, step, falls_bar (fallen bars f) fs next are.2)

pub falls_are_few : FallsAreFew
falls_are_few s orders ceilings falls are =
    omega (arith, falls_bar s orders ceilings ceilings falls (record { as_many = refl; each = λ i. omega arith }) are)

-- Where wishes are closed one after another, what is open stays proposed, and what becomes proposed adds up.
use Rattle.std.proofs.Common.{ℕ, ◌+◌, ◌≤◌, ◌≡◌, Bool, true, false, not, ◌&&◌, ◌||◌, List, [], ◌∷◌, length, inl, inr}
use Rattle.std.proofs.Common.{refl, sym, ◌∙◌, ap, arith, nat_lt, suc, get_or, Option, Some, zip, cond, count_by}
use Rattle.std.proofs.Common.{option_map, unwrap_or}
use Rattle.std.specs.Prelude.{slice_get}
use Rattle.std.specs.List.{list_any, enumerate_from}
use Rattle.std.proofs.lemmas.Bool.{false≢true, and_parts, and_from, or_cases, or_left, or_right, ltb-true, lt-ltb}
use Rattle.admit_core.specs.declared.dossier.Wish.{Wish}
use Rattle.admit_core.specs.declared.state.Mark.{Mark}
use Rattle.admit_core.specs.declared.ranking.CallOrder.{CallOrder}
use Rattle.admit_core.specs.State.{State, entries, is_waiting, holds_seat, seats_left}
use Rattle.admit_core.specs.Proposals.{is_open, needs_no_seat, before}
use Rattle.admit_core.proofs.Tests.{count_implied}
use Rattle.linked_demand.specs.Opens.{flagged, is_flagged_in, wants_by, ahead_by, is_proposed_by}
use Rattle.linked_demand.specs.Links.{LinksRow}
use Rattle.linked_demand.specs.Demand.{is_proposed_at}
use Rattle.linked_demand.specs.Marks.{is_new, MarksWishes}
use Rattle.linked_demand.proofs.Counting.{count_sum, count_nothing}
use Rattle.linked_demand.proofs.Marking.{marks_both, marks_nothing}

-- flags of which no more are set
pub record AreFewer (fewer more : List Bool) : Type 0 where
  pub as_long : length fewer ≡ length more
  pub each : (i : ℕ) → get_or fewer i false ≡ true → get_or more i false ≡ true

any_fewer : {X : Type 0} (q : X × Bool → Bool) → ((x : X) → q (x, false) ≡ false)
    → (xs : List X) (fewer more : List Bool) → length fewer ≡ length more
    → ((i : ℕ) → get_or fewer i false ≡ true → get_or more i false ≡ true)
    → list_any q (zip xs fewer) ≡ true → list_any q (zip xs more) ≡ true
any_fewer q none [] fewer more long each t = t
any_fewer q none (x ∷ xs) [] more long each t = absurd (false≢true t)
any_fewer q none (x ∷ xs) (f ∷ fewer) [] long each t = absurd (omega arith)
any_fewer q none (x ∷ xs) (true ∷ fewer) (m ∷ more) long each t =
    let set : m ≡ true = each 0 refl in
    elim (or_cases (q (x, true)) (list_any q (zip xs fewer)) t) [
      | inl here ↦ rw set (or_left (q (x, true)) (list_any q (zip xs more)) here)
      | inr later ↦ or_right (q (x, m)) (list_any q (zip xs more))
          (any_fewer q none xs fewer more (omega arith) (λ i u. each (suc i) u) later)
    ]
any_fewer q none (x ∷ xs) (false ∷ fewer) (m ∷ more) long each t =
    elim (or_cases (q (x, false)) (list_any q (zip xs fewer)) t) [
      | inl here ↦ absurd (false≢true (sym (none x) ∙ here))
      | inr later ↦ or_right (q (x, m)) (list_any q (zip xs more))
          (any_fewer q none xs fewer more (omega arith) (λ i u. each (suc i) u) later)
    ]

wants_fewer : (s : State) (fewer more : List Bool) → AreFewer fewer more → (p c : ℕ)
    → wants_by s fewer p c ≡ true → wants_by s more p c ≡ true
wants_fewer s fewer more less p c t =
    let parts = and_parts (list_any (is_flagged_in p c) (flagged s fewer)) (not (holds_seat s c p)) t in
    and_from (list_any (is_flagged_in p c) (flagged s more)) (not (holds_seat s c p))
    (any_fewer (is_flagged_in p c) (λ e. refl) (entries s) fewer more less.as_long less.each parts.0) parts.1

stays_bits : (flag exempt old new : Bool) → (old ≡ true → new ≡ true) → (flag && (exempt || old)) ≡ true
    → (flag && (exempt || new)) ≡ true
stays_bits true true old new h t = refl
stays_bits true false true new h t = h refl
stays_bits true false false new h t = absurd (false≢true t)
stays_bits false exempt old new h t = absurd (false≢true t)

-- a wish that is open stays proposed
stays_by : (s : State) (orders : List CallOrder) (fewer more : List Bool) → AreFewer fewer more → (w : Wish) (m : Mark)
    → is_proposed_by s orders more w m true ≡ true → is_proposed_by s orders fewer w m true ≡ true
stays_by s orders fewer more less w m =
    stays_bits (is_waiting m && true) (needs_no_seat s orders w)
    (nat_lt (ahead_by s orders more w) (seats_left s w.programme))
    (nat_lt (ahead_by s orders fewer w) (seats_left s w.programme))
    (λ called.
    let low : ahead_by s orders fewer w ≤ ahead_by s orders more w =
    count_implied (wants_by s fewer w.programme) (wants_by s more w.programme)
    (wants_fewer s fewer more less w.programme) (before s orders w) in
    lt-ltb (ahead_by s orders fewer w) (seats_left s w.programme)
    (omega (arith, low, ltb-true (ahead_by s orders more w) (seats_left s w.programme) called)))

sum_bits : (a b c o : Bool) → (o ≡ true → a ≡ true → b ≡ true) → (o ≡ true → b ≡ true → c ≡ true)
    → cond ((b && not a) && o) 1 0 + cond ((c && not b) && o) 1 0 ≡ cond ((c && not a) && o) 1 0
sum_bits true true true true f g = omega arith
sum_bits true true false true f g = absurd (false≢true (g refl refl))
sum_bits true false c true f g = absurd (false≢true (f refl refl))
sum_bits false true true true f g = omega arith
sum_bits false true false true f g = absurd (false≢true (g refl refl))
sum_bits false false true true f g = omega arith
sum_bits false false false true f g = omega arith
sum_bits true true true false f g = omega arith
sum_bits true true false false f g = omega arith
sum_bits true false true false f g = omega arith
sum_bits true false false false f g = omega arith
sum_bits false true true false f g = omega arith
sum_bits false true false false f g = omega arith
sum_bits false false true false f g = omega arith
sum_bits false false false false f g = omega arith

late_bits : (a b c o : Bool) → ((c && not a) && o) ≡ true → ((b && not a) && o) ≡ false → ((c && not b) && o) ≡ true
late_bits a true true true t n = absurd (false≢true (sym n ∙ t))
late_bits a false true true t n = refl
late_bits a b false o t n = absurd (false≢true t)
late_bits true b true false t n = absurd (false≢true t)
late_bits false b true false t n = absurd (false≢true t)

nothing_bits : (a o : Bool) → ((a && not a) && o) ≡ false
nothing_bits true o = refl
nothing_bits false o = refl

module _ (start : LinksRow) (bars : List ℕ) where
  abbrev pub with_opens : List Bool → LinksRow
  with_opens opens = record start { opens = opens }

  abbrev pub places : List (ℕ × (Wish × Mark))
  places = enumerate_from 0 (entries start.state)

  proposed_there : (opens : List Bool) (j : ℕ) (e : Wish × Mark) → slice_get (entries start.state) j ≡ Some e
      → is_proposed_at (with_opens opens) j ≡ is_proposed_by start.state start.orders opens e.0 e.1
      (get_or opens j false)
  proposed_there opens j e at =
      ap (λ (o : Option (Wish × Mark)). unwrap_or
      (option_map (λ f. is_proposed_by start.state start.orders opens f.0 f.1 (get_or opens j false)) o) false) at

  stays : (fewer more : List Bool) → AreFewer fewer more → (j : ℕ) (e : Wish × Mark)
      → slice_get (entries start.state) j ≡ Some e → get_or fewer j false ≡ true
      → is_proposed_at (with_opens more) j ≡ true → is_proposed_at (with_opens fewer) j ≡ true
  stays fewer more less j e at flag t =
      let before : is_proposed_by start.state start.orders more e.0 e.1 true ≡ true =
      ap (is_proposed_by start.state start.orders more e.0 e.1) (sym (less.each j flag))
      ∙ sym (proposed_there more j e at) ∙ t in
      proposed_there fewer j e at ∙ ap (is_proposed_by start.state start.orders fewer e.0 e.1) flag
      ∙ stays_by start.state start.orders fewer more less e.0 e.1 before

  -- nothing is new where nothing is closed
  pub none_new : (links : LinksRow) → count_by (is_new start.state bars links links) places ≡ 0
  none_new links =
      count_nothing (is_new start.state bars links links) (entries start.state)
      (λ j e at. nothing_bits (is_proposed_at links j) (is_open start.state bars e.0 e.1))

  pub none_marked : (links : LinksRow) (marked : List Bool)
      → MarksWishes start.state (is_new start.state bars links links) marked marked
  none_marked links marked =
      marks_nothing start.state (is_new start.state bars links links) marked
      (λ j e at. nothing_bits (is_proposed_at links j) (is_open start.state bars e.0 e.1))

  -- what is new adds up
  pub new_adds : (now new : List Bool) → AreFewer now start.opens → AreFewer new now
      → ((j : ℕ) (e : Wish × Mark) → slice_get (entries start.state) j ≡ Some e
      → is_open start.state bars e.0 e.1 ≡ true → get_or new j false ≡ true)
      → count_by (is_new start.state bars start (with_opens now)) places + count_by
      (is_new start.state bars (with_opens now) (with_opens new)) places
      ≡ count_by (is_new start.state bars start (with_opens new)) places
  new_adds now new less further flags =
      count_sum (is_new start.state bars start (with_opens now))
      (is_new start.state bars (with_opens now) (with_opens new))
      (is_new start.state bars start (with_opens new)) (entries start.state)
      (λ j e at. sum_bits (is_proposed_at start j) (is_proposed_at (with_opens now) j)
      (is_proposed_at (with_opens new) j) (is_open start.state bars e.0 e.1)
      (λ o. stays now start.opens less j e at (further.each j (flags j e at o)))
      (λ o. stays new now further j e at (flags j e at o)))

  -- so do the marks
  pub marks_add : (now new : LinksRow) (marked then after : List Bool)
      → MarksWishes start.state (is_new start.state bars start now) marked then
      → MarksWishes start.state (is_new start.state bars now new) then after
      → MarksWishes start.state (is_new start.state bars start new) marked after
  marks_add now new marked then after =
      marks_both start.state (is_new start.state bars start now) (is_new start.state bars now new)
      (is_new start.state bars start new) marked then after
      (λ j e at. late_bits (is_proposed_at start j) (is_proposed_at now j) (is_proposed_at new j)
      (is_open start.state bars e.0 e.1))

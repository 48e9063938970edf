-- After a pass whose automatic answers free nothing, a programme has seats left only where each waiting wish of it is
-- barred.
use Rattle.std.proofs.Common.{ℕ, zero, suc, ◌≤◌, ◌<◌, ◌≡◌, ◌⊎◌, Bool, true, false, cond, not, ◌&&◌, ◌||◌, List, [], ◌∷◌}
use Rattle.std.proofs.Common.{length, take, inl, inr, refl, sym, ◌∙◌, ap, arith, nat_eq, nat_lt, count_by, get_or}
use Rattle.std.proofs.Common.{Option, Some, None}
use Rattle.std.specs.Prelude.{◌==◌, slice_get, option_map, unwrap_or}
use Rattle.std.specs.List.{IsDistinct, AllZip, All, position_or_len, before_first}
use Rattle.std.proofs.lemmas.Bool.{and_parts, and_from, or_parts, or_right, eqb-true, false≢true, lt-ltb, ltb-false}
use Rattle.std.proofs.lemmas.Bool.{and_cases, both_ways}
use Rattle.std.proofs.lemmas.List.Sums.{prefix_len-le-length, length-filter}
use Rattle.std.proofs.lemmas.List.Elements.{All-head, All-tail}
use Rattle.std.proofs.lemmas.List.Folds.{Any-from_list_any, list_any_at}
use Rattle.std.proofs.lemmas.Map.Keys.{IsDistinct-from_apart, apart_from_distinct}
use Rattle.std.proofs.lemmas.List.{get_or-take, length-take-le}
use Rattle.admit_core.specs.declared.dossier.Wish.{Wish}
use Rattle.admit_core.specs.declared.state.Mark.{Mark}
use Rattle.admit_core.specs.declared.state.Stamp.{Stamp}
use Rattle.admit_core.specs.declared.state.Status.TheVariants.{Offered}
use Rattle.admit_core.specs.declared.ranking.RankGroup.{RankGroup}
use Rattle.admit_core.specs.declared.ranking.CallOrder.{CallOrder}
use Rattle.admit_core.specs.DossierRows.{DossierRows, candidates_of, group_of}
use Rattle.admit_core.specs.CallOrder.{IsCallOrder, AreCallOrders}
use Rattle.admit_core.specs.Validity.{IsValid, IsValidGroup}
use Rattle.admit_core.specs.State.{State, entries, is_live, is_waiting, is_live_status, is_waiting_status, holds_seat}
use Rattle.admit_core.specs.State.{seats_left, changed_to}
use Rattle.admit_core.specs.Proposals.{is_open, is_open_in, wants_seat, has_open_wish, order_of, ahead, needs_no_seat}
use Rattle.admit_core.specs.Proposals.{is_proposed}
use Rattle.admit_core.specs.AutoAnswer.{auto_mark}
use Rattle.admit_core.specs.Days.{offered, closing}
use Rattle.admit_core.proofs.OrderPermutes.{distinct-order}
use Rattle.admit_core.proofs.Statuses.{changed_status, live_before_answer, waiting_before_answer, status_of_auto}
use Rattle.admit_core.proofs.Holders.{lives_with, marked_by, holds_after, holds_kept, holder_has_wish}
use Rattle.admit_core.proofs.Counting.{count_front, first_at_most, served, pass_at_most, split_count}

-- what a mark is that was changed: an offered or accepted wish is live, one that was given up is not, and none waits
pub offered_lives : (m : Mark) (stamp : Stamp) → is_live (changed_to Offered stamp m) ≡ true
offered_lives m stamp = ap is_live_status (changed_status Offered stamp m)

offered_waits_not : (m : Mark) (stamp : Stamp) → is_waiting (changed_to Offered stamp m) ≡ false
offered_waits_not m stamp = ap is_waiting_status (changed_status Offered stamp m)

-- the mark of a wish after the offers of a pass
abbrev pub offer_if : Stamp → Bool → Mark → Mark
offer_if stamp b m = cond b (changed_to Offered stamp m) m

pub live_stays : (stamp : Stamp) (b : Bool) (m : Mark) → is_live m ≡ true → is_live (offer_if stamp b m) ≡ true
live_stays stamp true m live = offered_lives m stamp
live_stays stamp false m live = live

-- who waits after the offers waited, and got none
pub waits_still : (stamp : Stamp) (b : Bool) (m : Mark) → is_waiting (offer_if stamp b m) ≡ true
    → (b ≡ false) × (is_waiting m ≡ true)
waits_still stamp true m waits = absurd (false≢true (sym (offered_waits_not m stamp) ∙ waits))
waits_still stamp false m waits = (refl, waits)

-- who is live after the offers was so before, or got one
pub live_or_offered : (stamp : Stamp) (b : Bool) (m : Mark) → is_live (offer_if stamp b m) ≡ true
    → (b ≡ true) ⊎ (is_live m ≡ true)
live_or_offered stamp true m live = inl refl
live_or_offered stamp false m live = inr live

-- automatic answers make no wish live
pub auto_live : (stamp : Stamp) (best : Option (Wish × Mark)) (w : Wish) (m : Mark)
    → is_live (auto_mark stamp best w m) ≡ true → is_live m ≡ true
auto_live stamp None w m live = live
auto_live stamp (Some best) w m live =
    live_before_answer m.status (w.preference == best.0.preference) (nat_lt best.0.preference w.preference)
    (sym (ap is_live_status (status_of_auto stamp best w m)) ∙ live)

-- nor do they make one wait
pub auto_waits : (stamp : Stamp) (best : Option (Wish × Mark)) (w : Wish) (m : Mark)
    → is_waiting (auto_mark stamp best w m) ≡ true → is_waiting m ≡ true
auto_waits stamp None w m waits = waits
auto_waits stamp (Some best) w m waits =
    waiting_before_answer m.status (w.preference == best.0.preference) (nat_lt best.0.preference w.preference)
    (sym (ap is_waiting_status (status_of_auto stamp best w m)) ∙ waits)

-- in a valid dossier the call order of each programme has nobody twice
abbrev list_at : List CallOrder → ℕ → List ℕ
list_at os g = unwrap_or (option_map (λ (o : CallOrder). o.list) (slice_get os g)) []

nobody_twice : IsDistinct nat_eq []
nobody_twice = IsDistinct-from_apart nat_eq [] (λ i j d i_lt j_lt. absurd (omega arith))

each_distinct : (gs : List RankGroup) (os : List CallOrder) → All IsValidGroup gs → AllZip IsCallOrder gs os → (g : ℕ)
    → IsDistinct nat_eq (list_at os g)
each_distinct [] [] valid calls g = nobody_twice
each_distinct [] (o ∷ os) valid calls g = absurd calls
each_distinct (x ∷ gs) [] valid calls g = absurd calls
each_distinct (x ∷ gs) (o ∷ os) valid calls zero = distinct-order x o (All-head IsValidGroup x gs valid).ranking calls.0
each_distinct (x ∷ gs) (o ∷ os) valid calls (suc g) = each_distinct gs os (All-tail IsValidGroup x gs valid) calls.1 g

pub order_distinct : (d : DossierRows) (orders : List CallOrder) → IsValid d → AreCallOrders d.groups orders → (p : ℕ)
    → IsDistinct nat_eq (order_of d orders p)
order_distinct d orders valid calls p = each_distinct d.groups orders valid.groups calls (group_of d p)

-- a prefix of distinct numbers is distinct
pub front_distinct : (xs : List ℕ) (n : ℕ) → n ≤ length xs → IsDistinct nat_eq xs → IsDistinct nat_eq (take n xs)
front_distinct xs n le apart =
    IsDistinct-from_apart nat_eq (take n xs) (λ i j d i_lt j_lt.
    let whole = length-take-le n xs le in
    let j_in : j < n = omega (arith, whole) in
    let i_in : i < n = omega arith in
    rw (get_or-take n xs i d i_in, get_or-take n xs j d j_in)
    (apart_from_distinct nat_eq xs i j d apart i_lt (omega (arith, whole))))

module _ (o : State) (orders : List CallOrder) (bars : List ℕ) (stamp : Stamp) where
  abbrev pub offer : Wish → Mark → Mark
  offer w m = offer_if stamp (is_proposed o orders bars w m) m

  abbrev pub answered : State
  answered = offered o orders bars stamp

  abbrev pub evening : State
  evening = closing o orders bars stamp

  -- a candidate becomes live in a programme
  abbrev takes : ℕ → ℕ → Bool
  takes p c = holds_seat answered c p && not (holds_seat o c p)

  -- who wants a seat and has fewer before them than seats are left takes one
  takes_early : (p c : ℕ) → wants_seat o bars p c ≡ true
      → count_by (wants_seat o bars p) (before_first (nat_eq c) (order_of o.dossier orders p)) < seats_left o p
      → takes p c ≡ true
  takes_early p c wants early =
      let parts = and_parts (has_open_wish o bars p c) (not (holds_seat o c p)) wants in
      let (k, x, lt, at, opens) = Any-from_list_any (λ (e : Wish × Mark). is_open_in o bars p c e.0 e.1)
      (entries o) parts.0 in
      let outer = and_parts (is_open o bars x.0 x.1 && nat_eq x.0.candidate c) (nat_eq x.0.programme p) opens in
      let inner = and_parts (is_open o bars x.0 x.1) (nat_eq x.0.candidate c) outer.0 in
      let is_c = eqb-true x.0.candidate c inner.1 in
      let is_p = eqb-true x.0.programme p outer.1 in
      let seat : ahead o orders bars x.0 < seats_left o x.0.programme = rw (is_c, is_p) early in
      let proposed : is_proposed o orders bars x.0 x.1 ≡ true =
      and_from (is_open o bars x.0 x.1) (needs_no_seat o orders x.0 || nat_lt (ahead o orders bars x.0)
      (seats_left o x.0.programme)) inner.0
      (or_right (needs_no_seat o orders x.0) (nat_lt (ahead o orders bars x.0) (seats_left o x.0.programme))
      (lt-ltb (ahead o orders bars x.0) (seats_left o x.0.programme) seat)) in
      let in_p = λ (w : Wish). nat_eq w.programme p in
      let lives : lives_with in_p c (marked_by offer x) ≡ true =
      and_from (is_live (offer x.0 x.1) && nat_eq x.0.candidate c) (nat_eq x.0.programme p)
      (and_from (is_live (offer x.0 x.1)) (nat_eq x.0.candidate c) (rw proposed (offered_lives x.1 stamp)) inner.1)
      outer.1 in
      let now : holds_seat answered c p ≡ true =
      holds_after in_p o offer c ∙ list_any_at (λ (e : Wish × Mark). lives_with in_p c (marked_by offer e))
      (entries o) k x lt (rw at lives) in
      and_from (holds_seat answered c p) (not (holds_seat o c p)) now parts.1

  -- where an open wish is not proposed, those who become live fill its programme
  pub takers_fill : (w : Wish) (m : Mark) → IsDistinct nat_eq (order_of o.dossier orders w.programme)
      → is_open o bars w m ≡ true
      → is_proposed o orders bars w m ≡ false → seats_left answered w.programme ≡ 0
  takers_fill w m apart opens not_proposed =
      let p = w.programme in
      let xs = order_of o.dossier orders p in
      let n = position_or_len (nat_eq w.candidate) xs in
      let le : n ≤ length xs = prefix_len-le-length (λ x. not (nat_eq w.candidate x)) xs in
      let left = seats_left o p in
      let cs = candidates_of o.dossier in
      let no_seat : nat_lt (ahead o orders bars w) left ≡ false =
      elim (and_cases (is_open o bars w m) (needs_no_seat o orders w || nat_lt (ahead o orders bars w) left)
      not_proposed) [
        | inl not_open ↦ absurd (both_ways (is_open o bars w m) not_open opens)
        | inr neither ↦ (or_parts (needs_no_seat o orders w) (nat_lt (ahead o orders bars w) left) neither).1
      ] in
      let many : left ≤ count_by (wants_seat o bars p) (take n xs) = ltb-false (ahead o orders bars w) left no_seat in
      let early = served (wants_seat o bars p) (takes p) left xs n le (λ k k_lt wants few.
      takes_early p (get_or xs k 0) wants
      (omega (
        arith,
        few,
        count_front (wants_seat o bars p) xs (position_or_len (nat_eq (get_or xs k 0)) xs) k
            (first_at_most (get_or xs k 0) xs k refl),
      ))) in
      let taken : left ≤ count_by (takes p) (take n xs) =
      elim early [ inl full ↦ full | inr all ↦ omega (arith, many, all) ] in
      let whole = pass_at_most (takes p) (take n xs) cs (front_distinct xs n le apart)
      (λ c t. holder_has_wish (λ v. nat_eq v.programme p) answered c
      (and_parts (holds_seat answered c p) (not (holds_seat o c p)) t).0) in
      let split = split_count (λ c. holds_seat o c p) (λ c. holds_seat answered c p)
      (λ c t. holds_kept (λ v. nat_eq v.programme p) o offer c
      (λ v mv live. live_stays stamp (is_proposed o orders bars v mv) mv live) t) cs in
      omega (arith, taken, whole, split, length-filter (takes p) (take n xs))

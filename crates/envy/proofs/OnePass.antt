-- A pass with its automatic answers leaves a fair state fair.
use Rattle.std.proofs.Common.{ℕ, ◌+◌, ◌≤◌, ◌<◌, ◌≡◌, ◌⊎◌, Bool, true, false, not, ◌&&◌, ◌||◌, List, map, length, take}
use Rattle.std.proofs.Common.{drop, inl, inr, refl, sym, ◌∙◌, ap, subst, arith, nat_eq, nat_lt, get_or, count_by}
use Rattle.std.proofs.Common.{Option, Some, None, All}
use Rattle.std.specs.Prelude.{◌==◌, nat_le}
use Rattle.std.specs.List.{position_or_len, before_first}
use Rattle.std.proofs.lemmas.Bool.{and_cases, and_from, and_parts, cases_order, eq-eqb, eqb-true, false_from_ne_true}
use Rattle.std.proofs.lemmas.Bool.{false≢true, leb-false, leb-true, lt-ltb, ltb-false, ltb-true, not_from_false}
use Rattle.std.proofs.lemmas.Bool.{or_cases, or_parts}
use Rattle.std.proofs.lemmas.List.{get_or-map, get_or_default, length-map, length-take-le}
use Rattle.std.proofs.lemmas.List.Elements.{All-map, All-same}
use Rattle.std.proofs.lemmas.List.Folds.{Any-from_list_any, list_any_at}
use Rattle.std.proofs.lemmas.List.Sums.{prefix_len-le-length}
use Rattle.admit_core.specs.declared.dossier.Wish.{Wish}
use Rattle.admit_core.specs.declared.ranking.CallOrder.{CallOrder}
use Rattle.admit_core.specs.declared.state.Mark.{Mark}
use Rattle.admit_core.specs.declared.state.Stamp.{Stamp}
use Rattle.admit_core.specs.declared.state.Status.{Status}
use Rattle.admit_core.specs.declared.state.Status.TheVariants.{Waiting, Offered, Accepted, Refused, Withdrawn, Quit}
use Rattle.admit_core.specs.declared.state.Status.TheVariants.{AutoRefused, AutoWithdrawn, Lapsed}
use Rattle.admit_core.specs.AutoAnswer.{auto_mark, auto_status, best_live}
use Rattle.admit_core.specs.Blocking.{has_better}
use Rattle.admit_core.specs.CallOrder.{AreCallOrders}
use Rattle.admit_core.specs.Days.{closing}
use Rattle.admit_core.specs.DossierRows.{limit_of}
use Rattle.admit_core.specs.Lapses.{is_offered}
use Rattle.admit_core.specs.Proposals.{ahead, is_barred, is_behind_bar, is_open, is_proposed, needs_no_seat, order_of}
use Rattle.admit_core.specs.Proposals.{position_of, wants_seat}
use Rattle.admit_core.specs.State.{State, entries, holds_seat, is_live, is_live_status, is_waiting, seats_left}
use Rattle.admit_core.specs.Validity.{IsValid}
use Rattle.admit_core.proofs.Counting.{count_front}
use Rattle.admit_core.proofs.Evenings.{after_offers, answer, entry_wish, held_after_offers, offer}
use Rattle.admit_core.proofs.FilledSeats.{auto_waits, live_or_offered, live_stays, offer_if, order_distinct}
use Rattle.admit_core.proofs.FilledSeats.{waits_still}
use Rattle.admit_core.proofs.Holders.{entries_marked, holds, holds_after, holds_kept, lives_with, marked_by}
use Rattle.admit_core.proofs.Statuses.{changed_status, status_of_auto}
use Rattle.admit_core.proofs.Plain.{and_false}
use Rattle.envy.specs.AutomaticDays.{HoldsBetter, IsFair, IsRankedPlainly, IsSettled, NobodyBehind, is_given_up}
use Rattle.envy.proofs.Leasts.{IsLeastOf, filtered_least, filtered_none}
use Rattle.envy.proofs.Orders.{IsBehind, behind_at}

-- what an automatic answer makes of a status
settled_by_answer : (st : Status) (is_best is_behind : Bool) → is_offered (auto_status st is_best is_behind) ≡ false
settled_by_answer Waiting is_best true = refl
settled_by_answer Waiting is_best false = refl
settled_by_answer Offered true is_behind = refl
settled_by_answer Offered false is_behind = refl
settled_by_answer Accepted true is_behind = refl
settled_by_answer Accepted false is_behind = refl
settled_by_answer Refused is_best is_behind = refl
settled_by_answer Withdrawn is_best is_behind = refl
settled_by_answer Quit is_best is_behind = refl
settled_by_answer AutoRefused is_best is_behind = refl
settled_by_answer AutoWithdrawn is_best is_behind = refl
settled_by_answer Lapsed is_best is_behind = refl

best_stays : (st : Status) (is_behind : Bool) → is_live_status st ≡ true
    → is_live_status (auto_status st true is_behind) ≡ true
best_stays Waiting is_behind live = absurd (cc)
best_stays Offered is_behind live = refl
best_stays Accepted is_behind live = refl
best_stays Refused is_behind live = absurd (cc)
best_stays Withdrawn is_behind live = absurd (cc)
best_stays Quit is_behind live = absurd (cc)
best_stays AutoRefused is_behind live = absurd (cc)
best_stays AutoWithdrawn is_behind live = absurd (cc)
best_stays Lapsed is_behind live = absurd (cc)

offered_is_live : (st : Status) → is_offered st ≡ true → is_live_status st ≡ true
offered_is_live Waiting is = absurd (cc)
offered_is_live Offered is = refl
offered_is_live Accepted is = refl
offered_is_live Refused is = absurd (cc)
offered_is_live Withdrawn is = absurd (cc)
offered_is_live Quit is = absurd (cc)
offered_is_live AutoRefused is = absurd (cc)
offered_is_live AutoWithdrawn is = absurd (cc)
offered_is_live Lapsed is = absurd (cc)

-- a wish that is given up was so before, or stands behind the best one, or was live and is another
abbrev GivenUpFrom : Status → Bool → Bool → Type 0
GivenUpFrom st is_best is_behind = (is_given_up st ≡ true) ⊎ ((is_behind ≡ true) ⊎
    ((is_live_status st ≡ true) × (is_best ≡ false)))

given_up_from : (st : Status) (is_best is_behind : Bool)
    → is_given_up (auto_status st is_best is_behind) ≡ true → GivenUpFrom st is_best is_behind
given_up_from Waiting is_best true given = inr (inl refl)
given_up_from Waiting is_best false given = absurd (cc)
given_up_from Offered true is_behind given = absurd (cc)
given_up_from Offered false is_behind given = inr (inr (refl, refl))
given_up_from Accepted true is_behind given = absurd (cc)
given_up_from Accepted false is_behind given = inr (inr (refl, refl))
given_up_from Refused is_best is_behind given = absurd (cc)
given_up_from Withdrawn is_best is_behind given = absurd (cc)
given_up_from Quit is_best is_behind given = absurd (cc)
given_up_from AutoRefused is_best is_behind given = inl refl
given_up_from AutoWithdrawn is_best is_behind given = inl refl
given_up_from Lapsed is_best is_behind given = absurd (cc)

-- an offer gives no wish up
given_up_before_offer : (stamp : Stamp) (b : Bool) (m : Mark) → is_given_up (offer_if stamp b m).status ≡ true
    → is_given_up m.status ≡ true
given_up_before_offer stamp true m given =
    absurd (false≢true (sym (ap is_given_up (changed_status Offered stamp m)) ∙ given))
given_up_before_offer stamp false m given = given

-- the test and the key of the best live wish
abbrev is_own_live : ℕ → Wish × Mark → Bool
is_own_live c e = is_live e.1 && (e.0.candidate == c) && nat_lt 0 e.0.preference

abbrev preference : Wish × Mark → ℕ
preference e = e.0.preference

module _ (orders : List CallOrder) (o : State) (bars : List ℕ) (stamp : Stamp)
    (valid : IsValid o.dossier) (called : AreCallOrders o.dossier.groups orders)
    (plain : IsRankedPlainly o.dossier) (fair : IsFair orders o) where
  abbrev offer_to : Wish → Mark → Mark
  offer_to = offer o orders bars stamp

  abbrev answer_to : Wish → Mark → Mark
  answer_to = answer o orders bars stamp

  abbrev mid : State
  mid = after_offers o orders bars stamp

  abbrev night : State
  night = closing o orders bars stamp

  -- of the wishes
  unboarded : (s : State) (k : ℕ) (x : Wish × Mark) → s.dossier ≡ o.dossier → k < length (entries s)
      → get_or (entries s) k x ≡ x → x.0.school ≡ None
  unboarded s k x same lt at =
      let place = entry_wish s k x lt at in
      let within : k < length o.dossier.wishes = omega (arith, place.0, ap (λ d. length d.wishes) same) in
      ap (λ (w : Wish). w.school) (place.1 ∙ ap (λ d. get_or d.wishes k x.0) same) ∙ plain.schools k x.0 within

  ranked : (s : State) (k : ℕ) (x : Wish × Mark) → s.dossier ≡ o.dossier → k < length (entries s)
      → get_or (entries s) k x ≡ x → 0 < x.0.preference
  ranked s k x same lt at =
      let place = entry_wish s k x lt at in
      let within : k < length o.dossier.wishes = omega (arith, place.0, ap (λ d. length d.wishes) same) in
      let is : x.0.preference ≡ (get_or o.dossier.wishes k x.0).preference =
      ap (λ (w : Wish). w.preference) (place.1 ∙ ap (λ d. get_or d.wishes k x.0) same) in
      omega (arith, is, plain.preferences k x.0 within)

  never_barred : (w : Wish) (m : Mark) → w.school ≡ None → is_barred o bars w m ≡ false
  never_barred w m none = ap (λ (h : Option ℕ). is_waiting m && is_behind_bar o bars w h) none
      ∙ and_false (is_waiting m)

  -- a wish is overtaken by one that stands behind it in the call order
  module _ (w : Wish) (m : Mark) (opens : is_open o bars w m ≡ true)
      (missed : is_proposed o orders bars w m ≡ false) where
    abbrev p : ℕ
    p = w.programme

    abbrev xs : List ℕ
    xs = order_of o.dossier orders p

    abbrev n : ℕ
    n = position_or_len (nat_eq w.candidate) xs

    front_long : (c : ℕ) → length (before_first (nat_eq c) xs) ≡ position_or_len (nat_eq c) xs
    front_long c = length-take-le (position_or_len (nat_eq c) xs) xs (prefix_len-le-length (λ x. not (nat_eq c x)) xs)

    no_seat : (needs_no_seat o orders w ≡ false) × (nat_lt (ahead o orders bars w) (seats_left o p) ≡ false)
    no_seat =
        elim (and_cases (is_open o bars w m) (needs_no_seat o orders w
        || nat_lt (ahead o orders bars w) (seats_left o p)) missed) [
          | inl not_open ↦ absurd (false≢true (sym not_open ∙ opens))
          | inr neither ↦ or_parts (needs_no_seat o orders w) (nat_lt (ahead o orders bars w) (seats_left o p)) neither
        ]

    past_limit : limit_of o.dossier p < n + 1
    past_limit =
        let late = (or_parts (holds_seat o w.candidate p)
        (nat_le (position_of o orders w) (limit_of o.dossier p)) no_seat.0).1 in
        omega (arith, leb-false (position_of o orders w) (limit_of o.dossier p) late, front_long w.candidate)

    all_taken : seats_left o p ≤ count_by (wants_seat o bars p) (take n xs)
    all_taken = ltb-false (ahead o orders bars w) (seats_left o p) no_seat.1

    module _ (c : ℕ) (is_behind : IsBehind xs n c) (free : holds_seat o c p ≡ false) where
      not_called : nat_le (length (before_first (nat_eq c) xs) + 1) (limit_of o.dossier p) ≡ true → ⊥
      not_called early = omega (
        arith,
        leb-true (length (before_first (nat_eq c) xs) + 1)
            (limit_of o.dossier p) early,
        front_long c,
        is_behind.first,
        is_behind.later,
        past_limit,
      )

      not_served : nat_lt (count_by (wants_seat o bars p) (before_first (nat_eq c) xs)) (seats_left o p) ≡ true → ⊥
      not_served early =
          let k = position_or_len (nat_eq c) xs in
          let le : n ≤ k = omega (arith, is_behind.first, is_behind.later) in
          omega (
            arith,
            ltb-true (count_by (wants_seat o bars p) (before_first (nat_eq c) xs))
                (seats_left o p) early,
            count_front (wants_seat o bars p) xs n k le,
            all_taken,
          )

      -- who stands behind gets no offer there
      not_offered : (v : Wish) (mv : Mark) → v.candidate ≡ c → v.programme ≡ p → is_proposed o orders bars v mv ≡ true
          → ⊥
      not_offered v mv is_c is_p proposed =
          let wants : (needs_no_seat o orders v || nat_lt (ahead o orders bars v) (seats_left o v.programme)) ≡ true =
          (and_parts (is_open o bars v mv) (needs_no_seat o orders v
          || nat_lt (ahead o orders bars v) (seats_left o v.programme)) proposed).1 in
          let here :
          ((holds_seat o c p || nat_le (length (before_first (nat_eq c) xs) + 1) (limit_of o.dossier p))
          || nat_lt (count_by (wants_seat o bars p) (before_first (nat_eq c) xs)) (seats_left o p)) ≡ true =
          rw (is_c, is_p) at wants in
          elim (or_cases (holds_seat o c p || nat_le (length (before_first (nat_eq c) xs) + 1) (limit_of o.dossier p))
          (nat_lt (count_by (wants_seat o bars p) (before_first (nat_eq c) xs)) (seats_left o p)) here) [
            | inl needs ↦ elim (or_cases (holds_seat o c p)
                (nat_le (length (before_first (nat_eq c) xs) + 1) (limit_of o.dossier p)) needs) [
                  | inl seated ↦ false≢true (sym free ∙ seated)
                  | inr early ↦ not_called early
                ]
            | inr early ↦ not_served early
          ]

      -- so they are not live there in the evening
      stays_free : holds_seat night c p ≡ false
      stays_free =
          let in_p = λ (v : Wish). nat_eq v.programme p in
          false_from_ne_true (holds_seat night c p) (λ held.
          let (j, e, e_lt, e_at, lives) = Any-from_list_any (λ (e : Wish × Mark).
          lives_with in_p c (marked_by offer_to e)) (entries o)
          (sym (holds_after in_p o offer_to c) ∙ held_after_offers o orders bars stamp in_p c held) in
          let v = e.0 in
          let mv = e.1 in
          let outer = and_parts (is_live (offer_to v mv) && nat_eq v.candidate c) (nat_eq v.programme p) lives in
          let inner = and_parts (is_live (offer_to v mv)) (nat_eq v.candidate c) outer.0 in
          elim (live_or_offered stamp (is_proposed o orders bars v mv) mv inner.0) [
            | inl proposed ↦ not_offered v mv (eqb-true v.candidate c inner.1) (eqb-true v.programme p outer.1) proposed
            | inr was_live ↦
                let here : lives_with in_p c e ≡ true =
                and_from (is_live mv && nat_eq v.candidate c) (nat_eq v.programme p)
                (and_from (is_live mv) (nat_eq v.candidate c) was_live inner.1) outer.1 in
                let seated : holds_seat o c p ≡ true = list_any_at (lives_with in_p c) (entries o) j e e_lt
                (rw e_at here) in
                false≢true (sym free ∙ seated)
          ])

  nobody_behind : (k : ℕ) (x : Wish × Mark) → k < length (entries o) → get_or (entries o) k x ≡ x
      → NobodyBehind orders night (marked_by answer_to (marked_by offer_to x))
  nobody_behind k x lt at waits = λ j d j_lt.
      let w = x.0 in
      let m = x.1 in
      let still = waits_still stamp (is_proposed o orders bars w m) m
      (auto_waits stamp (best_live mid w.candidate) w (offer_to w m) waits) in
      let opens : is_open o bars w m ≡ true =
      and_from (is_waiting m) (not (is_barred o bars w m)) still.1
      (not_from_false (is_barred o bars w m) (never_barred w m (unboarded o k x refl lt at))) in
      let ys = order_of o.dossier orders w.programme in
      let first = position_or_len (nat_eq w.candidate) ys in
      let pos : position_of o orders w ≡ first + 1 = ap (λ (i : ℕ). i + 1) (front_long w m opens still.0 w.candidate) in
      let c = get_or (drop (position_of o orders w) ys) j d in
      let is_behind : IsBehind ys first c =
      subst (λ (i : ℕ). j < length (drop i ys) → IsBehind ys first (get_or (drop i ys) j d)) (sym pos)
      (λ within. behind_at ys (order_distinct o.dossier orders valid called w.programme) first j d within) j_lt in
      let before : NobodyBehind orders o x = subst (NobodyBehind orders o) at (fair.behind k x lt) in
      stays_free w m opens still.0 c is_behind (before still.1 j d j_lt)

  -- the best live wish of a candidate after the offers
  module _ (c : ℕ) where
    in_night : (test : Wish → Bool) (b : Wish × Mark) → best_live mid c ≡ Some b
        → (least : IsLeastOf preference (is_own_live c) (entries mid) b) → test b.0 ≡ true
        → holds test night c ≡ true
    in_night test b best least passes =
        let outer = and_parts (is_live b.1 && (b.0.candidate == c)) (nat_lt 0 b.0.preference) least.passes in
        let inner = and_parts (is_live b.1) (b.0.candidate == c) outer.0 in
        let own : best_live mid b.0.candidate ≡ Some b = ap (best_live mid) (eqb-true b.0.candidate c inner.1) ∙ best in
        let status : (answer_to b.0 b.1).status ≡ auto_status b.1.status true (nat_lt b.0.preference b.0.preference) =
        ap (λ (o : Option (Wish × Mark)). (auto_mark stamp o b.0 b.1).status) own ∙ status_of_auto stamp b b.0 b.1
        ∙ ap (λ (t : Bool). auto_status b.1.status t (nat_lt b.0.preference b.0.preference))
        (eq-eqb b.0.preference b.0.preference refl) in
        let lives : is_live (answer_to b.0 b.1) ≡ true = ap is_live_status status
        ∙ best_stays b.1.status (nat_lt b.0.preference b.0.preference) inner.0 in
        let here : lives_with test c (marked_by answer_to b) ≡ true =
        and_from (is_live (answer_to b.0 b.1) && nat_eq b.0.candidate c) (test b.0) (and_from
        (is_live (answer_to b.0 b.1)) (nat_eq b.0.candidate c) lives inner.1) passes in
        holds_after test mid answer_to c
        ∙ list_any_at (λ (e : Wish × Mark). lives_with test c (marked_by answer_to e))
        (entries mid) least.place b least.within (rw least.is_there here)

    in_mid : (test : Wish → Bool) (b : Wish × Mark)
        → IsLeastOf preference (is_own_live c) (entries mid) b → test b.0 ≡ true
        → holds test mid c ≡ true
    in_mid test b least passes =
        let outer = and_parts (is_live b.1 && (b.0.candidate == c)) (nat_lt 0 b.0.preference) least.passes in
        let here : lives_with test c b ≡ true = and_from (is_live b.1 && nat_eq b.0.candidate c)
        (test b.0) outer.0 passes in
        list_any_at (lives_with test c) (entries mid) least.place b least.within (rw least.is_there here)

    -- who is live after the offers by a better wish than one holds a better one in the evening
    better_by : (q : ℕ) (best : Option (Wish × Mark)) → best_live mid c ≡ best
        → holds (λ v. nat_lt v.preference q) mid c ≡ true
        → holds (λ v. nat_lt v.preference q) night c ≡ true
    better_by q best is held =
        let (j, e, lt, at, lives) = Any-from_list_any (lives_with (λ v. nat_lt v.preference q) c) (entries mid) held in
        let outer = and_parts (is_live e.1 && nat_eq e.0.candidate c) (nat_lt e.0.preference q) lives in
        let positive = lt-ltb 0 e.0.preference (ranked mid j e refl lt at) in
        let own : is_own_live c e ≡ true = and_from (is_live e.1 && (e.0.candidate == c))
        (nat_lt 0 e.0.preference) outer.0 positive in
        let there : is_own_live c (get_or (entries mid) j e) ≡ true = rw at own in
        by j e lt at outer.1 there best is
      where
        by : (j : ℕ) (e : Wish × Mark) → j < length (entries mid) → get_or (entries mid) j e ≡ e
            → nat_lt e.0.preference q ≡ true → is_own_live c (get_or (entries mid) j e) ≡ true
            → (best : Option (Wish × Mark)) → best_live mid c ≡ best → holds (λ v. nat_lt v.preference q) night c ≡ true
        by j e lt at less there None none = absurd (filtered_none preference (is_own_live c)
            (entries mid) none j e lt there)
        by j e lt at less there (Some b) some =
            let least = filtered_least preference (is_own_live c) (entries mid) b some in
            let le : preference b ≤ preference (get_or (entries mid) j e) = least.least j e lt there in
            let same : preference (get_or (entries mid) j e) ≡ e.0.preference = ap preference at in
            in_night (λ v. nat_lt v.preference q) b some least
            (lt-ltb b.0.preference q (omega (arith, le, same, ltb-true e.0.preference q less)))

  kept_better : (w : Wish) → has_better mid w ≡ true → has_better night w ≡ true
  kept_better w held = better_by w.candidate w.preference (best_live mid w.candidate) refl held

  -- the mark of a wish after the offers stands in its place
  in_place : (k : ℕ) (x : Wish × Mark) → k < length (entries o) → get_or (entries o) k x ≡ x
      → (k < length (entries mid))
      × (get_or (entries mid) k (marked_by offer_to x) ≡ marked_by offer_to x)
  in_place k x lt at =
      let y = marked_by offer_to x in
      let es = map (marked_by offer_to) (entries o) in
      let long : length es ≡ length (entries o) = length-map (entries o) (marked_by offer_to) in
      let within : k < length es = omega (arith, long, lt) in
      let found : get_or es k y ≡ y = get_or-map (marked_by offer_to) (entries o) k x y lt
      ∙ ap (marked_by offer_to) at in (
        subst (λ (l : List (Wish × Mark)). k < length l) (sym (entries_marked o offer_to)) within,
        ap (λ (l : List (Wish × Mark)). get_or l k y) (entries_marked o offer_to) ∙ found,
      )

  -- a wish that is given up in the evening was so before the answers, or a better one of its candidate is live
  given_up : (k : ℕ) (w : Wish) (m : Mark) → k < length (entries mid)
      → get_or (entries mid) k (w, m) ≡ (w, m) → (best : Option (Wish × Mark))
      → best_live mid w.candidate ≡ best
      → is_given_up (auto_mark stamp best w m).status ≡ true → (is_given_up m.status ≡ true) ⊎ (has_better mid w ≡ true)
  given_up k w m lt at None none given = inl given
  given_up k w m lt at (Some b) some given =
      let c = w.candidate in
      let least = filtered_least preference (is_own_live c) (entries mid) b some in
      let better = λ (less : b.0.preference < w.preference). in_mid c (λ v.
      nat_lt v.preference w.preference) b least (lt-ltb b.0.preference w.preference less) in
      let is_best = w.preference == b.0.preference in
      let is_behind = nat_lt b.0.preference w.preference in
      elim (given_up_from m.status is_best is_behind (sym (ap is_given_up (status_of_auto stamp b w m)) ∙ given)) [
        | inl before ↦ inl before
        | inr now ↦ elim now [
          | inl less ↦ inr (better (ltb-true b.0.preference w.preference less))
          | inr other ↦
              let own : is_own_live c (w, m) ≡ true =
              and_from (is_live m && (c == c)) (nat_lt 0 w.preference)
              (and_from (is_live m) (c == c) other.0 (eq-eqb c c refl))
              (lt-ltb 0 w.preference (ranked mid k (w, m) refl lt at)) in
              let le : b.0.preference ≤ preference (get_or (entries mid) k (w, m)) =
              least.least k (w, m) lt (rw at own) in
              let same : preference (get_or (entries mid) k (w, m)) ≡ w.preference = ap preference at in
              elim (cases_order w.preference b.0.preference) [
                | inl equal ↦ absurd (false≢true (sym other.1 ∙ eq-eqb w.preference b.0.preference equal))
                | inr differ ↦ elim differ [
                  | inl below ↦ absurd (omega (arith, le, same, below))
                  | inr above ↦ inr (better above)
                ]
              ]
        ]
      ]

  better_held : (k : ℕ) (x : Wish × Mark) → k < length (entries o) → get_or (entries o) k x ≡ x
      → HoldsBetter night (marked_by answer_to (marked_by offer_to x))
  better_held k x lt at given =
      let w = x.0 in
      let place = in_place k x lt at in
      elim (given_up k w (offer_to w x.1) place.0 place.1 (best_live mid w.candidate) refl given) [
        | inl before ↦
            let was = given_up_before_offer stamp (is_proposed o orders bars w x.1) x.1 before in
            let fact : HoldsBetter o x = subst (HoldsBetter o) at (fair.better k x lt) in
            kept_better w (holds_kept (λ v. nat_lt v.preference w.preference) o offer_to w.candidate
            (λ v mv live. live_stays stamp (is_proposed o orders bars v mv) mv live) (fact was))
        | inr held ↦ kept_better w held
      ]

  settled_by : (k : ℕ) (w : Wish) (m : Mark) → k < length (entries mid)
      → get_or (entries mid) k (w, m) ≡ (w, m) → (best : Option (Wish × Mark))
      → best_live mid w.candidate ≡ best
      → is_offered (auto_mark stamp best w m).status ≡ false
  settled_by k w m lt at (Some b) some = ap is_offered (status_of_auto stamp b w m)
      ∙ settled_by_answer m.status (w.preference == b.0.preference)
      (nat_lt b.0.preference w.preference)
  settled_by k w m lt at None none =
      false_from_ne_true (is_offered m.status) (λ offers.
      let c = w.candidate in
      let own : is_own_live c (w, m) ≡ true =
      and_from (is_live m && (c == c)) (nat_lt 0 w.preference)
      (and_from (is_live m) (c == c) (offered_is_live m.status offers) (eq-eqb c c refl))
      (lt-ltb 0 w.preference (ranked mid k (w, m) refl lt at)) in
      filtered_none preference (is_own_live c) (entries mid) none k (w, m) lt (rw at own))

  -- of each entry of the evening
  each : (P : Wish × Mark → Type 0)
      → ((k : ℕ) (x : Wish × Mark) → k < length (entries o) → get_or (entries o) k x ≡ x
      → P (marked_by answer_to (marked_by offer_to x))) → All P (entries night)
  each P holds_at =
      All-same P (entries night) (map (marked_by answer_to) (map (marked_by offer_to) (entries o)))
      (entries_marked mid answer_to ∙ ap (map (marked_by answer_to)) (entries_marked o offer_to))
      (All-map P (marked_by answer_to) (map (marked_by offer_to) (entries o))
      (All-map (λ (e : Wish × Mark). P (marked_by answer_to e)) (marked_by offer_to) (entries o)
      (λ k d lt. holds_at k (get_or (entries o) k d) lt (get_or_default (entries o) k (get_or (entries o) k d) d lt))))

  pub closing_fair : IsFair orders night
  closing_fair = record {
    behind = each (NobodyBehind orders night) nobody_behind;
    better = each (HoldsBetter night) better_held;
    settled =
        All-map IsSettled (λ (x : Wish × Mark). answer_to x.0 x.1) (entries mid)
        (λ k d lt.
        let x = get_or (entries mid) k d in
        settled_by k x.0 x.1 lt (get_or_default (entries mid) k x d lt) (best_live mid x.0.candidate) refl);
  }

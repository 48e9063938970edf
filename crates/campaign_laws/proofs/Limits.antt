-- Never more are live in a programme than it has seats and its limit calls, or were live at first.
use Rattle.std.proofs.Common.{ℕ, zero, suc, ◌+◌, ◌≤◌, ◌<◌, ◌≡◌, Bool, true, false, not, ◌&&◌, ◌||◌, List, [], length}
use Rattle.std.proofs.Common.{map, max, min, take, Option, inl, inr, refl, sym, ◌∙◌, ap, subst, arith, add-one}
use Rattle.std.proofs.Common.{count_by, filter, get_or, nat_eq}
use Rattle.std.specs.List.{IsDistinct, before_first, position_or_len}
use Rattle.std.proofs.lemmas.Bool.{and_cases, and_from, and_parts, both_ways, cases_Bool, cases_lt, eqb-true, leb-true}
use Rattle.std.proofs.lemmas.Bool.{ltb-true, not-false, not-true, not_from_false, or_cases}
use Rattle.std.proofs.lemmas.Cmp.{nat_eq_equiv}
use Rattle.std.proofs.lemmas.List.{get_or_default, length-take-le, take_all}
use Rattle.std.proofs.lemmas.List.Elements.{All-from_recursion}
use Rattle.std.proofs.lemmas.List.Folds.{Any-from_list_any, list_any_at}
use Rattle.std.proofs.lemmas.List.Sums.{count_by_more_no, count_by_more_yes, length-filter, passes_at_first}
use Rattle.std.proofs.lemmas.Map.Keys.{apart_from_distinct}
use Rattle.std.proofs.lemmas.Map.Made.{length-le_from_is_member}
use Rattle.std.proofs.lemmas.Option.{unwrap_or-slice_get}
use Rattle.admit_core.specs.declared.dossier.Wish.{Wish}
use Rattle.admit_core.specs.declared.ranking.CallOrder.{CallOrder}
use Rattle.admit_core.specs.declared.records.Terms.{Terms}
use Rattle.admit_core.specs.declared.state.Mark.{Mark}
use Rattle.admit_core.specs.declared.state.Stamp.{Stamp}
use Rattle.admit_core.specs.Answers.{after}
use Rattle.admit_core.specs.AutoAnswer.{auto_all}
use Rattle.admit_core.specs.CallOrder.{AreCallOrders}
use Rattle.admit_core.specs.Days.{offered}
use Rattle.admit_core.specs.DossierRows.{DossierRows, candidates_of, limit_of, seats_of}
use Rattle.admit_core.specs.Lapses.{AreTermsFor, lapse}
use Rattle.admit_core.specs.Lists.{is_among}
use Rattle.admit_core.specs.Proposals.{has_open_wish, is_open, is_open_in, order_of, wants_seat}
use Rattle.admit_core.specs.State.{State, entries, holds_seat, is_live, seat_holders, seats_left}
use Rattle.admit_core.specs.Validity.{IsValid}
use Rattle.admit_core.proofs.ClosedEvenings.{among_filter}
use Rattle.admit_core.proofs.Counting.{distinct_kept, first_at_most}
use Rattle.admit_core.proofs.FilledSeats.{order_distinct}
use Rattle.admit_core.proofs.Holders.{lives_with}
use Rattle.admit_core.proofs.Plain.{nat_eq_sym}
use Rattle.admit_core.proofs.Tests.{filter_implied}
use Rattle.day_state.specs.Kept.{wish_in}
use Rattle.fairness.specs.OrderPromises.{place_in}
use Rattle.fairness.proofs.PassedOver.{among_taken, early_in, place_at_most, seat_for}
use Rattle.proposals.proofs.Calling.{all_called}
use Rattle.round.proofs.Members.{among_filtered, distinct_once}
use Rattle.round.proofs.NewHolders.{becomes_live, entry_wish}
use Rattle.campaign_laws.specs.Moments.{moments}
use Rattle.campaign_laws.specs.Room.{FitsSeatsAndLimitOf, NeverMoreThanSeatsAndLimit, beyond_limit, is_called_by_limit}
use Rattle.campaign_laws.proofs.GoneStays.{terms_long}
use Rattle.campaign_laws.proofs.Holding.{held_already}
use Rattle.campaign_laws.proofs.OneMark.{KeptOrLapsed, KeptOrTouched, Marks, TouchedOf, a_lapse, an_answer}
use Rattle.campaign_laws.proofs.OneMark.{automatic_answers, lapsed_touched, marks_imply, of_kind, touched_any}
use Rattle.campaign_laws.proofs.Room.{parted}
use Rattle.campaign_laws.proofs.Walks.{Nothing, SameDossier, Steps, all_imply, both, plain_steps, same_dossier}
use Rattle.campaign_laws.proofs.Walks.{throughout}

-- each place of a list without repeats is that of its first
first_place : (xs : List ℕ) (n : ℕ) → IsDistinct nat_eq xs → n < length xs
    → position_or_len (nat_eq (get_or xs n 0)) xs ≡ n
first_place xs n apart lt =
    let c = get_or xs n 0 in
    let k = position_or_len (nat_eq c) xs in
    let le = first_at_most c xs n refl in
    elim (cases_lt k n) [
      | inl earlier ↦
          let found = passes_at_first (nat_eq c) xs 0 (omega (arith, earlier, lt)) in
          let differ = nat_eq_sym c (get_or xs k 0) ∙ apart_from_distinct nat_eq xs k n 0 apart earlier lt in
          absurd (both_ways (nat_eq c (get_or xs k 0)) differ found)
      | inr late ↦ omega (arith, le, late)
    ]

-- of those in an order each of whom wants a seat, with fewer before them who want one than are left, there are no more
-- than are left
few_early : (serves wants : ℕ → Bool) (left : ℕ) (xs : List ℕ) → IsDistinct nat_eq xs
    → ((c : ℕ) → serves c ≡ true → (wants c ≡ true) × (count_by wants (before_first (nat_eq c) xs) < left))
    → (n : ℕ) → n ≤ length xs
    → (count_by serves (take n xs) ≤ left) × (count_by serves (take n xs) ≤ count_by wants (take n xs))
few_early serves wants left xs apart each zero le = (omega arith, omega arith)
few_early serves wants left xs apart each (suc n) le =
    let so_far = few_early serves wants left xs apart each n (omega arith) in
    let lt : n < length xs = omega arith in
    let c = get_or xs n 0 in
    let wants_on : count_by wants (take n xs) ≤ count_by wants (take (suc n) xs) =
    elim (cases_Bool (wants c)) [
      | inl wanted ↦
          let more : count_by wants (take (suc n) xs) ≡ count_by wants (take n xs) + 1 =
          rw (← add-one n) (count_by_more_yes wants xs n 0 lt wanted) in
          omega (arith, more)
      | inr none ↦
          let same : count_by wants (take (suc n) xs) ≡ count_by wants (take n xs) =
          rw (← add-one n) (count_by_more_no wants xs n 0 lt none) in
          omega (arith, same)
    ] in
    elim (cases_Bool (serves c)) [
      | inl served ↦
          let facts = each c served in
          let place = first_place xs n apart lt in
          let early : count_by wants (take n xs) < left =
          subst (λ (k : ℕ). count_by wants (take k xs) < left) place facts.1 in
          let more : count_by serves (take (suc n) xs) ≡ count_by serves (take n xs) + 1 =
          rw (← add-one n) (count_by_more_yes serves xs n 0 lt served) in
          let wanted : count_by wants (take (suc n) xs) ≡ count_by wants (take n xs) + 1 =
          rw (← add-one n) (count_by_more_yes wants xs n 0 lt facts.0) in
          (omega (arith, more, early, so_far.1), omega (arith, more, wanted, so_far.1))
      | inr none ↦
          let same : count_by serves (take (suc n) xs) ≡ count_by serves (take n xs) =
          rw (← add-one n) (count_by_more_no serves xs n 0 lt none) in
          (omega (arith, same, so_far.0), omega (arith, same, so_far.1, wants_on))
    ]

-- who stands in a list has a place there
place_within : (c : ℕ) (xs : List ℕ) → is_among c xs ≡ true → place_in xs c < length xs
place_within c xs among =
    let (k, x, lt, at, same) = Any-from_list_any (nat_eq c) xs among in
    let here : get_or xs k 0 ≡ c = get_or_default xs k 0 x lt ∙ at ∙ sym (eqb-true c x same) in
    omega (arith, lt, first_at_most c xs k here)

-- those of a test, of the candidates of a dossier
abbrev those : (ℕ → Bool) → DossierRows → List ℕ
those test d = filter test (candidates_of d)

those_once : (test : ℕ → Bool) (d : DossierRows) → IsDistinct nat_eq (those test d)
those_once test d = distinct_kept test (candidates_of d) (distinct_once (map (λ (w : Wish). w.candidate) d.wishes))

-- who lives in a programme of a valid dossier is called in its order
stands_in_order : (s : State) (orders : List CallOrder) → IsValid s.dossier → AreCallOrders s.dossier.groups orders
    → (k : ℕ) (e : Wish × Mark) → k < length (entries s) → get_or (entries s) k e ≡ e
    → is_among e.0.candidate (order_of s.dossier orders e.0.programme) ≡ true
stands_in_order s orders valid are k e lt at =
    let w = e.0 in
    let listed = entry_wish s k e lt at in
    let is : wish_in s.dossier.wishes k ≡ w =
    unwrap_or-slice_get s.dossier.wishes k (wish_in [] 0)
    ∙ get_or_default s.dossier.wishes k (wish_in [] 0) w listed.0 ∙ listed.1 in
    subst (λ (v : Wish). is_among v.candidate (order_of s.dossier orders v.programme) ≡ true) is
    ((all_called s.dossier valid orders are).each k listed.0)

module _ (s : State) (orders : List CallOrder) (p : ℕ) (valid : IsValid s.dossier)
    (are : AreCallOrders s.dossier.groups orders) where
  abbrev order : List ℕ
  order = order_of s.dossier orders p

  abbrev called : ℕ → Bool
  called c = is_called_by_limit s.dossier orders p c

  -- who is live, and whom the limit does not call
  abbrev lives_beyond : State → ℕ → Bool
  lives_beyond t c = holds_seat t c p && not (called c)

  holder_in_order : (c : ℕ) → holds_seat s c p ≡ true → is_among c order ≡ true
  holder_in_order c held =
      let test : Wish → Bool = λ w. nat_eq w.programme p in
      let (k, e, lt, at, lives) = Any-from_list_any (lives_with test c) (entries s) held in
      let outer = and_parts (is_live e.1 && nat_eq e.0.candidate c) (test e.0) lives in
      let inner = and_parts (is_live e.1) (nat_eq e.0.candidate c) outer.0 in
      subst (λ (q : ℕ). is_among c (order_of s.dossier orders q) ≡ true) (eqb-true e.0.programme p outer.1)
      (subst (λ (d : ℕ). is_among d (order_of s.dossier orders e.0.programme) ≡ true)
      (eqb-true e.0.candidate c inner.1) (stands_in_order s orders valid are k e lt at))

  -- the limit calls no more than it says
  few_called : length (those (λ c. holds_seat s c p && called c) s.dossier) ≤ limit_of s.dossier p
  few_called =
      let n = min (limit_of s.dossier p) (length order) in
      let le : n ≤ length order = omega arith in
      let test : ℕ → Bool = λ c. holds_seat s c p && called c in
      let within = length-le_from_is_member nat_eq_equiv (those test s.dossier) (take n order)
      (those_once test s.dossier)
      (λ c among.
      let parts = and_parts (holds_seat s c p) (called c) (among_filtered test c (candidates_of s.dossier) among).1 in
      let front = length-take-le (place_in order c) order (place_at_most order c) in
      let in_limit = leb-true (length (before_first (nat_eq c) order) + 1) (limit_of s.dossier p) parts.1 in
      let there = place_within c order (holder_in_order c parts.0) in
      among_taken order c n (omega (arith, front, in_limit, there)) le) in
      omega (arith, within, length-take-le n order le)

  -- so those who are live are those beyond, and no more than the limit besides
  with_limit : length (seat_holders s p) ≤ length (beyond_limit orders s p) + limit_of s.dossier p
  with_limit =
      let lives : ℕ → Bool = λ c. holds_seat s c p in
      let cs = candidates_of s.dossier in
      let split = parted (lives_beyond s) lives cs in
      let rest = filter (λ c. not (lives_beyond s c)) (filter lives cs) in
      let test : ℕ → Bool = λ c. holds_seat s c p && called c in
      let few = length-le_from_is_member nat_eq_equiv rest (those test s.dossier)
      (distinct_kept (λ c. not (lives_beyond s c)) (filter lives cs) (those_once lives s.dossier))
      (λ c among.
      let outer = among_filtered (λ x. not (lives_beyond s x)) c (filter lives cs) among in
      let inner = among_filtered lives c cs outer.0 in
      let by_limit : called c ≡ true =
      elim (and_cases (holds_seat s c p) (not (called c)) (not-true (lives_beyond s c) outer.1)) [
        | inl none ↦ absurd (both_ways (holds_seat s c p) none inner.1)
        | inr not_beyond ↦ not-false (called c) not_beyond
      ] in
      among_filter test c cs inner.0 (and_from (holds_seat s c p) (called c) inner.1 by_limit)) in
      omega (arith, split, few, few_called)

  -- ---- the offers of a pass
  module _ (bars : List ℕ) (stamp : Stamp) where
    abbrev t : State
    t = offered s orders bars stamp

    -- who becomes live beyond the limit wants a seat, with fewer before them who want one than are left
    comes_early : (c : ℕ) → lives_beyond t c ≡ true → holds_seat s c p ≡ false
        → (is_among c order ≡ true) × (wants_seat s bars p c ≡ true)
        × (count_by (wants_seat s bars p) (before_first (nat_eq c) order) < seats_left s p)
    comes_early c beyond none =
        let parts = and_parts (holds_seat t c p) (not (called c)) beyond in
        let makes = becomes_live s orders bars stamp (λ (w : Wish). nat_eq w.programme p) c parts.0 none in
        let e = makes.entry in
        let w = e.0 in
        let own : w.candidate ≡ c = eqb-true w.candidate c makes.own in
        let named : w.programme ≡ p = eqb-true w.programme p makes.passes in
        let offers = and_parts (is_open s bars w e.1) (seat_for orders s bars w.programme w.candidate) makes.offers in
        let seat : seat_for orders s bars p c ≡ true =
        subst (λ (q : ℕ). seat_for orders s bars q c ≡ true) named
        (subst (λ (d : ℕ). seat_for orders s bars w.programme d ≡ true) own offers.1) in
        let early : early_in orders s bars p c ≡ true =
        elim (or_cases (holds_seat s c p || called c) (early_in orders s bars p c) seat) [
          | inl whatever ↦ elim (or_cases (holds_seat s c p) (called c) whatever) [
            | inl held ↦ absurd (both_ways (holds_seat s c p) none held)
            | inr by_limit ↦ absurd (both_ways (called c) (not-true (called c) parts.1) by_limit)
          ]
          | inr left ↦ left
        ] in
        let opens : is_open_in s bars p c w e.1 ≡ true =
        and_from (is_open s bars w e.1 && nat_eq w.candidate c) (nat_eq w.programme p)
        (and_from (is_open s bars w e.1) (nat_eq w.candidate c) offers.0 makes.own) makes.passes in
        let has : has_open_wish s bars p c ≡ true =
        list_any_at (λ (x : Wish × Mark). is_open_in s bars p c x.0 x.1) (entries s) makes.place e makes.within
        (rw makes.here opens) in
        let stands : is_among c order ≡ true =
        subst (λ (q : ℕ). is_among c (order_of s.dossier orders q) ≡ true) named
        (subst (λ (d : ℕ). is_among d (order_of s.dossier orders w.programme) ≡ true) own
        (stands_in_order s orders valid are makes.place e makes.within makes.here)) in (
          stands,
          and_from (has_open_wish s bars p c) (not (holds_seat s c p)) has (not_from_false (holds_seat s c p) none),
          ltb-true (count_by (wants_seat s bars p) (before_first (nat_eq c) order)) (seats_left s p) early,
        )

    few_come : length (those (lives_beyond t) s.dossier) ≤ length (those (lives_beyond s) s.dossier) + seats_left s p
    few_come =
        let cs = candidates_of s.dossier in
        let serves : ℕ → Bool = λ c. lives_beyond t c && not (holds_seat s c p) in
        let split = parted (lives_beyond s) (lives_beyond t) cs in
        let new = filter (λ c. not (lives_beyond s c)) (filter (lives_beyond t) cs) in
        let within = length-le_from_is_member nat_eq_equiv new (filter serves order)
        (distinct_kept (λ c. not (lives_beyond s c)) (filter (lives_beyond t) cs)
        (those_once (lives_beyond t) s.dossier))
        (λ c among.
        let outer = among_filtered (λ x. not (lives_beyond s x)) c (filter (lives_beyond t) cs) among in
        let inner = among_filtered (lives_beyond t) c cs outer.0 in
        let parts = and_parts (holds_seat t c p) (not (called c)) inner.1 in
        let none : holds_seat s c p ≡ false =
        elim (and_cases (holds_seat s c p) (not (called c)) (not-true (lives_beyond s c) outer.1)) [
          | inl not_live ↦ not_live
          | inr by_limit ↦ absurd (both_ways (not (called c)) by_limit parts.1)
        ] in
        among_filter serves c order (comes_early c inner.1 none).0
        (and_from (lives_beyond t c) (not (holds_seat s c p)) inner.1 (not_from_false (holds_seat s c p) none))) in
        let few = (few_early serves (wants_seat s bars p) (seats_left s p) order
        (order_distinct s.dossier orders valid are p)
        (λ c serving.
        let parts = and_parts (lives_beyond t c) (not (holds_seat s c p)) serving in
        let facts = comes_early c parts.0 (not-true (holds_seat s c p) parts.1) in
        (facts.1, facts.2)) (length order) (omega arith)).0 in
        let whole : count_by serves (take (length order) order) ≡ count_by serves order =
        ap (count_by serves) (take_all (length order) order (omega arith)) in
        omega (arith, split, within, few, whole, length-filter serves order)

-- ---- the walk
abbrev NoMoreBeyond : List CallOrder → ℕ → ℕ → State → Type 0
NoMoreBeyond orders p n s = length (beyond_limit orders s p) ≤ n

-- a step that makes nobody live leaves no more beyond the limit
no_more : (orders : List CallOrder) (p n : ℕ) (s t : State) → SameDossier s t → Marks KeptOrTouched s t
    → NoMoreBeyond orders p n s → NoMoreBeyond orders p n t
no_more orders p n s t same marks few =
    let called = λ (c : ℕ). is_called_by_limit s.dossier orders p c in
    let fewer = filter_implied (λ c. holds_seat t c p && not (called c)) (λ c. holds_seat s c p && not (called c))
    (λ c both.
    let parts = and_parts (holds_seat t c p) (not (called c)) both in
    and_from (holds_seat s c p) (not (called c))
    (held_already (λ w. nat_eq w.programme p) s t c marks parts.0) parts.1) (candidates_of s.dossier) in
    let those_of : length (beyond_limit orders t p) ≡ length (filter (λ c. holds_seat t c p && not (called c))
    (candidates_of s.dossier)) =
    ap (λ (d : DossierRows). length (filter (λ c. holds_seat t c p && not (is_called_by_limit d orders p c))
    (candidates_of d))) same in
    omega (arith, fewer, those_of, few)

limit_steps : (d : DossierRows) (terms : Option Terms) (orders : List CallOrder) (p n : ℕ) → AreTermsFor d terms
    → IsValid d → AreCallOrders d.groups orders → seats_of d p ≤ n
    → Steps d terms orders Nothing Nothing (λ s t. NoMoreBeyond orders p n s → NoMoreBeyond orders p n t)
limit_steps d terms orders p n fit valid are enough = record {
  stays = λ s few. few;
  lapses = λ t day s is of. no_more orders p n s (lapse t day s) refl
      (marks_imply KeptOrLapsed KeptOrTouched lapsed_touched (entries s) (entries (lapse t day s))
      (a_lapse t day s (terms_long d terms t fit is ∙ ap (λ (x : DossierRows). length x.wishes) (sym of))));
  answers = λ s stamp a of fits known. no_more orders p n s (after s stamp a)
      ((same_dossier d terms orders Nothing Nothing).answers s stamp a of fits known)
      (marks_imply (TouchedOf (of_kind a.kind s a.target)) KeptOrTouched (touched_any (of_kind a.kind s a.target))
      (entries s) (entries (after s stamp a))
      (an_answer s stamp a fits));
  offers = λ s day bars stamp of greatest known few.
      let valid_here = subst IsValid (sym of) valid in
      let are_here = subst (λ (x : DossierRows). AreCallOrders x.groups orders) (sym of) are in
      let come = few_come s orders p valid_here are_here bars stamp in
      let fewer = filter_implied (λ c. holds_seat s c p && not (is_called_by_limit s.dossier orders p c))
      (λ c. holds_seat s c p)
      (λ c both. (and_parts (holds_seat s c p) (not (is_called_by_limit s.dossier orders p c)) both).0)
      (candidates_of s.dossier) in
      let seats : seats_of s.dossier p ≡ seats_of d p = ap (λ (x : DossierRows). seats_of x p) of in
      omega (arith, few, come, fewer, seats, enough);
  autos = λ s stamp of. no_more orders p n s (auto_all s stamp) refl (automatic_answers s stamp);
}

pub never_more_than_seats_and_limit : NeverMoreThanSeatsAndLimit
never_more_than_seats_and_limit terms orders d old days new p valid are fit campaign =
    let n = max (seats_of old.dossier p) (length (beyond_limit orders old p)) in
    let LimitStep : State → State → Type 0 =
    λ s t. SameDossier s t × (NoMoreBeyond orders p n s → NoMoreBeyond orders p n t) in
    let Holds : State → Type 0 = λ s. (s.dossier ≡ old.dossier) × NoMoreBeyond orders p n s in
    let xs = moments terms orders old days in
    let walk = plain_steps terms orders LimitStep d old days new
    (both old.dossier terms orders Nothing Nothing SameDossier
    (λ s t. NoMoreBeyond orders p n s → NoMoreBeyond orders p n t)
    (same_dossier old.dossier terms orders Nothing Nothing)
    (limit_steps old.dossier terms orders p n fit valid are (omega arith))) campaign in
    let all = throughout LimitStep Holds (λ s t step held. (step.0 ∙ held.0, step.1 held.1)) old xs new walk
    (refl, omega arith) in
    All-from_recursion (FitsSeatsAndLimitOf orders old p) xs
    (all_imply Holds (FitsSeatsAndLimitOf orders old p)
    (λ s held.
    let valid_here = subst IsValid (sym held.0) valid in
    let are_here = subst (λ (x : DossierRows). AreCallOrders x.groups orders) (sym held.0) are in
    let limit : limit_of s.dossier p ≡ limit_of old.dossier p = ap (λ (x : DossierRows). limit_of x p) held.0 in
    let few : length (beyond_limit orders s p) ≤ n = held.1 in
    record { beyond = few; all = omega (arith, with_limit s orders p valid_here are_here, few, limit) }) xs
    all.moments)

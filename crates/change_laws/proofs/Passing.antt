-- The offers of passes: without boarding, whoever comes further with more seats does so after the offers too.
use Rattle.std.proofs.Common.{ℕ, zero, suc, ◌+◌, ◌≤◌, ◌<◌, ◌≡◌, Bool, true, false, not, ◌&&◌, ◌||◌, filter, List, []}
use Rattle.std.proofs.Common.{◌∷◌, ◌++◌, length, map, get_or, None, inl, inr, refl, sym, ◌∙◌, ap, subst, arith, nat_eq}
use Rattle.std.proofs.Common.{nat_lt}
use Rattle.std.specs.Prelude.{All, nat_le, option_map, slice_get, slice_index, unwrap_or}
use Rattle.std.specs.List.{AllByRecursion, AllZip, IsDistinct, before_first, position_or_len}
use Rattle.std.proofs.lemmas.Bool.{and_from, and_parts, both_ways, cases_Bool, cases_order, eq-eqb, eqb-true}
use Rattle.std.proofs.lemmas.Bool.{false_from_ne_true, false≢true, leb-true, ltb-true, not-true, not_from_false}
use Rattle.std.proofs.lemmas.Bool.{or_cases, or_left, or_parts, or_right}
use Rattle.std.proofs.lemmas.Cmp.{nat_eq_equiv}
use Rattle.std.proofs.lemmas.List.{get_or_default, length-append}
use Rattle.std.proofs.lemmas.List.Folds.{list_any-append}
use Rattle.std.proofs.lemmas.List.Sums.{length-filter, prefix_len-le-length}
use Rattle.std.proofs.lemmas.Map.Keys.{IsDistinct-cons, IsDistinct-head, IsDistinct-tail}
use Rattle.std.proofs.lemmas.Map.Made.{length-le_from_is_member}
use Rattle.admit_core.specs.declared.dossier.Programme.{Programme}
use Rattle.admit_core.specs.declared.dossier.Wish.{Wish}
use Rattle.admit_core.specs.declared.ranking.CallOrder.{CallOrder}
use Rattle.admit_core.specs.declared.state.Mark.{Mark}
use Rattle.admit_core.specs.declared.state.Stamp.{Stamp}
use Rattle.admit_core.specs.declared.state.Status.TheVariants.{Offered}
use Rattle.admit_core.specs.CallOrder.{AreCallOrders}
use Rattle.admit_core.specs.Days.{offered}
use Rattle.admit_core.specs.DossierRows.{DossierRows, candidates_of, limit_of, seats_of}
use Rattle.admit_core.specs.Lists.{is_among}
use Rattle.admit_core.specs.Proposals.{ahead, before, has_open_wish, is_behind_bar, is_open, is_open_in, is_proposed}
use Rattle.admit_core.specs.Proposals.{needs_no_seat, order_of, position_of, wants_seat}
use Rattle.admit_core.specs.State.{State, holds_seat, is_gone, is_live, is_waiting, seat_holders, seats_left}
use Rattle.admit_core.specs.Validity.{IsApart, IsValid}
use Rattle.admit_core.proofs.ClosedEvenings.{among_filter}
use Rattle.admit_core.proofs.Counting.{distinct_kept}
use Rattle.admit_core.proofs.FilledSeats.{front_distinct, live_or_offered, live_stays, offer_if, offered_lives}
use Rattle.admit_core.proofs.FilledSeats.{order_distinct, waits_still}
use Rattle.admit_core.proofs.Holders.{holder_has_wish}
use Rattle.admit_core.proofs.Plain.{waits_open}
use Rattle.admit_core.proofs.Statuses.{changed_status}
use Rattle.round.proofs.Members.{among_filtered, distinct_once}
use Rattle.fairness.proofs.PassedOver.{nobody_is_passed_over, refused_by}
use Rattle.campaign_laws.proofs.Kept.{ranked_live}
use Rattle.campaign_laws.proofs.Matchings.{gone_status}
use Rattle.campaign_laws.proofs.OneMark.{proposed_open}
use Rattle.campaign_laws.proofs.PassedOver.{is_new_holder}
use Rattle.change_laws.specs.Kinder.{IsKinder, IsNoSmaller, IsSilent}
use Rattle.change_laws.proofs.Further.{IsAhead, gone_lives_not, gone_waits_not, has_better, live_or_gone}
use Rattle.change_laws.proofs.Further.{waits_lives_not}
use Rattle.change_laws.proofs.Places.{IsAt, IsOver, any_here, any_there, mark_given, mark_in, over_given}

-- ---- lists
-- a number that no number of two lists is
differs_from : (n : ℕ) (xs ys : List ℕ) → AllByRecursion (λ m. nat_eq n m ≡ false) xs → is_among n ys ≡ false
    → AllByRecursion (λ m. nat_eq n m ≡ false) (xs ++ ys)
differs_from n [] [] first second = tt
differs_from n [] (y ∷ ys) first second =
    let parts = or_parts (nat_eq n y) (is_among n ys) second in
    (parts.0, differs_from n [] ys tt parts.1)
differs_from n (x ∷ xs) ys first second = (first.0, differs_from n xs ys first.1 second)

-- two lists of distinct numbers that share none
distinct_joined : (xs ys : List ℕ) → IsDistinct nat_eq xs → IsDistinct nat_eq ys
    → ((q : ℕ) → is_among q xs ≡ true → is_among q ys ≡ false) → IsDistinct nat_eq (xs ++ ys)
distinct_joined [] ys first second apart = second
distinct_joined (x ∷ xs) ys first second apart =
    IsDistinct-cons nat_eq x (xs ++ ys)
    (differs_from x xs ys (IsDistinct-head nat_eq x xs first)
    (apart x (or_left (nat_eq x x) (is_among x xs) (eq-eqb x x refl))))
    (distinct_joined xs ys (IsDistinct-tail nat_eq x xs first) second
    (λ q among. apart q (or_right (nat_eq q x) (is_among q xs) among)))

-- ---- no programme is smaller
seats_more : (ps qs : List Programme) → AllZip IsNoSmaller ps qs → (p : ℕ)
    → slice_index (map (λ (q : Programme). q.seats) ps) p ≤ slice_index (map (λ (q : Programme). q.seats) qs) p
seats_more [] [] all p = omega arith
seats_more [] (q ∷ qs) all p = absurd all
seats_more (x ∷ ps) [] all p = absurd all
seats_more (x ∷ ps) (q ∷ qs) all zero = all.0.seats
seats_more (x ∷ ps) (q ∷ qs) all (suc p) = seats_more ps qs all.1 p

limits_more : (ps qs : List Programme) → AllZip IsNoSmaller ps qs → (p : ℕ)
    → slice_index (map (λ (q : Programme). q.limit) ps) p ≤ slice_index (map (λ (q : Programme). q.limit) qs) p
limits_more [] [] all p = omega arith
limits_more [] (q ∷ qs) all p = absurd all
limits_more (x ∷ ps) [] all p = absurd all
limits_more (x ∷ ps) (q ∷ qs) all zero = all.0.limit
limits_more (x ∷ ps) (q ∷ qs) all (suc p) = limits_more ps qs all.1 p

same_groups : (ps qs : List Programme) → AllZip IsNoSmaller ps qs → (p : ℕ)
    → slice_index (map (λ (q : Programme). q.group) qs) p ≡ slice_index (map (λ (q : Programme). q.group) ps) p
same_groups [] [] all p = refl
same_groups [] (q ∷ qs) all p = absurd all
same_groups (x ∷ ps) [] all p = absurd all
same_groups (x ∷ ps) (q ∷ qs) all zero = all.0.group
same_groups (x ∷ ps) (q ∷ qs) all (suc p) = same_groups ps qs all.1 p

-- ---- marks after the offers of a pass
gone_before : (stamp : Stamp) (b : Bool) (m : Mark) → is_gone (offer_if stamp b m) ≡ true → is_gone m ≡ true
gone_before stamp true m gone = absurd (false≢true (sym (ap gone_status (changed_status Offered stamp m)) ∙ gone))
gone_before stamp false m gone = gone

-- ---- two dossiers, of which the second is kinder
module _ (d kinder : DossierRows) (orders : List CallOrder) (valid : IsValid d)
    (called : AreCallOrders d.groups orders) (plain : All (λ (w : Wish). w.school ≡ None) d.wishes)
    (kind : IsKinder d kinder) where
  no_school : (k : ℕ) (w : Wish) → IsAt d.wishes k w → w.school ≡ None
  no_school k w at = subst (λ (v : Wish). v.school ≡ None) at.here (plain k w at.within)

  wishes_apart : (j k : ℕ) (v w : Wish) → IsAt d.wishes j v → IsAt d.wishes k w → j < k → IsApart v w
  wishes_apart j k v w at_v at_w below =
      let both : IsApart (get_or d.wishes j v) (get_or d.wishes k v) = valid.wishes_apart j k v below at_w.within in
      let second : get_or d.wishes k v ≡ w = get_or_default d.wishes k v w at_w.within ∙ at_w.here in
      subst (λ (u : Wish). IsApart v u) second (subst (λ (u : Wish). IsApart u (get_or d.wishes k v)) at_v.here both)

  same_wish : (k : ℕ) (v w : Wish) → IsAt d.wishes k v → IsAt d.wishes k w → v ≡ w
  same_wish k v w at_v at_w = sym at_v.here ∙ get_or_default d.wishes k v w at_w.within ∙ at_w.here

  -- a candidate has one wish of a programme
  one_wish : (j k : ℕ) (v w : Wish) → IsAt d.wishes j v → IsAt d.wishes k w → v.candidate ≡ w.candidate
      → v.programme ≡ w.programme → j ≡ k
  one_wish j k v w at_v at_w own there =
      let no_schools = no_school j v at_v ∙ sym (no_school k w at_w) in
      elim (cases_order j k) [
        | inl same ↦ same
        | inr other ↦ elim other [
          | inl below ↦ absurd ((wishes_apart j k v w at_v at_w below).named own there no_schools)
          | inr above ↦
              absurd ((wishes_apart k j w v at_w at_v above).named (sym own) (sym there) (sym no_schools))
        ]
      ]

  pub ranked : (j k : ℕ) (v w : Wish) → IsAt d.wishes j v → IsAt d.wishes k w → v.candidate ≡ w.candidate
      → 0 < v.preference → 0 < w.preference
  ranked j k v w at_v at_w own some =
      elim (cases_order j k) [
        | inl same ↦
            let one : v ≡ w = same_wish k v w (subst (λ (i : ℕ). IsAt d.wishes i v) same at_v) at_w in
            subst (λ (u : Wish). 0 < u.preference) one some
        | inr other ↦ elim other [
          | inl below ↦
              let both = (wishes_apart j k v w at_v at_w below).both_ranked own in
              elim (cases_order w.preference 0) [
                | inl none ↦ let zero_too = both.1 none in absurd (omega (arith, some, zero_too))
                | inr sides ↦ omega (arith, sides)
              ]
          | inr above ↦
              let both = (wishes_apart k j w v at_w at_v above).both_ranked (sym own) in
              elim (cases_order w.preference 0) [
                | inl none ↦ let zero_too = both.0 none in absurd (omega (arith, some, zero_too))
                | inr sides ↦ omega (arith, sides)
              ]
        ]
      ]

  pub unranked : (c k : ℕ) (w : Wish) → IsSilent kinder c → IsAt d.wishes k w → w.candidate ≡ c → w.preference ≡ 0
  unranked c k w silent at own =
      let lt : k < length kinder.wishes = rw kind.wishes at.within in
      let is : get_or kinder.wishes k w ≡ w = ap (λ (ws : List Wish). get_or ws k w) kind.wishes ∙ at.here in
      subst (λ (v : Wish). v.candidate ≡ c → v.preference ≡ 0) is (silent.themself k w lt) own

  abbrev pub IsAheadThere : State → State → Type 0
  IsAheadThere s t = IsAhead d.wishes orders (IsSilent kinder) ranked unranked s t

  pub same_order : (p : ℕ) → order_of kinder orders p ≡ order_of d orders p
  same_order p = ap (λ (g : ℕ). unwrap_or (option_map (λ (o : CallOrder). o.list) (slice_get orders g)) [])
      (same_groups d.programmes kinder.programmes kind.programmes p)

  opens : (s : State) (bars : List ℕ) (k : ℕ) (w : Wish) (m : Mark) → IsAt d.wishes k w → is_waiting m ≡ true
      → is_open s bars w m ≡ true
  opens s bars k w m at waits =
      let behind : is_behind_bar s bars w w.school ≡ false = rw (no_school k w at) refl in
      waits_open (is_waiting m) (is_behind_bar s bars w w.school) waits behind

  module _ (s t : State) (of : s.dossier ≡ d) (of_too : t.dossier ≡ kinder) (ahead_there : IsAheadThere s t) where
    same_before : (w : Wish) → before t orders w ≡ before s orders w
    same_before w =
        ap (λ (x : DossierRows). before_first (nat_eq w.candidate) (order_of x orders w.programme)) of_too
        ∙ ap (before_first (nat_eq w.candidate)) (same_order w.programme)
        ∙ ap (λ (x : DossierRows). before_first (nat_eq w.candidate) (order_of x orders w.programme)) (sym of)

    -- a wish that makes its candidate live in a programme
    record LivesBy (u : State) (p c : ℕ) : Type 0 where
      place : ℕ
      wish : Wish
      at : IsAt d.wishes place wish
      own : wish.candidate ≡ c
      there : wish.programme ≡ p
      live : is_live (mark_in u place) ≡ true

    lives_by : (u : State) → IsOver d.wishes u → (p c : ℕ) → holds_seat u c p ≡ true → LivesBy u p c
    lives_by u over p c held =
        let found = any_there d.wishes u over
        (λ e. is_live e.1 && nat_eq e.0.candidate c && nat_eq e.0.programme p) held in
        let w = found.wish in
        let m = mark_in u found.place in
        let outer = and_parts (is_live m && nat_eq w.candidate c) (nat_eq w.programme p) found.passes in
        let inner = and_parts (is_live m) (nat_eq w.candidate c) outer.0 in
        record {
          place = found.place;
          wish = w;
          at = found.at;
          own = eqb-true w.candidate c inner.1;
          there = eqb-true w.programme p outer.1;
          live = inner.0;
        }

    lives_in : (u : State) → IsOver d.wishes u → (p c k : ℕ) (w : Wish) → IsAt d.wishes k w → w.candidate ≡ c
        → w.programme ≡ p → is_live (mark_in u k) ≡ true → holds_seat u c p ≡ true
    lives_in u over p c k w at own there live =
        let m = mark_in u k in
        any_here d.wishes u over (λ e. is_live e.1 && nat_eq e.0.candidate c && nat_eq e.0.programme p) k w at
        (and_from (is_live m && nat_eq w.candidate c) (nat_eq w.programme p)
        (and_from (is_live m) (nat_eq w.candidate c) live (eq-eqb w.candidate c own)) (eq-eqb w.programme p there))

    opens_in : (u : State) → IsOver d.wishes u → (bars : List ℕ) (p c k : ℕ) (w : Wish) → IsAt d.wishes k w
        → w.candidate ≡ c → w.programme ≡ p → is_waiting (mark_in u k) ≡ true → has_open_wish u bars p c ≡ true
    opens_in u over bars p c k w at own there waits =
        let m = mark_in u k in
        any_here d.wishes u over (λ e. is_open_in u bars p c e.0 e.1) k w at
        (and_from (is_open u bars w m && nat_eq w.candidate c) (nat_eq w.programme p)
        (and_from (is_open u bars w m) (nat_eq w.candidate c) (opens u bars k w m at waits)
        (eq-eqb w.candidate c own)) (eq-eqb w.programme p there))

    -- those who are live in the programme of a wish that waits in both, or want a seat before its
    -- candidate, are or do so here too
    module _ (bars others : List ℕ) (k : ℕ) (w : Wish) (at : IsAt d.wishes k w)
        (waits : is_waiting (mark_in t k) ≡ true) where
      abbrev p : ℕ
      p = w.programme

      abbrev here : List ℕ
      here = seat_holders s p ++ filter (wants_seat s bars p) (before s orders w)

      abbrev there : List ℕ
      there = seat_holders t p ++ filter (wants_seat t others p) (before t orders w)

      live_or_wanting : (q : ℕ) → holds_seat s q p ≡ true → is_among q here ≡ true
      live_or_wanting q held =
          list_any-append (nat_eq q) (seat_holders s p) (filter (wants_seat s bars p) (before s orders w))
          ∙ or_left (is_among q (seat_holders s p)) (is_among q (filter (wants_seat s bars p) (before s orders w)))
          (among_filter (λ c. holds_seat s c p) q (candidates_of s.dossier)
          (holder_has_wish (λ v. nat_eq v.programme p) s q held) held)

      open_here : (q : ℕ) → has_open_wish s bars p q ≡ true → is_among q (before s orders w) ≡ true
          → is_among q here ≡ true
      open_here q opened among =
          elim (cases_Bool (holds_seat s q p)) [
            | inl held ↦ live_or_wanting q held
            | inr not_live ↦
                list_any-append (nat_eq q) (seat_holders s p) (filter (wants_seat s bars p) (before s orders w))
                ∙ or_right (is_among q (seat_holders s p))
                (is_among q (filter (wants_seat s bars p) (before s orders w)))
                (among_filter (wants_seat s bars p) q (before s orders w) among
                (and_from (has_open_wish s bars p q) (not (holds_seat s q p)) opened
                (not_from_false (holds_seat s q p) not_live)))
          ]

      held_there : (q : ℕ) → holds_seat t q p ≡ true → is_among q here ≡ true
      held_there q held =
          let way = lives_by t ahead_there.over_too p q held in
          let x = ahead_there.each way.place way.wish way.at in
          let m = mark_in s way.place in
          elim (cases_Bool (is_waiting m)) [
            | inl waited ↦
                let first = x.first waited way.live k w at waits (sym way.there) in
                open_here q (opens_in s ahead_there.over bars p q way.place way.wish way.at way.own way.there waited)
                (ap (λ (c : ℕ). is_among c (before s orders w)) (sym way.own)
                ∙ ap (is_among way.wish.candidate) (sym (same_before w)) ∙ first)
            | inr waited_not ↦ elim (live_or_gone m waited_not) [
              | inl live ↦ live_or_wanting q (lives_in s ahead_there.over p q way.place way.wish way.at way.own
                  way.there live)
              | inr gone ↦ absurd (both_ways (is_live (mark_in t way.place))
                  (gone_lives_not (is_live (mark_in t way.place)) (is_waiting (mark_in t way.place)) (x.goes gone))
                  way.live)
            ]
          ]

      wanted_there : (q : ℕ) → wants_seat t others p q ≡ true → is_among q (before t orders w) ≡ true
          → is_among q here ≡ true
      wanted_there q wants among =
          let opened = (and_parts (has_open_wish t others p q) (not (holds_seat t q p)) wants).0 in
          let found = any_there d.wishes t ahead_there.over_too (λ e. is_open_in t others p q e.0 e.1) opened in
          let v = found.wish in
          let n = mark_in t found.place in
          let outer = and_parts (is_open t others v n && nat_eq v.candidate q) (nat_eq v.programme p) found.passes in
          let inner = and_parts (is_open t others v n) (nat_eq v.candidate q) outer.0 in
          let waits_there = (and_parts (is_waiting n) _ inner.0).0 in
          open_here q (opens_in s ahead_there.over bars p q found.place v found.at (eqb-true v.candidate q inner.1)
          (eqb-true v.programme p outer.1) ((ahead_there.each found.place v found.at).waits waits_there))
          (ap (is_among q) (sym (same_before w)) ∙ among)

      distinct_there : IsDistinct nat_eq there
      distinct_there =
          let xs = order_of t.dossier orders p in
          let same : xs ≡ order_of d orders p =
          ap (λ (x : DossierRows). order_of x orders p) of_too ∙ same_order p in
          let order = subst (IsDistinct nat_eq) (sym same) (order_distinct d orders valid called p) in
          distinct_joined (seat_holders t p) (filter (wants_seat t others p) (before t orders w))
          (distinct_kept (λ c. holds_seat t c p) (candidates_of t.dossier)
          (distinct_once (map (λ (v : Wish). v.candidate) t.dossier.wishes)))
          (distinct_kept (wants_seat t others p) (before t orders w)
          (front_distinct xs (position_or_len (nat_eq w.candidate) xs)
          (prefix_len-le-length (λ y. not (nat_eq w.candidate y)) xs) order))
          (λ q among.
          let held = (among_filtered (λ c. holds_seat t c p) q (candidates_of t.dossier) among).1 in
          false_from_ne_true (is_among q (filter (wants_seat t others p) (before t orders w))) (λ also.
          let wants = (among_filtered (wants_seat t others p) q (before t orders w) also).1 in
          let not_live = not-true (holds_seat t q p)
          (and_parts (has_open_wish t others p q) (not (holds_seat t q p)) wants).1 in
          both_ways (holds_seat t q p) not_live held))

      no_more_there : length (seat_holders t p) + ahead t orders others w
          ≤ length (seat_holders s p) + ahead s orders bars w
      no_more_there =
          let fewer = length-le_from_is_member nat_eq_equiv there here distinct_there
          (λ q among.
          elim (or_cases (is_among q (seat_holders t p))
          (is_among q (filter (wants_seat t others p) (before t orders w)))
          (sym (list_any-append (nat_eq q) (seat_holders t p)
          (filter (wants_seat t others p) (before t orders w))) ∙ among)) [
            | inl held ↦ held_there q (among_filtered (λ c. holds_seat t c p) q (candidates_of t.dossier) held).1
            | inr wanted ↦
                let parts = among_filtered (wants_seat t others p) q (before t orders w) wanted in
                wanted_there q parts.1 parts.0
          ]) in
          omega (
            arith,
            fewer,
            length-append (seat_holders t p) (filter (wants_seat t others p) (before t orders w)),
            length-append (seat_holders s p) (filter (wants_seat s bars p) (before s orders w)),
            length-filter (wants_seat t others p) (before t orders w),
            length-filter (wants_seat s bars p) (before s orders w),
          )

      -- so what is not proposed there is not proposed here
      pub not_proposed_here : is_proposed t orders others w (mark_in t k) ≡ false
          → is_proposed s orders bars w (mark_in s k) ≡ false
      not_proposed_here none =
          let m = mark_in s k in
          let waited = (ahead_there.each k w at).waits waits in
          let why = refused_by t orders others w (mark_in t k) (opens t others k w (mark_in t k) at waits) none in
          let seats_here : seats_of s.dossier p ≡ seats_of d p = ap (λ (x : DossierRows). seats_of x p) of in
          let seats_there : seats_of t.dossier p ≡ seats_of kinder p = ap (λ (x : DossierRows). seats_of x p) of_too in
          let limit_here : limit_of s.dossier p ≡ limit_of d p = ap (λ (x : DossierRows). limit_of x p) of in
          let limit_there : limit_of t.dossier p ≡ limit_of kinder p = ap (λ (x : DossierRows). limit_of x p) of_too in
          let more = seats_more d.programmes kinder.programmes kind.programmes p in
          let further = limits_more d.programmes kinder.programmes kind.programmes p in
          let same_place : length (before t orders w) ≡ length (before s orders w) = ap length (same_before w) in
          false_from_ne_true (is_proposed s orders bars w m) (λ offers.
          let seat = (and_parts (is_open s bars w m)
          (needs_no_seat s orders w || nat_lt (ahead s orders bars w) (seats_left s p)) offers).1 in
          elim (or_cases (needs_no_seat s orders w) (nat_lt (ahead s orders bars w) (seats_left s p)) seat) [
            | inl whatever ↦
                elim (or_cases (holds_seat s w.candidate p) (nat_le (position_of s orders w) (limit_of s.dossier p))
                whatever) [
                  | inl held ↦
                      let way = lives_by s ahead_there.over p w.candidate held in
                      let same = one_wish way.place k way.wish w way.at at way.own way.there in
                      let live : is_live m ≡ true = ap (λ (i : ℕ). is_live (mark_in s i)) (sym same) ∙ way.live in
                      both_ways (is_live m) (waits_lives_not m waited) live
                  | inr by_limit ↦
                      let within = leb-true (position_of s orders w) (limit_of s.dossier p) by_limit in
                      omega (arith, within, why.beyond, limit_here, limit_there, further, same_place)
                ]
            | inr early ↦
                let few = ltb-true (ahead s orders bars w) (seats_left s p) early in
                omega (arith, few, why.no_seat, no_more_there, seats_here, seats_there, more)
          ])

    -- ---- the offers of a pass there
    mark_offered : (u : State) → IsOver d.wishes u → (bars : List ℕ) (stamp : Stamp) (k : ℕ) (w : Wish)
        → IsAt d.wishes k w → mark_in (offered u orders bars stamp) k
        ≡ offer_if stamp (is_proposed u orders bars w (mark_in u k)) (mark_in u k)
    mark_offered u over bars stamp k w at =
        mark_given d.wishes u over (λ v m. offer_if stamp (is_proposed u orders bars v m) m) k w at

    over_offered : (u : State) → IsOver d.wishes u → (bars : List ℕ) (stamp : Stamp)
        → IsOver d.wishes (offered u orders bars stamp)
    over_offered u over bars stamp =
        over_given d.wishes u over (λ v m. offer_if stamp (is_proposed u orders bars v m) m)

    still_gone : (u : State) → IsOver d.wishes u → (bars : List ℕ) (stamp : Stamp) (k : ℕ) (w : Wish)
        → IsAt d.wishes k w → is_gone (mark_in u k) ≡ true → is_gone (mark_in (offered u orders bars stamp) k) ≡ true
    still_gone u over bars stamp k w at gone =
        let m = mark_in u k in
        let none : is_proposed u orders bars w m ≡ false = false_from_ne_true (is_proposed u orders bars w m) (λ offers.
        both_ways (is_waiting m) (gone_waits_not (is_live m) (is_waiting m) gone)
        (proposed_open u orders bars w m offers).0) in
        ap is_gone (mark_offered u over bars stamp k w at ∙ ap (λ (b : Bool). offer_if stamp b m) none) ∙ gone

    was_gone : (u : State) → IsOver d.wishes u → (bars : List ℕ) (stamp : Stamp) (k : ℕ) (w : Wish)
        → IsAt d.wishes k w → is_gone (mark_in (offered u orders bars stamp) k) ≡ true → is_gone (mark_in u k) ≡ true
    was_gone u over bars stamp k w at gone =
        let m = mark_in u k in
        gone_before stamp (is_proposed u orders bars w m) m
        (ap is_gone (sym (mark_offered u over bars stamp k w at)) ∙ gone)

    still_waits : (u : State) → IsOver d.wishes u → (bars : List ℕ) (stamp : Stamp) (k : ℕ) (w : Wish)
        → IsAt d.wishes k w → is_waiting (mark_in (offered u orders bars stamp) k) ≡ true
        → (is_proposed u orders bars w (mark_in u k) ≡ false) × (is_waiting (mark_in u k) ≡ true)
    still_waits u over bars stamp k w at waits =
        let m = mark_in u k in
        waits_still stamp (is_proposed u orders bars w m) m
        (ap is_waiting (sym (mark_offered u over bars stamp k w at)) ∙ waits)

    keeps_better : (u : State) → IsOver d.wishes u → (bars : List ℕ) (stamp : Stamp) (c n : ℕ)
        → has_better u c n ≡ true → has_better (offered u orders bars stamp) c n ≡ true
    keeps_better u over bars stamp c n has =
        let found = any_there d.wishes u over (λ e. ranked_live c e && nat_lt e.0.preference n) has in
        let w = found.wish in
        let m = mark_in u found.place in
        let x = mark_in (offered u orders bars stamp) found.place in
        let outer = and_parts (ranked_live c (w, m)) (nat_lt w.preference n) found.passes in
        let inner = and_parts (is_live m && nat_eq w.candidate c) (nat_lt 0 w.preference) outer.0 in
        let first = and_parts (is_live m) (nat_eq w.candidate c) inner.0 in
        let live : is_live x ≡ true = ap is_live (mark_offered u over bars stamp found.place w found.at)
        ∙ live_stays stamp (is_proposed u orders bars w m) m first.0 in
        any_here d.wishes (offered u orders bars stamp) (over_offered u over bars stamp)
        (λ e. ranked_live c e && nat_lt e.0.preference n) found.place w found.at
        (and_from (ranked_live c (w, x)) (nat_lt w.preference n)
        (and_from (is_live x && nat_eq w.candidate c) (nat_lt 0 w.preference)
        (and_from (is_live x) (nat_eq w.candidate c) live first.1) inner.1) outer.1)

    called_first : (others : List ℕ) (stamp : Stamp) (k : ℕ) (w : Wish) → IsAt d.wishes k w
        → is_proposed t orders others w (mark_in t k) ≡ true → (j : ℕ) (v : Wish) → IsAt d.wishes j v
        → is_proposed t orders others v (mark_in t j) ≡ false → is_waiting (mark_in t j) ≡ true
        → v.programme ≡ w.programme → is_among w.candidate (before t orders v) ≡ true
    called_first others stamp k w at offers j v v_at none v_waits same =
        let over = ahead_there.over_too in
        let t1 = offered t orders others stamp in
        let q = v.programme in
        let c = w.candidate in
        let n = mark_in t k in
        let live : is_live (mark_in t1 k) ≡ true =
        ap is_live (mark_offered t over others stamp k w at ∙ ap (λ (b : Bool). offer_if stamp b n) offers)
        ∙ offered_lives n stamp in
        let now = lives_in t1 (over_offered t over others stamp) q c k w at refl (sym same) live in
        let before_that : holds_seat t c q ≡ false = false_from_ne_true (holds_seat t c q) (λ held.
        let way = lives_by t over q c held in
        let one = one_wish way.place k way.wish w way.at at way.own (way.there ∙ same) in
        both_ways (is_live n) (waits_lives_not n (proposed_open t orders others w n offers).0)
        (ap (λ (i : ℕ). is_live (mark_in t i)) (sym one) ∙ way.live)) in
        nobody_is_passed_over t orders others stamp v (mark_in t j) c
        (opens t others j v (mark_in t j) v_at v_waits) none (is_new_holder t t1 q c now before_that)

    pub ahead_of_offers : (others : List ℕ) (stamp : Stamp) → IsAheadThere s (offered t orders others stamp)
    ahead_of_offers others stamp =
        let over = ahead_there.over_too in
        record {
          over = ahead_there.over;
          over_too = over_offered t over others stamp;
          each = λ k w at.
              let now = ahead_there.each k w at in
              let n = mark_in t k in
              record {
                waits = λ waits. now.waits (still_waits t over others stamp k w at waits).1;
                goes = λ gone. still_gone t over others stamp k w at (now.goes gone);
                better = λ some stood gone. keeps_better t over others stamp w.candidate w.preference
                    (now.better some stood (was_gone t over others stamp k w at gone));
                first = λ waits live j v v_at v_waits same.
                    let behind = still_waits t over others stamp j v v_at v_waits in
                    elim (live_or_offered stamp (is_proposed t orders others w n) n
                    (ap is_live (sym (mark_offered t over others stamp k w at)) ∙ live)) [
                      | inl offers ↦ called_first others stamp k w at offers j v v_at behind.0 behind.1 same
                      | inr lived ↦ now.first waits lived j v v_at behind.1 same
                    ];
                kept = λ still gone. now.kept still (was_gone t over others stamp k w at gone);
              };
        }

    -- ---- and those of a pass here, where nothing is proposed there
    pub offers_behind : (others : List ℕ)
        → ((k : ℕ) (w : Wish) → IsAt d.wishes k w → is_proposed t orders others w (mark_in t k) ≡ false)
        → (bars : List ℕ) (stamp : Stamp) → IsAheadThere (offered s orders bars stamp) t
    offers_behind others closed bars stamp =
        let over = ahead_there.over in
        record {
          over = over_offered s over bars stamp;
          over_too = ahead_there.over_too;
          each = λ k w at.
              let now = ahead_there.each k w at in
              let m = mark_in s k in
              record {
                waits = λ waits.
                    let none = not_proposed_here bars others k w at waits (closed k w at) in
                    ap is_waiting (mark_offered s over bars stamp k w at ∙ ap (λ (b : Bool). offer_if stamp b m) none)
                    ∙ now.waits waits;
                goes = λ gone. now.goes (was_gone s over bars stamp k w at gone);
                better = λ some stood gone. now.better some (false_from_ne_true (is_gone m) (λ was.
                    both_ways (is_gone (mark_in (offered s orders bars stamp) k)) stood
                    (still_gone s over bars stamp k w at was))) gone;
                first = λ waits live. now.first (still_waits s over bars stamp k w at waits).1 live;
                kept = λ still gone. still_gone s over bars stamp k w at (now.kept still gone);
              };
        }

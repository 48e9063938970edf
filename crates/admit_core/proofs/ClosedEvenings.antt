-- In the evening of a day no wish is proposed under the greatest bars of that evening and the same ceilings.
use Rattle.std.proofs.Common.{ℕ, ◌+◌, ◌≤◌, ◌<◌, ◌≡◌, Bool, true, false, not, ◌&&◌, ◌||◌, List, [], ◌∷◌, map, length}
use Rattle.std.proofs.Common.{inl, inr, refl, sym, ◌∙◌, ap, subst, arith, filter, nat_eq, nat_lt, nat_le, get_or}
use Rattle.std.proofs.Common.{Option, Some, None, zero-add}
use Rattle.std.specs.Prelude.{slice_index, option_map, unwrap_or, IsTrue}
use Rattle.std.specs.List.{list_any, find, position_or_len, All, enumerate_from}
use Rattle.std.specs.Option.{ForSome}
use Rattle.std.proofs.lemmas.Bool.{and_parts, and_from, and_cases, or_parts, or_cases, or_left, cases_Bool, cases_lt}
use Rattle.std.proofs.lemmas.Bool.{eqb-true, eq-eqb, false≢true, ltb-true, lt-ltb, both_ways, not_from_false}
use Rattle.std.proofs.lemmas.Bool.{false_from_ne_true}
use Rattle.std.proofs.lemmas.Cmp.{nat_eq_equiv}
use Rattle.std.proofs.lemmas.List.{length-map, get_or_past, get_or_default}
use Rattle.std.proofs.lemmas.List.Elements.{All-head, All-tail, All-same, All-map}
use Rattle.std.proofs.lemmas.List.Sums.{passes_at_first, fails_before_first}
use Rattle.std.proofs.lemmas.List.Folds.{Any-from_list_any, list_any_at, find_at}
use Rattle.std.proofs.lemmas.List.FromFn.{get_or-map-range_with_len}
use Rattle.std.proofs.lemmas.Option.{slice_get-get_or}
use Rattle.std.proofs.lemmas.Map.Made.{length-le_from_is_member, is_member-filter}
use Rattle.admit_core.specs.declared.dossier.Wish.{Wish}
use Rattle.admit_core.specs.declared.state.Mark.{Mark}
use Rattle.admit_core.specs.declared.state.Freed.{Freed}
use Rattle.admit_core.specs.declared.state.Stamp.{Stamp}
use Rattle.admit_core.specs.declared.ranking.CallOrder.{CallOrder}
use Rattle.admit_core.specs.DossierRows.{DossierRows, candidates_of, limit_of}
use Rattle.admit_core.specs.Lists.{is_among}
use Rattle.admit_core.specs.CallOrder.{AreCallOrders}
use Rattle.admit_core.specs.Validity.{IsValid}
use Rattle.admit_core.specs.State.{State, entries, is_live, is_waiting, has_school, holds_seat, holds_bed, seats_left}
use Rattle.admit_core.specs.State.{free_beds}
use Rattle.admit_core.specs.Proposals.{is_behind_bar, is_barred, is_open, ahead, position_of, needs_no_seat}
use Rattle.admit_core.specs.Proposals.{demands_bed, demanded_ranks, is_proposed, proposed}
use Rattle.admit_core.specs.AutoAnswer.{best_live}
use Rattle.admit_core.specs.Days.{closing, freed_after, frees_nothing}
use Rattle.admit_core.specs.EveningLaws.{EveningsAreClosed}
use Rattle.admit_core.specs.Falls.{IsGreatest}
use Rattle.admit_core.specs.Boarding.{boarding}
use Rattle.admit_core.proofs.DemandLaws.{demanded, demands_at, demand_parts, not_over, not_barred_step}
use Rattle.admit_core.proofs.DemandLaws.{boarding_is_lawful}
use Rattle.admit_core.proofs.Tests.{among-map, filter_implied, increasing-ascending}
use Rattle.admit_core.proofs.FullBeds.{rising_distinct, full_below}
use Rattle.admit_core.proofs.Dossiers.{HasRank, ranks_of_valid}
use Rattle.admit_core.proofs.Holders.{lives_with, marked_by, entries_marked, holds_after, holds_kept, holder_has_wish}
use Rattle.admit_core.proofs.Counting.{split_count, nothing_freed}
use Rattle.admit_core.proofs.FilledSeats.{live_stays, offered_lives, live_or_offered, waits_still, auto_waits}
use Rattle.admit_core.proofs.FilledSeats.{order_distinct, takers_fill}
use Rattle.admit_core.proofs.Evenings.{entry_wish, same_rank, offer, after_offers, closed, answer, held_after_offers}
use Rattle.admit_core.proofs.Evenings.{full_in_evening, no_bed}
use Rattle.admit_core.proofs.Plain.{any-map}

-- a candidate's rank in a school, by their first wish with it
abbrev wants_bed_of : ℕ → ℕ → Wish → Bool
wants_bed_of h c w = has_school w h && nat_eq w.candidate c

abbrev rank_in : DossierRows → ℕ → ℕ → ℕ
rank_in d h c = unwrap_or (option_map (λ (w : Wish). w.board_rank) (find (wants_bed_of h c) d.wishes)) 0

-- it is that of each of their wishes with the school
rank_is : (d : DossierRows) → IsValid d → (h k : ℕ) (w : Wish) → k < length d.wishes → w ≡ get_or d.wishes k w
    → has_school w h ≡ true → rank_in d h w.candidate ≡ w.board_rank
rank_is d valid h k w lt at has =
    let ws = d.wishes in
    let c = w.candidate in
    let test = wants_bed_of h c in
    let j = position_or_len test ws in
    let passes : test (get_or ws k w) ≡ true =
    rw (← at) (and_from (has_school w h) (nat_eq c c) has (eq-eqb c c refl)) in
    let first : j ≤ k =
    elim (cases_lt k j) [
      | inl before ↦ absurd (both_ways (test (get_or ws k w)) (fails_before_first test ws k w before) passes)
      | inr le ↦ le
    ] in
    let j_lt : j < length ws = omega arith in
    let v = get_or ws j w in
    let found = and_parts (has_school v h) (nat_eq v.candidate c) (passes_at_first test ws w j_lt) in
    let v_at : v ≡ get_or ws j v = get_or_default ws j w v j_lt in
    let same = same_rank d valid j k v w h j_lt lt v_at at found.0 has (eqb-true v.candidate c found.1) in
    rw (find_at test ws, slice_get-get_or ws j w j_lt) same

pub among_filter : (test : ℕ → Bool) (c : ℕ) (xs : List ℕ) → is_among c xs ≡ true → test c ≡ true
    → is_among c (filter test xs) ≡ true
among_filter test c xs t passes = is_member-filter nat_eq_equiv test c (λ x same. ap test (eqb-true c x same)) xs
    ∙ and_from (is_among c xs) (test c) t passes

-- the free beds of a place of the boarding system
pub free_at : (s : State) (orders : List CallOrder) (ceilings : List ℕ) (h : ℕ) → h < length ceilings
    → slice_index (boarding s orders ceilings).free h ≡ free_beds s h
free_at s orders ceilings h lt = get_or-map-range_with_len (free_beds s) 0 (length ceilings) h h 0 lt (zero-add h)

-- a list with a member is not empty
some_of : (r : ℕ) (xs : List ℕ) → is_among r xs ≡ true → 0 < length xs
some_of r [] t = absurd (false≢true t)
some_of r (x ∷ xs) t = omega arith

-- the school of a wish of a valid dossier is there, and ranks them from 1
school_there : (n : ℕ) (school : Option ℕ) (h : ℕ) → ForSome school (λ g. g < n) → school ≡ Some h → h < n
school_there n school h there is = let h_there : ForSome (Some h) (λ g. g < n) =
    subst (λ (o : Option ℕ). ForSome o (λ g. g < n)) is there in h_there h refl

school_in : (d : DossierRows) → IsValid d → (k : ℕ) (w : Wish) → k < length d.wishes → w ≡ get_or d.wishes k w → (h : ℕ)
    → w.school ≡ Some h → h < length d.schools
school_in d valid k w lt at h is = school_there (length d.schools) w.school h (rw at (valid.wishes k w lt).school) is

rank_from_one : (d : DossierRows) → IsValid d → (k : ℕ) (w : Wish) → k < length d.wishes → w ≡ get_or d.wishes k w
    → (h : ℕ) → has_school w h ≡ true → 1 ≤ w.board_rank
rank_from_one d valid k w lt at h has = subst HasRank (sym at) (ranks_of_valid d valid k w lt) h has

-- a seat for one of a candidate's wishes in a programme is one for each
same_seat : (s : State) (orders : List CallOrder) (bars : List ℕ) (v w : Wish) → v.candidate ≡ w.candidate
    → v.programme ≡ w.programme
    → (needs_no_seat s orders v || nat_lt (ahead s orders bars v) (seats_left s v.programme)) ≡ true
    → (needs_no_seat s orders w || nat_lt (ahead s orders bars w) (seats_left s w.programme)) ≡ true
same_seat s orders bars v w same_candidate same_programme t = rw (← same_candidate, ← same_programme) t

-- where no element passes none is listed
nothing_listed : (test : Wish × Mark → Bool) (n : ℕ) (xs : List (Wish × Mark)) → All (λ e. test e ≡ false) xs
    → filter (λ (x : ℕ × (Wish × Mark)). test x.1) (enumerate_from n xs) ≡ []
nothing_listed test n [] all = refl
nothing_listed test n (x ∷ xs) all = rw (All-head (λ e. test e ≡ false) x xs all)
    (nothing_listed test (n + 1) xs (All-tail (λ e. test e ≡ false) x xs all))

module _ (o : State) (orders : List CallOrder) (bars : List ℕ) (stamp : Stamp) (valid : IsValid o.dossier) where
  abbrev offers : Wish → Mark → Mark
  offers = offer o orders bars stamp

  abbrev night : State
  night = closed o orders bars stamp

  abbrev offered_state : State
  offered_state = after_offers o orders bars stamp

  -- a candidate becomes live in a school
  abbrev takes_bed : ℕ → ℕ → Bool
  takes_bed h c = holds_bed offered_state c h && not (holds_bed o c h)

  -- each demanded rank is that of a candidate who becomes live in the school
  taker_of : (h r : ℕ) → is_among r (demanded_ranks o orders bars h) ≡ true
      → (c : ℕ) × (takes_bed h c ≡ true) × (rank_in o.dossier h c ≡ r)
  taker_of h r t =
      let (k, x, lt, at, both) = Any-from_list_any (demands_at o orders bars h r) (entries o)
      (sym (demanded o orders bars h r) ∙ t) in
      let w = x.0 in
      let m = x.1 in
      let parts = and_parts (demands_bed o orders bars h w m) (nat_eq r w.board_rank) both in
      let d = demand_parts o orders bars h w m parts.0 in
      let in_h = λ (u : Wish). has_school u h in
      let proposed : is_proposed o orders bars w m ≡ true =
      and_from (is_open o bars w m) (needs_no_seat o orders w || nat_lt (ahead o orders bars w)
      (seats_left o w.programme)) d.opens d.seat in
      let live : is_live (offers w m) ≡ true = rw proposed (offered_lives m stamp) in
      let here : lives_with in_h w.candidate (marked_by offers x) ≡ true =
      and_from (is_live (offers w m) && nat_eq w.candidate w.candidate) (has_school w h)
      (and_from (is_live (offers w m)) (nat_eq w.candidate w.candidate) live (eq-eqb w.candidate w.candidate refl))
      d.has in
      let now : holds_bed offered_state w.candidate h ≡ true =
      holds_after in_h o offers w.candidate ∙ list_any_at (λ (e : Wish × Mark).
      lives_with in_h w.candidate (marked_by offers e)) (entries o) k x lt (rw at here) in
      let place = entry_wish o k x lt at in (
        w.candidate,
        and_from (holds_bed offered_state w.candidate h) (not (holds_bed o w.candidate h)) now d.no_bed,
        rank_is o.dossier valid h k w place.0 place.1 d.has ∙ sym (eqb-true r w.board_rank parts.1),
      )

  -- so at least as many become live as ranks are demanded
  takers_of_ranks : (h : ℕ) → length (demanded_ranks o orders bars h) ≤ length
      (filter (takes_bed h) (candidates_of o.dossier))
  takers_of_ranks h =
      let ranks = demanded_ranks o orders bars h in
      let cs = candidates_of o.dossier in
      let rising = increasing-ascending (map (λ (e : Wish × Mark). e.0.board_rank)
      (filter (λ (e : Wish × Mark). demands_bed o orders bars h e.0 e.1) (entries o))) in
      let fewer = length-le_from_is_member nat_eq_equiv ranks (map (rank_in o.dossier h) (filter (takes_bed h) cs))
      (rising_distinct ranks rising)
      (λ r t.
      let (c, taken, is) = taker_of h r t in
      let has_wish = holder_has_wish (λ u. has_school u h) offered_state c
      (and_parts (holds_bed offered_state c h) (not (holds_bed o c h)) taken).0 in
      let there = among-map (rank_in o.dossier h) c (filter (takes_bed h) cs)
      (among_filter (takes_bed h) c cs has_wish taken) in
      rw is at there) in
      omega (arith, fewer, length-map (filter (takes_bed h) cs) (rank_in o.dossier h))

  -- a school in which as many ranks were demanded as beds were free is full in the evening
  beds_full : IsTrue (frees_nothing (freed_after o orders bars stamp)) → (h : ℕ) → h < length o.dossier.schools
      → length (demanded_ranks o orders bars h) ≡ free_beds o h → free_beds night h ≡ 0
  beds_full none h lt full =
      let cs = candidates_of o.dossier in
      let freed = freed_after o orders bars stamp in
      let parts = and_parts (nat_eq freed.seats 0) (nat_eq freed.beds 0) none in
      let kept = λ (c : ℕ) (held : holds_bed offered_state c h ≡ true).
      nothing_freed (λ x q. holds_bed offered_state x q) (λ x q. holds_bed night x q) (length o.dossier.schools) cs
      (eqb-true freed.beds 0 parts.1) c h (holder_has_wish (λ u. has_school u h) offered_state c held) lt held in
      let split = split_count (λ c. holds_bed o c h) (λ c. holds_bed offered_state c h)
      (λ c t. holds_kept (λ u. has_school u h) o offers c
      (λ v mv live. live_stays stamp (is_proposed o orders bars v mv) mv live) t) cs in
      let more = filter_implied (λ c. holds_bed offered_state c h) (λ c. holds_bed night c h) kept cs in
      omega (arith, full, takers_of_ranks h, split, more)

  -- a candidate with an open wish that is not proposed is not live in its programme in the evening
  unseated : (w : Wish) (m : Mark) → is_open o bars w m ≡ true → is_proposed o orders bars w m ≡ false
      → holds_seat night w.candidate w.programme ≡ false
  unseated w m opens not_proposed =
      let c = w.candidate in
      let p = w.programme in
      let in_p = λ (u : Wish). nat_eq u.programme p in
      let seat = needs_no_seat o orders w || nat_lt (ahead o orders bars w) (seats_left o p) in
      false_from_ne_true (holds_seat night c p) (λ held.
      let (j, e, lt, at, lives) = Any-from_list_any (λ (e : Wish × Mark). lives_with in_p c (marked_by offers e))
      (entries o)
      (sym (holds_after in_p o offers c) ∙ held_after_offers o orders bars stamp in_p c held) in
      let v = e.0 in
      let outer = and_parts (is_live (offers v e.1) && nat_eq v.candidate c) (nat_eq v.programme p) lives in
      let inner = and_parts (is_live (offers v e.1)) (nat_eq v.candidate c) outer.0 in
      elim (live_or_offered stamp (is_proposed o orders bars v e.1) e.1 inner.0) [
        | inl offered ↦
            let parts = and_parts (is_open o bars v e.1)
            (needs_no_seat o orders v || nat_lt (ahead o orders bars v) (seats_left o v.programme)) offered in
            let own_seat : seat ≡ true = same_seat o orders bars v w (eqb-true v.candidate c inner.1)
            (eqb-true v.programme p outer.1) parts.1 in
            both_ways (is_proposed o orders bars w m) not_proposed (and_from (is_open o bars w m) seat opens own_seat)
        | inr was_live ↦
            let here : lives_with in_p c e ≡ true = and_from (is_live e.1 && nat_eq v.candidate c)
            (nat_eq v.programme p) (and_from (is_live e.1) (nat_eq v.candidate c) was_live inner.1) outer.1 in
            let seated : holds_seat o c p ≡ true = list_any_at (lives_with in_p c) (entries o) j e lt (rw at here) in
            both_ways (is_proposed o orders bars w m) not_proposed
            (and_from (is_open o bars w m) seat opens
            (or_left (needs_no_seat o orders w) (nat_lt (ahead o orders bars w) (seats_left o p))
            (or_left (holds_seat o c p) (nat_le (position_of o orders w) (limit_of o.dossier p)) seated)))
      ])

  -- an open wish of the opening that was not proposed finds its programme full, and itself beyond the call limit
  not_by_seat : IsTrue (frees_nothing (freed_after o orders bars stamp)) → AreCallOrders o.dossier.groups orders
      → (w : Wish) (m : Mark)
      → w.programme < length o.dossier.programmes → is_open o bars w m ≡ true → is_proposed o orders bars w m ≡ false
      → (others : List ℕ) → (needs_no_seat night orders w
      || nat_lt (ahead night orders others w) (seats_left night w.programme)) ≡ true → ⊥
  not_by_seat none calls w m there opens not_proposed others seat =
      let p = w.programme in
      let full = full_in_evening o orders bars stamp none p there
      (takers_fill o orders bars stamp w m (order_distinct o.dossier orders valid calls p) opens not_proposed) in
      let within = nat_le (position_of o orders w) (limit_of o.dossier p) in
      let beyond : within ≡ false =
      elim (and_cases (is_open o bars w m) (needs_no_seat o orders w || nat_lt (ahead o orders bars w) (seats_left o p))
      not_proposed) [
        | inl not_open ↦ absurd (both_ways (is_open o bars w m) not_open opens)
        | inr neither ↦ (or_parts (holds_seat o w.candidate p) within
            (or_parts (needs_no_seat o orders w) (nat_lt (ahead o orders bars w) (seats_left o p)) neither).0).1
      ] in
      elim (or_cases (needs_no_seat night orders w) (nat_lt (ahead night orders others w) (seats_left night p)) seat) [
        | inl needs_none ↦
            elim (or_cases (holds_seat night w.candidate p) within needs_none) [
              | inl held ↦ both_ways (holds_seat night w.candidate p) (unseated w m opens not_proposed) held
              | inr called ↦ both_ways within beyond called
            ]
        | inr left ↦ omega (arith, full, ltb-true (ahead night orders others w) (seats_left night p) left)
      ]

  demanded_at : (others : List ℕ) (h r : ℕ) (k : ℕ) (x : Wish × Mark) → k < length (entries o)
      → get_or (entries o) k x ≡ x
      → demands_at night orders others h r (marked_by (answer o orders bars stamp) (marked_by offers x)) ≡ true
      → is_among r (demanded_ranks night orders others h) ≡ true
  demanded_at others h r k x lt at t =
      let D = demands_at night orders others h r in
      let answers = marked_by (answer o orders bars stamp) in
      demanded night orders others h r
      ∙ ap (list_any D) (entries_marked offered_state (answer o orders bars stamp)
      ∙ ap (map answers) (entries_marked o offers))
      ∙ any-map D answers (map (marked_by offers) (entries o))
      ∙ any-map (λ (e : Wish × Mark). D (answers e)) (marked_by offers) (entries o)
      ∙ list_any_at (λ (e : Wish × Mark). D (answers (marked_by offers e))) (entries o) k x lt (rw at t)

  -- a wish that was barred in the opening is not proposed in the evening: the bar was below its ceiling, so the school
  -- is full
  not_by_bar : IsTrue (frees_nothing (freed_after o orders bars stamp)) → (ceilings : List ℕ)
      → IsGreatest (boarding o orders ceilings) bars
      → (others : List ℕ) → IsGreatest (boarding night orders ceilings) others → (k : ℕ) (x : Wish × Mark)
      → k < length (entries o) → get_or (entries o) k x ≡ x
      → (school : Option ℕ) → x.0.school ≡ school → is_behind_bar o bars x.0 school ≡ true
      → is_proposed night orders others x.0 (answer o orders bars stamp x.0 (offers x.0 x.1)) ≡ true → ⊥
  not_by_bar none ceilings greatest others greatest_others k x lt at None is behind proposed = false≢true behind
  not_by_bar none ceilings greatest others greatest_others k x lt at (Some h) is behind proposed =
      let w = x.0 in
      let m = answer o orders bars stamp w (offers w x.1) in
      let c = w.candidate in
      let r = w.board_rank in
      let place = entry_wish o k x lt at in
      let has : has_school w h ≡ true = rw is (eq-eqb h h refl) in
      let parts = and_parts (not (holds_bed o c h)) (nat_lt (slice_index bars h) r) behind in
      let over = ltb-true (slice_index bars h) r parts.1 in
      let bedless : not (holds_bed night c h) ≡ true =
      not_from_false (holds_bed night c h) (no_bed o orders bars stamp valid k x lt at h has parts.0 over) in
      let opens = (and_parts (is_open night others w m)
      (needs_no_seat night orders w || nat_lt (ahead night orders others w) (seats_left night w.programme))
      proposed).0 in
      let le = not_over night others w w.school h has bedless
      (not_barred_step (is_waiting m) (is_behind_bar night others w w.school) opens) in
      let low : slice_index bars h < slice_index ceilings h =
      omega (arith, over, le, greatest_others.fits.under_ceilings.each h) in
      let h_lt : h < length ceilings = elim (cases_lt h (length ceilings))
      [ inl within ↦ within | inr past ↦ absurd (omega (arith, low, get_or_past ceilings h 0 past)) ] in
      let full = full_below (boarding o orders ceilings) (boarding_is_lawful o orders ceilings) bars greatest h low
      ∙ free_at o orders ceilings h h_lt in
      let valid_wish = valid.wishes k w place.0 in
      let h_school : h < length o.dossier.schools = school_in o.dossier valid k w place.0 place.1 h is in
      let none_free = beds_full none h h_school full in
      let ranked : nat_lt 0 r ≡ true = lt-ltb 0 r (rank_from_one o.dossier valid k w place.0 place.1 h has) in
      let demands : demands_bed night orders others h w m ≡ true =
      and_from (has_school w h && nat_lt 0 r && not (holds_bed night c h)) (is_proposed night orders others w m)
      (and_from (has_school w h && nat_lt 0 r) (not (holds_bed night c h))
      (and_from (has_school w h) (nat_lt 0 r) has ranked) bedless) proposed in
      let among = demanded_at others h r k x lt at (and_from (demands_bed night orders others h w m)
      (nat_eq r r) demands (eq-eqb r r refl)) in
      omega (
        arith,
        some_of r (demanded_ranks night orders others h) among,
        greatest_others.fits.room h h_lt,
        free_at night orders ceilings h h_lt,
        none_free,
      )

  -- in the evening no wish is proposed
  closed_at : IsTrue (frees_nothing (freed_after o orders bars stamp)) → AreCallOrders o.dossier.groups orders
      → (ceilings : List ℕ)
      → IsGreatest (boarding o orders ceilings) bars → (others : List ℕ)
      → IsGreatest (boarding night orders ceilings) others
      → (k : ℕ) (x : Wish × Mark) → k < length (entries o) → get_or (entries o) k x ≡ x
      → is_proposed night orders others x.0 (answer o orders bars stamp x.0 (offers x.0 x.1)) ≡ false
  closed_at none calls ceilings greatest others greatest_others k x lt at =
      let w = x.0 in
      let m = x.1 in
      let late = answer o orders bars stamp w (offers w m) in
      let place = entry_wish o k x lt at in
      false_from_ne_true (is_proposed night orders others w late) (λ proposed.
      let parts = and_parts (is_open night others w late)
      (needs_no_seat night orders w || nat_lt (ahead night orders others w) (seats_left night w.programme))
      proposed in
      let waits = (and_parts (is_waiting late) (not (is_barred night others w late)) parts.0).0 in
      let still = waits_still stamp (is_proposed o orders bars w m) m
      (auto_waits stamp (best_live offered_state w.candidate) w (offers w m) waits) in
      elim (cases_Bool (is_barred o bars w m)) [
        | inl barred ↦
            not_by_bar none ceilings greatest others greatest_others k x lt at w.school refl
            (and_parts (is_waiting m) (is_behind_bar o bars w w.school) barred).1 proposed
        | inr not_barred ↦
            let opens : is_open o bars w m ≡ true = and_from (is_waiting m) (not (is_barred o bars w m)) still.1
            (not_from_false (is_barred o bars w m) not_barred) in
            let there : w.programme < length o.dossier.programmes = rw place.1 (valid.wishes k w place.0).programme in
            not_by_seat none calls w m there opens still.0 others parts.1
      ])

  none_proposed : IsTrue (frees_nothing (freed_after o orders bars stamp)) → AreCallOrders o.dossier.groups orders
      → (ceilings : List ℕ)
      → IsGreatest (boarding o orders ceilings) bars → (others : List ℕ)
      → IsGreatest (boarding night orders ceilings) others → proposed night orders others ≡ []
  none_proposed none calls ceilings greatest others greatest_others =
      let P : Wish × Mark → Type 0 = λ e. is_proposed night orders others e.0 e.1 ≡ false in
      let answers = marked_by (answer o orders bars stamp) in
      let all : All P (entries night) =
      All-same P (entries night) (map answers (map (marked_by offers) (entries o)))
      (entries_marked offered_state (answer o orders bars stamp) ∙ ap (map answers) (entries_marked o offers))
      (All-map P answers (map (marked_by offers) (entries o))
      (All-map (λ (e : Wish × Mark). P (answers e)) (marked_by offers) (entries o)
      (λ k d lt. closed_at none calls ceilings greatest others greatest_others k (get_or (entries o) k d) lt
      (get_or_default (entries o) k (get_or (entries o) k d) d lt)))) in
      ap (map (λ (x : ℕ × (Wish × Mark)). x.0))
      (nothing_listed (λ (e : Wish × Mark). is_proposed night orders others e.0 e.1) 0 (entries night) all)

pub evenings_are_closed : EveningsAreClosed
evenings_are_closed orders ceilings day k s [] evening valid calls passes bars greatest = absurd passes
evenings_are_closed orders ceilings day k s (pass ∷ []) evening valid calls passes bars greatest =
    let stamp : Stamp = record { day = day; pass = k } in
    let none = subst (λ (f : Freed). IsTrue (frees_nothing f)) passes.0.freed passes.1 in
    let P : State → Type 0 = λ e. IsGreatest (boarding e orders ceilings) bars in
    let is = passes.2 in
    rw is (none_proposed s orders pass.pass.bars stamp valid none calls ceilings passes.0.pass.greatest bars
    (subst P is greatest))
evenings_are_closed orders ceilings day k s (pass ∷ (next ∷ rest)) evening valid calls passes bars greatest =
    let stamp : Stamp = record { day = day; pass = k } in
    evenings_are_closed orders ceilings day (k + 1) (closing s orders pass.pass.bars stamp)
    (next ∷ rest) evening valid calls passes.2 bars greatest

-- What a wish that waits in the evening met in the last pass, and what that leaves of seats and beds.
use Rattle.std.proofs.Common.{ℕ, ◌+◌, ◌≤◌, ◌<◌, ◌≡◌, ◌⊎◌, Bool, true, false, not, ◌||◌, List, [], ◌∷◌, map, length}
use Rattle.std.proofs.Common.{Option, Some, None, inl, inr, refl, sym, ◌∙◌, ap, subst, arith, filter, nat_eq, nat_le}
use Rattle.std.proofs.Common.{nat_lt, get_or, count_by}
use Rattle.std.specs.Prelude.{All, IsTrue, slice_index}
use Rattle.std.specs.List.{before_first, list_any}
use Rattle.std.proofs.lemmas.Bool.{and_cases, and_from, and_parts, and_right, both_ways, cases_Bool, cases_lt, eq-eqb}
use Rattle.std.proofs.lemmas.Bool.{eqb-true, false≢true, false_from_ne_true, lt-leb, lt-ltb, ltb-true, not_from_false}
use Rattle.std.proofs.lemmas.Bool.{or_cases, or_left, or_parts}
use Rattle.std.proofs.lemmas.List.{get_or_default}
use Rattle.std.proofs.lemmas.List.Elements.{All-map, All-same}
use Rattle.std.proofs.lemmas.List.Folds.{Any-from_list_any}
use Rattle.admit_core.specs.declared.dossier.Wish.{Wish}
use Rattle.admit_core.specs.declared.ranking.CallOrder.{CallOrder}
use Rattle.admit_core.specs.declared.records.DayRecord.{DayRecord}
use Rattle.admit_core.specs.declared.records.PassEnd.{PassEnd}
use Rattle.admit_core.specs.declared.records.Terms.{Terms}
use Rattle.admit_core.specs.declared.state.Freed.{Freed}
use Rattle.admit_core.specs.declared.state.Mark.{Mark}
use Rattle.admit_core.specs.declared.state.Stamp.{Stamp}
use Rattle.admit_core.specs.AutoAnswer.{best_live}
use Rattle.admit_core.specs.Boarding.{boarding}
use Rattle.admit_core.specs.CallOrder.{AreCallOrders}
use Rattle.admit_core.specs.Days.{IsDay, Passes, answers_of, closing, freed_after, frees_nothing, morning, offered}
use Rattle.admit_core.specs.DossierRows.{DossierRows, candidates_of, limit_of}
use Rattle.admit_core.specs.EveningLaws.{last_bars}
use Rattle.admit_core.specs.Falls.{Fits, IsAtMost, IsGreatest}
use Rattle.admit_core.specs.Lapses.{lapse}
use Rattle.admit_core.specs.Lists.{is_among}
use Rattle.admit_core.specs.Proposals.{ahead, demanded_ranks, demands_bed, is_barred, is_behind_bar, is_open}
use Rattle.admit_core.specs.Proposals.{is_proposed, needs_no_seat, order_of, position_of, wants_seat}
use Rattle.admit_core.specs.State.{State, entries, free_beds, has_school, holds_bed, holds_seat, is_waiting, seats_left}
use Rattle.admit_core.specs.Validity.{IsValid}
use Rattle.admit_core.proofs.Counting.{nothing_freed}
use Rattle.admit_core.proofs.DemandLaws.{demand_parts, demanded, demands_at, not_barred_step}
use Rattle.admit_core.proofs.Evenings.{answer, entry_wish, full_in_evening, held_after_offers, no_bed, offer}
use Rattle.admit_core.proofs.FilledSeats.{auto_waits, live_stays, order_distinct, takers_fill, waits_still}
use Rattle.admit_core.proofs.Holders.{entries_marked, holder_has_wish, holds_kept, marked_by}
use Rattle.admit_core.proofs.Plain.{any-map}
use Rattle.admit_core.proofs.Tests.{filter_implied}
use Rattle.day_state.proofs.Independence.{dossier_after_all}
use Rattle.round.proofs.NewHolders.{becomes_live}
use Rattle.round.proofs.OfferLaws.{lowered_for_beds}
use Rattle.evening_laws.specs.Idle.{IsNotKeptWaiting, are_both_idle, is_bed_idle}

-- a list without a member
pub no_member : (xs : List ℕ) → ((r : ℕ) → is_among r xs ≡ true → ⊥) → length xs ≡ 0
no_member [] none = refl
no_member (x ∷ xs) none = absurd (none x (or_left (nat_eq x x) (is_among x xs) (eq-eqb x x refl)))

-- those who held, and those who came to hold, hold
pub held_and_new : (a b : ℕ → Bool) → ((x : ℕ) → a x ≡ true → b x ≡ true) → (xs : List ℕ)
    → length (filter a xs) + length (filter (λ x. not (a x)) (filter b xs)) ≤ length (filter b xs)
held_and_new a b implies [] = omega arith
held_and_new a b implies (x ∷ xs) =
    let rest = held_and_new a b implies xs in
    elim (cases_Bool (a x)) [
      | inl first ↦ rw (first, implies x first) (rw first (omega (arith, rest)))
      | inr none ↦ elim (cases_Bool (b x)) [
        | inl second ↦ rw (none, second) (rw none (omega (arith, rest)))
        | inr neither ↦ rw (none, neither) rest
      ]
    ]

module _ (o : State) (orders : List CallOrder) (bars : List ℕ) (stamp : Stamp) (valid : IsValid o.dossier)
    (calls : AreCallOrders o.dossier.groups orders)
    (none : IsTrue (frees_nothing (freed_after o orders bars stamp))) where
  abbrev night : State
  night = closing o orders bars stamp

  abbrev after : State
  after = offered o orders bars stamp

  -- the mark of a wish in the evening
  abbrev late : Wish → Mark → Mark
  late w m = answer o orders bars stamp w (offer o orders bars stamp w m)

  -- whether a seat of the programme is the candidate's under the bars
  abbrev has_seat : ℕ → ℕ → Bool
  has_seat p c =
      (holds_seat o c p
      || nat_le (length (before_first (nat_eq c) (order_of o.dossier orders p)) + 1) (limit_of o.dossier p))
      || nat_lt (count_by (wants_seat o bars p) (before_first (nat_eq c) (order_of o.dossier orders p)))
      (seats_left o p)

  -- the programme of a wish is full in the evening, and its candidate is not live there, nor called by its limit
  record HasNoSeat (w : Wish) : Type 0 where
    full : seats_left night w.programme ≡ 0
    not_live : holds_seat night w.candidate w.programme ≡ false
    beyond : nat_le (position_of o orders w) (limit_of o.dossier w.programme) ≡ false

  no_seat_for : (w : Wish) (m : Mark) → w.programme < length o.dossier.programmes → is_open o bars w m ≡ true
      → is_proposed o orders bars w m ≡ false → HasNoSeat w
  no_seat_for w m there opens not_proposed =
      let p = w.programme in
      let c = w.candidate in
      let early = nat_lt (ahead o orders bars w) (seats_left o p) in
      let called = nat_le (position_of o orders w) (limit_of o.dossier p) in
      let neither : has_seat p c ≡ false =
      elim (and_cases (is_open o bars w m) (has_seat p c) not_proposed) [
        | inl closed ↦ absurd (both_ways (is_open o bars w m) closed opens)
        | inr no_seat ↦ no_seat
      ] in
      let parts = or_parts (needs_no_seat o orders w) early neither in
      let inner = or_parts (holds_seat o c p) called parts.0 in
      record {
        full = full_in_evening o orders bars stamp none p there
            (takers_fill o orders bars stamp w m (order_distinct o.dossier orders valid calls p) opens not_proposed);
        not_live = false_from_ne_true (holds_seat night c p) (λ held.
            let lives = held_after_offers o orders bars stamp (λ (v : Wish). nat_eq v.programme p) c held in
            let makes = becomes_live o orders bars stamp (λ (v : Wish). nat_eq v.programme p) c lives inner.0 in
            let x = makes.entry.0 in
            let seat : has_seat x.programme x.candidate ≡ true =
            (and_parts (is_open o bars x makes.entry.1) (has_seat x.programme x.candidate) makes.offers).1 in
            let theirs : has_seat p c ≡ true =
            subst (λ (q : ℕ). has_seat q c ≡ true) (eqb-true x.programme p makes.passes)
            (subst (λ (d : ℕ). has_seat x.programme d ≡ true) (eqb-true x.candidate c makes.own) seat) in
            both_ways (has_seat p c) neither theirs);
        beyond = inner.1;
      }

  -- so a wish that waits in the evening has no seat, or was behind the bar
  why_it_waits : (k : ℕ) (x : Wish × Mark) → k < length (entries o) → get_or (entries o) k x ≡ x
      → is_waiting (late x.0 x.1) ≡ true
      → HasNoSeat x.0 ⊎ (is_behind_bar o bars x.0 x.0.school ≡ true)
  why_it_waits k x lt at waits =
      let w = x.0 in
      let m = x.1 in
      let still = waits_still stamp (is_proposed o orders bars w m) m
      (auto_waits stamp (best_live after w.candidate) w (offer o orders bars stamp w m) waits) in
      let place = entry_wish o k x lt at in
      elim (cases_Bool (is_barred o bars w m)) [
        | inl barred ↦ inr (and_parts (is_waiting m) (is_behind_bar o bars w w.school) barred).1
        | inr not_barred ↦
            let opens : is_open o bars w m ≡ true = and_from (is_waiting m) (not (is_barred o bars w m)) still.1
            (not_from_false (is_barred o bars w m) not_barred) in
            let there : w.programme < length o.dossier.programmes =
            subst (λ (v : Wish). v.programme < length o.dossier.programmes) (sym place.1)
            (valid.wishes k w place.0).programme in
            inl (no_seat_for w m there opens still.0)
      ]

  -- who was behind the bar of a school has no bed there in the evening, and ranks past the bar
  no_bed_behind : (k : ℕ) (x : Wish × Mark) → k < length (entries o) → get_or (entries o) k x ≡ x → (h : ℕ)
      → x.0.school ≡ Some h → is_behind_bar o bars x.0 (Some h) ≡ true
      → (holds_bed night x.0.candidate h ≡ false) × (slice_index bars h < x.0.board_rank)
  no_bed_behind k x lt at h is behind =
      let w = x.0 in
      let parts = and_parts (not (holds_bed o w.candidate h)) (nat_lt (slice_index bars h) w.board_rank) behind in
      let has : has_school w h ≡ true = rw is (eq-eqb h h refl) in
      let over = ltb-true (slice_index bars h) w.board_rank parts.1 in
      (no_bed o orders bars stamp valid k x lt at h has parts.0 over, over)

  -- ---- under the same bars nothing is proposed in the evening
  behind_still : (k : ℕ) (x : Wish × Mark) → k < length (entries o) → get_or (entries o) k x ≡ x
      → (school : Option ℕ) → x.0.school ≡ school → is_behind_bar o bars x.0 school ≡ true
      → is_behind_bar night bars x.0 school ≡ true
  behind_still k x lt at None is behind = behind
  behind_still k x lt at (Some h) is behind =
      let found = no_bed_behind k x lt at h is behind in
      and_from (not (holds_bed night x.0.candidate h)) (nat_lt (slice_index bars h) x.0.board_rank)
      (not_from_false (holds_bed night x.0.candidate h) found.0) (lt-ltb (slice_index bars h) x.0.board_rank found.1)

  not_proposed_late : (k : ℕ) (x : Wish × Mark) → k < length (entries o) → get_or (entries o) k x ≡ x
      → is_open night bars x.0 (late x.0 x.1) ≡ true
      → (needs_no_seat night orders x.0 || nat_lt (ahead night orders bars x.0) (seats_left night x.0.programme)) ≡ true
      → ⊥
  not_proposed_late k x lt at opens seat =
      let w = x.0 in
      let p = w.programme in
      let n = late w x.1 in
      let waits = (and_parts (is_waiting n) (not (is_barred night bars w n)) opens).0 in
      elim (why_it_waits k x lt at waits) [
        | inl no_seat ↦
            let called = nat_le (position_of o orders w) (limit_of o.dossier p) in
            let late_left = nat_lt (ahead night orders bars w) (seats_left night p) in
            elim (or_cases (needs_no_seat night orders w) late_left seat) [
              | inl needs_none ↦ elim (or_cases (holds_seat night w.candidate p) called needs_none) [
                | inl held ↦ both_ways (holds_seat night w.candidate p) no_seat.not_live held
                | inr by_limit ↦ both_ways called no_seat.beyond by_limit
              ]
              | inr left ↦
                  omega (arith, no_seat.full, ltb-true (ahead night orders bars w) (seats_left night p) left)
            ]
        | inr behind ↦
            both_ways (is_behind_bar night bars w w.school)
            (not_barred_step (is_waiting n) (is_behind_bar night bars w w.school) opens)
            (behind_still k x lt at w.school refl behind)
      ]

  none_demanded : (h r : ℕ) → is_among r (demanded_ranks night orders bars h) ≡ true → ⊥
  none_demanded h r t =
      let D = demands_at night orders bars h r in
      let answers = marked_by (answer o orders bars stamp) in
      let offers = marked_by (offer o orders bars stamp) in
      let path = demanded night orders bars h r
      ∙ ap (list_any D) (entries_marked after (answer o orders bars stamp)
      ∙ ap (map answers) (entries_marked o (offer o orders bars stamp)))
      ∙ any-map D answers (map offers (entries o))
      ∙ any-map (λ (e : Wish × Mark). D (answers e)) offers (entries o) in
      let (k, x, lt, at, both) = Any-from_list_any (λ (e : Wish × Mark). D (answers (offers e))) (entries o)
      (sym path ∙ t) in
      let parts = and_parts (demands_bed night orders bars h x.0 (late x.0 x.1)) (nat_eq r x.0.board_rank) both in
      let d = demand_parts night orders bars h x.0 (late x.0 x.1) parts.0 in
      not_proposed_late k x lt at d.opens d.seat

  still_fit : (ceilings : List ℕ) → Fits (boarding o orders ceilings) bars → Fits (boarding night orders ceilings) bars
  still_fit ceilings fits = record {
    under_ceilings = fits.under_ceilings;
    room = λ h lt.
        let nobody = no_member (demanded_ranks night orders bars h) (none_demanded h) in
        omega (arith, nobody);
  }

  -- ---- a bed that is free in the evening is out of reach of who was behind the bar
  beds_full : (ceilings : List ℕ) → IsGreatest (boarding o orders ceilings) bars → (h : ℕ)
      → h < length o.dossier.schools → slice_index bars h < slice_index ceilings h → free_beds night h ≡ 0
  beds_full ceilings greatest h lt low =
      let cs = candidates_of o.dossier in
      let all_freed = freed_after o orders bars stamp in
      let parts = and_parts (nat_eq all_freed.seats 0) (nat_eq all_freed.beds 0) none in
      let taken = lowered_for_beds o orders ceilings bars stamp valid greatest h low in
      let kept = λ (c : ℕ) (held : holds_bed after c h ≡ true).
      nothing_freed (λ x q. holds_bed after x q) (λ x q. holds_bed night x q) (length o.dossier.schools) cs
      (eqb-true all_freed.beds 0 parts.1) c h (holder_has_wish (λ u. has_school u h) after c held) lt held in
      let split = held_and_new (λ c. holds_bed o c h) (λ c. holds_bed after c h)
      (λ c t. holds_kept (λ u. has_school u h) o (offer o orders bars stamp) c
      (λ v mv live. live_stays stamp (is_proposed o orders bars v mv) mv live) t) cs in
      let more = filter_implied (λ c. holds_bed after c h) (λ c. holds_bed night c h) kept cs in
      omega (arith, taken, split, more)

  bed_is_not_idle : (ceilings : List ℕ) → IsGreatest (boarding o orders ceilings) bars → (k : ℕ) (x : Wish × Mark)
      → k < length (entries o) → get_or (entries o) k x ≡ x → (school : Option ℕ) → x.0.school ≡ school
      → is_behind_bar o bars x.0 school ≡ true → is_bed_idle night ceilings x.0 school ≡ false
  bed_is_not_idle ceilings greatest k x lt at None is behind = absurd (false≢true behind)
  bed_is_not_idle ceilings greatest k x lt at (Some h) is behind =
      let w = x.0 in
      let place = entry_wish o k x lt at in
      let found = no_bed_behind k x lt at h is behind in
      let known : (v : Wish) → v ≡ w → v.school ≡ Some h = λ v same. ap (λ (u : Wish). u.school) same ∙ is in
      let there : h < length o.dossier.schools =
      (valid.wishes k w place.0).school h (known (get_or o.dossier.wishes k w) (sym place.1)) in
      elim (cases_lt (slice_index bars h) (slice_index ceilings h)) [
        | inl low ↦ rw (found.0, beds_full ceilings greatest h there low) refl
        | inr high ↦
            let past = lt-leb w.board_rank (slice_index ceilings h) (omega (arith, high, found.1)) in
            rw (found.0, past) (and_right (nat_lt 0 (free_beds night h)) false refl)
      ]

  not_idle_at : (ceilings : List ℕ) → IsGreatest (boarding o orders ceilings) bars → (k : ℕ) (x : Wish × Mark)
      → k < length (entries o) → get_or (entries o) k x ≡ x → is_waiting (late x.0 x.1) ≡ true
      → are_both_idle night ceilings x.0 ≡ false
  not_idle_at ceilings greatest k x lt at waits =
      let w = x.0 in
      elim (why_it_waits k x lt at waits) [
        | inl no_seat ↦ rw no_seat.full refl
        | inr behind ↦ and_right (nat_lt 0 (seats_left night w.programme)) (is_bed_idle night ceilings w w.school)
            (bed_is_not_idle ceilings greatest k x lt at w.school refl behind)
      ]

  never_both_idle : (ceilings : List ℕ) → IsGreatest (boarding o orders ceilings) bars
      → All (IsNotKeptWaiting night ceilings) (entries night)
  never_both_idle ceilings greatest =
      let P : Wish × Mark → Type 0 = IsNotKeptWaiting night ceilings in
      let answers = marked_by (answer o orders bars stamp) in
      let offers = marked_by (offer o orders bars stamp) in
      All-same P (entries night) (map answers (map offers (entries o)))
      (entries_marked after (answer o orders bars stamp)
      ∙ ap (map answers) (entries_marked o (offer o orders bars stamp)))
      (All-map P answers (map offers (entries o))
      (All-map (λ (e : Wish × Mark). P (answers e)) offers (entries o)
      (λ k d lt waits. not_idle_at ceilings greatest k (get_or (entries o) k d) lt
      (get_or_default (entries o) k (get_or (entries o) k d) d lt) waits)))

-- ---- a day's last pass
record EndsSo (orders : List CallOrder) (ceilings bars : List ℕ) (evening : State) : Type 0 where
  fits : Fits (boarding evening orders ceilings) bars
  idle : All (IsNotKeptWaiting evening ceilings) (entries evening)

ends_so : (orders : List CallOrder) (ceilings : List ℕ) (day k : ℕ) (s : State) (passes : List PassEnd)
    (evening : State) → IsValid s.dossier → AreCallOrders s.dossier.groups orders
    → Passes orders ceilings day k s passes evening → EndsSo orders ceilings (last_bars passes) evening
ends_so orders ceilings day k s [] evening valid calls are = absurd are
ends_so orders ceilings day k s (pass ∷ []) evening valid calls are =
    let stamp : Stamp = record { day = day; pass = k } in
    let bars = pass.pass.bars in
    let greatest = are.0.pass.greatest in
    let none = subst (λ (f : Freed). IsTrue (frees_nothing f)) are.0.freed are.1 in
    subst (EndsSo orders ceilings bars) (sym are.2) (record {
      fits = still_fit s orders bars stamp valid calls none ceilings greatest.fits;
      idle = never_both_idle s orders bars stamp valid calls none ceilings greatest;
    })
ends_so orders ceilings day k s (pass ∷ (next ∷ rest)) evening valid calls are =
    ends_so orders ceilings day (k + 1) (closing s orders pass.pass.bars (record { day = day; pass = k }))
    (next ∷ rest) evening valid calls are.2

-- what is so of the dossier is so in the morning
in_the_morning : (P : DossierRows → Type 0) (terms : Option Terms) (day : ℕ) (s : State) → P s.dossier
    → P (morning terms day s).dossier
in_the_morning P None day s p =
    subst P (sym (dossier_after_all s (record { day = day; pass = 0 }) (answers_of s.dossier day))) p
in_the_morning P (Some t) day s p =
    subst P (sym (dossier_after_all (lapse t day s) (record { day = day; pass = 0 }) (answers_of s.dossier day))) p

day_ends_so : (terms : Option Terms) (orders : List CallOrder) (ceilings : List ℕ) (old : State) (day : DayRecord)
    (evening : State) → IsValid old.dossier → AreCallOrders old.dossier.groups orders
    → IsDay terms orders ceilings old day evening → EndsSo orders ceilings (last_bars day.passes) evening
day_ends_so terms orders ceilings old day evening valid calls is =
    ends_so orders ceilings day.day 1 (morning terms day.day old) day.passes evening
    (in_the_morning IsValid terms day.day old valid)
    (in_the_morning (λ (d : DossierRows). AreCallOrders d.groups orders) terms day.day old calls) is.passes

pub last_bars_still_fit : (terms : Option Terms) (orders : List CallOrder) (ceilings : List ℕ) (old : State)
    (day : DayRecord) (evening : State) → IsValid old.dossier → AreCallOrders old.dossier.groups orders
    → IsDay terms orders ceilings old day evening → Fits (boarding evening orders ceilings) (last_bars day.passes)
last_bars_still_fit terms orders ceilings old day evening valid calls is =
    (day_ends_so terms orders ceilings old day evening valid calls is).fits

pub evening_bars_no_lower : (terms : Option Terms) (orders : List CallOrder) (ceilings : List ℕ) (old : State)
    (day : DayRecord) (evening : State) (bars : List ℕ) → IsValid old.dossier → AreCallOrders old.dossier.groups orders
    → IsDay terms orders ceilings old day evening → IsGreatest (boarding evening orders ceilings) bars
    → IsAtMost (last_bars day.passes) bars
evening_bars_no_lower terms orders ceilings old day evening bars valid calls is greatest =
    greatest.greatest (last_bars day.passes) (last_bars_still_fit terms orders ceilings old day evening valid calls is)

pub seat_and_bed_never_both_idle : (terms : Option Terms) (orders : List CallOrder) (ceilings : List ℕ) (old : State)
    (day : DayRecord) (evening : State) → IsValid old.dossier → AreCallOrders old.dossier.groups orders
    → IsDay terms orders ceilings old day evening → All (IsNotKeptWaiting evening ceilings) (entries evening)
seat_and_bed_never_both_idle terms orders ceilings old day evening valid calls is =
    (day_ends_so terms orders ceilings old day evening valid calls is).idle

-- In the evening of a day a programme has seats left only where each waiting wish of it is barred.
use Rattle.std.proofs.Common.{ℕ, ◌+◌, ◌<◌, ◌≡◌, Bool, true, false, not, ◌&&◌, ◌||◌, List, [], ◌∷◌, map, length, inl}
use Rattle.std.proofs.Common.{inr, refl, sym, ◌∙◌, ap, subst, arith, nat_eq, nat_lt, get_or, Option, Some, None}
use Rattle.std.specs.Prelude.{slice_index, IsTrue, IsSome}
use Rattle.std.specs.List.{All}
use Rattle.std.proofs.lemmas.Bool.{and_parts, and_from, cases_Bool, cases_order, eqb-true, eq-eqb, false≢true, ltb-true}
use Rattle.std.proofs.lemmas.Bool.{both_ways, false_from_ne_true, not-true, not_from_false}
use Rattle.std.proofs.lemmas.List.{get_or_default}
use Rattle.std.proofs.lemmas.List.Elements.{All-same, All-map}
use Rattle.std.proofs.lemmas.List.Folds.{Any-from_list_any, list_any_at}
use Rattle.std.proofs.lemmas.Slice.Zip.{length-zip, get_or-zip}
use Rattle.admit_core.specs.declared.dossier.Wish.{Wish}
use Rattle.admit_core.specs.declared.state.Mark.{Mark}
use Rattle.admit_core.specs.declared.state.Freed.{Freed}
use Rattle.admit_core.specs.declared.state.Stamp.{Stamp}
use Rattle.admit_core.specs.declared.ranking.CallOrder.{CallOrder}
use Rattle.admit_core.specs.DossierRows.{DossierRows, candidates_of}
use Rattle.admit_core.specs.CallOrder.{AreCallOrders}
use Rattle.admit_core.specs.Validity.{IsValid, IsApart}
use Rattle.admit_core.specs.State.{State, entries, is_live, is_waiting, is_school, has_school, holds_seat, holds_bed}
use Rattle.admit_core.specs.State.{seats_left}
use Rattle.admit_core.specs.Proposals.{is_behind_bar, is_barred, is_open, ahead, needs_no_seat, is_proposed}
use Rattle.admit_core.specs.AutoAnswer.{auto_mark, best_live}
use Rattle.admit_core.specs.Days.{offered, closing, freed_after, frees_nothing}
use Rattle.admit_core.specs.EveningLaws.{IsFilled, SeatsAreFilled}
use Rattle.admit_core.proofs.Tests.{filter_implied}
use Rattle.admit_core.proofs.DemandLaws.{not_over, not_barred_step}
use Rattle.admit_core.proofs.Holders.{holds, lives_with, marked_by, entries_marked, holds_after, held_before}
use Rattle.admit_core.proofs.Holders.{holder_has_wish}
use Rattle.admit_core.proofs.Counting.{nothing_freed}
use Rattle.admit_core.proofs.FilledSeats.{offer_if, live_or_offered, waits_still, auto_live, auto_waits, order_distinct}
use Rattle.admit_core.proofs.FilledSeats.{takers_fill}

-- the wish of an entry stands at its place
pub entry_wish : (s : State) (k : ℕ) (x : Wish × Mark) → k < length (entries s) → get_or (entries s) k x ≡ x
    → (k < length s.dossier.wishes) × (x.0 ≡ get_or s.dossier.wishes k x.0)
entry_wish s k x lt at =
    let ws = s.dossier.wishes in
    let ms = s.marks in
    let long = length-zip ws ms in
    let w_lt : k < length ws = omega (arith, long, lt) in
    let m_lt : k < length ms = omega (arith, long, lt) in
    (w_lt, ap (λ (e : Wish × Mark). e.0) (sym at ∙ get_or-zip ws ms k x w_lt m_lt))

pub school_is : (school : Option ℕ) (h : ℕ) → is_school school h ≡ true → school ≡ Some h
school_is None h t = absurd (false≢true t)
school_is (Some g) h t = ap Some (eqb-true g h t)

-- two wishes of one candidate at different places
apart_at : (d : DossierRows) → IsValid d → (j k : ℕ) (v w : Wish) → j < k → k < length d.wishes
    → v ≡ get_or d.wishes j v → w ≡ get_or d.wishes k w → IsApart v w
apart_at d valid j k v w below k_lt v_at w_at =
    let ws = d.wishes in
    let at_k : get_or ws k v ≡ w = get_or_default ws k v w k_lt ∙ sym w_at in
    subst (λ (u : Wish). IsApart v u) at_k (subst (λ (u : Wish). IsApart u (get_or ws k v)) (sym v_at)
    (valid.wishes_apart j k v below k_lt))

apart_rank : (v w : Wish) (h : ℕ) → IsApart v w → has_school v h ≡ true → has_school w h ≡ true
    → v.candidate ≡ w.candidate → v.board_rank ≡ w.board_rank
apart_rank v w h apart v_has w_has same =
    let v_school = school_is v.school h v_has in
    let some : IsSome v.school = rw v_school refl in
    (apart.ranks some (v_school ∙ sym (school_is w.school h w_has))).1 same

-- two wishes of a candidate with the same school have the same rank there
pub same_rank : (d : DossierRows) → IsValid d → (j k : ℕ) (v w : Wish) (h : ℕ) → j < length d.wishes
    → k < length d.wishes → v ≡ get_or d.wishes j v
    → w ≡ get_or d.wishes k w → has_school v h ≡ true → has_school w h ≡ true → v.candidate ≡ w.candidate
    → v.board_rank ≡ w.board_rank
same_rank d valid j k v w h j_lt k_lt v_at w_at v_has w_has same =
    let ws = d.wishes in
    elim (cases_order j k) [
      | inl equal ↦
          let there : get_or ws j w ≡ w = rw equal (sym w_at) in
          ap (λ (u : Wish). u.board_rank) (v_at ∙ get_or_default ws j v w j_lt ∙ there)
      | inr differ ↦
          elim differ [
            | inl below ↦ apart_rank v w h (apart_at d valid j k v w below k_lt v_at w_at) v_has w_has same
            | inr above ↦ sym (apart_rank w v h (apart_at d valid k j w v above j_lt w_at v_at) w_has v_has (sym same))
          ]
    ]

module _ (o : State) (orders : List CallOrder) (bars : List ℕ) (stamp : Stamp) where
  abbrev pub offer : Wish → Mark → Mark
  offer w m = offer_if stamp (is_proposed o orders bars w m) m

  abbrev pub after_offers : State
  after_offers = offered o orders bars stamp

  abbrev pub closed : State
  closed = closing o orders bars stamp

  abbrev pub answer : Wish → Mark → Mark
  answer w m = auto_mark stamp (best_live after_offers w.candidate) w m

  -- automatic answers give nobody a seat or a bed
  pub held_after_offers : (test : Wish → Bool) (c : ℕ) → holds test closed c ≡ true → holds test after_offers c ≡ true
  held_after_offers test c t = held_before test after_offers answer c (λ w m live.
      auto_live stamp (best_live after_offers w.candidate) w m live) t

  -- where they free nothing, who held a seat after the offers holds it
  seat_kept : IsTrue (frees_nothing (freed_after o orders bars stamp)) → (p : ℕ) → p < length o.dossier.programmes
      → (c : ℕ) → holds_seat after_offers c p ≡ true → holds_seat closed c p ≡ true
  seat_kept none p lt c held =
      let freed = freed_after o orders bars stamp in
      let parts = and_parts (nat_eq freed.seats 0) (nat_eq freed.beds 0) none in
      nothing_freed (λ x q. holds_seat after_offers x q) (λ x q. holds_seat closed x q) (length o.dossier.programmes)
      (candidates_of o.dossier)
      (eqb-true freed.seats 0 parts.0) c p (holder_has_wish (λ w. nat_eq w.programme p) after_offers c held) lt held

  -- then a programme that the pass filled is full in the evening
  pub full_in_evening : IsTrue (frees_nothing (freed_after o orders bars stamp)) → (p : ℕ)
      → p < length o.dossier.programmes
      → seats_left after_offers p ≡ 0 → seats_left closed p ≡ 0
  full_in_evening none p lt full =
      let more = filter_implied (λ c. holds_seat after_offers c p) (λ c. holds_seat closed c p) (seat_kept none p lt)
      (candidates_of o.dossier) in
      omega (arith, more, full)

  -- who is behind the bar of a school gets no bed there
  pub no_bed : IsValid o.dossier → (k : ℕ) (x : Wish × Mark) → k < length (entries o) → get_or (entries o) k x ≡ x
      → (h : ℕ) → has_school x.0 h ≡ true
      → not (holds_bed o x.0.candidate h) ≡ true → slice_index bars h < x.0.board_rank
      → holds_bed closed x.0.candidate h ≡ false
  no_bed valid k x lt at h has free over =
      let w = x.0 in
      let c = w.candidate in
      let in_h = λ (u : Wish). has_school u h in
      let w_place = entry_wish o k x lt at in
      false_from_ne_true (holds_bed closed c h) (λ held.
      let (j, e, e_lt, e_at, lives) = Any-from_list_any (λ (e : Wish × Mark). lives_with in_h c (marked_by offer e))
      (entries o)
      (sym (holds_after in_h o offer c) ∙ held_after_offers in_h c held) in
      let v = e.0 in
      let m = e.1 in
      let v_place = entry_wish o j e e_lt e_at in
      let outer = and_parts (is_live (offer v m) && nat_eq v.candidate c) (has_school v h) lives in
      let inner = and_parts (is_live (offer v m)) (nat_eq v.candidate c) outer.0 in
      let is_c = eqb-true v.candidate c inner.1 in
      elim (live_or_offered stamp (is_proposed o orders bars v m) m inner.0) [
        | inl proposed ↦
            let opens = (and_parts (is_open o bars v m)
            (needs_no_seat o orders v || nat_lt (ahead o orders bars v) (seats_left o v.programme)) proposed).0 in
            let v_free : not (holds_bed o v.candidate h) ≡ true = rw is_c free in
            let le = not_over o bars v v.school h outer.1 v_free
            (not_barred_step (is_waiting m) (is_behind_bar o bars v v.school) opens) in
            let same = same_rank o.dossier valid j k v w h v_place.0 w_place.0 v_place.1 w_place.1 outer.1 has is_c in
            omega (arith, le, same, over)
        | inr was_live ↦
            let here : lives_with in_h c e ≡ true = and_from (is_live m && nat_eq v.candidate c) (has_school v h)
            (and_from (is_live m) (nat_eq v.candidate c) was_live inner.1) outer.1 in
            let held_bed : holds_bed o c h ≡ true = list_any_at (lives_with in_h c) (entries o) j e e_lt
            (rw e_at here) in
            both_ways (holds_bed o c h) (not-true (holds_bed o c h) free) held_bed
      ])

  -- so they are behind it in the evening
  still_behind : IsValid o.dossier → (k : ℕ) (x : Wish × Mark) → k < length (entries o) → get_or (entries o) k x ≡ x
      → (school : Option ℕ) → x.0.school ≡ school
      → is_behind_bar o bars x.0 school ≡ true → is_behind_bar closed bars x.0 school ≡ true
  still_behind valid k x lt at None is t = t
  still_behind valid k x lt at (Some h) is t =
      let c = x.0.candidate in
      let parts = and_parts (not (holds_bed o c h)) (nat_lt (slice_index bars h) x.0.board_rank) t in
      let has : has_school x.0 h ≡ true = rw is (eq-eqb h h refl) in
      let bedless = no_bed valid k x lt at h has parts.0 (ltb-true (slice_index bars h) x.0.board_rank parts.1) in
      rw bedless parts.1

  -- a wish that waits in the evening is barred, or its programme is full
  filled_at : IsValid o.dossier → AreCallOrders o.dossier.groups orders
      → IsTrue (frees_nothing (freed_after o orders bars stamp))
      → (k : ℕ) (x : Wish × Mark) → k < length (entries o) → get_or (entries o) k x ≡ x
      → IsFilled closed bars (marked_by answer (marked_by offer x))
  filled_at valid calls none k x lt at waits seats =
      let w = x.0 in
      let m = x.1 in
      let proposed = is_proposed o orders bars w m in
      let still = waits_still stamp proposed m
      (auto_waits stamp (best_live after_offers w.candidate) w (offer w m) waits) in
      let place = entry_wish o k x lt at in
      elim (cases_Bool (is_barred o bars w m)) [
        | inl barred ↦
            let parts = and_parts (is_waiting m) (is_behind_bar o bars w w.school) barred in
            and_from (is_waiting (answer w (offer w m))) (is_behind_bar closed bars w w.school) waits
            (still_behind valid k x lt at w.school refl parts.1)
        | inr not_barred ↦
            let opens : is_open o bars w m ≡ true = and_from (is_waiting m) (not (is_barred o bars w m)) still.1
            (not_from_false (is_barred o bars w m) not_barred) in
            let full = takers_fill o orders bars stamp w m
            (order_distinct o.dossier orders valid calls w.programme) opens still.0 in
            let there : w.programme < length o.dossier.programmes = rw place.1 (valid.wishes k w place.0).programme in
            absurd (omega (arith, seats, full_in_evening none w.programme there full))
      ]

  filled_evening : IsValid o.dossier → AreCallOrders o.dossier.groups orders
      → IsTrue (frees_nothing (freed_after o orders bars stamp))
      → All (IsFilled closed bars) (entries closed)
  filled_evening valid calls none =
      let P : Wish × Mark → Type 0 = IsFilled closed bars in
      All-same P (entries closed) (map (marked_by answer) (map (marked_by offer) (entries o)))
      (entries_marked after_offers answer ∙ ap (map (marked_by answer)) (entries_marked o offer))
      (All-map P (marked_by answer) (map (marked_by offer) (entries o))
      (All-map (λ (e : Wish × Mark). P (marked_by answer e)) (marked_by offer) (entries o)
      (λ k d lt. filled_at valid calls none k (get_or (entries o) k d) lt
      (get_or_default (entries o) k (get_or (entries o) k d) d lt))))

pub seats_are_filled : SeatsAreFilled
seats_are_filled orders ceilings day k s [] evening valid calls passes = absurd passes
seats_are_filled orders ceilings day k s (pass ∷ []) evening valid calls passes =
    let stamp : Stamp = record { day = day; pass = k } in
    let bars = pass.pass.bars in
    let none = subst (λ (f : Freed). IsTrue (frees_nothing f)) passes.0.freed passes.1 in
    rw passes.2 (filled_evening s orders bars stamp valid calls none)
seats_are_filled orders ceilings day k s (pass ∷ (next ∷ rest)) evening valid calls passes =
    let stamp : Stamp = record { day = day; pass = k } in
    seats_are_filled orders ceilings day (k + 1) (closing s orders pass.pass.bars stamp)
    (next ∷ rest) evening valid calls passes.2

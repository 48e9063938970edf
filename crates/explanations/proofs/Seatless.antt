-- Who has an open wish that was not proposed finds no seat.
use Rattle.std.proofs.Common.{ℕ, ◌<◌, ◌≡◌, Bool, true, false, ◌||◌, List, length, inl, inr, nat_eq, nat_le, nat_lt}
use Rattle.std.specs.Prelude.{IsTrue}
use Rattle.std.proofs.lemmas.Bool.{and_cases, and_parts, both_ways, eqb-true, false_from_ne_true, leb-false, ltb-false}
use Rattle.std.proofs.lemmas.Bool.{or_parts}
use Rattle.admit_core.specs.declared.dossier.Wish.{Wish}
use Rattle.admit_core.specs.declared.ranking.CallOrder.{CallOrder}
use Rattle.admit_core.specs.declared.state.Mark.{Mark}
use Rattle.admit_core.specs.declared.state.Stamp.{Stamp}
use Rattle.admit_core.specs.CallOrder.{AreCallOrders}
use Rattle.admit_core.specs.DossierRows.{limit_of}
use Rattle.admit_core.specs.Validity.{IsValid}
use Rattle.admit_core.specs.State.{State, holds_seat, seats_left}
use Rattle.admit_core.specs.Proposals.{ahead, is_open, is_proposed, needs_no_seat, position_of}
use Rattle.admit_core.specs.Days.{closing, freed_after, frees_nothing}
use Rattle.admit_core.proofs.Evenings.{full_in_evening, held_after_offers}
use Rattle.admit_core.proofs.FilledSeats.{order_distinct, takers_fill}
use Rattle.round.proofs.NewHolders.{becomes_live}
use Rattle.explanations.specs.Sayings.{FindsNoSeat}

module _ (o : State) (orders : List CallOrder) (bars : List ℕ) (stamp : Stamp) where
  -- whether a seat is there for a wish
  abbrev has_seat : Wish → Bool
  has_seat w = needs_no_seat o orders w || nat_lt (ahead o orders bars w) (seats_left o w.programme)

  -- it is there for all of a candidate's wishes in a programme alike
  same_seat : (v w : Wish) → v.candidate ≡ w.candidate → v.programme ≡ w.programme → has_seat v ≡ true
      → has_seat w ≡ true
  same_seat v w same_candidate same_programme t = rw (← same_candidate, ← same_programme) t

  pub finds_none : (w : Wish) (m : Mark) → IsValid o.dossier → AreCallOrders o.dossier.groups orders
      → IsTrue (frees_nothing (freed_after o orders bars stamp))
      → w.programme < length o.dossier.programmes → is_open o bars w m ≡ true → is_proposed o orders bars w m ≡ false
      → FindsNoSeat (closing o orders bars stamp) w (ahead o orders bars w)
      (seats_left o w.programme) (position_of o orders w) (limit_of o.dossier w.programme)
  finds_none w m valid called none there opens not_proposed =
      let c = w.candidate in
      let p = w.programme in
      let night = closing o orders bars stamp in
      let in_p = λ (u : Wish). nat_eq u.programme p in
      let within = nat_le (position_of o orders w) (limit_of o.dossier p) in
      let early = nat_lt (ahead o orders bars w) (seats_left o p) in
      let no_seat : has_seat w ≡ false =
      elim (and_cases (is_open o bars w m) (has_seat w) not_proposed) [
        | inl not_open ↦ absurd (both_ways (is_open o bars w m) not_open opens)
        | inr neither ↦ neither
      ] in
      let neither = or_parts (needs_no_seat o orders w) early no_seat in
      let needs = or_parts (holds_seat o c p) within neither.0 in
      record {
        taken = ltb-false (ahead o orders bars w) (seats_left o p) neither.1;
        beyond = leb-false (position_of o orders w) (limit_of o.dossier p) needs.1;
        seatless = false_from_ne_true (holds_seat night c p) (λ held.
            let new = becomes_live o orders bars stamp in_p c
            (held_after_offers o orders bars stamp in_p c held) needs.0 in
            let v = new.entry.0 in
            let parts = and_parts (is_open o bars v new.entry.1) (has_seat v) new.offers in
            both_ways (has_seat w) no_seat (same_seat v w (eqb-true v.candidate c new.own)
            (eqb-true v.programme p new.passes) parts.1));
        filled = full_in_evening o orders bars stamp none p there (takers_fill o orders bars stamp w
            m (order_distinct o.dossier orders valid called p) opens not_proposed);
      }

-- No bed goes past a barred wish, and offers go by the two lists.
use Rattle.std.proofs.Common.{ℕ, ◌<◌, ◌≤◌, ◌≡◌, Bool, true, false, not, ◌&&◌, List, [], ◌∷◌, length, Option, Some, None}
use Rattle.std.proofs.Common.{inl, inr, refl, sym, ◌∙◌, ap, arith, nat_eq, nat_lt, zip}
use Rattle.std.specs.Prelude.{if◌then◌else◌, slice_get, slice_index}
use Rattle.std.specs.List.{list_any}
use Rattle.std.proofs.lemmas.Bool.{and_cases, and_from, and_parts, both_ways, cases_Bool, eq-eqb, eqb-true, false≢true}
use Rattle.std.proofs.lemmas.Bool.{lt-ltb, ltb-false, ltb-true, or_left, or_right, or_cases, not-false}
use Rattle.std.proofs.lemmas.List.Elements.{All-from_recursion, recursion_from_All}
use Rattle.admit_core.specs.declared.dossier.Wish.{Wish}
use Rattle.admit_core.specs.declared.ranking.CallOrder.{CallOrder}
use Rattle.admit_core.specs.declared.records.Terms.{Terms}
use Rattle.admit_core.specs.declared.state.Mark.{Mark}
use Rattle.admit_core.specs.declared.state.Stamp.{Stamp}
use Rattle.admit_core.specs.declared.state.Status.TheVariants.{Offered}
use Rattle.admit_core.specs.Answers.{after}
use Rattle.admit_core.specs.AutoAnswer.{auto_all}
use Rattle.admit_core.specs.Days.{offered}
use Rattle.admit_core.specs.DossierRows.{DossierRows}
use Rattle.admit_core.specs.Lapses.{AreTermsFor, lapse}
use Rattle.admit_core.specs.Lists.{is_among}
use Rattle.admit_core.specs.Proposals.{before, is_behind_bar, is_open, is_proposed}
use Rattle.admit_core.specs.State.{State, changed_to, entries, has_school, holds_bed, holds_seat, is_live, is_waiting}
use Rattle.admit_core.proofs.DemandLaws.{not_barred_step}
use Rattle.admit_core.proofs.Evenings.{school_is}
use Rattle.admit_core.proofs.FilledSeats.{offered_lives}
use Rattle.admit_core.proofs.Holders.{holds_after, lives_with, marked_by}
use Rattle.admit_core.proofs.Plain.{waits_open}
use Rattle.fairness.proofs.PassedOver.{nobody_is_passed_over}
use Rattle.linked_demand.proofs.Closing.{any_at}
use Rattle.campaign_laws.specs.Beds.{CameByBetterRank, GoesByTheTwoLists, IsBarredIn, NoBedGoesPastBarredWishes}
use Rattle.campaign_laws.specs.Beds.{OffersGoByTheTwoLists, has_bed, ranks_better}
use Rattle.campaign_laws.specs.Moments.{Opening, moments, openings}
use Rattle.campaign_laws.specs.PassedOver.{WaitsAt}
use Rattle.campaign_laws.proofs.GoneStays.{IsLaterOf, later_of_steps, terms_long}
use Rattle.campaign_laws.proofs.Holding.{held_already, held_or_offered, offers_to}
use Rattle.campaign_laws.proofs.OneMark.{KeptOrLapsed, KeptOrTouched, Marks, TouchedOf, a_lapse, an_answer}
use Rattle.campaign_laws.proofs.OneMark.{automatic_answers, lapsed_touched, marks_imply, of_kind, touched_any}
use Rattle.campaign_laws.proofs.PassedOver.{is_new_holder, waited_at, was_not_proposed}
use Rattle.campaign_laws.proofs.Walks.{Around, Nothing, SameDossier, Steps, all_along, all_both, all_imply}
use Rattle.campaign_laws.proofs.Walks.{around_openings, plain_steps, steps_by_openings, throughout}

-- an entry's wish is one of the dossier's
entry_any : (test : Wish → Bool) (ws : List Wish) (ms : List Mark) (q : Wish × Mark → Bool)
    → ((w : Wish) (m : Mark) → q (w, m) ≡ true → test w ≡ true)
    → list_any q (zip ws ms) ≡ true → list_any test ws ≡ true
entry_any test [] ms q implies t = t
entry_any test (w ∷ ws) [] q implies t = absurd (false≢true t)
entry_any test (w ∷ ws) (m ∷ ms) q implies t =
    elim (or_cases (q (w, m)) (list_any q (zip ws ms)) t) [
      | inl here ↦ or_left (test w) (list_any test ws) (implies w m here)
      | inr later ↦ or_right (test w) (list_any test ws) (entry_any test ws ms q implies later)
    ]

-- who is open and holds no bed of the school ranks no worse than its bar
within_bar : (s : State) (bars : List ℕ) (v : Wish) (school : Option ℕ) (h : ℕ) → school ≡ Some h
    → is_behind_bar s bars v school ≡ false
    → holds_bed s v.candidate h ≡ false → v.board_rank ≤ slice_index bars h
within_bar s bars v school h is open_there no_bed =
    let at_h : (not (holds_bed s v.candidate h) && nat_lt (slice_index bars h) v.board_rank) ≡ false =
    ap (is_behind_bar s bars v) (sym is) ∙ open_there in
    elim (and_cases (not (holds_bed s v.candidate h)) (nat_lt (slice_index bars h) v.board_rank) at_h) [
      | inl held ↦ absurd (both_ways (holds_bed s v.candidate h) no_bed (not-false (holds_bed s v.candidate h) held))
      | inr within ↦ ltb-false (slice_index bars h) v.board_rank within
    ]

beyond_bar : (s : State) (bars : List ℕ) (w : Wish) (school : Option ℕ) (h : ℕ) → school ≡ Some h
    → is_behind_bar s bars w school ≡ true
    → slice_index bars h < w.board_rank
beyond_bar s bars w school h is barred =
    let at_h : (not (holds_bed s w.candidate h) && nat_lt (slice_index bars h) w.board_rank) ≡ true =
    ap (is_behind_bar s bars w) (sym is) ∙ barred in
    ltb-true (slice_index bars h) w.board_rank
    (and_parts (not (holds_bed s w.candidate h)) (nat_lt (slice_index bars h) w.board_rank) at_h).1

-- who is proposed is behind no bar
open_of : (s : State) (orders : List CallOrder) (bars : List ℕ) (v : Wish) (m : Mark)
    → is_proposed s orders bars v m ≡ true → is_behind_bar s bars v v.school ≡ false
open_of s orders bars v m offers = not_barred_step (is_waiting m) (is_behind_bar s bars v v.school)
    (and_parts (is_open s bars v m) _ offers).0

module _ (orders : List CallOrder) (old : State) (w : Wish) (h : ℕ) (with_h : w.school ≡ Some h) where
  abbrev Keeps : State → State → Type 0
  Keeps s t = CameByBetterRank old h w s → CameByBetterRank old h w t

  by_marks : (s t : State) → Marks KeptOrTouched s t → Keeps s t
  by_marks s t marks came c now not_old = came c (held_already (λ v. has_school v h) s t c marks now) not_old

  better : (s : State) (bars : List ℕ) (c : ℕ) → is_behind_bar s bars w w.school ≡ true → holds_bed s c h ≡ false
      → (v : Wish) (m : Mark) → offers_to s orders bars (λ u. has_school u h) c (v, m) ≡ true
      → (nat_eq v.candidate c && has_school v h && nat_lt v.board_rank w.board_rank) ≡ true
  better s bars c barred no_bed v m offers =
      let outer = and_parts (is_proposed s orders bars v m && nat_eq v.candidate c) (has_school v h) offers in
      let inner = and_parts (is_proposed s orders bars v m) (nat_eq v.candidate c) outer.0 in
      let own = eqb-true v.candidate c inner.1 in
      let none : holds_bed s v.candidate h ≡ false = rw own no_bed in
      let within = within_bar s bars v v.school h (school_is v.school h outer.1) (open_of s orders bars v m inner.0)
      none in
      let beyond = beyond_bar s bars w w.school h with_h barred in
      and_from (nat_eq v.candidate c && has_school v h) (nat_lt v.board_rank w.board_rank)
      (and_from (nat_eq v.candidate c) (has_school v h) inner.1 outer.1)
      (lt-ltb v.board_rank w.board_rank (omega (arith, within, beyond)))

  by_offers : (s : State) (bars : List ℕ) (stamp : Stamp) → s.dossier ≡ old.dossier
      → is_behind_bar s bars w w.school ≡ true → Keeps s (offered s orders bars stamp)
  by_offers s bars stamp of barred came c now not_old =
      elim (cases_Bool (holds_bed s c h)) [
        | inl was ↦ came c was not_old
        | inr new ↦ elim (held_or_offered s orders bars stamp (λ v. has_school v h) c now) [
          | inl was ↦ absurd (both_ways (holds_bed s c h) new was)
          | inr offers ↦
              ap (λ (d : DossierRows). ranks_better d h w c) (sym of)
              ∙ entry_any (λ v. nat_eq v.candidate c && has_school v h && nat_lt v.board_rank w.board_rank)
              s.dossier.wishes s.marks
              (offers_to s orders bars (λ v. has_school v h) c) (better s bars c barred new) offers
        ]
      ]

  keeps_steps : (terms : Option Terms) → AreTermsFor old.dossier terms
      → Steps old.dossier terms orders (IsBarredIn w) Nothing Keeps
  keeps_steps terms fit = record {
    stays = λ s came. came;
    lapses = λ t day s is of. by_marks s (lapse t day s)
        (marks_imply KeptOrLapsed KeptOrTouched lapsed_touched (entries s) (entries (lapse t day s))
        (a_lapse t day s (terms_long old.dossier terms t fit is ∙ ap (λ (x : DossierRows). length x.wishes) (sym of))));
    answers = λ s stamp a of fits known. by_marks s (after s stamp a)
        (marks_imply (TouchedOf (of_kind a.kind s a.target)) KeptOrTouched (touched_any (of_kind a.kind s a.target))
        (entries s) (entries (after s stamp a))
        (an_answer s stamp a fits));
    offers = λ s day bars stamp of greatest known. by_offers s bars stamp of known;
    autos = λ s stamp of. by_marks s (auto_all s stamp) (automatic_answers s stamp);
  }

pub no_bed_goes_past : NoBedGoesPastBarredWishes
no_bed_goes_past terms orders d old days new w h fit are with_h barred =
    let xs = moments terms orders old days in
    let walk = steps_by_openings terms orders (IsBarredIn w) (Keeps orders old w h with_h) d old days new
    (keeps_steps orders old w h with_h terms fit) are
    (recursion_from_All (IsBarredIn w) (openings terms orders old days) barred) in
    let all = throughout (Keeps orders old w h with_h) (CameByBetterRank old h w) (λ s t step came. step came) old xs
    new walk
    (λ c now not_old. absurd (both_ways (holds_bed old c h) not_old now)) in
    All-from_recursion (CameByBetterRank old h w) xs all.moments

-- ---- the two lists
-- who is proposed is live in the programme after the offers
lives_there : (s : State) (orders : List CallOrder) (bars : List ℕ) (stamp : Stamp) (place : ℕ) (y : Wish) (m : Mark)
    → slice_get (entries s) place ≡ Some (y, m)
    → is_proposed s orders bars y m ≡ true → holds_seat (offered s orders bars stamp) y.candidate y.programme ≡ true
lives_there s orders bars stamp place y m at offers =
    let f : Wish → Mark → Mark = λ v n. if is_proposed s orders bars v n then changed_to Offered stamp n else n in
    let in_p : Wish → Bool = λ v. nat_eq v.programme y.programme in
    let live : is_live (f y m) ≡ true = rw offers (offered_lives m stamp) in
    let passes : lives_with in_p y.candidate (y, f y m) ≡ true =
    and_from (is_live (f y m) && nat_eq y.candidate y.candidate) (nat_eq y.programme y.programme)
    (and_from (is_live (f y m)) (nat_eq y.candidate y.candidate) live (eq-eqb y.candidate y.candidate refl))
    (eq-eqb y.programme y.programme refl) in
    holds_after in_p s f y.candidate ∙ any_at (λ e. lives_with in_p y.candidate (marked_by f e)) (entries s) place
    (y, m) at passes

-- of two with one school, who is behind its bar ranks worse than who is not, and has no bed
ranks_behind : (s : State) (bars : List ℕ) (w y : Wish) (school : Option ℕ) → is_behind_bar s bars w school ≡ true
    → is_behind_bar s bars y school ≡ false
    → has_bed s y.candidate school ≡ false → y.board_rank < w.board_rank
ranks_behind s bars w y None barred within no_bed = absurd (false≢true barred)
ranks_behind s bars w y (Some h) barred within no_bed =
    let le = within_bar s bars y (Some h) h refl within no_bed in
    let lt = beyond_bar s bars w (Some h) h refl barred in
    omega (arith, le, lt)

-- what is known around an opening
abbrev Known : State → ℕ → Wish → State → Type 0
Known old place w s = WaitsAt s place w × SameDossier old s

by_two_lists : (orders : List CallOrder) (old : State) (place : ℕ) (w : Wish) (o : Opening)
    → Around (Known old place w) orders o → GoesByTheTwoLists orders old w o
by_two_lists orders old place w o around y same =
    let s = o.state in
    let bars = o.bars in
    let (m, waits, not_proposed) = was_not_proposed s orders bars around.stamp place w around.after.0 in
    elim (cases_Bool (is_behind_bar s bars w w.school)) [
      | inl barred ↦
          let y_open : is_behind_bar s bars y w.school ≡ false =
          rw (← same.school) (open_of s orders bars y same.mark same.proposed) in
          let no_bed : has_bed s y.candidate w.school ≡ false = rw (← same.school) same.no_bed in
          inr (ranks_behind s bars w y w.school barred y_open no_bed)
      | inr unbarred ↦
          let opens : is_open s bars w m ≡ true = waits_open (is_waiting m) (is_behind_bar s bars w w.school) waits
          unbarred in
          let now : holds_seat (offered s orders bars around.stamp) y.candidate w.programme ≡ true =
          rw (← same.programme)
          (lives_there s orders bars around.stamp same.place y same.mark same.there same.proposed) in
          let was : holds_seat s y.candidate w.programme ≡ false = rw (← same.programme) same.no_seat in
          let among = nobody_is_passed_over s orders bars around.stamp w m y.candidate opens not_proposed
          (is_new_holder s (offered s orders bars around.stamp) w.programme y.candidate now was) in
          inl (ap (λ (x : DossierRows). is_among y.candidate (before (record old { dossier = x }) orders w))
          (sym around.before.1) ∙ among)
    ]

pub offers_go_by_the_two_lists : OffersGoByTheTwoLists
offers_go_by_the_two_lists terms orders d old days new place w fit are at =
    let xs = moments terms orders old days in
    let walk = plain_steps terms orders IsLaterOf d old days new
    (later_of_steps old.dossier terms orders Nothing Nothing fit) are in
    let waits = all_along IsLaterOf (λ s. WaitsAt s place w) (λ s t step later. waited_at s t place w step.1 later)
    old xs new walk at in
    let of = throughout IsLaterOf (SameDossier old) (λ s t step so_far. step.0 ∙ so_far) old xs new walk refl in
    let known = all_both (λ s. WaitsAt s place w) (SameDossier old) xs waits.moments of.moments in
    let around = around_openings (Known old place w) terms orders old days (waits.start, refl) known in
    All-from_recursion (GoesByTheTwoLists orders old w) (openings terms orders old days)
    (all_imply (Around (Known old place w) orders) (GoesByTheTwoLists orders old w) (by_two_lists orders old place w)
    (openings terms orders old days) around)

-- Nobody is passed over by whom a wish waits that no bar ever stopped.
use Rattle.std.proofs.Common.{ℕ, ◌≡◌, true, false, not, List, length, Option, None, inl, inr, refl, sym, ◌∙◌, ap}
use Rattle.std.proofs.Common.{nat_eq}
use Rattle.std.proofs.lemmas.Bool.{cases_Bool, false≢true, not_from_false}
use Rattle.std.proofs.lemmas.List.Elements.{All-from_recursion, recursion_from_All}
use Rattle.admit_core.specs.declared.dossier.Wish.{Wish}
use Rattle.admit_core.specs.declared.ranking.CallOrder.{CallOrder}
use Rattle.admit_core.specs.declared.records.Terms.{Terms}
use Rattle.admit_core.specs.declared.state.Mark.{Mark}
use Rattle.admit_core.specs.declared.state.Stamp.{Stamp}
use Rattle.admit_core.specs.declared.state.Status.TheVariants.{Offered}
use Rattle.admit_core.specs.Answers.{after}
use Rattle.admit_core.specs.AutoAnswer.{auto_all}
use Rattle.admit_core.specs.Days.{offered}
use Rattle.admit_core.specs.DossierRows.{DossierRows, candidates_of}
use Rattle.admit_core.specs.Lapses.{AreTermsFor, lapse}
use Rattle.admit_core.specs.Lists.{is_among}
use Rattle.admit_core.specs.Proposals.{before, is_behind_bar, is_open, is_proposed}
use Rattle.admit_core.specs.State.{State, entries, holds_seat, is_waiting, is_waiting_status, seat_holders}
use Rattle.admit_core.proofs.ClosedEvenings.{among_filter}
use Rattle.admit_core.proofs.Holders.{holder_has_wish}
use Rattle.admit_core.proofs.Plain.{waits_open}
use Rattle.admit_core.proofs.Statuses.{changed_status}
use Rattle.round.specs.PassLaws.{new_seat_holders}
use Rattle.fairness.proofs.PassedOver.{nobody_is_passed_over}
use Rattle.campaign_laws.specs.Moments.{Opening, moments, openings}
use Rattle.campaign_laws.specs.OneMark.{IsLater, IsLaterMark}
use Rattle.campaign_laws.specs.PassedOver.{CameFromBefore, IsUnbarred, NobodyIsEverPassedOver}
use Rattle.campaign_laws.specs.PassedOver.{NobodyIsPassedOverWithoutBoarding, WaitsAt}
use Rattle.campaign_laws.proofs.GoneStays.{later_steps, terms_long}
use Rattle.campaign_laws.proofs.Holding.{entry_before, held_already}
use Rattle.campaign_laws.proofs.OneMark.{KeptOrOffered, KeptOrTouched, Marks, TouchedOf, a_lapse, an_answer}
use Rattle.campaign_laws.proofs.OneMark.{automatic_answers, lapsed_touched, marks_imply, of_kind, offers_of_a_pass}
use Rattle.campaign_laws.proofs.OneMark.{KeptOrLapsed, touched_any}
use Rattle.campaign_laws.proofs.WaitingPlace.{as_marks}
use Rattle.campaign_laws.proofs.Walks.{Nothing, Steps, all_along, all_of, both, steps_by_openings, throughout}
use Rattle.campaign_laws.proofs.Walks.{with_fact}

-- a wish that waits has waited
pub waited_at : (s t : State) (place : ℕ) (w : Wish) → IsLater s t → WaitsAt t place w → WaitsAt s place w
waited_at s t place w later at =
    let (m, there, step) = entry_before (λ v x n. IsLaterMark x n) (entries s) (entries t) place w at.mark
    (as_marks (entries s) (entries t) later) at.there in
    record { mark = m; there = there; waits = ap is_waiting (sym (step.waited at.waits)) ∙ at.waits }

-- what waits after the offers was not proposed
pub was_not_proposed : (s : State) (orders : List CallOrder) (bars : List ℕ) (stamp : Stamp) (place : ℕ) (w : Wish)
    → WaitsAt (offered s orders bars stamp) place w
    → (m : Mark) × (is_waiting m ≡ true) × (is_proposed s orders bars w m ≡ false)
was_not_proposed s orders bars stamp place w at =
    let (m, there, step) = entry_before (KeptOrOffered s orders bars stamp) (entries s)
    (entries (offered s orders bars stamp)) place w at.mark (offers_of_a_pass s orders bars stamp) at.there in
    elim step [
      | inl kept ↦ (m, ap is_waiting (sym kept.1) ∙ at.waits, kept.0)
      | inr given ↦
          absurd (false≢true
          (sym (ap is_waiting given.1 ∙ ap is_waiting_status (changed_status Offered stamp m)) ∙ at.waits))
    ]

-- who is newly live in a programme after the offers
pub is_new_holder : (s t : State) (p c : ℕ) → holds_seat t c p ≡ true → holds_seat s c p ≡ false
    → is_among c (new_seat_holders s t p) ≡ true
is_new_holder s t p c now before =
    let has_wish = holder_has_wish (λ v. nat_eq v.programme p) t c now in
    among_filter (λ x. not (holds_seat s x p)) c (seat_holders t p)
    (among_filter (λ x. holds_seat t x p) c (candidates_of t.dossier) has_wish now)
    (not_from_false (holds_seat s c p) before)

module _ (orders : List CallOrder) (old : State) (place : ℕ) (w : Wish) where
  -- a step after which all who came stand before, if they did before it and the wish still waits
  abbrev Keeps : State → State → Type 0
  Keeps s t = WaitsAt t place w → CameFromBefore orders old w s → CameFromBefore orders old w t

  by_marks : (s t : State) → Marks KeptOrTouched s t → Keeps s t
  by_marks s t marks at came c now before =
      came c (held_already (λ v. nat_eq v.programme w.programme) s t c marks now) before

  by_offers : (s : State) (bars : List ℕ) (stamp : Stamp) → s.dossier ≡ old.dossier
      → is_behind_bar s bars w w.school ≡ false → Keeps s (offered s orders bars stamp)
  by_offers s bars stamp of unbarred at came c now not_old =
      elim (cases_Bool (holds_seat s c w.programme)) [
        | inl was ↦ came c was not_old
        | inr new ↦
            let (m, waits, not_proposed) = was_not_proposed s orders bars stamp place w at in
            let opens : is_open s bars w m ≡ true = waits_open (is_waiting m) (is_behind_bar s bars w w.school) waits
            unbarred in
            let among = nobody_is_passed_over s orders bars stamp w m c opens not_proposed
            (is_new_holder s (offered s orders bars stamp) w.programme c now new) in
            ap (λ (x : DossierRows). is_among c (before (record old { dossier = x }) orders w)) (sym of) ∙ among
      ]

  keeps_steps : (terms : Option Terms) → AreTermsFor old.dossier terms
      → Steps old.dossier terms orders (IsUnbarred w) Nothing Keeps
  keeps_steps terms fit = record {
    stays = λ s at came. came;
    lapses = λ t day s is of. by_marks s (lapse t day s)
        (marks_imply KeptOrLapsed KeptOrTouched lapsed_touched (entries s) (entries (lapse t day s))
        (a_lapse t day s
        (terms_long old.dossier terms t fit is ∙ ap (λ (x : DossierRows). length x.wishes) (sym of))));
    answers = λ s stamp a of fits known. by_marks s (after s stamp a)
        (marks_imply (TouchedOf (of_kind a.kind s a.target)) KeptOrTouched (touched_any (of_kind a.kind s a.target))
        (entries s) (entries (after s stamp a)) (an_answer s stamp a fits));
    offers = λ s day bars stamp of greatest known. by_offers s bars stamp of known;
    autos = λ s stamp of. by_marks s (auto_all s stamp) (automatic_answers s stamp);
  }

pub nobody_is_ever_passed_over : NobodyIsEverPassedOver
nobody_is_ever_passed_over terms orders d old days new place w fit are at unbarred =
    let Later : State → State → Type 0 = λ s t. IsLater s t × Keeps orders old place w s t in
    let walk = steps_by_openings terms orders (IsUnbarred w) Later d old days new
    (both old.dossier terms orders (IsUnbarred w) Nothing IsLater (Keeps orders old place w)
    (later_steps old.dossier terms orders (IsUnbarred w) Nothing fit) (keeps_steps orders old place w terms fit))
    are (recursion_from_All (IsUnbarred w) (openings terms orders old days) unbarred) in
    let xs = moments terms orders old days in
    let waits = all_along Later (λ s. WaitsAt s place w) (λ s t step later. waited_at s t place w step.0 later) old xs
    new walk at in
    let all = throughout (λ s t. Later s t × WaitsAt s place w × WaitsAt t place w) (CameFromBefore orders old w)
    (λ s t step came. step.0.1 step.2 came) old xs new (with_fact Later (λ s. WaitsAt s place w) old xs new walk waits)
    (λ c now before. absurd (false≢true (sym before ∙ now))) in
    All-from_recursion (CameFromBefore orders old w) xs all.moments

pub without_school : (w : Wish) (o : Opening) → w.school ≡ None → IsUnbarred w o
without_school w o none = rw none refl

pub nobody_is_passed_over_without_boarding : NobodyIsPassedOverWithoutBoarding
nobody_is_passed_over_without_boarding terms orders d old days new place w fit are at none =
    nobody_is_ever_passed_over terms orders d old days new place w fit are at
    (All-from_recursion (IsUnbarred w) (openings terms orders old days)
    (all_of (IsUnbarred w) (λ o. without_school w o none) (openings terms orders old days)))

-- Never more are live than there is room, or were live at first.
use Rattle.std.proofs.Common.{ℕ, ◌+◌, ◌≤◌, ◌≡◌, Bool, not, filter, List, [], ◌∷◌, length, max, Option, inl, inr, refl}
use Rattle.std.proofs.Common.{sym, ◌∙◌, ap, subst, arith, nat_eq}
use Rattle.std.specs.List.{enumerate_from}
use Rattle.std.proofs.lemmas.Bool.{cases_Bool}
use Rattle.std.proofs.lemmas.List.{length-map}
use Rattle.std.proofs.lemmas.List.FromFn.{length-enumerate_from}
use Rattle.std.proofs.lemmas.List.Elements.{All-from_recursion}
use Rattle.admit_core.specs.declared.dossier.School.{School}
use Rattle.admit_core.specs.declared.dossier.Wish.{Wish}
use Rattle.admit_core.specs.declared.ranking.CallOrder.{CallOrder}
use Rattle.admit_core.specs.declared.records.DayRecord.{DayRecord}
use Rattle.admit_core.specs.declared.records.Terms.{Terms}
use Rattle.admit_core.specs.declared.records.Terms.{Terms}
use Rattle.admit_core.specs.declared.state.Stamp.{Stamp}
use Rattle.admit_core.specs.Answers.{after}
use Rattle.admit_core.specs.AutoAnswer.{auto_all}
use Rattle.admit_core.specs.Boarding.{boarding}
use Rattle.admit_core.specs.CallOrder.{AreCallOrders}
use Rattle.admit_core.specs.Days.{Days, ceiling_on, ceilings_of, offered}
use Rattle.admit_core.specs.DossierRows.{DossierRows, beds_of, candidates_of, limit_of, seats_of}
use Rattle.admit_core.specs.Falls.{IsGreatest}
use Rattle.admit_core.specs.Lapses.{AreTermsFor, lapse}
use Rattle.admit_core.specs.State.{State, bed_holders, entries, has_school, holds_bed, holds_seat, seat_holders}
use Rattle.admit_core.specs.Validity.{IsValid}
use Rattle.admit_core.proofs.Holders.{holds}
use Rattle.admit_core.proofs.Tests.{filter_implied}
use Rattle.round.proofs.OfferLaws.{offers_fit_beds, offers_fit_seats}
use Rattle.campaign_laws.specs.Moments.{moments}
use Rattle.campaign_laws.specs.Room.{FitsBedsOf, FitsSeatsOf, NeverMoreThanBeds, NeverMoreThanSeats}
use Rattle.campaign_laws.proofs.GoneStays.{terms_long}
use Rattle.campaign_laws.proofs.Holding.{held_already}
use Rattle.campaign_laws.proofs.OneMark.{KeptOrLapsed, KeptOrTouched, Marks, TouchedOf, a_lapse, an_answer}
use Rattle.campaign_laws.proofs.OneMark.{automatic_answers, lapsed_touched, marks_imply, of_kind, touched_any}
use Rattle.campaign_laws.proofs.Walks.{HoldsThroughout, Nothing, SameDossier, Steps, plain_steps, same_dossier}
use Rattle.campaign_laws.proofs.Walks.{throughout}

-- those who pass a test are at most those who pass another, and those who pass the first alone
pub parted : (a b : ℕ → Bool) (xs : List ℕ) → length (filter b xs) ≤ length (filter a xs) + length
    (filter (λ x. not (a x)) (filter b xs))
parted a b [] = omega arith
parted a b (x ∷ xs) =
    let rest = parted a b xs in
    elim (cases_Bool (b x)) [
      | inl second ↦ elim (cases_Bool (a x)) [
        | inl first ↦ rw (second, first) (omega (arith, rest))
        | inr none ↦ rw (second, none) (omega (arith, rest))
      ]
      | inr none ↦ elim (cases_Bool (a x)) [
        | inl first ↦ rw (none, first) (omega (arith, rest))
        | inr neither ↦ rw (none, neither) (omega (arith, rest))
      ]
    ]

-- of seats and beds alike: the candidates who hold one
abbrev holders : (Wish → Bool) → State → List ℕ
holders test s = filter (holds test s) (candidates_of s.dossier)

abbrev NoMoreThan : (Wish → Bool) → ℕ → State → Type 0
NoMoreThan test n s = length (holders test s) ≤ n

-- a step that makes nobody live leaves no more holders
no_more : (test : Wish → Bool) (n : ℕ) (s t : State) → SameDossier s t → Marks KeptOrTouched s t → NoMoreThan test n s
    → NoMoreThan test n t
no_more test n s t same marks few =
    let fewer = filter_implied (holds test t) (holds test s) (λ c held. held_already test s t c marks held)
    (candidates_of t.dossier) in
    let those : length (filter (holds test s) (candidates_of t.dossier)) ≡ length (holders test s) =
    ap (λ (d : DossierRows). length (filter (holds test s) (candidates_of d))) same in
    omega (arith, fewer, those, few)

-- as long as the offers of a pass leave no more
abbrev OffersFit : List CallOrder → (Wish → Bool) → ℕ → DossierRows → Type 0
OffersFit orders test n d =
    (s : State) (day : ℕ) (bars : List ℕ) (stamp : Stamp) → s.dossier ≡ d
    → IsGreatest (boarding s orders (ceilings_of d day)) bars
    → NoMoreThan test n s → NoMoreThan test n (offered s orders bars stamp)

room_steps : (d : DossierRows) (terms : Option Terms) (orders : List CallOrder) (test : Wish → Bool) (n : ℕ)
    → AreTermsFor d terms → OffersFit orders test n d
    → Steps d terms orders Nothing Nothing (λ s t. NoMoreThan test n s → NoMoreThan test n t)
room_steps d terms orders test n fit offers_fit = record {
  stays = λ s few. few;
  lapses = λ t day s is of. no_more test n s (lapse t day s) refl
      (marks_imply KeptOrLapsed KeptOrTouched lapsed_touched (entries s) (entries (lapse t day s))
      (a_lapse t day s (terms_long d terms t fit is ∙ ap (λ (x : DossierRows). length x.wishes) (sym of))));
  answers = λ s stamp a of fits known. no_more test n s (after s stamp a)
      ((same_dossier d terms orders Nothing Nothing).answers s stamp a of fits known)
      (marks_imply (TouchedOf (of_kind a.kind s a.target)) KeptOrTouched (touched_any (of_kind a.kind s a.target))
      (entries s) (entries (after s stamp a))
      (an_answer s stamp a fits));
  offers = λ s day bars stamp of greatest known. offers_fit s day bars stamp of greatest;
  autos = λ s stamp of. no_more test n s (auto_all s stamp) refl (automatic_answers s stamp);
}

pub never_more_than_beds : NeverMoreThanBeds
never_more_than_beds terms orders d old days new h valid fit are lt =
    let test : Wish → Bool = λ w. has_school w h in
    let n = max (beds_of old.dossier h) (length (bed_holders old h)) in
    let fits : OffersFit orders test n old.dossier = λ s day bars stamp of greatest few.
    let ceilings = ceilings_of old.dossier day in
    let long : length ceilings ≡ length old.dossier.schools =
    length-map (enumerate_from 0 old.dossier.schools) (λ (x : ℕ × School). ceiling_on old.dossier day x.0 x.1)
    ∙ length-enumerate_from 0 old.dossier.schools in
    let valid_here = subst IsValid (sym of) valid in
    let taken = offers_fit_beds s orders ceilings bars stamp valid_here
    (long ∙ ap (λ (x : DossierRows). length x.schools) (sym of)) greatest.fits h (rw of lt) in
    let split = parted (λ c. holds_bed s c h) (λ c. holds_bed (offered s orders bars stamp) c h)
    (candidates_of s.dossier) in
    let beds : beds_of s.dossier h ≡ beds_of old.dossier h = ap (λ (x : DossierRows). beds_of x h) of in
    omega (arith, few, taken, split, beds) in
    let xs = moments terms orders old days in
    let walk = plain_steps terms orders (λ s t. NoMoreThan test n s → NoMoreThan test n t) d old days new
    (room_steps old.dossier terms orders test n fit fits) are in
    let all = throughout (λ s t. NoMoreThan test n s → NoMoreThan test n t) (NoMoreThan test n)
    (λ s t step few. step few) old xs new walk (omega arith) in
    All-from_recursion (FitsBedsOf old h) xs all.moments

pub seats_throughout : (terms : Option Terms) (orders : List CallOrder) (d : ℕ) (old : State) (days : List DayRecord)
    (new : State) (p : ℕ) → IsValid old.dossier
    → AreCallOrders old.dossier.groups orders → AreTermsFor old.dossier terms → Days terms orders d old days new
    → limit_of old.dossier p ≡ 0
    → HoldsThroughout (FitsSeatsOf old p) (moments terms orders old days) new
seats_throughout terms orders d old days new p valid called fit are no_limit =
    let test : Wish → Bool = λ w. nat_eq w.programme p in
    let n = max (seats_of old.dossier p) (length (seat_holders old p)) in
    let fits : OffersFit orders test n old.dossier = λ s day bars stamp of greatest few.
    let valid_here = subst IsValid (sym of) valid in
    let called_here = subst (λ (x : DossierRows). AreCallOrders x.groups orders) (sym of) called in
    let taken = offers_fit_seats s orders bars stamp valid_here called_here p in
    let split = parted (λ c. holds_seat s c p) (λ c. holds_seat (offered s orders bars stamp) c p)
    (candidates_of s.dossier) in
    let seats : seats_of s.dossier p ≡ seats_of old.dossier p = ap (λ (x : DossierRows). seats_of x p) of in
    let limit : limit_of s.dossier p ≡ 0 = ap (λ (x : DossierRows). limit_of x p) of ∙ no_limit in
    omega (arith, few, taken, split, seats, limit) in
    let xs = moments terms orders old days in
    let walk = plain_steps terms orders (λ s t. NoMoreThan test n s → NoMoreThan test n t) d old days new
    (room_steps old.dossier terms orders test n fit fits) are in
    throughout (λ s t. NoMoreThan test n s → NoMoreThan test n t) (NoMoreThan test n) (λ s t step few. step few) old
    xs new walk (omega arith)

pub never_more_than_seats : NeverMoreThanSeats
never_more_than_seats terms orders d old days new p valid called fit are lt no_limit =
    All-from_recursion (FitsSeatsOf old p) (moments terms orders old days)
    (seats_throughout terms orders d old days new p valid called fit are no_limit).moments

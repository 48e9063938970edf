-- The days after a cut are days of the cut campaign.
use Rattle.std.proofs.Common.{ℕ, ◌+◌, ◌-◌, ◌<◌, ◌≡◌, List, [], ◌∷◌, length, map, Option, Some, None, refl, sym, ◌∙◌, ap}
use Rattle.std.proofs.Common.{arith, subst, get_or, zip}
use Rattle.std.specs.Prelude.{ℤ, pos, ◌+ℤ◌, ◌-ℤ◌}
use Rattle.std.proofs.Math.ListN.{get_or-map as get_or-map_default}
use Rattle.std.proofs.lemmas.Int.{ints}
use Rattle.std.proofs.lemmas.List.{length-map}
use Rattle.std.proofs.lemmas.Simd.{map-map}
use Rattle.admit_core.specs.declared.dossier.Answer.{Answer}
use Rattle.admit_core.specs.declared.ranking.CallOrder.{CallOrder}
use Rattle.admit_core.specs.declared.records.DayRecord.{DayRecord}
use Rattle.admit_core.specs.declared.records.Lapse.{Lapse}
use Rattle.admit_core.specs.declared.records.Terms.{Terms}
use Rattle.admit_core.specs.declared.state.Mark.{Mark}
use Rattle.admit_core.specs.declared.state.Stamp.{Stamp}
use Rattle.admit_core.specs.Answers.{after_all}
use Rattle.admit_core.specs.Days.{Days, IsDay, after_lapse, answers_of, ceilings_of, closing, first_evening, first_mark}
use Rattle.admit_core.specs.Days.{lapsed_on, morning}
use Rattle.admit_core.specs.DossierRows.{DossierRows}
use Rattle.admit_core.specs.Lapses.{AreTermsFor, lapse, lapses_of, offer_day}
use Rattle.admit_core.specs.State.{State}
use Rattle.day_state.proofs.Independence.{dossier_after_all}
use Rattle.cut_laws.specs.Alike.{HaveEqualStatuses, undated, unstamped}
use Rattle.cut_laws.specs.Cut.{AlikeStatesGoOnAlike, CampaignsMayBeCut, OpenOffersDecide, StandAlike, cut_at, earlier}
use Rattle.cut_laws.specs.Cut.{terms_at}
use Rattle.cut_laws.proofs.Unstamped.{bare}
use Rattle.cut_laws.proofs.CutRows.{same_answers, same_ceilings, statuses_taken_in}
use Rattle.cut_laws.proofs.Dated.{AreApart, AreDated, no_mark}
use Rattle.cut_laws.proofs.DatedLapses.{lapse_dated, lapse_statuses, lapses_told, of_term, row_at, rows_dated}
use Rattle.cut_laws.proofs.DatedLapses.{rows_long, stand_dated, stand_rows}
use Rattle.cut_laws.proofs.DatedSteps.{answers_dated, closed_dated}
use Rattle.cut_laws.proofs.Days.{IsAlikeMorning, dawn_alike, day_alike, passes_alike}

-- open offers are dated alike, where offers lapse
abbrev pub Dates : ℕ → Option Terms → Option Terms → State → State → Type 0
Dates a None None s t = Unit {0}
Dates a (Some terms) (Some others) s t = (terms.term ≡ others.term) × AreDated a terms.before others.before s t
Dates a None (Some others) s t = ⊥
Dates a (Some terms) None s t = ⊥

-- ---- the steps of a day
pub record IsLapsedAlike (a : ℕ) (terms others : Option Terms) (s t : State) (late early : ℕ) : Type 0 where
  pub dossier : (after_lapse terms late s).dossier ≡ s.dossier
  pub other : (after_lapse others early t).dossier ≡ t.dossier
  pub statuses : HaveEqualStatuses (after_lapse terms late s) (after_lapse others early t)
  pub dates : Dates a terms others (after_lapse terms late s) (after_lapse others early t)
  pub told : map (λ (l : Lapse). record l { offered = l.offered -ℤ pos a }) (lapsed_on terms late s)
      ≡ lapsed_on others early t

pub lapsed_alike : (a : ℕ) (terms others : Option Terms) (s t : State) (late early : ℕ) → late ≡ early + a → 0 < early
    → HaveEqualStatuses s t → Dates a terms others s t → IsLapsedAlike a terms others s t late early
lapsed_alike a None None s t late early days begun e are = record {
  dossier = refl;
  other = refl;
  statuses = e;
  dates = tt;
  told = refl;
}
lapsed_alike a None (Some u) s t late early days begun e are = absurd are
lapsed_alike a (Some x) None s t late early days begun e are = absurd are
lapsed_alike a (Some x) (Some u) s t late early days begun e are =
    let same : of_term x.term u.before ≡ u = λ i. record { term = are.0 i; before = u.before } in
    record {
      dossier = refl;
      other = refl;
      statuses = subst (λ (v : Terms). HaveEqualStatuses (lapse x late s) (lapse v early t)) same
          (lapse_statuses a x.term x.before u.before s t late early e are.1 days);
      dates = (
        are.0,
        subst (λ (v : Terms). AreDated a x.before u.before (lapse x late s) (lapse v early t)) same
            (lapse_dated a x.term x.before u.before s t late early e are.1 days begun),
      );
      told = sym (lapses_told a x.term x.before u.before s t late early e are.1 days)
          ∙ ap (λ (v : Terms). lapses_of v early t) same;
    }

pub answered_alike : (a : ℕ) (terms others : Option Terms) (one other : Stamp) → AreApart a one other → (s t : State)
    → (answers same : List Answer) → HaveEqualStatuses s t → undated answers ≡ undated same
    → Dates a terms others s t → Dates a terms others (after_all s one answers) (after_all t other same)
answered_alike a None None one other apart s t answers same e they are = tt
answered_alike a None (Some u) one other apart s t answers same e they are = absurd are
answered_alike a (Some x) None one other apart s t answers same e they are = absurd are
answered_alike a (Some x) (Some u) one other apart s t answers same e they are =
    (are.0, answers_dated a x.before u.before one other apart s t answers same e they are.1)

pub closed_on : (a : ℕ) (terms others : Option Terms) (one other : Stamp) → AreApart a one other → (s t : State)
    (orders : List CallOrder) (bars : List ℕ) → HaveEqualStatuses s t → Dates a terms others s t
    → Dates a terms others (closing s orders bars one) (closing t orders bars other)
closed_on a None None one other apart s t orders bars e are = tt
closed_on a None (Some u) one other apart s t orders bars e are = absurd are
closed_on a (Some x) None one other apart s t orders bars e are = absurd are
closed_on a (Some x) (Some u) one other apart s t orders bars e are =
    (are.0, closed_dated a x.before u.before one other apart s t orders bars e are.1)

-- ---- the days of two dossiers, of which the second one's are numbered a days earlier
module _ (a : ℕ) (terms others : Option Terms) (orders : List CallOrder) (d c : DossierRows)
  where
    abbrev pub Kept : State → State → Type 0
    Kept s t = (s.dossier ≡ d) × (t.dossier ≡ c) × Dates a terms others s t

    day_there : (ceilings : List ℕ) (s t : State) (day : DayRecord) (evening : State) → a < day.day
        → undated (answers_of d day.day) ≡ undated (answers_of c (day.day - a)) → HaveEqualStatuses s t
        → Kept s t → IsDay terms orders ceilings s day evening
        → (other : State) × HaveEqualStatuses evening other × Kept evening other
        × IsDay others orders ceilings t (earlier a day) other
    day_there ceilings s t day evening later same_answers_here e kept is =
        let number = day.day - a in
        let days : day.day ≡ number + a = omega (arith, later) in
        let begun : 0 < number = omega (arith, later) in
        let lapsed = lapsed_alike a terms others s t day.day number days begun e kept.2 in
        let same_answers_there : undated (answers_of s.dossier day.day) ≡ undated (answers_of t.dossier number) =
        ap (λ (x : DossierRows). undated (answers_of x day.day)) kept.0 ∙ same_answers_here
        ∙ ap (λ (x : DossierRows). undated (answers_of x number)) (sym kept.1) in
        let alike : IsAlikeMorning terms others s t day.day number =
        record { statuses = lapsed.statuses; answers = same_answers_there } in
        let one : Stamp = record { day = day.day; pass = 0 } in
        let other : Stamp = record { day = number; pass = 0 } in
        let of_s = dossier_after_all (after_lapse terms day.day s) one (answers_of s.dossier day.day)
        ∙ lapsed.dossier ∙ kept.0 in
        let of_t = dossier_after_all (after_lapse others number t) other (answers_of t.dossier number)
        ∙ lapsed.other ∙ kept.1 in
        let dates = answered_alike a terms others one other (record { apart = days; after_first = begun })
        (after_lapse terms day.day s) (after_lapse others number t) (answers_of s.dossier day.day)
        (answers_of t.dossier number) lapsed.statuses same_answers_there lapsed.dates in
        let there = passes_alike orders ceilings day.day number Kept
        (λ u v bars k f keeps. (
          keeps.0,
          keeps.1,
          closed_on a terms others (record { day = day.day; pass = k }) (record { day = number; pass = k })
              (record { apart = days; after_first = begun }) u v orders bars f keeps.2,
        )) 1 (morning terms day.day s) (morning others number t) day.passes evening
        (dawn_alike terms others orders ceilings s t day number alike) (of_s, of_t, dates) is.passes in (
          there.0,
          there.1,
          there.2,
          day_alike terms others orders ceilings s t day number alike evening there.0
              (earlier a day).lapsed there.1
              (ap (map (λ (l : Lapse). record l { offered = l.offered -ℤ pos a })) is.lapsed ∙ lapsed.told) is there.3,
        )

    module _ (ceilings_alike : (day : ℕ) → a < day → ceilings_of d day ≡ ceilings_of c (day - a))
        (answers_alike : (day : ℕ) → a < day → undated (answers_of d day) ≡ undated (answers_of c (day - a))) where
      pub days_there : (days : List DayRecord) (number : ℕ) (s t last : State) → a < number
          → HaveEqualStatuses s t → Kept s t
          → Days terms orders number s days last
          → (other : State) × HaveEqualStatuses last other × Kept last other
          × Days others orders (number - a) t (map (earlier a) days) other
      days_there [] number s t last later e kept are =
          (t, ap unstamped (sym are) ∙ e, subst (λ (u : State). Kept u t) are kept, refl)
      days_there (day ∷ rest) number s t last later e kept are =
          let (evening, is_number, is_day, are_rest) = are in
          let first = day_there (ceilings_of s.dossier number) s t day evening (omega (arith, later, is_number))
          (answers_alike day.day (omega (arith, later, is_number))) e kept
          is_day in
          let ceilings : ceilings_of s.dossier number ≡ ceilings_of t.dossier (number - a) =
          ap (λ (x : DossierRows). ceilings_of x number) kept.0 ∙ ceilings_alike number later
          ∙ ap (λ (x : DossierRows). ceilings_of x (number - a)) (sym kept.1) in
          let next = days_there rest (number + 1) evening first.0 last (omega (arith, later)) first.1 first.2
          are_rest in
          let after_that : number + 1 - a ≡ number - a + 1 = omega (arith, later) in (
            next.0,
            next.1,
            next.2,
            (
              first.0,
              ap (λ n. n - a) is_number,
              subst (λ (cs : List ℕ). IsDay others orders cs t (earlier a day) first.0) ceilings first.3,
              subst (λ n. Days others orders n first.0 (map (earlier a) rest) next.0) after_that next.3,
            ),
          )

-- ---- the morning after the cut
pub taken_back : (o : ℤ) (a : ℕ) → o ≡ o -ℤ pos a +ℤ pos a
taken_back o a = grind (arith, ints)

pub first_dates : (a : ℕ) (terms : Option Terms) (evening : State) → AreTermsFor evening.dossier terms
    → length evening.marks ≡ length evening.dossier.wishes
    → Dates a terms (terms_at a terms evening) evening (first_evening (cut_at a evening))
first_dates a None evening fit long = tt
first_dates a (Some x) evening fit long = (
  refl,
  record {
    marks = long;
    others = length-map (map (λ (m : Mark). m.status) evening.marks) first_mark
        ∙ length-map evening.marks (λ (m : Mark). m.status);
    terms = fit;
    other_terms = rows_long before_cut x.before evening.marks (fit ∙ sym long) ∙ long ∙ sym fit;
    each = λ k lt offered.
        let b = get_or x.before k (pos 0) in
        let m : Mark = get_or evening.marks k no_mark in
        let there : get_or (first_evening (cut_at a evening)).marks k no_mark ≡ bare m =
        ap (λ (ms : List Mark). get_or ms k no_mark) (map-map first_mark (λ (y : Mark). y.status) evening.marks)
        ∙ get_or-map_default bare evening.marks k no_mark in
        taken_back (offer_day b m) a
        ∙ ap (λ o. o +ℤ pos a) (sym (row_at before_cut x.before evening.marks k (pos 0) (fit ∙ sym long) lt))
        ∙ ap (λ (n : Mark). offer_day (get_or (map before_cut (zip x.before evening.marks)) k (pos 0)) n +ℤ pos a)
        (sym there);
  },
)
  where
    before_cut : ℤ × Mark → ℤ
    before_cut y = offer_day y.0 y.1 -ℤ pos a

pub standing : (a : ℕ) (terms others : Option Terms) (s t : State) → HaveEqualStatuses s t → Dates a terms others s t
    → StandAlike a terms s others t
standing a None None s t e are = tt
standing a None (Some u) s t e are = absurd are
standing a (Some x) None s t e are = absurd are
standing a (Some x) (Some u) s t e are =
    (are.0, stand_rows a (zip x.before s.marks) (zip u.before t.marks) (rows_dated a x.before u.before s t e are.1))

-- the dates that stand alike
dates_of : (a : ℕ) (terms others : Option Terms) (s t : State) → HaveEqualStatuses s t → StandAlike a terms s others t
    → length s.marks ≡ length s.dossier.wishes → AreTermsFor s.dossier terms → AreTermsFor t.dossier others
    → Dates a terms others s t
dates_of a None None s t e stand long fit other_fit = tt
dates_of a None (Some u) s t e stand long fit other_fit = absurd stand
dates_of a (Some x) None s t e stand long fit other_fit = absurd stand
dates_of a (Some x) (Some u) s t e stand long fit other_fit =
    let wishes : length s.dossier.wishes ≡ length t.dossier.wishes =
    ap (λ (v : State). length v.dossier.wishes) e in
    let marks : length t.marks ≡ length s.marks =
    sym (length-map t.marks bare) ∙ sym (ap (λ (v : State). length v.marks) e) ∙ length-map s.marks bare in (
      stand.0,
      stand_dated a x.term x.before u.before s t e long fit (other_fit ∙ sym wishes ∙ sym fit) marks stand.1,
    )

pub open_offers_decide : OpenOffersDecide
open_offers_decide a terms others orders ceilings s t day evening e stand long fit other_fit later answers is =
    let there = day_there a terms others orders s.dossier t.dossier ceilings s t day evening later answers e
    (refl, refl, dates_of a terms others s t e stand long fit other_fit) is in (
      there.0,
      there.1,
      standing a terms others evening there.0 there.1 there.2.2,
      there.3,
    )

pub alike_states_go_on : AlikeStatesGoOnAlike
alike_states_go_on a terms others orders s t days last e stand long fit other_fit given are =
    let there = days_there a terms others orders s.dossier t.dossier given.ceilings given.answers days (a + 1) s t last
    (omega arith) e (refl, refl, dates_of a terms others s t e stand long fit other_fit) are in
    let one : a + 1 - a ≡ 1 = omega arith in (
      there.0,
      there.1,
      standing a terms others last there.0 there.1 there.2.2,
      subst (λ n. Days others orders n t (map (earlier a) days) there.0) one there.3,
    )

pub campaigns_may_be_cut : CampaignsMayBeCut
campaigns_may_be_cut terms orders a evening days last fit long are =
    let others = terms_at a terms evening in
    let c = cut_at a evening in
    let there = days_there a terms others orders evening.dossier c (λ day later. same_ceilings a day later evening)
    (λ day later. same_answers a day later evening) days (a + 1) evening (first_evening c) last (omega arith)
    (statuses_taken_in a evening) (refl, refl, first_dates a terms evening fit long) are in
    let one : a + 1 - a ≡ 1 = omega arith in (
      there.0,
      there.1,
      standing a terms others last there.0 there.1 there.2.2,
      subst (λ n. Days others orders n (first_evening c) (map (earlier a) days) there.0) one there.3,
    )

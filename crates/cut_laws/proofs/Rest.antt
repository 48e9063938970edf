-- The days of the cut campaign are days after the cut.
use Rattle.std.proofs.Common.{ℕ, ◌+◌, ◌-◌, ◌<◌, ◌≡◌, List, [], ◌∷◌, map, Option, refl, sym, ◌∙◌, ap, arith, subst}
use Rattle.std.specs.Prelude.{pos, ◌+ℤ◌, ◌-ℤ◌}
use Rattle.std.proofs.lemmas.Simd.{map-map}
use Rattle.admit_core.specs.declared.ranking.CallOrder.{CallOrder}
use Rattle.admit_core.specs.declared.records.DayRecord.{DayRecord}
use Rattle.admit_core.specs.declared.records.Lapse.{Lapse}
use Rattle.admit_core.specs.declared.records.Terms.{Terms}
use Rattle.admit_core.specs.declared.state.Stamp.{Stamp}
use Rattle.admit_core.specs.Days.{Days, IsDay, after_lapse, answers_of, ceilings_of, first_evening, lapsed_on, morning}
use Rattle.admit_core.specs.DossierRows.{DossierRows}
use Rattle.admit_core.specs.State.{State}
use Rattle.day_state.proofs.Independence.{dossier_after_all}
use Rattle.cut_laws.specs.Alike.{HaveEqualStatuses, undated, unstamped}
use Rattle.cut_laws.specs.Cut.{CutDaysAreTheRest, cut_at, later, terms_at}
use Rattle.cut_laws.proofs.Cut.{Kept, answered_alike, closed_on, first_dates, lapsed_alike, standing, taken_back}
use Rattle.cut_laws.proofs.CutRows.{same_answers, same_ceilings, statuses_taken_in}
use Rattle.cut_laws.proofs.Days.{IsAlikeMorning, dawn_alike, day_alike, passes_alike}

-- lapses that are dated earlier and then later again
each_itself : (ls : List Lapse) → map (λ (l : Lapse). l) ls ≡ ls
each_itself [] = refl
each_itself (l ∷ ls) = ap (λ rest. l ∷ rest) (each_itself ls)

told_back : (a : ℕ) (ls : List Lapse)
    → map (λ (l : Lapse). record l { offered = l.offered +ℤ pos a })
    (map (λ (l : Lapse). record l { offered = l.offered -ℤ pos a }) ls) ≡ ls
told_back a ls =
    map-map (λ (l : Lapse). record l { offered = l.offered +ℤ pos a })
    (λ (l : Lapse). record l { offered = l.offered -ℤ pos a }) ls
    ∙ (λ i. map (λ (l : Lapse). record l { offered = sym (taken_back l.offered a) i }) ls) ∙ each_itself ls

module _ (a : ℕ) (terms others : Option Terms) (orders : List CallOrder) (d c : DossierRows) where
  day_back : (ceilings : List ℕ) (s t : State) (day : DayRecord) (evening : State) → 0 < day.day
      → undated (answers_of d (day.day + a)) ≡ undated (answers_of c day.day) → HaveEqualStatuses s t
      → Kept a terms others orders d c s t → IsDay others orders ceilings t day evening
      → (left : State) × HaveEqualStatuses left evening × Kept a terms others orders d c left evening
      × IsDay terms orders ceilings s (later a day) left
  day_back ceilings s t day evening begun answers e kept is =
      let late = day.day + a in
      let lapsed = lapsed_alike a terms others s t late day.day refl begun e kept.2 in
      let same : undated (answers_of s.dossier late) ≡ undated (answers_of t.dossier day.day) =
      ap (λ (x : DossierRows). undated (answers_of x late)) kept.0 ∙ answers
      ∙ ap (λ (x : DossierRows). undated (answers_of x day.day)) (sym kept.1) in
      let alike : IsAlikeMorning others terms t s day.day late =
      record { statuses = sym lapsed.statuses; answers = sym same } in
      let one : Stamp = record { day = late; pass = 0 } in
      let other : Stamp = record { day = day.day; pass = 0 } in
      let of_s = dossier_after_all (after_lapse terms late s) one (answers_of s.dossier late)
      ∙ lapsed.dossier ∙ kept.0 in
      let of_t = dossier_after_all (after_lapse others day.day t) other (answers_of t.dossier day.day)
      ∙ lapsed.other ∙ kept.1 in
      let dates = answered_alike a terms others one other (record { apart = refl; after_first = begun })
      (after_lapse terms late s) (after_lapse others day.day t) (answers_of s.dossier late)
      (answers_of t.dossier day.day) lapsed.statuses same lapsed.dates in
      let there = passes_alike orders ceilings day.day late (λ v u. Kept a terms others orders d c u v)
      (λ v u bars k f keeps. (
        keeps.0,
        keeps.1,
        closed_on a terms others (record { day = late; pass = k }) (record { day = day.day; pass = k })
            (record { apart = refl; after_first = begun }) u v orders bars (sym f) keeps.2,
      )) 1 (morning others day.day t) (morning terms late s) day.passes evening
      (dawn_alike others terms orders ceilings t s day late alike) (of_s, of_t, dates) is.passes in (
        there.0,
        sym there.1,
        there.2,
        day_alike others terms orders ceilings t s day late alike evening there.0 (later a day).lapsed there.1
            (ap (map (λ (l : Lapse). record l { offered = l.offered +ℤ pos a })) (is.lapsed ∙ sym lapsed.told)
            ∙ told_back a (lapsed_on terms late s)) is there.3,
      )

  module _ (ceilings_alike : (day : ℕ) → a < day → ceilings_of d day ≡ ceilings_of c (day - a))
      (answers_alike : (day : ℕ) → a < day → undated (answers_of d day) ≡ undated (answers_of c (day - a))) where
    days_back : (days : List DayRecord) (number : ℕ) (s t last : State) → 0 < number → HaveEqualStatuses s t
        → Kept a terms others orders d c s t → Days others orders number t days last
        → (left : State) × HaveEqualStatuses left last × Kept a terms others orders d c left last
        × Days terms orders (number + a) s (map (later a) days) left
    days_back [] number s t last begun e kept are =
        (s, e ∙ ap unstamped are, subst (Kept a terms others orders d c s) are kept, refl)
    days_back (day ∷ rest) number s t last begun e kept are =
        let (evening, is_number, is_day, are_rest) = are in
        let back : number + a - a ≡ number = omega arith in
        let past : a < number + a = omega (arith, begun) in
        let here : day.day + a - a ≡ day.day = omega arith in
        let answers : undated (answers_of d (day.day + a)) ≡ undated (answers_of c day.day) =
        answers_alike (day.day + a) (omega (arith, begun, is_number))
        ∙ ap (λ n. undated (answers_of c n)) here in
        let first = day_back (ceilings_of t.dossier number) s t day evening (omega (arith, begun, is_number)) answers e
        kept is_day in
        let ceilings : ceilings_of t.dossier number ≡ ceilings_of s.dossier (number + a) =
        ap (λ (x : DossierRows). ceilings_of x number) kept.1
        ∙ sym (ceilings_alike (number + a) past ∙ ap (ceilings_of c) back)
        ∙ ap (λ (x : DossierRows). ceilings_of x (number + a)) (sym kept.0) in
        let next = days_back rest (number + 1) first.0 evening last (omega arith) first.1 first.2 are_rest in
        let after_that : number + 1 + a ≡ number + a + 1 = omega arith in (
          next.0,
          next.1,
          next.2,
          (
            first.0,
            ap (λ n. n + a) is_number,
            subst (λ (cs : List ℕ). IsDay terms orders cs s (later a day) first.0) ceilings first.3,
            subst (λ n. Days terms orders n first.0 (map (later a) rest) next.0) after_that next.3,
          ),
        )

pub cut_days_are_the_rest : CutDaysAreTheRest
cut_days_are_the_rest terms orders a evening days other fit long are =
    let others = terms_at a terms evening in
    let c = cut_at a evening in
    let there = days_back a terms others orders evening.dossier c (λ day past. same_ceilings a day past evening)
    (λ day past. same_answers a day past evening) days 1 evening (first_evening c) other (omega arith)
    (statuses_taken_in a evening) (refl, refl, first_dates a terms evening fit long) are in
    let number : 1 + a ≡ a + 1 = omega arith in (
      there.0,
      there.1,
      standing a terms others there.0 other there.1 there.2.2,
      subst (λ n. Days terms orders n evening (map (later a) days) there.0) number there.3,
    )

-- No bar falls overnight: those of the last pass still fit in the morning.
use Rattle.std.proofs.Common.{ℕ, ◌+◌, ◌<◌, ◌≡◌, List, [], ◌∷◌, length, Option, refl, sym, ◌∙◌, ap, subst, arith}
use Rattle.admit_core.specs.declared.ranking.CallOrder.{CallOrder}
use Rattle.admit_core.specs.declared.records.DayRecord.{DayRecord}
use Rattle.admit_core.specs.declared.records.PassEnd.{PassEnd}
use Rattle.admit_core.specs.declared.records.Terms.{Terms}
use Rattle.admit_core.specs.Boarding.{boarding}
use Rattle.admit_core.specs.CallOrder.{AreCallOrders}
use Rattle.admit_core.specs.Days.{Days, IsDay, Passes, answers_of, ceilings_of, lapsed_on, morning}
use Rattle.admit_core.specs.DossierRows.{DossierRows}
use Rattle.admit_core.specs.EveningLaws.{last_bars}
use Rattle.admit_core.specs.Falls.{Fits, IsAtMost, IsGreatest}
use Rattle.admit_core.specs.Lapses.{AreTermsFor}
use Rattle.admit_core.specs.State.{State}
use Rattle.admit_core.specs.Validity.{IsValid}
use Rattle.admit_core.proofs.ClosedEvenings.{free_at}
use Rattle.evening_laws.proofs.LastPass.{last_bars_still_fit}
use Rattle.campaign_laws.proofs.QuietDays.{evening_of_it, quiet_morning}
use Rattle.campaign_bars.specs.Overnight.{first_bars}

-- bars that fit under ceilings fit under higher ones
fit_under_higher : (s : State) (orders : List CallOrder) (lower upper bars : List ℕ) → IsAtMost lower upper
    → Fits (boarding s orders lower) bars → Fits (boarding s orders upper) bars
fit_under_higher s orders lower upper bars higher fits = record {
  under_ceilings = record {
    as_many = fits.under_ceilings.as_many ∙ higher.as_many;
    each = λ i. omega (arith, fits.under_ceilings.each i, higher.each i);
  };
  room = λ h lt.
      let within : h < length lower = omega (arith, lt, higher.as_many) in
      omega (arith, fits.room h within, free_at s orders lower h within, free_at s orders upper h lt);
}

first_is_greatest : (orders : List CallOrder) (ceilings : List ℕ) (day k : ℕ) (s : State) (passes : List PassEnd)
    (evening : State) → Passes orders ceilings day k s passes evening
    → IsGreatest (boarding s orders ceilings) (first_bars passes)
first_is_greatest orders ceilings day k s [] evening are = absurd are
first_is_greatest orders ceilings day k s (pass ∷ []) evening are = are.0.pass.greatest
first_is_greatest orders ceilings day k s (pass ∷ (next ∷ rest)) evening are = are.0.pass.greatest

pub no_bar_falls_overnight : (terms : Option Terms) (orders : List CallOrder) (d : ℕ) (old : State)
    (day next : DayRecord) (evening new : State) → IsValid old.dossier → AreCallOrders old.dossier.groups orders
    → AreTermsFor old.dossier terms → length old.marks ≡ length old.dossier.wishes
    → Days terms orders d old (day ∷ []) evening → Days terms orders (d + 1) evening (next ∷ []) new
    → IsAtMost (ceilings_of old.dossier d) (ceilings_of old.dossier (d + 1)) → next.lapsed ≡ []
    → answers_of old.dossier (d + 1) ≡ [] → IsAtMost (last_bars day.passes) (first_bars next.passes)
no_bar_falls_overnight terms orders n old day next evening new valid called fit long first second higher no_lapses
    no_answers =
    let d = old.dossier in
    let ceilings = ceilings_of d n in
    let is_day : IsDay terms orders ceilings old day evening =
    subst (λ (e : State). IsDay terms orders ceilings old day e) first.3 first.2 in
    let still_fit = last_bars_still_fit terms orders ceilings old day evening valid called is_day in
    let whole = evening_of_it d terms orders ceilings old day evening fit (record { of = refl; long = long }) is_day in
    let number : next.day ≡ n + 1 = second.1 in
    let lapsed : lapsed_on terms next.day evening ≡ [] = sym second.2.lapsed ∙ no_lapses in
    let silent : answers_of evening.dossier next.day ≡ [] = rw (whole.of, number) no_answers in
    let same = quiet_morning d terms next.day evening fit whole lapsed silent in
    let tomorrow : ceilings_of evening.dossier (n + 1) ≡ ceilings_of d (n + 1) =
    ap (λ (x : DossierRows). ceilings_of x (n + 1)) whole.of in
    let greatest = first_is_greatest orders (ceilings_of evening.dossier (n + 1)) next.day 1
    (morning terms next.day evening) next.passes second.0 second.2.passes in
    let here : IsGreatest (boarding evening orders (ceilings_of d (n + 1))) (first_bars next.passes) =
    subst (λ (s : State). IsGreatest (boarding s orders (ceilings_of d (n + 1))) (first_bars next.passes)) same
    (subst (λ (cs : List ℕ). IsGreatest (boarding (morning terms next.day evening) orders cs) (first_bars next.passes))
    tomorrow greatest) in
    here.greatest (last_bars day.passes)
    (fit_under_higher evening orders ceilings (ceilings_of d (n + 1)) (last_bars day.passes) higher still_fit)

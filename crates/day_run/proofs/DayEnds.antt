-- The next day of a campaign.
use Rattle.std.proofs.Common.{ℕ, ◌+◌, ◌≡◌, true, false, List, subst, sym, ap, refl, ◌∙◌, Option, Result, Ok, Err}
use Rattle.std.proofs.Common.{IsErrAnd}
use Rattle.admit_core.specs.declared.records.DayRecord.{DayRecord}
use Rattle.admit_core.specs.declared.records.Terms.{Terms}
use Rattle.admit_core.specs.Days.{ceilings_of, morning, unfit_on}
use Rattle.admit_core.specs.DossierRows.{DossierRows}
use Rattle.admit_core.specs.EveningLaws.{last_bars}
use Rattle.admit_core.specs.State.{State}
use Rattle.day_run.specs.CampaignDays.{EndsNextDay, Progress, Stage, moment_of, progress}
use Rattle.desk_day.proofs.DayEnds.{keeps_still, tells_none}
use Rattle.desk_day.proofs.ToldPasses.{told_nothing}
use Rattle.desk_day.specs.AnswersOn.{IsUnfitOf}
use Rattle.desk_day.specs.DayPasses.{TellsOfPasses}
use Rattle.desk_day.specs.DeskStates.{DeskStates}
use Rattle.desk_day.specs.RunDay.{EndsDay, Moment, IsDayDone}
use Rattle.desk_day.specs.declared.refusal.DayRefusal.{DayRefusal}

-- where it came about
pub next_ran : (old p : Progress) (terms : Option Terms) (shown ceilings bars : List ℕ) (d : DossierRows)
    (desk : DeskStates)
    (told told_after : List ℕ)
    (choice choice_after : List ℕ → List ℕ → ℕ) (done : DayRecord) → p ≡ old → terms ≡ p.terms → shown ≡ ceilings
    → ceilings ≡ ceilings_of d (p.day + 1) → d ≡ p.present.dossier
    → IsDayDone terms p.orders shown (p.day + 1) (moment_of (record { course = p; told = told; choice = choice })) done
    (record { desk = desk; told = told_after; choice = choice_after })
    → desk.present.dossier ≡ p.present.dossier → bars ≡ last_bars done.passes → choice_after ≡ choice
    → EndsNextDay (record { course = old; told = told; choice = choice })
    (record {
      course = progress p.orders p.terms (p.day + 1) true desk bars ceilings;
      told = told_after;
      choice = choice_after;
    })
    (Ok done)
next_ran old p terms shown ceilings bars d desk told told_after choice choice_after done is terms_are shown_are
    ceilings_are of_dossier day
    same bars_are kept =
    let before : Stage = record { course = p; told = told; choice = choice } in
    let after : Moment = record { desk = desk; told = told_after; choice = choice_after } in
    let own : ceilings ≡ ceilings_of p.present.dossier (p.day + 1) = ceilings_are
    ∙ ap (λ (x : DossierRows). ceilings_of x (p.day + 1)) of_dossier in
    let by_terms : IsDayDone p.terms p.orders shown (p.day + 1) (moment_of before) done after =
    subst (λ (t : Option Terms). IsDayDone t p.orders shown (p.day + 1) (moment_of before) done after) terms_are day in
    let is_done : IsDayDone p.terms p.orders (ceilings_of p.present.dossier (p.day + 1)) (p.day + 1)
    (moment_of before) done after =
    subst (λ (cs : List ℕ). IsDayDone p.terms p.orders cs (p.day + 1) (moment_of before) done after)
    (shown_are ∙ own) by_terms in
    let now = progress p.orders p.terms (p.day + 1) true desk bars ceilings in
    subst (λ (q : Progress). EndsNextDay (record { course = q; told = told; choice = choice })
    (record { course = now; told = told_after; choice = choice_after }) (Ok done)) is
    (record {
      runs = record { is_done = is_done; bars = bars_are; ceilings = own; counted = refl; has_day = refl };
      unfit = tt;
      stays = tt;
      same = record { orders = refl; terms = refl; dossier = same };
      unopened = tt;
      untold = tt;
      asked = tt;
      choice = kept;
    })

-- where there was no memory for it
pub next_refused : (old p : Progress) (desk : DeskStates) (told : List ℕ) (choice : List ℕ → List ℕ → ℕ)
    (terms : Option Terms) (refusal : DayRefusal) → p ≡ old → terms ≡ p.terms
    → IsUnfitOf p.present.dossier (p.day + 1) (unfit_on terms (p.day + 1) p.present) refusal
    → desk.present ≡ p.present → desk.opening ≡ p.opening
    → EndsNextDay (record { course = old; told = told; choice = choice })
    (record {
      course = progress p.orders p.terms p.day false desk p.bars p.ceilings;
      told = told;
      choice = choice;
    })
    (Err refusal)
next_refused old p desk told choice terms refusal is terms_are unfit present opening =
    let now = progress p.orders p.terms p.day false desk p.bars p.ceilings in
    subst (λ (q : Progress). EndsNextDay (record { course = q; told = told; choice = choice })
    (record { course = now; told = told; choice = choice }) (Err refusal)) is
    (record {
      runs = tt;
      unfit = subst (λ (t : Option Terms). IsUnfitOf p.present.dossier (p.day + 1)
          (unfit_on t (p.day + 1) p.present) refusal) terms_are unfit;
      stays = record { present = present; bars = refl; ceilings = refl; counted = refl; has_day = refl };
      same = record { orders = refl; terms = refl; dossier = ap (λ (s : State). s.dossier) present };
      unopened = keeps_still p.opening desk.opening opening refusal;
      untold = tells_none told told refl refusal;
      asked = told_nothing p.orders (ceilings_of p.present.dossier (p.day + 1)) (p.day + 1) choice
          (morning p.terms (p.day + 1) p.present) told;
      choice = refl;
    })

-- where it did not come about, along the roster
module _ (old p : Progress) (terms : Option Terms) (shown ceilings : List ℕ) (d : DossierRows) (desk : DeskStates)
    (told told_after : List ℕ) (choice choice_after : List ℕ → List ℕ → ℕ) (is : p ≡ old) (terms_are : terms ≡ p.terms)
    (shown_are : shown ≡ ceilings) (ceilings_are : ceilings ≡ ceilings_of d (p.day + 1))
    (of_dossier : d ≡ p.present.dossier) where
  abbrev EndsAs : Result DayRecord DayRefusal → Type 0
  EndsAs r = EndsNextDay (record { course = old; told = told; choice = choice })
      (record {
        course = progress p.orders p.terms p.day false desk p.bars p.ceilings;
        told = told_after;
        choice = choice_after;
      }) r

  abbrev DayEnds : DayRefusal → Type 0
  DayEnds refusal = EndsDay terms p.orders shown (p.day + 1)
      (moment_of (record { course = p; told = told; choice = choice }))
      (record { desk = desk; told = told_after; choice = choice_after }) (Err refusal)

  own_ceilings : shown ≡ ceilings_of p.present.dossier (p.day + 1)
  own_ceilings = shown_are ∙ ceilings_are ∙ ap (λ (x : DossierRows). ceilings_of x (p.day + 1)) of_dossier

  next_undone : (refusal : DayRefusal) → DayEnds refusal → EndsAs (Err refusal)
  next_undone refusal ends =
      let now = progress p.orders p.terms p.day false desk p.bars p.ceilings in
      let Asked : Option Terms → List ℕ → Type 0 =
      λ t cs. TellsOfPasses p.orders cs (p.day + 1) (morning t (p.day + 1) p.present) choice told told_after in
      subst (λ (q : Progress). EndsNextDay (record { course = q; told = told; choice = choice })
      (record { course = now; told = told_after; choice = choice_after }) (Err refusal)) is
      (record {
        runs = tt;
        unfit = subst (λ (t : Option Terms). IsUnfitOf p.present.dossier (p.day + 1)
            (unfit_on t (p.day + 1) p.present) refusal) terms_are ends.unfit;
        stays = record { present = ends.restored; bars = refl; ceilings = refl; counted = refl; has_day = refl };
        same = record { orders = refl; terms = refl; dossier = ends.dossier };
        unopened = ends.unopened;
        untold = ends.untold;
        asked = subst (λ (t : Option Terms). Asked t (ceilings_of p.present.dossier (p.day + 1))) terms_are
            (subst (λ (cs : List ℕ). Asked terms cs) own_ceilings ends.asked);
        choice = ends.choice;
      })

  pub next_stopped : (refusal : DayRefusal) (r : Result DayRecord DayRefusal) → IsErrAnd r (λ x. x ≡ refusal)
      → DayEnds refusal → EndsAs r
  next_stopped refusal (Ok day) from ends = absurd from
  next_stopped refusal (Err other) from ends =
      subst (λ (x : DayRefusal). EndsAs (Err x)) (sym from) (next_undone refusal ends)

-- The desk after the days that were played.
use Rattle.std.proofs.Common.{◌≡◌, ◌∙◌, ℕ, suc, ◌+◌, ◌-◌, Bool, List, [], ◌∷◌, None, Some, Result, Ok, Err, ap, arith}
use Rattle.std.proofs.Common.{length, map, option_map, refl, subst, sym, Option}
use Rattle.std.specs.Prelude.{slice_get}
use Rattle.std.specs.Result.{ForOk}
use Rattle.std.proofs.lemmas.List.{length-map}
use Rattle.std.proofs.lemmas.Option.{slice_get-map}
use Rattle.admit_core.specs.CallOrder.{AreCallOrders}
use Rattle.admit_core.specs.Days.{ceilings_of}
use Rattle.admit_core.specs.DossierRows.{DossierRows}
use Rattle.admit_core.specs.EveningLaws.{last_bars}
use Rattle.admit_core.specs.Explanations.{LastPass}
use Rattle.admit_core.specs.declared.ranking.CallOrder.{CallOrder}
use Rattle.admit_core.specs.declared.records.DayRecord.{DayRecord}
use Rattle.admit_core.specs.declared.records.PassEnd.{PassEnd}
use Rattle.admit_core.specs.declared.records.Terms.{Terms}
use Rattle.admit_core.specs.declared.refusal.Refusal.{Refusal}
use Rattle.desk_day.specs.DeskStates.{DeskStates}
use Rattle.desk_day.specs.KeptDays.{kept_day, kept_end}
use Rattle.desk_day.specs.LastPasses.{IsLastPass, last_pass}
use Rattle.desk_day.proofs.LastBars.{length-ceilings_of}
use Rattle.desk_day.proofs.PassEnds.{desk_ends_so}
use Rattle.request.specs.declared.pickers.PickerChoice.{PickerChoice}
use Rattle.round.specs.KeptFalls.{IsKeptOf}
use Rattle.played.specs.LastDays.{IsDeskAfter, IsLastOf, pass_on}
use Rattle.played.specs.Lent.{Lent}
use Rattle.played.specs.PlayedDays.{DaysEndAfter, IsNext, IsPlayed, Lead, Plan, Played, first_desk, lent_after}
use Rattle.played.specs.PlayedDays.{moment_of, plan_of}

-- a day that came about ended with its last pass
next_ends : (plan : Plan) (d : ℕ) (rows : DossierRows) (old : DeskStates) (before : Lent)
    (day : DayRecord) (new : DeskStates) → AreCallOrders rows.groups plan.orders
    → old.present.dossier ≡ rows
    → IsNext plan d old before day new → IsLastPass (pass_on rows plan.orders day new) new.present
next_ends plan d rows old before day new called same next =
    desk_ends_so plan.terms plan.orders (ceilings_of old.present.dossier d)
    (ceilings_of rows day.day) (last_bars day.passes) d (moment_of plan d old before)
    (moment_of plan d new (lent_after plan.who day before)) day
    (subst (λ (e : DossierRows). AreCallOrders e.groups plan.orders) (sym same) called)
    (length-ceilings_of old.present.dossier d) next.done
    (ap (λ (e : DossierRows). ceilings_of e d) same ∙ ap (ceilings_of rows) (sym next.done.rule.number)) refl

-- the last of several days is the last of all but the first
last_later : (one two : DayRecord) (days : List DayRecord) (day : DayRecord) → IsLastOf (one ∷ two ∷ days) day
    → IsLastOf (two ∷ days) day
last_later one two days day is =
    let at : length (one ∷ two ∷ days) - 1 ≡ suc (length days) = omega arith in
    let then : length (two ∷ days) - 1 ≡ length days = omega arith in
    let there : slice_get (one ∷ two ∷ days) (suc (length days)) ≡ Some day =
    subst (λ (n : ℕ). slice_get (one ∷ two ∷ days) n ≡ Some day) at is in
    subst (λ (n : ℕ). slice_get (two ∷ days) n ≡ Some day) (sym then) there

desk_after : (plan : Plan) (d : ℕ) (rows : DossierRows) (old : DeskStates) (before : Lent)
    (days : List DayRecord) (new : DeskStates) → AreCallOrders rows.groups plan.orders
    → old.present.dossier ≡ rows
    → Lead plan d old before days new → IsDeskAfter rows plan.orders days new
desk_after plan d rows old before [] new called same lead = record {
  dossier = ap (λ (s : DeskStates). s.present.dossier) (sym lead) ∙ same;
  last = λ day is. absurd (cc);
}
desk_after plan d rows old before (one ∷ []) new called same lead =
    let next = subst (λ (s : DeskStates). IsNext plan d old before one s) lead.2 lead.1 in
    record {
      dossier = next.dossier ∙ same;
      last = λ day is. let here : one ≡ day =
          cc in subst (λ (x : DayRecord). IsLastPass (pass_on rows plan.orders x new) new.present)
          here (next_ends plan d rows old before one new called same next);
    }
desk_after plan d rows old before (one ∷ two ∷ days) new called same lead =
    let later = desk_after plan (d + 1) rows lead.0 (lent_after plan.who one before)
    (two ∷ days) new called (lead.1.dossier ∙ same) lead.2 in
    record { dossier = later.dossier; last = λ day is. later.last day (last_later one two days day is) }

-- the desk at which days end is the one that they led to
desk_at : (rows : DossierRows) (orders : List CallOrder) (terms : Option Terms) (number : ℕ)
    (days : List DayRecord) (last : DeskStates) (end : Result DeskStates Refusal)
    → DaysEndAfter terms number days last end → IsDeskAfter rows orders days last
    → ForOk end (IsDeskAfter rows orders days)
desk_at rows orders terms number days last (Ok desk) ends is =
    λ x same.
    let here : last ≡ x = cc (ends.1, same) in
    subst (IsDeskAfter rows orders days) here is
desk_at rows orders terms number days last (Err refusal) ends is = λ x same. absurd (cc)

-- the desk after the days that were asked for
pub desk_played : (rows : DossierRows) (terms : Option Terms) (number : ℕ) (who : PickerChoice)
    (before : Lent) (played : Played) (after : Lent)
    → IsPlayed rows terms number who before played after
    → ForOk played.end (IsDeskAfter rows played.orders played.days)
desk_played rows terms number who before played after plays =
    desk_at rows played.orders terms number played.days plays.last played.end plays.ends
    (desk_after (plan_of terms who played) 1 rows (first_desk rows) before played.days plays.last plays.called refl
    plays.days)

-- of what is kept of days, where falls may be left out: the last one is kept of the last one
found_whole : (keeps : Bool) (found : Option DayRecord) (day : DayRecord)
    → option_map (kept_day keeps) found ≡ Some day → IsKeptOf (kept_day keeps) (λ whole. found ≡ Some whole) day
found_whole keeps None day is = absurd (cc)
found_whole keeps (Some whole) day is = (whole, refl, cc)

pub last_whole : (keeps : Bool) (days : List DayRecord) (day : DayRecord) → IsLastOf (map (kept_day keeps) days) day
    → IsKeptOf (kept_day keeps) (IsLastOf days) day
last_whole keeps days day is =
    found_whole keeps (slice_get days (length days - 1)) day
    (sym (slice_get-map (kept_day keeps) days (length days - 1))
    ∙ ap (λ (n : ℕ). slice_get (map (kept_day keeps) days) (n - 1)) (sym (length-map days (kept_day keeps))) ∙ is)

-- its last pass is that of the day
bars_kept : (keeps : Bool) (ends : List PassEnd) → last_bars (map (kept_end keeps) ends) ≡ last_bars ends
bars_kept keeps [] = refl
bars_kept keeps (end ∷ []) = refl
bars_kept keeps (end ∷ next ∷ ends) = bars_kept keeps (next ∷ ends)

pub pass_kept : (keeps : Bool) (d : DossierRows) (orders : List CallOrder) (kept day : DayRecord) (desk : DeskStates)
    → kept ≡ kept_day keeps day → pass_on d orders kept desk ≡ pass_on d orders day desk
pass_kept keeps d orders kept day desk same =
    ap (λ (x : DayRecord). pass_on d orders x desk) same
    ∙ ap (λ (bars : List ℕ). last_pass desk.opening orders (ceilings_of d day.day) bars) (bars_kept keeps day.passes)

pub desk_after_kept : (keeps : Bool) (d : DossierRows) (orders : List CallOrder) (days : List DayRecord)
    (desk : DeskStates) → IsDeskAfter d orders days desk → IsDeskAfter d orders (map (kept_day keeps) days) desk
desk_after_kept keeps d orders days desk is = record {
  dossier = is.dossier;
  last = λ day last.
      let whole = last_whole keeps days day last in
      subst (λ (pass : LastPass). IsLastPass pass desk.present)
      (sym (pass_kept keeps d orders day whole.0 desk whole.2)) (is.last whole.0 whole.1);
}

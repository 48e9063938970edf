-- The days that were played so far.
use Rattle.std.proofs.Common.{◌≡◌, ◌∙◌, ℕ, ◌+◌, ◌<◌, List, [], ◌∷◌, ◌++◌, Option, Result, Ok, Err, IsErrAnd}
use Rattle.std.proofs.Common.{IsSomeAnd, ap, append_assoc, arith, false, inr, length, None, refl, subst, sym}
use Rattle.std.proofs.lemmas.List.{append-nil, length-append}
use Rattle.admit_core.specs.CallOrder.{AreCallOrders}
use Rattle.admit_core.specs.Days.{Passes, ceilings_of, morning, unfit_on}
use Rattle.admit_core.specs.DossierRows.{DossierRows}
use Rattle.admit_core.specs.declared.records.DayRecord.{DayRecord}
use Rattle.admit_core.specs.declared.records.Terms.{Terms}
use Rattle.admit_core.specs.declared.refusal.Refusal.{Refusal}
use Rattle.desk_day.proofs.ToldPasses.{told_to_the_end}
use Rattle.desk_day.specs.AnswersOn.{unfit_refusal}
use Rattle.desk_day.specs.DeskStates.{DeskStates}
use Rattle.desk_day.specs.RunDay.{IsDayDone}
use Rattle.desk_day.specs.declared.refusal.DayRefusal.{DayRefusal}
use Rattle.desk_day.specs.declared.refusal.DayRefusal.TheVariants as refusals
use Rattle.request.specs.Pickers.{picker_on}
use Rattle.request.specs.declared.pickers.PickerChoice.{PickerChoice}
use Rattle.request.specs.declared.pickers.PickerName.{PickerName}
use Rattle.played.specs.Lent.{AreBack, Lent, Told, Untold, is_named, picked_by}
use Rattle.played.specs.OneDay.{TellsOfDay}
use Rattle.played.specs.PlayedDays.{BreaksAfter, BreaksDay, BreaksDays, EndsNext, IsNext, IsPlayed, Lead, Plan, Played}
use Rattle.played.specs.PlayedDays.{PlaysDays, RunMoment, first_desk, lent_after}
use Rattle.played.proofs.Naming.{back_again, back_untouched, picked_by-append, picked_none, told_more}

-- so many days were played, from a moment of a run to another
pub record SoFar (plan : Plan) (before : RunMoment) (played : ℕ) (days : List DayRecord)
    (after : RunMoment) : Type 0 where
  pub lead : Lead plan 1 before.desk before.pickers days after.desk
  pub number : length days ≡ played
  pub told : Told plan.who days before.pickers after.pickers
  pub back : AreBack before.pickers after.pickers

-- the pickers after several days
abbrev lents_after : PickerChoice → List DayRecord → Lent → Lent
lents_after who [] lent = lent
lents_after who (day ∷ days) lent = lents_after who days (lent_after who day lent)

told_after : (who : PickerChoice) (days : List DayRecord) (lent : Lent) (name : PickerName)
    → (lents_after who days lent).told name ≡ lent.told name ++ picked_by who name days
told_after who [] lent name = sym (append-nil (lent.told name))
told_after who (day ∷ days) lent name =
    told_after who days (lent_after who day lent) name
    ∙ append_assoc (lent.told name) (picked_by who name (day ∷ [])) (picked_by who name days)
    ∙ ap (λ l. lent.told name ++ l) (sym (picked_by-append who name (day ∷ []) days))

choice_after : (who : PickerChoice) (days : List DayRecord) (lent : Lent) (name : PickerName)
    → (lents_after who days lent).choice name ≡ lent.choice name
choice_after who [] lent name = refl
choice_after who (day ∷ days) lent name = choice_after who days (lent_after who day lent) name

-- a day speaks of its own picker alone
next_same : (plan : Plan) (d : ℕ) (old new : DeskStates) (one other : Lent) (day : DayRecord)
    → one.told (picker_on plan.who d) ≡ other.told (picker_on plan.who d)
    → one.choice (picker_on plan.who d) ≡ other.choice (picker_on plan.who d)
    → IsNext plan d old one day new → IsNext plan d old other day new
next_same plan d old new one other day told choice next =
    let name = picker_on plan.who d in
    let P : List ℕ → (List ℕ → List ℕ → ℕ) → Type 0 =
    λ t c.
    IsDayDone plan.terms plan.orders (ceilings_of old.present.dossier d) d (record { desk = old; told = t; choice = c })
    day
    (record { desk = new; told = t ++ picked_by plan.who name (day ∷ []); choice = c }) in
    record {
      done = subst (λ c. P (other.told name) c) choice (subst (λ t. P t (one.choice name)) told next.done);
      evening = next.evening;
      dossier = next.dossier;
    }

lead_more : (plan : Plan) (d : ℕ) (old : DeskStates) (before : Lent) (days : List DayRecord)
    (mid : DeskStates) (day : DayRecord) (new : DeskStates)
    → Lead plan d old before days mid
    → IsNext plan (d + length days) mid (lents_after plan.who days before) day new
    → Lead plan d old before (days ++ day ∷ []) new
lead_more plan d old before [] mid day new same next =
    let at : d + 0 ≡ d = omega arith in (
      new,
      subst (λ (desk : DeskStates). IsNext plan d desk before day new) (sym same)
          (subst (λ (n : ℕ). IsNext plan n mid before day new) at next),
      refl,
    )
lead_more plan d old before (first ∷ days) mid day new lead next =
    let at : d + length (first ∷ days) ≡ d + 1 + length days = omega arith in (
      lead.0,
      lead.1,
      lead_more plan (d + 1) lead.0 (lent_after plan.who first before) days mid day new lead.2
          (subst (λ (n : ℕ). IsNext plan n mid (lents_after plan.who days (lent_after plan.who first before)) day new)
          at next),
    )

-- memory ran out on a day: what was told of it, after what had been told
breaks_same : (plan : Plan) (d : ℕ) (old : DeskStates) (one other after : Lent)
    → ((name : PickerName) → one.told name ≡ other.told name)
    → one.choice (picker_on plan.who d) ≡ other.choice (picker_on plan.who d)
    → BreaksDay plan d old one after → BreaksDay plan d old other after
breaks_same plan d old one other after told choice breaks =
    let name = picker_on plan.who d in
    let P : List ℕ → (List ℕ → List ℕ → ℕ) → Type 0 =
    λ t c.
    TellsOfDay plan.orders plan.terms d (record { desk = old; told = t; choice = c }) (after.told name) in
    record {
      own = subst (λ c. P (other.told name) c) choice (subst (λ t. P t (one.choice name)) (told name) breaks.own);
      others = λ n none. breaks.others n none ∙ told n;
      fits = breaks.fits;
    }

-- a day that came about broke off behind its last pass
breaks_behind : (plan : Plan) (d : ℕ) (old : DeskStates) (before : Lent) (day : DayRecord) (new : DeskStates)
    (after : Lent) → IsNext plan d old before day new → Told plan.who (day ∷ []) before after
    → BreaksDay plan d old before after
breaks_behind plan d old before day new after next told =
    let name = picker_on plan.who d in
    let rule = next.done.rule in
    let ceilings = ceilings_of old.present.dossier d in
    let P : ℕ → Type 0 =
    λ n. Passes plan.orders ceilings n 1 (morning plan.terms n old.present) day.passes new.present in
    let other : (n : PickerName) → is_named n name ≡ false → is_named n (picker_on plan.who day.day) ≡ false =
    λ n none. ap (λ x. is_named n (picker_on plan.who x)) rule.number ∙ none in
    record {
      own = told_to_the_end plan.orders ceilings d (before.choice name) (morning plan.terms d old.present)
          (before.told name) (after.told name) day.passes new.present (subst P rule.number rule.is_day.passes)
          rule.chosen (told name ∙ rule.told);
      others = λ n none.
          told n ∙ ap (λ l. before.told n ++ l) (picked_none plan.who n day (other n none))
          ∙ append-nil (before.told n);
      fits = subst (λ (n : ℕ). unfit_on plan.terms n old.present ≡ None) rule.number rule.is_day.fits;
    }

-- memory ran out on the day after these
breaks_after : (plan : Plan) (d : ℕ) (old : DeskStates) (before : Lent) (days : List DayRecord) (mid : DeskStates)
    (after : Lent) → Lead plan d old before days mid
    → BreaksDay plan (d + length days) mid (lents_after plan.who days before) after
    → BreaksAfter plan d old before after days
breaks_after plan d old before [] mid after same breaks =
    let at : d + 0 ≡ d = omega arith in
    subst (λ (desk : DeskStates). BreaksDay plan d desk before after) (sym same)
    (subst (λ (n : ℕ). BreaksDay plan n mid before after) at breaks)
breaks_after plan d old before (first ∷ days) mid after lead breaks =
    let at : d + length (first ∷ days) ≡ d + 1 + length days = omega arith in (
      lead.0,
      lead.1,
      breaks_after plan (d + 1) lead.0 (lent_after plan.who first before) days mid after lead.2
          (subst (λ (n : ℕ). BreaksDay plan n mid (lents_after plan.who days (lent_after plan.who first before)) after)
          at breaks),
    )

-- the dossier stays as it was
pub lead_dossier : (plan : Plan) (d : ℕ) (old : DeskStates) (before : Lent) (days : List DayRecord)
    (new : DeskStates) → Lead plan d old before days new → new.present.dossier ≡ old.present.dossier
lead_dossier plan d old before [] new same = ap (λ (desk : DeskStates). desk.present.dossier) (sym same)
lead_dossier plan d old before (day ∷ days) new lead = lead_dossier plan (d + 1) lead.0
    (lent_after plan.who day before) days new lead.2 ∙ lead.1.dossier

pub nothing_played : (plan : Plan) (begun : RunMoment) (days : List DayRecord) → days ≡ []
    → SoFar plan begun 0 days begun
nothing_played plan begun days none =
    subst (λ (ds : List DayRecord). SoFar plan begun 0 ds begun) (sym none)
    (record {
      lead = refl;
      number = refl;
      told = λ name. sym (append-nil (begun.pickers.told name));
      back = back_untouched begun.pickers;
    })

told_nothing : (who : PickerChoice) (days : List DayRecord) (before after : Lent) → length days ≡ 0
    → Told who days before after → Untold before after
told_nothing who [] before after none told = λ name. told name ∙ append-nil (before.told name)
told_nothing who (day ∷ days) before after none told = absurd (omega (arith, none))

module _ (plan : Plan) (before : RunMoment) (played : ℕ) (days : List DayRecord) (mid : RunMoment)
    (so_far : SoFar plan before played days mid) where
  -- what holds of the dossier holds of it still
  pub still : (P : DossierRows → Type 0) → P before.desk.present.dossier → P mid.desk.present.dossier
  still P holds = subst P (sym (lead_dossier plan 1 before.desk before.pickers days mid.desk so_far.lead)) holds

  -- one more day
  pub played_on : (day : DayRecord) (more : List DayRecord) (after : RunMoment)
      → EndsNext plan (played + 1) mid (Ok day) after → more ≡ days ++ day ∷ []
      → SoFar plan before (played + 1) more after
  played_on day more after ends more_is =
      let at : played + 1 ≡ 1 + length days = omega (arith, so_far.number) in
      let name = picker_on plan.who (1 + length days) in
      subst (λ (ds : List DayRecord). SoFar plan before (played + 1) ds after) (sym more_is)
      (record {
        lead = lead_more plan 1 before.desk before.pickers days mid.desk day after.desk so_far.lead
            (next_same plan (1 + length days) mid.desk after.desk mid.pickers
            (lents_after plan.who days before.pickers) day
            (so_far.told name ∙ sym (told_after plan.who days before.pickers name))
            (so_far.back.choice name ∙ sym (choice_after plan.who days before.pickers name))
            (subst (λ (n : ℕ). IsNext plan n mid.desk mid.pickers day after.desk) at ends.done));
        number = omega (arith, so_far.number, length-append days (day ∷ []));
        told = told_more plan.who days day before.pickers mid.pickers after.pickers so_far.told ends.told;
        back = back_again before.pickers mid.pickers after.pickers so_far.back ends.back;
      })

  untold_still : (after : Lent) → Untold mid.pickers after → Told plan.who days before.pickers after
  untold_still after untold = λ name. untold name ∙ so_far.told name

  -- memory runs out on the next day, or after it
  broken : (number : ℕ) (after : Lent) → played < number → BreaksDay plan (played + 1) mid.desk mid.pickers after
      → BreaksDays plan number before.desk before.pickers after
  broken number after fewer breaks =
      let at : played + 1 ≡ 1 + length days = omega (arith, so_far.number) in
      inr (record {
        days = days;
        fewer = omega (arith, so_far.number, fewer);
        last = breaks_after plan 1 before.desk before.pickers days mid.desk after so_far.lead
            (breaks_same plan (1 + length days) mid.desk mid.pickers (lents_after plan.who days before.pickers) after
            (λ name. so_far.told name ∙ sym (told_after plan.who days before.pickers name))
            (let name = picker_on plan.who (1 + length days) in
            so_far.back.choice name ∙ sym (choice_after plan.who days before.pickers name))
            (subst (λ (n : ℕ). BreaksDay plan n mid.desk mid.pickers after) at breaks));
      })

  out_there : (number : ℕ) (kept : List DayRecord) (after : RunMoment) → played < number
      → BreaksDay plan (played + 1) mid.desk mid.pickers after.pickers → AreBack mid.pickers after.pickers
      → PlaysDays plan number before kept (Err refusals.OutOfMemory) after
  out_there number kept after fewer breaks back = record {
    last = mid.desk;
    lead = tt;
    stops = tt;
    told = tt;
    breaks = broken number after.pickers fewer breaks;
    back = back_again before.pickers mid.pickers after.pickers so_far.back back;
    idle = λ none. absurd (omega arith);
  }

  -- the next day does not come about
  stopped : (number : ℕ) (refusal : DayRefusal) (after : RunMoment) → played < number
      → EndsNext plan (played + 1) mid (Err refusal) after
      → PlaysDays plan number before days (Err refusal) after
  stopped number (refusals.Unfit refusal) after fewer ends =
      let at : played + 1 ≡ length days + 1 = omega (arith, so_far.number) in
      record {
        last = mid.desk;
        lead = so_far.lead;
        stops = record {
          fewer = omega (arith, so_far.number);
          unfit = subst (λ (n : ℕ). IsSomeAnd (unfit_on plan.terms n mid.desk.present)
              (λ x. refusal ≡ unfit_refusal mid.desk.present.dossier n x)) at ends.unfit;
        };
        told = untold_still after.pickers ends.undone;
        breaks = tt;
        back = back_again before.pickers mid.pickers after.pickers so_far.back ends.back;
        idle = λ none. absurd (omega arith);
      }
  stopped number refusals.OutOfMemory after fewer ends =
      out_there number days after fewer ends.undone ends.back

  pub plays_some : (number : ℕ) (refusal : DayRefusal) (after : RunMoment)
      (r : Result (Unit {0}) DayRefusal) → IsErrAnd r (λ x. x ≡ refusal) → played < number
      → EndsNext plan (played + 1) mid (Err refusal) after
      → PlaysDays plan number before days r after
  plays_some number refusal after (Ok done) from fewer ends = absurd from
  plays_some number refusal after (Err other) from fewer ends =
      subst (λ (x : DayRefusal). PlaysDays plan number before days (Err x) after) (sym from)
      (stopped number refusal after fewer ends)

  -- memory runs out after the next day
  pub plays_out : (number : ℕ) (day : DayRecord) (kept : List DayRecord) (after : RunMoment)
      (r : Result (Unit {0}) DayRefusal) → IsErrAnd r (λ x. x ≡ refusals.OutOfMemory)
      → played < number
      → EndsNext plan (played + 1) mid (Ok day) after → PlaysDays plan number before kept r after
  plays_out number day kept after (Ok done) from fewer ends = absurd from
  plays_out number day kept after (Err other) from fewer ends =
      subst (λ (x : DayRefusal). PlaysDays plan number before kept (Err x) after) (sym from)
      (out_there number kept after fewer
      (breaks_behind plan (played + 1) mid.desk mid.pickers day after.desk after.pickers ends.done ends.told) ends.back)

  pub plays_all : (number : ℕ) → played ≡ number → PlaysDays plan number before days (Ok tt) mid
  plays_all number all = record {
    last = mid.desk;
    lead = so_far.lead;
    stops = (so_far.number ∙ all, refl);
    told = so_far.told;
    breaks = tt;
    back = so_far.back;
    idle = λ none. told_nothing plan.who days before.pickers mid.pickers (so_far.number ∙ all ∙ none) so_far.told;
  }

-- what became of the days that were asked for
module _ (d : DossierRows) (number : ℕ) (plan : Plan) (before after : RunMoment) (days : List DayRecord)
    (end : Result DeskStates Refusal)
    (called : AreCallOrders d.groups plan.orders) (begun : before.desk ≡ first_desk d) where
  abbrev IsAll : Type 0
  IsAll = IsPlayed d plan.terms number plan.who before.pickers
      (record { orders = plan.orders; days = days; end = end }) after.pickers

  leads : (last : DeskStates) → Lead plan 1 before.desk before.pickers days last
      → Lead plan 1 (first_desk d) before.pickers days last
  leads last lead = subst (λ (desk : DeskStates). Lead plan 1 desk before.pickers days last) begun lead

  pub all_played : PlaysDays plan number before days (Ok tt) after → end ≡ Ok after.desk → IsAll
  all_played plays is = record {
    called = called;
    last = plays.last;
    days = leads plays.last plays.lead;
    ends = rw is plays.stops;
    told = plays.told;
  }

  pub cut_short : (refusal : Refusal)
      → PlaysDays plan number before days (Err (refusals.Unfit refusal)) after
      → end ≡ Err refusal → IsAll
  cut_short refusal plays is = record {
    called = called;
    last = plays.last;
    days = leads plays.last plays.lead;
    ends = rw is plays.stops;
    told = plays.told;
  }

-- a run of which no day is asked for
pub none_played : (d : DossierRows) (terms : Option Terms) (number : ℕ) (who : PickerChoice) (before : Lent)
    (played : Played) → AreCallOrders d.groups played.orders → played.days ≡ [] → played.end ≡ Ok (first_desk d)
    → number ≡ 0 → IsPlayed d terms number who before played before
none_played d terms number who before played called days end none = record {
  called = called;
  last = first_desk d;
  days = subst (λ (ds : List DayRecord).
      Lead (record { orders = played.orders; terms = terms; who = who }) 1 (first_desk d) before ds (first_desk d))
      (sym days) refl;
  ends = rw (end, days) (sym none, refl);
  told = subst (λ (ds : List DayRecord). Told who ds before before) (sym days)
      (λ name. sym (append-nil (before.told name)));
}

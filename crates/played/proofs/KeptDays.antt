-- Days that were played, of which the falls are kept or left out.
use Rattle.std.proofs.Common.{◌≡◌, ◌∙◌, ℕ, ◌+◌, ◌<◌, Bool, true, false, List, [], ◌∷◌, ◌++◌, Option, Result, Ok, Err}
use Rattle.std.proofs.Common.{IfErr, IfOk, IsErrAnd, ap, map, refl, subst, sym}
use Rattle.std.specs.Prelude.{MatchResult, OnErr, nat_lt}
use Rattle.std.proofs.lemmas.Bool.{lt-ltb}
use Rattle.admit_core.specs.CallOrder.{AreCallOrders}
use Rattle.admit_core.specs.Days.{ceilings_of, morning, unfit_on}
use Rattle.admit_core.specs.DossierRows.{DossierRows}
use Rattle.admit_core.specs.declared.ranking.CallOrder.{CallOrder}
use Rattle.admit_core.specs.declared.records.DayRecord.{DayRecord}
use Rattle.admit_core.specs.declared.records.Terms.{Terms}
use Rattle.admit_core.specs.declared.refusal.Refusal.{Refusal}
use Rattle.desk_day.proofs.KeptDays.{day_kept, day_whole, refusal_kept}
use Rattle.desk_day.proofs.KeptPasses.{kept_more}
use Rattle.desk_day.proofs.ToldPasses.{told_nothing}
use Rattle.desk_day.specs.AnswersOn.{IsUnfitOf}
use Rattle.desk_day.specs.DayPasses.{TellsOfPasses}
use Rattle.desk_day.specs.DeskStates.{DeskStates}
use Rattle.desk_day.specs.KeptDays.{kept_day, kept_result}
use Rattle.desk_day.specs.RunDay.{EndsDay, IsDayDone, Moment, TellsNoneUnfit}
use Rattle.desk_day.specs.declared.refusal.DayRefusal.{DayRefusal}
use Rattle.desk_day.specs.declared.refusal.DayRefusal.TheVariants as refusals
use Rattle.request.specs.declared.pickers.PickerChoice.{PickerChoice}
use Rattle.round.specs.KeptFalls.{IsKeptOf, are_kept}
use Rattle.round.specs.declared.falls.Falls.TheVariants.{Kept}
use Rattle.played.specs.KeptDays.{DayGrounds, DaysLeft, EndsWanted, IsPlayedKept, PlaysDaysKept, kept_played}
use Rattle.played.specs.LastDesks.{DeskLeft, EndsBy, IsLeftBy, desk_in}
use Rattle.played.specs.Lent.{Lent}
use Rattle.played.specs.OneDay.{DayEndsWith, TellsWhereUndone}
use Rattle.played.specs.PlayedDays.{BreaksDays, EndsNext, IsPlayed, OnFit, Plan, Played, RunMoment, first_desk}
use Rattle.played.specs.declared.wanted.Wanted.{Wanted}
use Rattle.played.proofs.DaysSoFar.{SoFar, all_played, cut_short, lead_dossier, none_played, nothing_played, played_on}
use Rattle.played.proofs.DaysSoFar.{plays_all, plays_out, plays_some, still}

-- one day with one picker
ok_so : {A E P : Type 0} (r : Result A E) → P → IfOk r (λ x. P)
ok_so (Ok x) p = p
ok_so (Err e) p = tt

-- what was told where it did not come about
undone_so : (terms : Option Terms) (orders : List CallOrder) (d : ℕ) (before after : Moment)
    (r : Result DayRecord DayRefusal) → IfErr r (TellsNoneUnfit before.told after.told)
    → OnErr r (TellsOfPasses orders (ceilings_of before.desk.present.dossier d) d
    (morning terms d before.desk.present) before.choice before.told after.told)
    → IfErr r (TellsWhereUndone orders terms d before after.told)
undone_so terms orders d before after (Ok day) untold asked = tt
undone_so terms orders d before after (Err (refusals.Unfit refusal)) untold asked = untold
undone_so terms orders d before after (Err refusals.OutOfMemory) untold asked = asked

undone_untold : (terms : Option Terms) (orders : List CallOrder) (d : ℕ) (before : Moment) (refusal : DayRefusal)
    → TellsWhereUndone orders terms d before before.told refusal
undone_untold terms orders d before (refusals.Unfit refusal) = refl
undone_untold terms orders d before refusals.OutOfMemory =
    told_nothing orders (ceilings_of before.desk.present.dossier d) d before.choice
    (morning terms d before.desk.present) before.told

ends_with : (terms : Option Terms) (orders : List CallOrder) (ceilings : List ℕ) (d : ℕ) (before after : Moment)
    (r : Result DayRecord DayRefusal) → ceilings ≡ ceilings_of before.desk.present.dossier d
    → EndsDay terms orders ceilings d before after r → DayEndsWith orders terms d before after r
ends_with terms orders ceilings d before after r same ends = record {
  done = subst (λ (cs : List ℕ). IfOk r (λ day. IsDayDone terms orders cs d before day after)) same ends.done;
  evening = ok_so r ends.evening;
  dossier = ok_so r ends.dossier;
  unfit = ends.unfit;
  undone = undone_so terms orders d before after r ends.untold
      (subst (λ (cs : List ℕ). OnErr r (TellsOfPasses orders cs d (morning terms d before.desk.present) before.choice
      before.told after.told)) same ends.asked);
  choice = ends.choice;
}

pub ends_with_kept : (keeps : Bool) (terms : Option Terms) (orders : List CallOrder) (ceilings : List ℕ) (d : ℕ)
    (before after : Moment) (r : Result DayRecord DayRefusal) → ceilings ≡ ceilings_of before.desk.present.dossier d
    → IsKeptOf (kept_result keeps) (EndsDay terms orders ceilings d before after) r
    → IsKeptOf (kept_result keeps) (DayEndsWith orders terms d before after) r
ends_with_kept keeps terms orders ceilings d before after r same ends =
    (ends.0, ends_with terms orders ceilings d before after ends.0 same ends.1, ends.2)

-- there was no memory for the day: nobody was asked
pub ends_early : (keeps : Bool) (terms : Option Terms) (orders : List CallOrder) (d : ℕ) (before : Moment)
    (now : DeskStates) (refusal : DayRefusal)
    → IsUnfitOf before.desk.present.dossier d (unfit_on terms d before.desk.present) refusal
    → IsKeptOf (kept_result keeps) (DayEndsWith orders terms d before
    (record { desk = now; told = before.told; choice = before.choice })) (Err refusal)
ends_early keeps terms orders d before now refusal unfit = (
  Err refusal,
  record {
    done = tt;
    evening = tt;
    dossier = tt;
    unfit = unfit;
    undone = undone_untold terms orders d before refusal;
    choice = refl;
  },
  refl,
)

-- what is said of days that fit, and of none other
fit_so : {Fact : Type 0} (r : Result (Unit {0}) DayRefusal) → Fact → OnFit r Fact
fit_so (Ok done) fact = fact
fit_so (Err (refusals.Unfit refusal)) fact = fact
fit_so (Err refusals.OutOfMemory) fact = tt

out_so : (Fact : Type 0) (r : Result (Unit {0}) DayRefusal) → IsErrAnd r (λ x. x ≡ refusals.OutOfMemory)
    → OnFit r Fact
out_so Fact (Ok done) is = absurd is
out_so Fact (Err e) is = subst (λ (x : DayRefusal). OnFit (Err x) Fact) (sym is) tt

-- the days so far
pub none_kept : (keeps : Bool) (plan : Plan) (begun : RunMoment) (kept : List DayRecord) → kept ≡ []
    → IsKeptOf (map (kept_day keeps)) (λ days. SoFar plan begun 0 days begun) kept
none_kept keeps plan begun kept none = ([], nothing_played plan begun [] refl, none)

module _ (keeps : Bool) {plan : Plan} {before mid : RunMoment} {played : ℕ} {kept : List DayRecord}
    (so_far : IsKeptOf (map (kept_day keeps)) (λ days. SoFar plan before played days mid) kept) where
  abbrev Next : RunMoment → Result DayRecord DayRefusal → Type 0
  Next after = IsKeptOf (kept_result keeps) (λ r. EndsNext plan (played + 1) mid r after)

  -- what holds of the dossier holds of it still
  pub kept_still : (P : DossierRows → Type 0) → P before.desk.present.dossier → P mid.desk.present.dossier
  kept_still = still plan before played so_far.0 mid so_far.1

  -- one more day
  pub kept_on : (day : DayRecord) (more : List DayRecord) (after : RunMoment) → Next after (Ok day)
      → more ≡ kept ++ day ∷ []
      → IsKeptOf (map (kept_day keeps)) (λ days. SoFar plan before (played + 1) days after) more
  kept_on day more after ends more_is =
      let next = day_kept keeps (λ r. EndsNext plan (played + 1) mid r after) day refl ends in (
        so_far.0 ++ next.0 ∷ [],
        played_on plan before played so_far.0 mid so_far.1 next.0 (so_far.0 ++ next.0 ∷ []) after next.1 refl,
        kept_more (kept_day keeps) so_far.0 next.0 kept more day so_far.2 next.2 more_is,
      )

  -- the next day does not come about
  pub kept_some : (number : ℕ) (refusal : DayRefusal) (after : RunMoment)
      (r : Result (Unit {0}) DayRefusal) → IsErrAnd r (λ x. x ≡ refusal) → played < number
      → Next after (Err refusal) → PlaysDaysKept keeps plan number before kept r after
  kept_some number refusal after r from fewer ends = record {
    days = so_far.0;
    plays = plays_some plan before played so_far.0 mid so_far.1 number refusal after r from fewer
        (refusal_kept keeps (λ r. EndsNext plan (played + 1) mid r after) refusal refl ends);
    keeps_so = fit_so r so_far.2;
  }

  -- memory runs out after the next day
  pub kept_out : (number : ℕ) (day : DayRecord) (found : List DayRecord) (after : RunMoment)
      (r : Result (Unit {0}) DayRefusal) → IsErrAnd r (λ x. x ≡ refusals.OutOfMemory) → played < number
      → Next after (Ok day) → PlaysDaysKept keeps plan number before found r after
  kept_out number day found after r from fewer ends =
      let next = day_kept keeps (λ r. EndsNext plan (played + 1) mid r after) day refl ends in
      record {
        days = found;
        plays = plays_out plan before played so_far.0 mid so_far.1 number next.0 found after r from fewer next.1;
        keeps_so = out_so _ r from;
      }

  pub kept_all : (number : ℕ) → played ≡ number → PlaysDaysKept keeps plan number before kept (Ok tt) mid
  kept_all number all = record {
    days = so_far.0;
    plays = plays_all plan before played so_far.0 mid so_far.1 number all;
    keeps_so = so_far.2;
  }

-- what was played, and what is kept of it
abbrev with_days : Plan → Result DeskLeft Refusal → List DayRecord → Played
with_days plan end days = record { orders = plan.orders; days = days; end = desk_in end }

abbrev IsAll : Wanted → DayGrounds → Lent → Lent → List DayRecord → Result DeskLeft Refusal → Type 0
IsAll wanted by before after kept end =
    EndsBy by.orders wanted.number (λ played. IsPlayedKept wanted by.dossier by.terms before played after) kept end

-- how the days that are wanted are run
abbrev plan_by : Wanted → DayGrounds → Plan
plan_by wanted by = record { orders = by.orders; terms = by.terms; who = wanted.who }

-- the days that are wanted, from a moment of a run to another
abbrev PlaysWanted : Wanted → DayGrounds → RunMoment → List DayRecord → Result (Unit {0}) DayRefusal
    → RunMoment → Type 0
PlaysWanted wanted by = PlaysDaysKept (are_kept wanted.falls) (plan_by wanted by) wanted.number

-- what became of them
module _ (wanted : Wanted) {by : DayGrounds} {before after : RunMoment} {kept : List DayRecord}
    {end : Result DeskLeft Refusal} (called : AreCallOrders by.dossier.groups by.orders)
    (begun : before.desk ≡ first_desk by.dossier) where
  pub all_kept : 0 < wanted.number
      → PlaysWanted wanted by before kept (Ok tt) after
      → end ≡ Ok (record { desk = after.desk; orders = by.orders; is_begun = true })
      → IsAll wanted by before.pickers after.pickers kept end
  all_kept some plays is = record {
    plays = (
      with_days (plan_by wanted by) end plays.days,
      all_played by.dossier wanted.number (plan_by wanted by) before after plays.days (desk_in end) called begun
          plays.plays (ap desk_in is),
      ap (with_days (plan_by wanted by) end) plays.keeps_so,
    );
    left = subst (λ (e : Result DeskLeft Refusal). IfOk e (IsLeftBy by.orders wanted.number)) (sym is)
        (record { by_orders = refl; begun = sym (lt-ltb 0 wanted.number some) });
  }

  pub cut_kept : (refusal : Refusal)
      → PlaysWanted wanted by before kept (Err (refusals.Unfit refusal)) after
      → end ≡ Err refusal → IsAll wanted by before.pickers after.pickers kept end
  cut_kept refusal plays is = record {
    plays = (
      with_days (plan_by wanted by) end plays.days,
      cut_short by.dossier wanted.number (plan_by wanted by) before after plays.days (desk_in end) called begun
          refusal plays.plays (ap desk_in is),
      ap (with_days (plan_by wanted by) end) plays.keeps_so,
    );
    left = subst (λ (e : Result DeskLeft Refusal). IfOk e (IsLeftBy by.orders wanted.number)) (sym is) tt;
  }

-- the desk after days is of the roster's dossier still
pub along_still : {keeps : Bool} {plan : Plan} {number : ℕ} {before after : RunMoment} {kept : List DayRecord}
    {d : DossierRows} → PlaysDaysKept keeps plan number before kept (Ok tt) after
    → d ≡ before.desk.present.dossier → d ≡ after.desk.present.dossier
along_still {plan = plan} {before = before} plays same =
    same
    ∙ sym (lead_dossier plan 1 before.desk before.pickers plays.days plays.plays.last plays.plays.lead)
    ∙ ap (λ (desk : DeskStates). desk.present.dossier) (sym plays.plays.stops.1)

-- memory ran out on one of the days
pub breaks_kept : (d : DossierRows) {keeps : Bool} {plan : Plan} {number : ℕ} {before after : RunMoment}
    {kept : List DayRecord} → before.desk ≡ first_desk d
    → PlaysDaysKept keeps plan number before kept (Err refusals.OutOfMemory) after
    → BreaksDays plan number (first_desk d) before.pickers after.pickers
breaks_kept d {plan = plan} {number = number} {before = before} {after = after} begun plays =
    subst (λ (desk : DeskStates). BreaksDays plan number desk before.pickers after.pickers) begun plays.plays.breaks

-- what is said where memory ran out
pub where_broken : {A E : Type 0} (P : A → Type 0) (Q : E → Type 0) (Breaks : Type 0) (r : Result A E)
    → IsErrAnd r Q → Breaks → MatchResult r P (λ _. Breaks)
where_broken P Q Breaks (Ok x) is breaks = absurd is
where_broken P Q Breaks (Err e) is breaks = breaks

-- along a roster, by the orders that it was made of
pub kept_by_orders : {keeps : Bool} {one other : List CallOrder} {terms : Option Terms} {who : PickerChoice}
    {number : ℕ} {before after : RunMoment} {kept : List DayRecord} {result : Result (Unit {0}) DayRefusal}
    → one ≡ other
    → PlaysDaysKept keeps (record { orders = one; terms = terms; who = who }) number before kept result after
    → PlaysDaysKept keeps (record { orders = other; terms = terms; who = who }) number before kept result after
kept_by_orders {keeps = keeps} {terms = terms} {who = who} {number = number} {before = before} {after = after}
    {kept = kept} {result = result} same plays =
    subst (λ (orders : List CallOrder).
    PlaysDaysKept keeps (record { orders = orders; terms = terms; who = who }) number before kept result after)
    same plays

-- a run of which no day is asked for
kept_none : (keeps : Bool) (played : Played) → played.days ≡ [] → played ≡ kept_played keeps played
kept_none keeps played none =
    ap (λ (days : List DayRecord). record { orders = played.orders; days = days; end = played.end })
    (none ∙ ap (map (kept_day keeps)) (sym none))

pub none_played_kept : (wanted : Wanted) (by : DayGrounds) (before : Lent) (days : List DayRecord)
    (end : Result DeskLeft Refusal) → AreCallOrders by.dossier.groups by.orders → days ≡ []
    → end ≡ Ok (record { desk = first_desk by.dossier; orders = by.orders; is_begun = false }) → wanted.number ≡ 0
    → IsAll wanted by before before days end
none_played_kept wanted by before days end called none is zero =
    let played : Played = record { orders = by.orders; days = days; end = desk_in end } in
    record {
      plays = (
        played,
        none_played by.dossier by.terms wanted.number wanted.who before played called none (ap desk_in is) zero,
        kept_none (are_kept wanted.falls) played none,
      );
      left = subst (λ (e : Result DeskLeft Refusal). IfOk e (IsLeftBy by.orders wanted.number)) (sym is)
          (record { by_orders = refl; begun = ap (nat_lt 0) (sym zero) });
    }

-- a run whose falls are all kept
days_whole : (days : List DayRecord) → map (kept_day true) days ≡ days
days_whole [] = refl
days_whole (day ∷ days) =
    ap (λ (first : DayRecord). first ∷ map (kept_day true) days) (day_whole day)
    ∙ ap (λ (rest : List DayRecord). day ∷ rest) (days_whole days)

pub played_whole : (played : Played) → kept_played true played ≡ played
played_whole played =
    ap (λ (days : List DayRecord). record { orders = played.orders; days = days; end = played.end })
    (days_whole played.days)

pub all_whole : {X E : Type 0} (number : ℕ) (who : PickerChoice) (by : DayGrounds) (before after : Lent)
    (left : X → DaysLeft) (r : Result X E)
    → EndsWanted (record { number = number; who = who; falls = Kept }) by before after r left
    → MatchResult r
    (λ x. EndsBy by.orders number (λ played. IsPlayed by.dossier by.terms number who before played after)
    (left x).days (left x).end)
    (λ _. BreaksDays (record { orders = by.orders; terms = by.terms; who = who }) number (first_desk by.dossier)
    before after)
all_whole number who by before after left (Ok x) ends = record {
  plays = subst (λ (played : Played). IsPlayed by.dossier by.terms number who before played after)
      (sym (played_whole ends.plays.0) ∙ sym ends.plays.2) ends.plays.1;
  left = ends.left;
}
all_whole number who by before after left (Err e) breaks = breaks

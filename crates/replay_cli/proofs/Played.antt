-- A job's days, and how the run ends after them.
use Rattle.std.proofs.Common.{◌≡◌, ◌∙◌, ℕ, ◌+◌, List, [], ◌∷◌, Option, None, Some, Result, Ok, Err, IfOk, IfSome}
use Rattle.std.proofs.Common.{IsSomeAnd, IsTrue, ap, inl, inr, option_map, refl, subst, sym}
use Rattle.std.specs.Prelude.{MatchResult, is_some, not}
use Rattle.std.proofs.lemmas.Bool.{cases_Bool, false≢true}
use Rattle.admit_core.specs.CallOrder.{AreCallOrders}
use Rattle.admit_core.specs.Days.{Days}
use Rattle.admit_core.specs.DossierRows.{DossierRows}
use Rattle.admit_core.specs.Standing.{dossier_of}
use Rattle.admit_core.specs.declared.records.DayRecord.{DayRecord}
use Rattle.admit_core.specs.declared.records.Terms.{Terms}
use Rattle.admit_core.specs.declared.refusal.Refusal.{Refusal}
use Rattle.admit_core.specs.declared.state.Status.{Status}
use Rattle.admit_core.specs.declared.tables.Since.{Since}
use Rattle.certificate.specs.Checked.{ids_in}
use Rattle.desk_day.specs.DeskStates.{DeskStates}
use Rattle.dossier_check.specs.Dates.{dates_of}
use Rattle.dossier_check.specs.Ids.{Ids, ids_of}
use Rattle.intake.specs.Dated.{AreDatedFor, dated_from, terms_in}
use Rattle.intake.specs.Input.{IsInputOf, IsJobOf, Job, NamesIn}
use Rattle.intake.specs.declared.input.Input.{Input}
use Rattle.intake.specs.declared.terms.DatedTerms.{DatedTerms}
use Rattle.modes.specs.LentPicker.{BreaksEnding, OthersUntold, IsLent, TellsAfter}
use Rattle.modes.specs.Endings.{AreDaysOf, BreaksJob, CanEnd, EndsAfter, EndsWith, IsEndOf, IsEnding}
use Rattle.modes.proofs.KeptEnds.{ends_after_whole}
use Rattle.modes.proofs.CheckedExits.{IsAfterDays, check_done, check_exit, is_after}
use Rattle.modes.specs.Checking.{CanBeDone, HandsInProof}
use Rattle.modes.specs.Jobs.{AreDays, IsIdle, JobView, dated_of, days_of, deadlines_of, dossier, falls_of}
use Rattle.modes.specs.Jobs.{picker_after, view_of, seen_of, terms_of, wanted_of, wanted_with}
use Rattle.modes.specs.declared.exit.Exit.{Exit}
use Rattle.modes.specs.declared.exit.Exit.TheVariants as exits
use Rattle.modes.specs.declared.reply.Reply.{Reply}
use Rattle.played.proofs.KeptDays.{played_whole}
use Rattle.played.specs.KeptDays.{IsPlayedKept}
use Rattle.admit_core.specs.declared.ranking.CallOrder.{CallOrder}
use Rattle.played.specs.LastDesks.{DeskLeft, IsLeftBy}
use Rattle.played.specs.Lent.{Lent, Untold}
use Rattle.played.specs.PlayedDays as PlayedDays
use Rattle.played.specs.PlayedDays.{BreaksDays, IsPlayed, Lead, Plan, Played, first_desk, lent_after}
use Rattle.played.specs.declared.wanted.Wanted.{Wanted}
use Rattle.request.specs.Modes.{runs_days, sample_of}
use Rattle.request.specs.Request.{IsDeadlines, IsRequest}
use Rattle.request.specs.declared.modes.Mode.{Mode}
use Rattle.request.specs.declared.modes.Mode.TheVariants as modes
use Rattle.request.specs.declared.pickers.PickerName.{PickerName}
use Rattle.request.specs.declared.request.Request.{Request}
use Rattle.round.specs.declared.falls.Falls.{Falls}
use Rattle.round.specs.declared.falls.Falls.TheVariants.{Kept}

pub deadlines_known : (request : Request) → IsRequest request → IfSome (deadlines_of request) IsDeadlines
deadlines_known request is =
    elim (cases_Bool (is_some (sample_of request.mode))) [ inl made ↦ rw made tt | inr none ↦ rw none is.deadlines ]

pub no_days : (request : Request) → IsTrue (not (runs_days request.mode)) → days_of request ≡ 0
no_days request none =
    elim (cases_Bool (runs_days request.mode)) [
      | inl runs ↦ absurd (false≢true (rw runs at none))
      | inr is ↦ rw is refl
    ]

-- how a run ends, by what the modes see of its job
pub record Ends (played : Played) (between after : Lent) (exit : Exit) (text : List ℕ) (seen : JobView) : Type 0 where
  pub ends : EndsWith played.end seen played exit text
  pub tells : TellsAfter played.end seen played between after
  pub lends : IsLent (picker_after seen.request) between after

-- what is played and written is the job's
module _ (job : Job) (request : Request) (d : DossierRows) (ids : Ids) (chain : List ℕ)
    (dates : List (Option Since)) (dated : Option DatedTerms) (asked : job.request ≡ request)
    (same : d ≡ dossier_of job.tables) (indexed : ids ≡ ids_of job.tables) (chained : chain ≡ job.chain)
    (dates_are : dates ≡ dates_of job.tables)
    (dated_is : dated ≡ option_map (dated_from d dates) (deadlines_of request)) where
  dated_job : dated ≡ dated_of job
  dated_job =
      dated_is ∙ ap (λ (e : DossierRows). option_map (dated_from e dates) (deadlines_of request)) same
      ∙ ap (λ (ds : List (Option Since)). option_map (dated_from (dossier job) ds) (deadlines_of request)) dates_are
      ∙ ap (λ (q : Request). option_map (dated_from (dossier job) (dates_of job.tables)) (deadlines_of q)) (sym asked)

  -- what the modes see of it
  seen_so : (P : JobView → Type 0)
      → P (record { request = request; dossier = d; index = ids; chain = chain; dated = dated }) → P (seen_of job)
  seen_so P holds =
      let Q : Request → DossierRows → Ids → List ℕ → Option DatedTerms → Type 0 =
      λ q e i c x. P (record { request = q; dossier = e; index = i; chain = c; dated = x }) in
      subst (λ (q : Request). Q q (dossier job) (ids_of job.tables) job.chain (dated_of job)) (sym asked)
      (subst (λ (x : Option DatedTerms). Q request (dossier job) (ids_of job.tables) job.chain x) dated_job
      (subst (λ (c : List ℕ). Q request (dossier job) (ids_of job.tables) c dated) chained
      (subst (λ (i : Ids). Q request (dossier job) i chain dated) indexed
      (subst (λ (e : DossierRows). Q request e ids chain dated) same holds))))

  days_so : (before between : Lent) (played : Played)
      → IsPlayed d (terms_in dated) (days_of request) request.picker before played between
      → AreDaysOf job before played between
  days_so before between played plays =
      subst (λ (q : Request). IsPlayed (dossier job) (terms_of job) (days_of q) q.picker before played between)
      (sym asked)
      (subst (λ (x : Option DatedTerms).
      IsPlayed (dossier job) (terms_in x) (days_of request) request.picker before played between) dated_job
      (subst (λ (e : DossierRows).
      IsPlayed e (terms_in dated) (days_of request) request.picker before played between) same plays))

  pub job_ends : (before between after : Lent) (played : Played) (exit : Exit) (text : List ℕ)
      → IsPlayed d (terms_in dated) (days_of request) request.picker before played between
      → Ends played between after exit text
      (record { request = request; dossier = d; index = ids; chain = chain; dated = dated })
      → IsEnding job before after exit text
  job_ends before between after played exit text plays ends =
      let of_job = seen_so (Ends played between after exit text) ends in
      record {
        played = played;
        between = between;
        days = days_so before between played plays;
        tells = of_job.tells;
        lends = of_job.lends;
        ends = of_job.ends;
      }

  -- memory ran out after the days
  pub job_breaks : (before between after : Lent) (played : Played)
      → IsPlayed d (terms_in dated) (days_of request) request.picker before played between
      → BreaksEnding played.end
      (record { request = request; dossier = d; index = ids; chain = chain; dated = dated }) played between after
      → IsLent (picker_after request) between after → BreaksJob job before after
  job_breaks before between after played plays breaks lends = inr (inr (record {
    played = played;
    between = between;
    days = days_so before between played plays;
    breaks = seen_so (λ (seen : JobView). BreaksEnding played.end seen played between after) breaks;
    lends = subst (λ (q : Request). IsLent (picker_after q) between after) (sym asked) lends;
  }))

  -- memory ran out on one of the days
  pub job_stops : (orders : List CallOrder) (terms : Option Terms) (wanted : Wanted) (before after : Lent)
      → AreCallOrders d.groups orders → terms ≡ terms_in dated → wanted ≡ wanted_of request
      → BreaksDays (record { orders = orders; terms = terms; who = wanted.who }) wanted.number (first_desk d)
      before after
      → BreaksJob job before after
  job_stops orders terms wanted before after called terms_are wanted_is breaks =
      let P : Option Terms → Wanted → DossierRows → Type 0 =
      λ t w e.
      BreaksDays (record { orders = orders; terms = t; who = w.who }) w.number (first_desk e) before after in
      inr (inl (record {
        orders = orders;
        called = subst (λ (e : DossierRows). AreCallOrders e.groups orders) same called;
        breaks = subst (λ (q : Request). P (terms_of job) (wanted_of q) (dossier job)) (sym asked)
            (subst (λ (t : Option Terms). P t (wanted_of request) (dossier job))
            (terms_are ∙ ap (λ (x : Option DatedTerms). terms_in x) dated_job)
            (subst (λ (w : Wanted). P terms w (dossier job)) wanted_is
            (subst (λ (e : DossierRows). P terms wanted e) same breaks)));
      }))

-- the plain days of a campaign
pub lead_days : (plan : Plan) (d : ℕ) (old : DeskStates) (before : Lent) (days : List DayRecord) (new : DeskStates)
    → Lead plan d old before days new → Days plan.terms plan.orders d old.present days new.present
lead_days plan d old before [] new same = ap (λ (desk : DeskStates). desk.present) same
lead_days plan d old before (day ∷ days) new lead = (
  lead.0.present,
  lead.1.done.rule.number,
  lead.1.done.rule.is_day,
  lead_days plan (d + 1) lead.0 (lent_after plan.who day before) days new lead.2,
)

end_exit : (mode : Mode) (seen : JobView) (played : Played) (desk : DeskStates) (exit : Exit) (text : List ℕ)
    → IsEndOf mode seen played desk exit text → IsAfterDays exit
end_exit modes.Check seen played desk exit text ends =
    check_exit seen.dossier seen.chain seen.dated played.orders exit text ends
end_exit _ seen played desk exit text ends = is_after exit exits.Done ends.0 tt

exit_after : (end : Result DeskStates Refusal) (seen : JobView) (played : Played) (exit : Exit) (text : List ℕ)
    → EndsWith end seen played exit text → IsAfterDays exit
exit_after (Ok desk) seen played exit text ends = end_exit seen.request.mode seen played desk exit text ends
exit_after (Err refusal) seen played exit text ends = is_after exit exits.Refused ends.0 tt

-- a run over a job is done, or an answer does not fit, or a chain proves nothing
pub ending_exit : (job : Job) (before after : Lent) (exit : Exit) (text : List ℕ)
    → IsEnding job before after exit text → IsAfterDays exit
ending_exit job before after exit text ending =
    exit_after ending.played.end (seen_of job) ending.played exit text ending.ends

-- every mode is done once all its days have led to a desk, and what is handed in proves its days
done_of : (mode : Mode) (job : Job) (played : Played) (desk : DeskStates) (exit : Exit) (text : List ℕ)
    → IsEndOf mode (seen_of job) played desk exit text → AreCallOrders (dossier job).groups played.orders
    → HandsInProof mode job → exit ≡ exits.Done
done_of modes.Check job played desk exit text ends called hands =
    let proof = hands played.orders called in
    check_done (dossier job) (dated_of job) played.orders job.chain proof.0 proof.1 exit text proof.2 proof.3 ends
done_of _ job played desk exit text ends called hands = ends.0

not_unfit : (unfit : Option (ℕ × Status)) (P : ℕ × Status → Type 0) → unfit ≡ None → IsSomeAnd unfit P → ⊥
not_unfit None P none some = some
not_unfit (Some x) P none some = absurd (cc)

done_where_fit : (job : Job) (played : Played) (last : DeskStates) (end : Result DeskStates Refusal) (exit : Exit)
    (text : List ℕ) → AreDays job played.orders played.days last.present
    → PlayedDays.DaysEndAfter (terms_of job) (days_of job.request) played.days last end
    → EndsWith end (seen_of job) played exit text → CanBeDone job → exit ≡ exits.Done
done_where_fit job played last (Ok desk) exit text days after ends can =
    done_of job.request.mode job played desk exit text ends days.called can.proves
done_where_fit job played last (Err refusal) exit text days after ends can =
    absurd (not_unfit _ _ (can.fits played.orders played.days last.present days after.fewer) after.unfit)

-- where each answer fits, and a chain proves its days, the run is done
pub ending_done : (job : Job) (before after : Lent) (exit : Exit) (text : List ℕ)
    → IsEnding job before after exit text → CanBeDone job → exit ≡ exits.Done
ending_done job before after exit text ending can =
    done_where_fit job ending.played ending.days.last ending.played.end exit text
    (record {
      called = ending.days.called;
      run = lead_days _ 1 _ before ending.played.days ending.days.last ending.days.days;
    }) ending.days.ends ending.ends can

-- the desk that days leave goes by their call orders
pub by_orders : (orders : List CallOrder) (number : ℕ) (end : Result DeskLeft Refusal)
    → IfOk end (IsLeftBy orders number) → IfOk end (λ last. last.orders ≡ orders)
by_orders orders number (Ok last) is = is.by_orders
by_orders orders number (Err refusal) is = tt

-- what an ending rests on, by what is kept of the days of a request
ends_kept : (request : Request) (input : Input) (dated given : Option DatedTerms) (falls : Falls)
    (before between : Lent) (kept : Played) → IsRequest request → dated ≡ given
    → IfSome given (AreDatedFor input.dossier) → NamesIn request.mode input.index → input.index ≡ ids_in input.dossier
    → IsPlayedKept (wanted_with request falls) input.dossier (terms_in dated) before kept between
    → CanEnd (view_of request input dated) kept
ends_kept request input dated given falls before between kept known same is named indexed plays = record {
  request = known;
  dated = subst (λ (x : Option DatedTerms). IfSome x (AreDatedFor input.dossier)) (sym same) is;
  named = named;
  index = indexed;
  falls = falls;
  before = before;
  after = between;
  plays = plays;
}

-- the days of a request, as they were played over its input, with all their falls
module _ (request : Request) (known : IsRequest request) (input : Input) {dated given : Option DatedTerms}
    {terms : Option Terms} {number : ℕ} {before between : Lent} {played : Played} (same : dated ≡ given)
    (is : IfSome given (AreDatedFor input.dossier)) (terms_are : terms ≡ terms_in dated)
    (number_is : number ≡ days_of request)
    (plays : IsPlayed input.dossier terms number request.picker before played between) where
  asked_days : IsPlayed input.dossier (terms_in dated) (days_of request) request.picker before played between
  asked_days =
      subst (λ (n : ℕ). IsPlayed input.dossier (terms_in dated) n request.picker before played between) number_is
      (subst (λ (t : Option Terms). IsPlayed input.dossier t number request.picker before played between)
      terms_are plays)

  pub can_end : NamesIn request.mode input.index → input.index ≡ ids_in input.dossier
      → CanEnd (view_of request input dated) played
  can_end named indexed =
      ends_kept request input dated given Kept before between played known same is named indexed
      (played, asked_days, sym (played_whole played))

  pub reply_ends : {E : Type 0} (after : Lent) (result : Result Reply E) (job : Job)
      → given ≡ option_map (dated_from input.dossier input.dates) (deadlines_of request)
      → IsJobOf request job → IsInputOf job input
      → EndsAfter played.end (view_of request input dated) played between after result
      → MatchResult result (λ reply. IsEnding job before after reply.exit reply.text.items)
      (λ _. BreaksJob job before after)
  reply_ends after (Err e) job given_is is_job is_input ends =
      job_breaks job request input.dossier input.index input.chain input.dates dated is_job.request is_input.dossier
      is_input.index is_input.chain is_input.dates (same ∙ given_is) before between after played asked_days ends.breaks
      ends.lends
  reply_ends after (Ok reply) job given_is is_job is_input ends =
      job_ends job request input.dossier input.index input.chain input.dates dated is_job.request is_input.dossier
      is_input.index is_input.chain is_input.dates (same ∙ given_is) before between after played reply.exit
      reply.text.items asked_days (record { ends = ends.ends; tells = ends.tells; lends = ends.lends })

-- the same where the falls of the days are kept if the mode tells them
module _ (request : Request) (known : IsRequest request) (input : Input) {dated given : Option DatedTerms}
    {terms : Option Terms} {wanted : Wanted} {before between : Lent} {kept : Played} (same : dated ≡ given)
    (is : IfSome given (AreDatedFor input.dossier)) (terms_are : terms ≡ terms_in dated)
    (wanted_is : wanted ≡ wanted_of request)
    (plays : IsPlayedKept wanted input.dossier terms before kept between) where
  kept_days : IsPlayedKept (wanted_of request) input.dossier (terms_in dated) before kept between
  kept_days =
      subst (λ (w : Wanted). IsPlayedKept w input.dossier (terms_in dated) before kept between) wanted_is
      (subst (λ (t : Option Terms). IsPlayedKept wanted input.dossier t before kept between) terms_are plays)

  pub can_end_kept : NamesIn request.mode input.index → input.index ≡ ids_in input.dossier
      → CanEnd (view_of request input dated) kept
  can_end_kept named indexed =
      ends_kept request input dated given (falls_of request.mode) before between kept known same is named indexed
      kept_days

  pub reply_ends_kept : {E : Type 0} (after : Lent) (result : Result Reply E) (job : Job)
      → given ≡ option_map (dated_from input.dossier input.dates) (deadlines_of request)
      → IsJobOf request job → IsInputOf job input
      → EndsAfter kept.end (view_of request input dated) kept between after result
      → MatchResult result (λ reply. IsEnding job before after reply.exit reply.text.items)
      (λ _. BreaksJob job before after)
  reply_ends_kept after result job given_is is_job is_input ends =
      reply_ends request known input same is refl refl kept_days.1 after result job given_is is_job is_input
      (ends_after_whole (view_of request input dated) kept kept_days.0 between after result kept_days.2 ends)

-- memory ran out before the days, or on one of them
pub breaks_untold : (job : Job) (before : Lent) → BreaksJob job before before
breaks_untold job before = inl (λ name. refl)

pub stops_so : (request : Request) (input : Input) {dated given : Option DatedTerms} (job : Job)
    (orders : List CallOrder) {terms : Option Terms} {wanted : Wanted} {before after : Lent}
    → IsJobOf request job → IsInputOf job input → dated ≡ given
    → given ≡ option_map (dated_from input.dossier input.dates) (deadlines_of request)
    → AreCallOrders input.dossier.groups orders → terms ≡ terms_in dated → wanted ≡ wanted_of request
    → BreaksDays (record { orders = orders; terms = terms; who = wanted.who }) wanted.number
    (first_desk input.dossier) before after
    → BreaksJob job before after
stops_so request input {dated = dated} job orders {terms = terms} {wanted = wanted} {before = before}
    {after = after} is_job is_input same given_is =
    job_stops job request input.dossier input.index input.chain input.dates dated is_job.request is_input.dossier
    is_input.index is_input.chain is_input.dates (same ∙ given_is) orders terms wanted before after

-- a run that asks no picker, on its days or after them; told is what the pickers had told before it
pub untold_idle : (request : Request) (told : PickerName → List ℕ) (between after : Lent)
    → (days_of request ≡ 0 → (name : PickerName) → between.told name ≡ told name)
    → IsLent (picker_after request) between after → IsIdle request → (name : PickerName) → after.told name ≡ told name
untold_idle request told between after days lends idle =
    let ending : Untold between after =
    subst (λ (name : Option PickerName). OthersUntold name between after) idle.none_after lends.others in
    λ name. ending name ∙ days (no_days request idle.no_day) name

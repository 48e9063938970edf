-- How a run over a job ends after its days.
use Rattle.std.proofs.Common.{◌≡◌, ◌∙◌, ℕ, List, Option, None, Some, Result, Ok, Err, IfOk, IfSome, ap}
use Rattle.std.proofs.Common.{inl, inr, option_map, subst, sym}
use Rattle.std.proofs.lemmas.Simd.{map-map}
use Rattle.admit_core.specs.DossierRows.{DossierRows}
use Rattle.admit_core.specs.Relations.{first_fault}
use Rattle.admit_core.specs.Standing.{dossier_of, school_of_row, wish_of_row}
use Rattle.admit_core.specs.declared.dossier.School.{School}
use Rattle.admit_core.specs.declared.dossier.Wish.{Wish}
use Rattle.admit_core.specs.declared.ranking.CallOrder.{CallOrder}
use Rattle.admit_core.specs.declared.records.DayRecord.{DayRecord}
use Rattle.admit_core.specs.declared.records.Terms.{Terms}
use Rattle.admit_core.specs.declared.refusal.Refusal.{Refusal}
use Rattle.admit_core.specs.declared.slot.Slot.{Slot}
use Rattle.admit_core.specs.declared.tables.Since.{Since}
use Rattle.admit_core.specs.declared.tables.Tables.{Tables}
use Rattle.certificate.specs.Checked.{ids_in}
use Rattle.desk_day.specs.DeskStates.{DeskStates}
use Rattle.dossier_check.specs.Dates.{dates_of}
use Rattle.intake.specs.Dated.{AreDatedFor, dated_from, terms_in}
use Rattle.intake.specs.Input.{IsInputOf, IsJobOf, Job, NamesIn}
use Rattle.intake.specs.Shelves.{OnShelf}
use Rattle.intake.specs.declared.input.Input.{Input}
use Rattle.intake.specs.declared.terms.DatedTerms.{DatedTerms}
use Rattle.modes.proofs.OnDesks.{ends_led}
use Rattle.modes.specs.Endings.{CanEnd, EndsAfter, EndsWith, IsDoneWith}
use Rattle.modes.specs.Jobs.{dated_of, days_of, deadlines_of, dossier, view_of, terms_of}
use Rattle.modes.specs.Replay.{CanBeDated}
use Rattle.modes.specs.declared.exit.Exit.{Exit}
use Rattle.modes.specs.declared.reply.Reply.{Reply}
use Rattle.played.specs.LastDesks.{DeskLeft, EndsBy}
use Rattle.played.specs.Lent.{Lent}
use Rattle.played.specs.PlayedDays.{IsPlayed, Played}
use Rattle.replay_cli.proofs.Played.{can_end, reply_ends}
use Rattle.request.specs.declared.modes.Mode.{Mode}
use Rattle.request.specs.declared.request.Request.{Request}
use Rattle.morning_cli.specs.Answering.{TakesAsked, TakesFor}
use Rattle.morning_cli.specs.SlotWanted.{IsAsked, asked_of}
use Rattle.morning_cli.specs.Morning.{IsMorning, IsSlotEnding, morning_text}
use Rattle.morning_cli.specs.declared.asked.Asked.{Asked}

-- the index of an input is that of its dossier
own_ids : (job : Job) (input : Input) → IsInputOf job input → input.index ≡ ids_in input.dossier
own_ids job input is =
    is.index
    ∙ (λ i. record {
      wishes = sym (map-map (λ (w : Wish). w.id) (wish_of_row job.tables) job.tables.wishes) i;
      schools = sym (map-map (λ (h : School). h.id) school_of_row job.tables.schools) i;
    })
    ∙ ap ids_in (sym is.dossier)

indexed_for : (q : Option Asked) (before after : OnShelf) (x : Asked × Input) → TakesFor q before after (Ok x)
    → x.1.index ≡ ids_in x.1.dossier
indexed_for None before after x takes = absurd takes.0
indexed_for (Some asked) before after x takes = own_ids takes.1.value.job x.1 takes.1.value.is_input

pub indexed : (words : List (List ℕ)) (before after : OnShelf) (x : Asked × Input)
    → TakesAsked words before after (Ok x) → x.1.index ≡ ids_in x.1.dossier
indexed words before after x takes = indexed_for (asked_of words) before after x takes.takes

-- days that were played end as what their end is
pub ends_as : {orders : List CallOrder} {number : ℕ} {P : Played → Type 0} {days : List DayRecord}
    {end found : Result DeskLeft Refusal} → EndsBy orders number P days end → end ≡ found
    → EndsBy orders number P days found
ends_as {orders = orders} {number = number} {P = P} {days = days} ends is =
    subst (EndsBy orders number P days) is ends

-- what is played and written is the job's
module _ (job : Job) (request : Request) (d : DossierRows) (dates : List (Option Since)) (dated : Option DatedTerms)
    (number : ℕ) (asked : job.request ≡ request) (same : d ≡ dossier_of job.tables)
    (dates_are : dates ≡ dates_of job.tables)
    (dated_is : dated ≡ option_map (dated_from d dates) (deadlines_of request))
    (number_is : number ≡ days_of request) where
  dated_job : dated ≡ dated_of job
  dated_job =
      dated_is ∙ ap (λ (e : DossierRows). option_map (dated_from e dates) (deadlines_of request)) same
      ∙ ap (λ (ds : List (Option Since)). option_map (dated_from (dossier job) ds) (deadlines_of request)) dates_are
      ∙ ap (λ (q : Request). option_map (dated_from (dossier job) (dates_of job.tables)) (deadlines_of q)) (sym asked)

  is_morning : (slot : Slot) (before after : Lent) (played : Played) (desk : DeskStates) (exit : Exit) (text : List ℕ)
      → IsPlayed d (terms_in dated) number request.picker before played after → played.end ≡ Ok desk
      → IsDoneWith (morning_text slot job.tables desk.present number dated) exit text
      → IsMorning slot job before after exit text
  is_morning slot before after played desk exit text plays all ends = record {
    played = played;
    desk = desk;
    days =
        subst (λ (q : Request). IsPlayed (dossier job) (terms_of job) (days_of q) q.picker before played after)
        (sym asked)
        (subst (λ (n : ℕ). IsPlayed (dossier job) (terms_of job) n request.picker before played after) number_is
        (subst (λ (x : Option DatedTerms).
        IsPlayed (dossier job) (terms_in x) number request.picker before played after) dated_job
        (subst (λ (e : DossierRows). IsPlayed e (terms_in dated) number request.picker before played after) same
        plays)));
    all = all;
    ends =
        subst (λ (x : Option DatedTerms).
        IsDoneWith (morning_text slot job.tables desk.present (days_of job.request) x) exit text) dated_job
        (subst (λ (n : ℕ). IsDoneWith (morning_text slot job.tables desk.present n dated) exit text)
        (number_is ∙ ap days_of (sym asked)) ends);
  }

-- the days of what was asked for, as they were played over its input
module _ (asked : Asked) (known : IsAsked asked) (input : Input) {dated given : Option DatedTerms}
    {terms : Option Terms} {number : ℕ} {before between : Lent} {played : Played} (same : dated ≡ given)
    (is : IfSome given (AreDatedFor input.dossier)) (terms_are : terms ≡ terms_in dated)
    (number_is : number ≡ days_of asked.request)
    (plays : IsPlayed input.dossier terms number asked.request.picker before played between)
    (own : input.index ≡ ids_in input.dossier) where
  pub can : CanEnd (view_of asked.request input dated) played
  can =
      can_end asked.request known.request input same is terms_are number_is plays
      (subst (λ (mode : Mode). NamesIn mode input.index) (sym known.replay) tt) own

  pub offers_dated : (desk : DeskStates) → played.end ≡ Ok desk → CanBeDated dated desk.present
  offers_dated desk e = (ends_led (view_of asked.request input dated) played desk can e).offers

  module _ (job : Job) (is_job : IsJobOf asked.request job) (is_input : IsInputOf job input)
      (given_is : given ≡ option_map (dated_from input.dossier input.dates) (deadlines_of asked.request)) where
    abbrev Text : Tables → DeskStates → List ℕ
    Text t desk = morning_text asked.slot t desk.present number dated

    -- all of them came about
    pub ends_morning : {E : Type 0} (result : Result Reply E) (desk : DeskStates) → played.end ≡ Ok desk
        → ((t : Tables) → desk.present.dossier ≡ dossier_of t → first_fault t ≡ None
        → IfOk result (λ reply. IsDoneWith (Text t desk) reply.exit reply.text.items))
        → IfOk result (λ reply. IsSlotEnding asked.slot job before between reply.exit reply.text.items)
    ends_morning (Err lack) desk e ends = tt
    ends_morning (Ok reply) desk e ends =
        let there : desk.present.dossier ≡ input.dossier =
        (ends_led (view_of asked.request input dated) played desk can e).last.dossier in
        inl (is_morning job asked.request input.dossier input.dates dated number is_job.request is_input.dossier
        is_input.dates (same ∙ given_is) number_is asked.slot before between played desk reply.exit reply.text.items
        (subst (λ (t : Option Terms). IsPlayed input.dossier t number asked.request.picker before played between)
        terms_are plays)
        e (ends job.tables (there ∙ is_input.dossier) is_job.faultless))

    -- an answer did not fit
    pub ends_refused : {E : Type 0} (after : Lent) (result : Result Reply E) (refusal : Refusal)
        → played.end ≡ Err refusal
        → EndsAfter played.end (view_of asked.request input dated) played between after result
        → IfOk result (λ reply. IsSlotEnding asked.slot job before after reply.exit reply.text.items)
    ends_refused after (Err lack) refusal e ends = tt
    ends_refused after (Ok reply) refusal e ends =
        let by : EndsWith (Err refusal) (view_of asked.request input dated) played reply.exit reply.text.items =
        subst (λ (x : Result DeskStates Refusal).
        EndsWith x (view_of asked.request input dated) played reply.exit reply.text.items) e ends.ends in
        inr (
          by.0,
          reply_ends asked.request known.request input same is terms_are number_is plays after (Ok reply) job
              given_is is_job is_input ends,
        )

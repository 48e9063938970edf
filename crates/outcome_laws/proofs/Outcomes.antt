-- A check of the text of `chain` is done, and ends as `replay` does.
use Rattle.std.proofs.Common.{◌≡◌, ◌∙◌, ℕ, ◌≤◌, List, Option, Some, Result, Ok, Err, ap, arith, length, refl, subst}
use Rattle.std.proofs.Common.{sym}
use Rattle.admit_core.specs.Days.{Days, first_evening}
use Rattle.admit_core.specs.DossierRows.{DossierRows}
use Rattle.admit_core.specs.State.{State}
use Rattle.admit_core.specs.Standing.{dossier_of}
use Rattle.admit_core.specs.Validity.{IsValid}
use Rattle.admit_core.specs.declared.ranking.CallOrder.{CallOrder}
use Rattle.admit_core.specs.declared.records.DayRecord.{DayRecord}
use Rattle.admit_core.specs.declared.refusal.Refusal.{Refusal}
use Rattle.admit_core.specs.declared.slot.Slot.{Slot}
use Rattle.certificate.specs.ChainText.{chain_text}
use Rattle.day_run.proofs.SameCampaigns.{campaigns_are_fixed, same_orders}
use Rattle.desk_day.specs.DeskStates.{DeskStates}
use Rattle.intake.specs.Input.{Job, accepted, job_of}
use Rattle.intake.specs.Stops.{◌>>=◌, asked}
use Rattle.intake.specs.declared.stop.Stop.{Stop}
use Rattle.intake.specs.declared.stop.Stop.TheVariants as stops
use Rattle.modes.specs.Checking.{IsChecked, proved_text}
use Rattle.modes.specs.Endings.{AreDaysOf, EndsWith, IsEnding}
use Rattle.modes.specs.Exits.{exit_of}
use Rattle.modes.specs.Jobs.{AreDays, dated_of, days_of, dossier, seen_of, terms_of}
use Rattle.modes.specs.Replay.{replay_text}
use Rattle.modes.specs.declared.exit.Exit.{Exit}
use Rattle.modes.specs.declared.exit.Exit.TheVariants.{Done, Refused}
use Rattle.outcome_laws.proofs.JobsOf.{Accepts, chain_files, check_job, job_with, replay_files, request_with}
use Rattle.outcome_laws.proofs.JobsOf.{same_files, valid_files}
use Rattle.outcome_laws.proofs.OwnTexts.{own_texts_are_proved}
use Rattle.outcome_laws.proofs.ReadTables.{Files, chain_added}
use Rattle.outcome_laws.proofs.Requests.{days_few}
use Rattle.outcome_laws.specs.Outcomes.{ChainsAreProved, ChecksEndAsReplays, EndAlike, IsProved, Ran, with_chain}
use Rattle.played.specs.Lent.{Lent}
use Rattle.played.specs.PlayedDays.{DaysEndAfter, Played, first_desk, plan_of}
use Rattle.replay_cli.proofs.Played.{lead_days}
use Rattle.replay_cli.specs.Outcome.{Ends, IsOutcome}
use Rattle.request.specs.Modes.{nine_slots}
use Rattle.request.specs.Request.{request_of}
use Rattle.request.specs.declared.modes.Mode.{Mode}
use Rattle.request.specs.declared.modes.Mode.TheVariants.{Chain, Check, Replay}
use Rattle.request.specs.declared.pickers.PickerChoice.{PickerChoice}
use Rattle.request.specs.declared.request.Deadlines.{Deadlines}
use Rattle.request.specs.declared.request.Request.{Request}

-- ---- the ending of an outcome that is done
not_stopped : (stop : Stop) → Done ≡ exit_of stop → ⊥
not_stopped stops.BadWords e = cc
not_stopped (stops.Refused refusal) e = cc
not_stopped (stops.ReadFault slot) e = cc
not_stopped (stops.NoSuch name) e = cc
not_stopped stops.OutOfMemory e = cc

not_refused : Done ≡ Refused → ⊥
not_refused e = cc

-- an outcome is the ending of what its words ask for
ends_as_asked : (words : List (List ℕ)) (slots : Slot → List ℕ) (request : Request) (before after : Lent) (exit : Exit)
    (text : List ℕ) → request_of words ≡ Some request → IsOutcome words slots before after exit text
    → Ends (job_of request slots) before after exit text
unfolding IsOutcome
ends_as_asked words slots request before after exit text asks outcome =
    subst (λ (q : Option Request). Ends (asked q >>= λ r. job_of r slots) before after exit text) asks outcome

pub accepted_as : (words : List (List ℕ)) (slots : Slot → List ℕ) (request : Request) (job : Job)
    → request_of words ≡ Some request → job_of request slots ≡ Ok job → accepted words slots ≡ Ok job
accepted_as words slots request job asks is =
    ap (λ (q : Option Request). asked q >>= λ r. job_of r slots) asks ∙ is

done_job : (found : Result Job Stop) (before after : Lent) (text : List ℕ) → Ends found before after Done text
    → (job : Job) × (found ≡ Ok job) × IsEnding job before after Done text
done_job (Ok job) before after text ends = (job, refl, ends)
done_job (Err stop) before after text ends = absurd (not_stopped stop ends.is_exit)

-- ---- the days of an ending
-- days of a job, as many as are asked for, and their evening
record AreLed (job : Job) (played : Played) (desk : DeskStates) : Type 0 where
  are_days : AreDays job played.orders played.days desk.present
  as_many : length played.days ≡ days_of job.request

are_led : (job : Job) (before between : Lent) (played : Played) (desk : DeskStates)
    → AreDaysOf job before played between → played.end ≡ Ok desk → AreLed job played desk
are_led job before between played desk are end =
    let ended : DaysEndAfter (terms_of job) (days_of job.request) played.days are.last (Ok desk) =
    subst (λ (e : Result DeskStates Refusal). DaysEndAfter (terms_of job) (days_of job.request) played.days are.last e)
    end are.ends in
    let led : Days (terms_of job) played.orders 1 (first_evening (dossier job)) played.days are.last.present =
    lead_days (plan_of (terms_of job) job.request.picker played) 1 (first_desk (dossier job)) before played.days
    are.last are.days in
    let to_desk : Days (terms_of job) played.orders 1 (first_evening (dossier job)) played.days desk.present =
    subst (λ (s : DeskStates). Days (terms_of job) played.orders 1 (first_evening (dossier job)) played.days s.present)
    (sym ended.1) led in
    record { are_days = record { called = are.called; run = to_desk }; as_many = ended.0 }

module _ (days : ℕ) (who : PickerChoice) (deadlines : Option Deadlines) (files : Files) where
  abbrev job_of_mode : Mode → Job
  job_of_mode mode = job_with (request_with mode days who deadlines) files

  chain_by : (end : Result DeskStates Refusal) (played : Played) (text : List ℕ)
      → EndsWith end (seen_of (job_of_mode Chain)) played Done text
      → (desk : DeskStates) × (end ≡ Ok desk) × (text ≡ chain_text (dossier_of files.tables) played.days)
  chain_by (Ok desk) played text ends = (desk, refl, ends.1)
  chain_by (Err refusal) played text ends = absurd (not_refused ends.0)

  replay_by : (end : Result DeskStates Refusal) (played : Played) (text : List ℕ)
      → EndsWith end (seen_of (job_of_mode Replay)) played Done text
      → (desk : DeskStates) × (end ≡ Ok desk)
      × (text ≡ replay_text (dossier_of files.tables) (dated_of (job_of_mode Replay))
      played.orders played.days desk.present)
  replay_by (Ok desk) played text ends = (desk, refl, ends.1)
  replay_by (Err refusal) played text ends = absurd (not_refused ends.0)

  -- a check runs no day
  check_by : (end : Result DeskStates Refusal) (played : Played) (last : DeskStates) (exit : Exit) (text : List ℕ)
      → DaysEndAfter (terms_of (job_of_mode Check)) 0 played.days last end
      → EndsWith end (seen_of (job_of_mode Check)) played exit text
      → IsChecked (dossier_of files.tables) files.chain (dated_of (job_of_mode Check)) played.orders exit text
  check_by (Ok desk) played last exit text after ends = ends
  check_by (Err refusal) played last exit text after ends = absurd (omega (arith, after.fewer))

-- ---- what the days of `chain` prove
-- the days of a job whose chain a text is
record Chained (job : Job) (number : ℕ) (text : List ℕ) : Type 0 where
  orders : List CallOrder
  days : List DayRecord
  evening : State
  are_days : AreDays job orders days evening
  as_many : length days ≡ number
  is_chain : text ≡ chain_text (dossier job) days

chained : (days : ℕ) (who : PickerChoice) (deadlines : Option Deadlines) (files : Files) (before after : Lent)
    (text : List ℕ) → IsEnding (job_of_mode days who deadlines files Chain) before after Done text
    → Chained (job_of_mode days who deadlines files Chain) days text
chained days who deadlines files before after text ending =
    let by = chain_by days who deadlines files ending.played.end ending.played text ending.ends in
    let job : Job = job_of_mode days who deadlines files Chain in
    let led = are_led job before ending.between ending.played by.0 ending.days by.1 in
    record {
      orders = ending.played.orders;
      days = ending.played.days;
      evening = by.0.present;
      are_days = led.are_days;
      as_many = led.as_many;
      is_chain = by.2;
    }

-- a check of the chain over the same tables
checks : (days number : ℕ) (who other : PickerChoice) (deadlines : Option Deadlines) (files : Files)
    (before after : Lent) (exit : Exit) (text checked : List ℕ) → IsValid (dossier_of files.tables) → days ≤ 366
    → length text ≤ 1073741824
    → Chained (job_of_mode days who deadlines files Chain) days text
    → IsEnding (job_of_mode number other deadlines (record { tables = files.tables; chain = text }) Check) before after
    exit checked → (exit ≡ Done) × IsProved (job_of_mode days who deadlines files Chain) days text checked
checks days number who other deadlines files before after exit text checked valid few fits chain ending =
    let job : Job = job_of_mode days who deadlines files Chain in
    let d : DossierRows = dossier_of files.tables in
    let handed : Files = record { tables = files.tables; chain = text } in
    let tested = check_by number other deadlines handed ending.played.end ending.played ending.days.last exit checked
    ending.days.ends ending.ends in
    let called = same_orders d.groups ending.played.orders chain.orders ending.days.called chain.are_days.called in
    let of_chain : IsChecked d (chain_text d chain.days) (dated_of job) chain.orders exit checked =
    subst (λ (bytes : List ℕ). IsChecked d bytes (dated_of job) chain.orders exit checked) chain.is_chain
    (subst (λ (orders : List CallOrder). IsChecked d text (dated_of job) orders exit checked) called tested) in
    let as_few : length chain.days ≤ 366 = omega (arith, few, chain.as_many) in
    let as_fits : length (chain_text d chain.days) ≤ 1073741824 =
    subst (λ (bytes : List ℕ). length bytes ≤ 1073741824) chain.is_chain fits in
    let proved = own_texts_are_proved d (dated_of job) chain.orders chain.days chain.evening exit checked valid as_few
    as_fits chain.are_days.run of_chain in (
      proved.0,
      record {
        orders = chain.orders;
        days = chain.days;
        evening = chain.evening;
        are_days = chain.are_days;
        as_many = chain.as_many;
        is_chain = chain.is_chain;
        is_proof = proved.1 ∙ ap (λ (n : ℕ). proved_text n chain.evening (dated_of job)) chain.as_many;
      },
    )

-- ---- outcomes
-- a run of `chain` that was done, with its files
record IsChained (days : ℕ) (deadlines : Option Deadlines) (slots : Slot → List ℕ) (words : List (List ℕ))
    (picker : PickerChoice) (text : List ℕ) : Type 0 where
  files : Files
  accepts : Accepts nine_slots slots files
  is_job : accepted words slots ≡ Ok (job_of_mode days picker deadlines files Chain)
  few : days ≤ 366
  chain : Chained (job_of_mode days picker deadlines files Chain) days text

is_chained : (days : ℕ) (deadlines : Option Deadlines) (words : List (List ℕ)) (slots : Slot → List ℕ) (text : List ℕ)
    → (run : Ran Chain days deadlines words slots Done text) → IsChained days deadlines slots words run.picker text
is_chained days deadlines words slots text run =
    let request : Request = request_with Chain days run.picker deadlines in
    let found = done_job (job_of request slots) run.before run.after text
    (ends_as_asked words slots request run.before run.after Done text run.asks run.is_outcome) in
    let its = chain_files days run.picker deadlines slots found.0 found.1 in
    let ending : IsEnding (job_with request its.0) run.before run.after Done text =
    subst (λ (job : Job). IsEnding job run.before run.after Done text) its.2 found.2 in
    record {
      files = its.0;
      accepts = its.1;
      is_job = accepted_as words slots request (job_with request its.0) run.asks
          (found.1 ∙ ap (λ (job : Job). Ok job) its.2);
      few = days_few words request run.asks;
      chain = chained days run.picker deadlines its.0 run.before run.after text ending;
    }

-- the job of a check of its text
check_ending : (number : ℕ) (deadlines : Option Deadlines) (words : List (List ℕ)) (slots : Slot → List ℕ)
    (files : Files) (exit : Exit) (text checked : List ℕ) → length text ≤ 1073741824 → Accepts nine_slots slots files
    → (run : Ran Check number deadlines words (with_chain text slots) exit checked)
    → IsEnding (job_of_mode number run.picker deadlines (record { tables = files.tables; chain = text }) Check)
    run.before run.after exit checked
check_ending number deadlines words slots files exit text checked fits accepts run =
    let request : Request = request_with Check number run.picker deadlines in
    let handed : Files = record { tables = files.tables; chain = text } in
    let read = chain_added nine_slots slots (with_chain text slots) files
    (refl, (refl, (refl, (refl, (refl, (refl, (refl, (refl, (refl, tt))))))))) fits accepts.read in
    let is = check_job number run.picker deadlines (with_chain text slots) handed
    (record { read = read; none = accepts.none }) in
    subst (λ (found : Result Job Stop). Ends found run.before run.after exit checked) is
    (ends_as_asked words (with_chain text slots) request run.before run.after exit checked run.asks run.is_outcome)

pub chains_are_proved : ChainsAreProved
chains_are_proved days number deadlines words check_words slots exit text checked fits chain check =
    let run = is_chained days deadlines words slots text chain in
    let valid = valid_files nine_slots slots run.files run.accepts in
    let ending = check_ending number deadlines check_words slots run.files exit text checked fits run.accepts check in
    let proved = checks days number chain.picker check.picker deadlines run.files check.before check.after exit
    text checked valid run.few fits run.chain ending in
    (proved.0, job_of_mode days chain.picker deadlines run.files Chain, run.is_job, proved.1)

-- a replay over the same tables
alike : (days : ℕ) (who other : PickerChoice) (deadlines : Option Deadlines) (files : Files) (before after : Lent)
    (replayed text checked : List ℕ)
    → IsEnding (job_of_mode days other deadlines files Replay) before after Done replayed
    → IsProved (job_of_mode days who deadlines files Chain) days text checked
    → EndAlike (job_of_mode days other deadlines files Replay) days replayed checked
alike days who other deadlines files before after replayed text checked ending proved =
    let job : Job = job_of_mode days other deadlines files Replay in
    let d : DossierRows = dossier_of files.tables in
    let by = replay_by days other deadlines files ending.played.end ending.played replayed ending.ends in
    let led = are_led job before ending.between ending.played by.0 ending.days by.1 in
    let as_long : length proved.days ≡ length ending.played.days = proved.as_many ∙ sym led.as_many in
    let same = campaigns_are_fixed (terms_of job) proved.orders ending.played.orders 1 (first_evening d) proved.days
    ending.played.days proved.evening by.0.present proved.are_days.called led.are_days.called as_long
    proved.are_days.run led.are_days.run in
    record {
      orders = ending.played.orders;
      days = ending.played.days;
      evening = by.0.present;
      are_days = led.are_days;
      as_many = led.as_many;
      is_replay = by.2;
      is_proof = proved.is_proof ∙ ap (λ (s : State). proved_text days s (dated_of job)) same.0;
    }

pub checks_end_as_replays : ChecksEndAsReplays
checks_end_as_replays days number deadlines words chain_words check_words slots exit replayed text checked fits replay
    chain check =
    let run = is_chained days deadlines chain_words slots text chain in
    let valid = valid_files nine_slots slots run.files run.accepts in
    let ending = check_ending number deadlines check_words slots run.files exit text checked fits run.accepts check in
    let proved = checks days number chain.picker check.picker deadlines run.files check.before check.after exit
    text checked valid run.few fits run.chain ending in
    let request : Request = request_with Replay days replay.picker deadlines in
    let found = done_job (job_of request slots) replay.before replay.after replayed
    (ends_as_asked words slots request replay.before replay.after Done replayed replay.asks replay.is_outcome) in
    let its = replay_files days replay.picker deadlines slots found.0 found.1 in
    let same : its.0 ≡ run.files = same_files nine_slots slots its.0 run.files its.1 run.accepts in
    let to_files : found.0 ≡ job_with request run.files = its.2 ∙ ap (λ (files : Files). job_with request files) same in
    let replaying : IsEnding (job_with request run.files) replay.before replay.after Done replayed =
    subst (λ (job : Job). IsEnding job replay.before replay.after Done replayed) to_files found.2 in (
      proved.0,
      job_with request run.files,
      accepted_as words slots request (job_with request run.files) replay.asks
          (found.1 ∙ ap (λ (job : Job). Ok job) to_files),
      alike days chain.picker replay.picker deadlines run.files replay.before replay.after replayed text checked
          replaying proved.1,
    )

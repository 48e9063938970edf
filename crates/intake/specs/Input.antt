-- What a run is to work on.
use Rattle.std.specs.Prelude.{◌≡◌, ℕ, Bool, List, Option, Some, None, Result, Ok, Err, IfSome, IsTrue, MatchResult}
use Rattle.std.specs.Prelude.{if◌then◌else◌, ⊤}
use Rattle.admit_core.specs.Lists.{is_among}
use Rattle.admit_core.specs.Relations.{first_fault}
use Rattle.admit_core.specs.Standing.{dossier_of}
use Rattle.admit_core.specs.declared.refusal.InFault.{InFault}
use Rattle.admit_core.specs.declared.refusal.Refusal.{Refusal}
use Rattle.admit_core.specs.declared.slot.Slot.{Slot}
use Rattle.admit_core.specs.declared.tables.Tables.{Tables}
use Rattle.dossier_check.specs.Dates.{dates_of}
use Rattle.dossier_check.specs.Ids.{Ids, ids_of}
use Rattle.sample_gen.specs.Samples.{sample_tables}
use Rattle.request.specs.Modes.{named_by, sample_of, slots_of}
use Rattle.request.specs.Request.{request_of}
use Rattle.request.specs.declared.modes.Mode.{Mode}
use Rattle.request.specs.declared.modes.Name.{Name}
use Rattle.request.specs.declared.modes.Name.TheVariants.{Wish, School}
use Rattle.request.specs.declared.request.Request.{Request}
use Rattle.intake.specs.Reading.{files_of}
use Rattle.intake.specs.Shelves.{OnShelf, TakesSlots, Tells}
use Rattle.intake.specs.Stops.{◌>>=◌, Stopped, asked, stop_of}
use Rattle.intake.specs.declared.files.Files.{Files}
use Rattle.intake.specs.declared.input.Input.{Input}
use Rattle.intake.specs.declared.stop.Missing.{Missing}
use Rattle.intake.specs.declared.stop.Stop.{Stop}
use Rattle.intake.specs.declared.stop.Stop.TheVariants as stops

-- what is asked for, of which tables and which chain
pub record Job : Type 0 where
  pub request : Request
  pub tables : Tables
  pub chain : List ℕ

-- files without a fault between their rows
abbrev pub faultless : Files → Option Refusal → Result Files Stop
faultless files None = Ok files
faultless files (Some refusal) = Err (stops.Refused refusal)

-- whether a wish or a school is among these
abbrev pub has_name : Ids → Name → Bool
has_name ids (Wish id) = is_among id ids.wishes
has_name ids (School id) = is_among id ids.schools

-- files that have what is named
abbrev pub having : Option Name → Files → Result Files Stop
having None files = Ok files
having (Some name) files =
    if has_name (ids_of files.tables) name then Ok files else Err (stops.NoSuch name)

-- the same, by whether what is named was found
abbrev pub by_name : {A : Type 0} → Files → Result A Missing → Result Files Stop
by_name files (Ok _) = Ok files
by_name files (Err missing) = Err (stops.NoSuch missing.name)

-- these files, where something is made of them
abbrev pub with_files : {A : Type 0} → Files → Result A Stop → Result Files Stop
with_files files (Ok _) = Ok files
with_files files (Err stop) = Err stop

-- files that have what is named, by what the check of their rows answered
abbrev pub by_check : {A : Type 0} → Option Name → Files → Result A InFault → Result Files Stop
by_check named files (Ok _) = having named files
by_check named files (Err fault) = Err (stop_of fault)

-- files that are accepted: no relation between their rows fails, and they have what the mode names
abbrev pub tested : Mode → Files → Result Files Stop
tested mode files = do
  sound ← faultless files (first_fault files.tables)
  having (named_by mode) sound

-- what is asked for, of files that have sizes and shapes and are accepted
unfoldable pub job_of : Request → (Slot → List ℕ) → Result Job Stop
job_of request slots = do
  files ← files_of request.mode slots
  found ← tested request.mode files
  Ok (record { request = request; tables = found.tables; chain = found.chain })

-- what the words ask for, of what the slots' bytes stand for; or why there is none
abbrev pub accepted : List (List ℕ) → (Slot → List ℕ) → Result Job Stop
accepted words slots = do
  request ← asked (request_of words)
  job_of request slots

-- the dossier and the chain of a job
pub record IsInputOf (job : Job) (input : Input) : Type 0 where
  pub dossier : input.dossier ≡ dossier_of job.tables
  pub index : input.index ≡ ids_of job.tables
  pub dates : input.dates ≡ dates_of job.tables
  pub chain : input.chain ≡ job.chain

-- what a mode names is among these
abbrev pub NamesIn : Mode → Ids → Type 0
NamesIn mode ids = IfSome (named_by mode) (λ name. IsTrue (has_name ids name))

-- what holds of a job of a request, whatever a shelf tells
pub record IsJobOf (asked_for : Request) (job : Job) : Type 0 where
  pub request : job.request ≡ asked_for
  pub faultless : first_fault job.tables ≡ None
  pub named : NamesIn asked_for.mode (ids_of job.tables)
  pub made : IfSome (sample_of asked_for.mode) (λ number. job.tables ≡ sample_tables number)

-- what stops a run at its files, and not at a shelf
abbrev pub IsOfFiles : Stop → Type 0
IsOfFiles (stops.Refused refusal) = ⊤
IsOfFiles (stops.NoSuch name) = ⊤
IsOfFiles stops.OutOfMemory = ⊤
IsOfFiles stops.BadWords = ⊥
IsOfFiles (stops.ReadFault slot) = ⊥

-- the input of these files
pub record IsInputFrom (files : Files) (input : Input) : Type 0 where
  pub dossier : input.dossier ≡ dossier_of files.tables
  pub index : input.index ≡ ids_of files.tables
  pub dates : input.dates ≡ dates_of files.tables
  pub chain : input.chain ≡ files.chain

-- the input is that of a job: where the shelf tells its bytes, of the job that they stand for
pub record IsInputFor (request : Request) (before : OnShelf) (input : Input) : Type 0 where
  pub job : Job
  pub is_job : IsJobOf request job
  pub is_input : IsInputOf job input
  pub is_accepted : (slots : Slot → List ℕ) → Tells (slots_of request.mode) before.left slots
      → job_of request slots ≡ Ok job

-- there is no job: where the shelf tells its bytes, the stop says why
abbrev pub IsStopFor : Request → OnShelf → Stop → Type 0
IsStopFor request before stop =
    (slots : Slot → List ℕ) → Tells (slots_of request.mode) before.left slots
    → Stopped stop (job_of request slots)

-- a request's slots are taken in, and give its input or why it stops
pub record TakesIn (request : Request) (before after : OnShelf) (result : Result Input Stop) :
    Type 0 where
  pub value : MatchResult result (IsInputFor request before) (IsStopFor request before)
  pub slots : TakesSlots (slots_of request.mode) before after result

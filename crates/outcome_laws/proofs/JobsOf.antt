-- The jobs of runs over the same slots.
use Rattle.std.proofs.Common.{◌≡◌, ◌∙◌, ℕ, List, [], ◌∷◌, ◌++◌, Option, None, Some, Result, Ok, Err, IfOk, ap, refl}
use Rattle.std.proofs.Common.{subst}
use Rattle.admit_core.specs.Ranges.{AreTables}
use Rattle.admit_core.specs.Relations.{first_fault}
use Rattle.admit_core.specs.Standing.{dossier_of}
use Rattle.admit_core.specs.Validity.{IsValid}
use Rattle.admit_core.specs.declared.refusal.Refusal.{Refusal}
use Rattle.admit_core.specs.declared.slot.Slot.{Slot}
use Rattle.admit_core.specs.declared.slot.Slot.TheVariants as names
use Rattle.dossier_check.proofs.Valid.{is_valid}
use Rattle.intake.specs.Input.{Job, faultless, job_of}
use Rattle.intake.specs.Reading.{files_in, files_of}
use Rattle.intake.specs.Stops.{◌>>=◌}
use Rattle.intake.specs.declared.stop.Stop.{Stop}
use Rattle.request.specs.Modes.{nine_slots}
use Rattle.request.specs.declared.modes.Mode.{Mode}
use Rattle.request.specs.declared.modes.Mode.TheVariants.{Chain, Check, Replay}
use Rattle.request.specs.declared.pickers.PickerChoice.{PickerChoice}
use Rattle.request.specs.declared.request.Deadlines.{Deadlines}
use Rattle.request.specs.declared.request.Request.{Request}
use Rattle.outcome_laws.proofs.ReadTables.{Files, files_in_range}

-- files that are accepted for a mode that names nothing
pub record Accepts (order : List Slot) (slots : Slot → List ℕ) (files : Files) : Type 0 where
  pub read : files_in order slots ≡ Ok files
  pub none : first_fault files.tables ≡ None

abbrev pub job_with : Request → Files → Job
job_with request files = record { request = request; tables = files.tables; chain = files.chain }

-- the job of files that are sound, and of files that are read
abbrev job_sound : Request → Result Files Stop → Result Job Stop
job_sound request sound = (sound >>= λ (files : Files). Ok files) >>= λ (found : Files). Ok (job_with request found)

abbrev job_by : Request → Result Files Stop → Result Job Stop
job_by request read = read >>= λ (files : Files). job_sound request (faultless files (first_fault files.tables))

-- ---- a job has files
module _ (request : Request) (order : List Slot) (slots : Slot → List ℕ) (job : Job) where
  abbrev HasFiles : Type 0
  HasFiles = (files : Files) × Accepts order slots files × (job ≡ job_with request files)

  sound_files : (files : Files) (fault : Option Refusal) → files_in order slots ≡ Ok files
      → first_fault files.tables ≡ fault
      → job_sound request (faultless files fault) ≡ Ok job → HasFiles
  sound_files files None read none is =
      let same : job ≡ job_with request files = cc in
      (files, record { read = read; none = none }, same)
  sound_files files (Some refusal) read none is = absurd (cc)

  files_found : (r : Result Files Stop) → files_in order slots ≡ r → job_by request r ≡ Ok job → HasFiles
  files_found (Ok files) read is = sound_files files (first_fault files.tables) read refl is
  files_found (Err stop) read is = absurd (cc)

-- ---- the jobs of the modes that read the same slots
abbrev pub request_with : Mode → ℕ → PickerChoice → Option Deadlines → Request
request_with mode days picker deadlines =
    record { mode = mode; days = days; picker = picker; deadlines = deadlines }

-- files that are accepted make a job
job_found : (request : Request) (order : List Slot) (slots : Slot → List ℕ) (files : Files)
    → Accepts order slots files → job_by request (files_in order slots) ≡ Ok (job_with request files)
job_found request order slots files accepts =
    ap (job_by request) accepts.read
    ∙ ap (λ (fault : Option Refusal). job_sound request (faultless files fault)) accepts.none

module _ (days : ℕ) (picker : PickerChoice) (deadlines : Option Deadlines) (slots : Slot → List ℕ) where
  pub chain_files : (job : Job) → job_of (request_with Chain days picker deadlines) slots ≡ Ok job
      → (files : Files) × Accepts nine_slots slots files
      × (job ≡ job_with (request_with Chain days picker deadlines) files)
  unfolding job_of files_of
  chain_files job is =
      files_found (request_with Chain days picker deadlines) nine_slots slots job (files_in nine_slots slots) refl is

  pub replay_files : (job : Job) → job_of (request_with Replay days picker deadlines) slots ≡ Ok job
      → (files : Files) × Accepts nine_slots slots files
      × (job ≡ job_with (request_with Replay days picker deadlines) files)
  unfolding job_of files_of
  replay_files job is =
      files_found (request_with Replay days picker deadlines) nine_slots slots job (files_in nine_slots slots) refl is

  pub check_job : (files : Files) → Accepts (nine_slots ++ names.Chain ∷ []) slots files
      → job_of (request_with Check days picker deadlines) slots
      ≡ Ok (job_with (request_with Check days picker deadlines) files)
  unfolding job_of files_of
  check_job files accepts =
      job_found (request_with Check days picker deadlines) (nine_slots ++ names.Chain ∷ []) slots files accepts

  pub chain_job : (files : Files) → Accepts nine_slots slots files
      → job_of (request_with Chain days picker deadlines) slots
      ≡ Ok (job_with (request_with Chain days picker deadlines) files)
  unfolding job_of files_of
  chain_job files accepts = job_found (request_with Chain days picker deadlines) nine_slots slots files accepts

  pub replay_job : (files : Files) → Accepts nine_slots slots files
      → job_of (request_with Replay days picker deadlines) slots
      ≡ Ok (job_with (request_with Replay days picker deadlines) files)
  unfolding job_of files_of
  replay_job files accepts = job_found (request_with Replay days picker deadlines) nine_slots slots files accepts

-- the dossier of accepted files is valid
pub valid_files : (order : List Slot) (slots : Slot → List ℕ) (files : Files) → Accepts order slots files
    → IsValid (dossier_of files.tables)
valid_files order slots files accepts =
    let ranges : AreTables files.tables =
    subst (λ (r : Result Files Stop). IfOk r (λ f. AreTables f.tables)) accepts.read (files_in_range order slots) in
    is_valid files.tables ranges accepts.none

-- the files of the same slots
pub same_files : (order : List Slot) (slots : Slot → List ℕ) (one other : Files) → Accepts order slots one
    → Accepts order slots other → one ≡ other
same_files order slots one other accepts accepts_too =
    let found : files_in order slots ≡ Ok one = accepts.read in
    let found_too : files_in order slots ≡ Ok other = accepts_too.read in
    cc

-- What is taken in for a request.
use Rattle.std.proofs.Common.{◌≡◌, ◌⊎◌, inl, inr, ℕ, Bool, true, false, List, [], Option, Some, None, Result, Ok, Err}
use Rattle.std.proofs.Common.{IfErr, IsErrAnd, IsTrue, ap, arith, length, refl, subst}
use Rattle.std.specs.Prelude.{IfOk, IfSome, if◌then◌else◌}
use Rattle.admit_core.specs.Relations.{first_fault}
use Rattle.admit_core.specs.declared.refusal.InFault.{InFault}
use Rattle.admit_core.specs.declared.refusal.InFault.TheVariants.{Refused, OutOfMemory}
use Rattle.admit_core.specs.declared.refusal.Refusal.{Refusal}
use Rattle.admit_core.specs.declared.slot.Slot.{Slot}
use Rattle.dossier_check.specs.Ids.{ids_of}
use Rattle.dossier_check.specs.Outcome.{AnswersFault}
use Rattle.sample_gen.specs.Samples.{sample_tables}
use Rattle.request.specs.Modes.{named_by, sample_of, slots_of}
use Rattle.request.specs.declared.modes.Mode.{Mode}
use Rattle.request.specs.declared.modes.Name.{Name}
use Rattle.request.specs.declared.request.Request.{Request}
use Rattle.intake.specs.Input.{IsInputFrom, IsOfFiles, TakesIn, by_check, faultless, has_name, having, job_of}
use Rattle.intake.specs.Input.{tested, with_files}
use Rattle.intake.specs.Reading.{files_in, files_of, made, made_or_read}
use Rattle.intake.specs.Shelves.{HasCause, OnShelf, TakesSlots, Tells}
use Rattle.intake.specs.Stops.{◌>>=◌, Gives, Stopped}
use Rattle.intake.specs.declared.files.Files.{Files}
use Rattle.intake.specs.declared.input.Input.{Input}
use Rattle.intake.specs.declared.stop.Stop.{Stop}
use Rattle.intake.specs.declared.stop.Stop.TheVariants as stops
use Rattle.intake.proofs.ReadOrder.{stopped_then}

-- the files of a mode are those of its sample or of its slots
pub made_gives : (mode : Mode) (number : ℕ) (slots : Slot → List ℕ) (r : Result Files Stop)
    → Some number ≡ sample_of mode → Gives (λ files. files) r (made number)
    → Gives (λ files. files) r (files_of mode slots)
unfolding files_of
made_gives mode number slots r some gives =
    let P : Option ℕ → Type 0 = λ o. Gives (λ (files : Files). files) r (made_or_read o (slots_of mode) slots) in
    subst P some gives

pub read_gives : (mode : Mode) (order : List Slot) (slots : Slot → List ℕ) (r : Result Files Stop)
    → None ≡ sample_of mode → order ≡ slots_of mode
    → Gives (λ files. files) r (files_in order slots) → Gives (λ files. files) r (files_of mode slots)
unfolding files_of
read_gives mode order slots r none is gives =
    let P : Option ℕ → Type 0 = λ o. Gives (λ (files : Files). files) r (made_or_read o (slots_of mode) slots) in
    let Q : List Slot → Type 0 = λ xs. Gives (λ (files : Files). files) r (files_in xs slots) in
    subst P none (subst Q is gives)

-- what stops a run at its files has no cause outside
pub files_have_cause : (order : List Slot) (before after : OnShelf) (stop : Stop) → IsOfFiles stop
    → HasCause order before after stop
files_have_cause order before after (stops.Refused refusal) kinds = tt
files_have_cause order before after (stops.NoSuch name) kinds = tt
files_have_cause order before after stops.OutOfMemory kinds = tt
files_have_cause order before after stops.BadWords kinds = absurd kinds
files_have_cause order before after (stops.ReadFault slot) kinds = absurd kinds

-- no slot is read
pub untouched : {A : Type 0} (order : List Slot) (shelf : OnShelf) (r : Result A Stop) → order ≡ [] → IfErr r IsOfFiles
    → TakesSlots order shelf shelf r
untouched order shelf (Ok x) is kinds = record {
  ends = λ slots tells slot has. let none : length order ≡ 0 = ap length is in absurd (omega (arith, none, has.1));
  once = λ slot has. omega arith;
  size = λ slot has. inl (omega arith);
  others = λ slot out. refl;
  others_taken = λ slot out. refl;
  counts = λ slot. omega arith;
  cause = tt;
  told = λ slot has. inl refl;
  others_faults = λ slot out. refl;
}
untouched order shelf (Err stop) is kinds = record {
  ends = λ slots tells. tt;
  once = λ slot has. omega arith;
  size = λ slot has. inl (omega arith);
  others = λ slot out. refl;
  others_taken = λ slot out. refl;
  counts = λ slot. omega arith;
  cause = files_have_cause order shelf shelf stop kinds;
  told = λ slot has. inl refl;
  others_faults = λ slot out. refl;
}

-- nothing that is answered is a fault
pub quiet_in : {same : Type 0} → same ⊎ ⊥ → same
quiet_in (inl same) = same
quiet_in (inr bad) = absurd bad

-- what comes after the slots does not touch them
taken_still : {A B : Type 0} (order : List Slot) (before after : OnShelf) (x : A) (r : Result B Stop)
    → (let q : Result A Stop = Ok x in TakesSlots order before after q) → IfErr r IsOfFiles
    → TakesSlots order before after r
taken_still order before after x (Ok y) taken kinds = record {
  ends = taken.ends;
  once = taken.once;
  size = λ slot has. inl (quiet_in (taken.size slot has));
  others = taken.others;
  others_taken = taken.others_taken;
  counts = taken.counts;
  cause = tt;
  told = λ slot has. inl (quiet_in (taken.told slot has));
  others_faults = taken.others_faults;
}
taken_still order before after x (Err stop) taken kinds = record {
  ends = λ slots tells. tt;
  once = taken.once;
  size = λ slot has. inl (quiet_in (taken.size slot has));
  others = taken.others;
  others_taken = taken.others_taken;
  counts = taken.counts;
  cause = files_have_cause order before after stop kinds;
  told = λ slot has. inl (quiet_in (taken.told slot has));
  others_faults = taken.others_faults;
}

-- accepted files have no fault, and what is named
no_fault : (fault : Option Refusal) (name : Option Name) (files : Files)
    → (faultless files fault >>= λ sound. having name sound) ≡ Ok files → fault ≡ None
no_fault None name files is = refl
no_fault (Some refusal) name files is = cc

true_there : (there : Bool) (name : Name) (files : Files)
    → (if there then Ok files else Err (stops.NoSuch name)) ≡ Ok files → there ≡ true
true_there true name files is = refl
true_there false name files is = cc

named_there : (fault : Option Refusal) (name : Option Name) (files : Files)
    → (faultless files fault >>= λ sound. having name sound) ≡ Ok files
    → IfSome name (λ n. IsTrue (has_name (ids_of files.tables) n))
named_there None None files is = tt
named_there None (Some name) files is = true_there (has_name (ids_of files.tables) name) name files is
named_there (Some refusal) name files is = absurd (cc)

stopped_as : (stop : Stop) (expected : Result Files Stop) → expected ≡ Err stop → Stopped stop expected
stopped_as stops.OutOfMemory expected is = tt
stopped_as (stops.ReadFault slot) expected is = tt
stopped_as stops.BadWords expected is = is
stopped_as (stops.Refused refusal) expected is = is
stopped_as (stops.NoSuch name) expected is = is

-- files by their check are those that are accepted
pub tested_by : {A : Type 0} (mode : Mode) (files : Files) (checked : Result A InFault) (r : Result Input Stop)
    → AnswersFault checked (first_fault files.tables) → by_check (named_by mode) files checked ≡ with_files files r
    → Gives (λ (input : Input). files) r (tested mode files)
tested_by mode files (Ok x) (Ok input) none is = rw none is
tested_by mode files (Ok x) (Err stop) none is = rw none (stopped_as stop (having (named_by mode) files) is)
tested_by mode files (Err (Refused refusal)) (Ok input) fault is = absurd (cc is)
tested_by mode files (Err (Refused refusal)) (Err stop) fault is =
    rw fault (stopped_as stop (Err (stops.Refused refusal)) is)
tested_by mode files (Err OutOfMemory) (Ok input) fault is = absurd (cc is)
tested_by mode files (Err OutOfMemory) (Err stop) fault is =
    let same : stop ≡ stops.OutOfMemory = cc is in rw same tt

-- and what stops them is of files
pub of_files : {A B : Type 0} (named : Option Name) (files : Files) (checked : Result A InFault) (r : Result B Stop)
    → by_check named files checked ≡ with_files files r → IfErr r IsOfFiles
of_files named files checked (Ok x) is = tt
of_files None files (Ok x) (Err stop) is = absurd (cc is)
of_files (Some name) files (Ok x) (Err stop) is = by (has_name (ids_of files.tables) name) is
  where
    by : (b : Bool) → (if b then Ok files else Err (stops.NoSuch name)) ≡ Err stop → IsOfFiles stop
    by true e = absurd (cc e)
    by false e = let same : stop ≡ stops.NoSuch name = cc e in rw same tt
of_files named files (Err (Refused refusal)) (Err stop) is =
    let same : stop ≡ stops.Refused refusal = cc is in rw same tt
of_files named files (Err OutOfMemory) (Err stop) is =
    let same : stop ≡ stops.OutOfMemory = cc is in rw same tt

module _ (request : Request) (before after : OnShelf) where
  -- what stops the files stops the job
  pub stops_in : (stop : Stop) (r : Result Input Stop)
      → ((slots : Slot → List ℕ) → Tells (slots_of request.mode) before.left slots
      → Stopped stop (files_of request.mode slots))
      → (let q : Result Files Stop = Err stop in TakesSlots (slots_of request.mode) before after q)
      → IsErrAnd r (λ s. s ≡ stop) → TakesIn request before after r
  unfolding job_of
  stops_in stop (Ok input) stopped taken from = absurd from
  stops_in stop (Err s) stopped taken from = record {
    value = λ slots tells. rw from (stopped_then stop (files_of request.mode slots) _ (stopped slots tells));
    slots = record {
      ends = λ slots tells. tt;
      once = taken.once;
      size = rw from taken.size;
      others = taken.others;
      others_taken = taken.others_taken;
      counts = taken.counts;
      cause = rw from taken.cause;
      told = rw from taken.told;
      others_faults = taken.others_faults;
    };
  }

  -- the files give the input, or are not accepted
  pub takes_in : (files : Files) (r : Result Input Stop)
      → ((slots : Slot → List ℕ) → Tells (slots_of request.mode) before.left slots
      → files_of request.mode slots ≡ Ok files)
      → IfSome (sample_of request.mode) (λ number. files.tables ≡ sample_tables number)
      → (let q : Result Files Stop = Ok files in TakesSlots (slots_of request.mode) before after q)
      → Gives (λ (input : Input). files) r (tested request.mode files) → IfOk r (IsInputFrom files) → IfErr r IsOfFiles
      → TakesIn request before after r
  unfolding job_of
  takes_in files (Ok input) read made taken accepted from kinds = record {
    value = record {
      job = record { request = request; tables = files.tables; chain = files.chain };
      is_job = record {
        request = refl;
        faultless = no_fault (first_fault files.tables) (named_by request.mode) files accepted;
        named = named_there (first_fault files.tables) (named_by request.mode) files accepted;
        made = made;
      };
      is_input = record { dossier = from.dossier; index = from.index; dates = from.dates; chain = from.chain };
      is_accepted = λ slots tells. rw (read slots tells, accepted) refl;
    };
    slots = taken_still (slots_of request.mode) before after files (Ok input) taken kinds;
  }
  takes_in files (Err stop) read made taken stopped from kinds = record {
    value = λ slots tells. rw (read slots tells) (stopped_then stop (tested request.mode files) _ stopped);
    slots = taken_still (slots_of request.mode) before after files (Err stop) taken kinds;
  }

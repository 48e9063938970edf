-- The witnesses of the laws of whole runs.
use Rattle.std.proofs.Common.{◌≡◌, ℕ, ◌+◌, ◌-◌, ◌≤◌, List, [], ◌∷◌, ◌++◌, Option, Result, Ok, None, ap, false, get_or}
use Rattle.std.proofs.Common.{length, lit≤, refl, subst, sym, true}
use Rattle.std.specs.Prelude.{Some}
use Rattle.std.proofs.lemmas.List.{append-nil}
use Rattle.admit_core.proofs.Rows.{two_days_hold}
use Rattle.admit_core.specs.CallOrder.{AreCallOrders}
use Rattle.admit_core.specs.Days.{IsDay, ceilings_of, first_evening, morning}
use Rattle.admit_core.specs.DossierRows.{DossierRows}
use Rattle.admit_core.specs.Faults.{first_after}
use Rattle.admit_core.specs.Relations.{first_fault}
use Rattle.admit_core.specs.Standing.{dossier_of}
use Rattle.admit_core.specs.State.{State}
use Rattle.admit_core.specs.Validity.{IsValid}
use Rattle.admit_core.specs.WorkedRows.{realistic, realistic_days, realistic_order}
use Rattle.admit_core.specs.declared.dossier.AnswerKind.TheVariants as kinds
use Rattle.admit_core.specs.declared.ranking.CallOrder.{CallOrder}
use Rattle.admit_core.specs.declared.records.DayRecord.{DayRecord}
use Rattle.admit_core.specs.declared.slot.Slot.{Slot}
use Rattle.admit_core.specs.declared.slot.Slot.TheVariants as slot_names
use Rattle.admit_core.specs.declared.tables.Tables.{Tables}
use Rattle.certificate.specs.ChainText.{chain_text}
use Rattle.clap.proofs.OnLiterals.{clap_on_literals}
use Rattle.csv.proofs.OnLiterals.{csv_on_literals}
use Rattle.csv.specs.Records.{field_at}
use Rattle.desk_day.proofs.DayLaws.{laws_kept}
use Rattle.desk_day.proofs.DayPlaces.{day_in}
use Rattle.desk_day.proofs.LastBars.{length-ceilings_of}
use Rattle.desk_day.proofs.SameDossier.{evening_dossier}
use Rattle.desk_day.proofs.Stamps.{stamps_kept}
use Rattle.desk_day.specs.DayPasses.{AreChosenPasses, last_opening, schools_of_passes, stamp_of}
use Rattle.desk_day.specs.DeskStates.{DeskStates}
use Rattle.desk_day.specs.RunDay.{KeepsStamps}
use Rattle.dossier_csv.specs.Columns.{added_number, flag, number, optional_date, optional_number, word}
use Rattle.dossier_csv.specs.Rows.{answer_row, board_row, ceiling_row, group_row, programme_row, rank_row, school_row}
use Rattle.dossier_csv.specs.Rows.{state_row, wish_row}
use Rattle.dossier_csv.specs.Shape.{rows_from, table_of}
use Rattle.intake.specs.Input.{Job, accepted, job_of}
use Rattle.intake.specs.Reading.{files_in, sized, with_rows, with_slot, with_slots}
use Rattle.intake.specs.declared.stop.Stop.{Stop}
use Rattle.law_cases.proofs.Valid.{valid_by}
use Rattle.modes.specs.LentPicker.{IsLent}
use Rattle.modes.specs.Checking.{IsChecked, proved_text}
use Rattle.modes.specs.Endings.{IsEnding}
use Rattle.modes.specs.Replay.{replay_text}
use Rattle.modes.specs.declared.exit.Exit.{Exit}
use Rattle.modes.specs.declared.exit.Exit.TheVariants.{Done}
use Rattle.outcome_laws.proofs.Cases.{own_texts_are_proved_here}
use Rattle.outcome_laws.proofs.JobsOf.{Accepts, chain_job, check_job, job_with, replay_job, request_with}
use Rattle.outcome_laws.proofs.Outcomes.{accepted_as, chains_are_proved, checks_end_as_replays}
use Rattle.outcome_laws.proofs.ReadTables.{Files, chain_added}
use Rattle.outcome_laws.specs.OutcomeWitnesses.{ChainsAreProvedWitness, ChecksEndAsReplaysWitness, last_evening}
use Rattle.outcome_laws.specs.OutcomeWitnesses.{realistic_slots, words_of_chain, words_of_check, words_of_replay}
use Rattle.outcome_laws.specs.Outcomes.{Ran, with_chain}
use Rattle.played.specs.Lent.{Lent, named, picked_by}
use Rattle.played.specs.PlayedDays.{IsNext, IsPlayed, Lead, Plan, Played, first_desk, lent_after}
use Rattle.replay_cli.specs.Outcome.{Ends, IsOutcome}
use Rattle.request.specs.Modes.{nine_slots}
use Rattle.request.specs.Pickers.{picker_on}
use Rattle.request.specs.Request.{deadlines_option, mode_option, number_option, numbers_option, picker_option}
use Rattle.request.specs.Request.{request_in, request_of, request_of_named, start_option}
use Rattle.request.specs.declared.modes.Mode.{Mode}
use Rattle.request.specs.declared.modes.Mode.TheVariants.{Chain, Check, Replay}
use Rattle.request.specs.declared.pickers.PickerChoice.{PickerChoice}
use Rattle.request.specs.declared.pickers.PickerChoice.TheVariants.{Same}
use Rattle.request.specs.declared.pickers.PickerName.{PickerName}
use Rattle.request.specs.declared.pickers.PickerName.TheVariants.{First, Last, Turn}
use Rattle.request.specs.declared.request.Deadlines.{Deadlines}
use Rattle.request.specs.declared.request.Request.{Request}

-- ---- the words
chain_asks : request_of words_of_chain ≡ Some (request_with Chain 2 (Same First) None)
unfolding clap_on_literals request_of_named request_in numbers_option number_option mode_option picker_option
    start_option deadlines_option
chain_asks = refl

replay_asks : request_of words_of_replay ≡ Some (request_with Replay 2 (Same Last) None)
unfolding clap_on_literals request_of_named request_in numbers_option number_option mode_option picker_option
    start_option deadlines_option
replay_asks = refl

check_asks : request_of words_of_check ≡ Some (request_with Check 1 (Same First) None)
unfolding clap_on_literals request_of_named request_in numbers_option number_option mode_option picker_option
    start_option deadlines_option
check_asks = refl

-- ---- a day of the rules
-- the desk after a day
abbrev desk_after : List CallOrder → ℕ → DeskStates → DayRecord → State → DeskStates
desk_after orders d old day evening =
    record {
      present = evening;
      evening = old.present;
      opening = last_opening orders d 1 (morning None d old.present) day.passes;
    }

-- a day of the rules whose falls the picker of the day chose is the next of a desk
next_of : (orders : List CallOrder) (who : PickerChoice) (d : ℕ) (old : DeskStates) (before : Lent) (day : DayRecord)
    (evening : State) → IsValid old.present.dossier → AreCallOrders old.present.dossier.groups orders → day.day ≡ d
    → IsDay None orders (ceilings_of old.present.dossier d) old.present day evening
    → (lent_after who day before).told (picker_on who d) ≡ before.told (picker_on who d) ++ schools_of_passes day.passes
    → AreChosenPasses orders (ceilings_of old.present.dossier d) (stamp_of d 1) (morning None d old.present)
    (before.choice (picker_on who d)) (before.told (picker_on who d)) day.passes
    → length day.passes ≤ length old.present.dossier.wishes + 1
    → IsNext (record { orders = orders; terms = None; who = who }) d old before day
    (desk_after orders d old day evening)
next_of orders who d old before day evening valid called number is told chosen few =
    let ceilings : List ℕ = ceilings_of old.present.dossier d in
    let long = length-ceilings_of old.present.dossier d in
    record {
      done =
          record {
            rule = record { number = number; is_day = is; opening = refl; told = told; chosen = chosen };
            follows =
                record {
                  laws = laws_kept None orders ceilings old.present day evening valid called long is;
                  few = few;
                  places = day_in None orders ceilings old.present day evening tt long is;
                  stamps = subst (λ (n : ℕ). KeepsStamps n old.present evening) number
                      (stamps_kept None orders ceilings old.present day evening is);
                };
          };
      evening = refl;
      dossier = evening_dossier None orders ceilings old.present day evening is;
    }

-- ---- two days of the realistic dossier
realistic_is_valid : IsValid realistic
realistic_is_valid = valid_by realistic refl

realistic_called : AreCallOrders realistic.groups (realistic_order ∷ [])
realistic_called = (two_days_hold.0, tt)

-- how the pickers of these runs choose: the last one takes the last of the places, the others take the first
abbrev chosen_by : PickerName → List ℕ → List ℕ → ℕ
chosen_by name told places =
    named (get_or places 0 0) (get_or places (length places - 1) 0) (get_or places 0 0) name

abbrev before_lent : Lent
before_lent = record { told = λ name. []; choice = chosen_by }

abbrev day_one : DayRecord
day_one = get_or realistic_days 0 (record { day = 0; passes = []; left = []; free = []; lapsed = [] })

abbrev day_two : DayRecord
day_two = get_or realistic_days 1 (record { day = 0; passes = []; left = []; free = []; lapsed = [] })

abbrev first_night : State
first_night = two_days_hold.1.0

same_dossier : first_night.dossier ≡ realistic
same_dossier =
    evening_dossier None (realistic_order ∷ []) (ceilings_of realistic 1) (first_evening realistic) day_one first_night
    two_days_hold.1.2

-- ---- the days, with one picker on both
abbrev orders_of_both : List CallOrder
orders_of_both = realistic_order ∷ []

abbrev desk_one : DeskStates
desk_one = desk_after orders_of_both 1 (first_desk realistic) day_one first_night

abbrev desk_two : DeskStates
desk_two = desk_after orders_of_both 2 desk_one day_two last_evening

abbrev day_plan : PickerName → Plan
day_plan name = record { orders = orders_of_both; terms = None; who = Same name }

abbrev lent_between : PickerName → Lent
lent_between name = lent_after (Same name) day_one before_lent

told_one : (name : PickerName)
    → (lent_between name).told name ≡ before_lent.told name ++ schools_of_passes day_one.passes
told_one First = refl
told_one Last = refl
told_one Turn = refl

told_two : (name : PickerName)
    → (lent_after (Same name) day_two (lent_between name)).told name
    ≡ (lent_between name).told name ++ schools_of_passes day_two.passes
told_two First = refl
told_two Last = refl
told_two Turn = refl

-- the one school that is overfilled is the choice of each of them
chosen_one : (name : PickerName)
    → AreChosenPasses orders_of_both (ceilings_of realistic 1) (stamp_of 1 1)
    (morning None 1 (first_evening realistic))
    (chosen_by name) [] day_one.passes
chosen_one First = (tt, ((refl, tt), tt))
chosen_one Last = (tt, ((refl, tt), tt))
chosen_one Turn = (tt, ((refl, tt), tt))

next_one : (name : PickerName) → IsNext (day_plan name) 1 (first_desk realistic) before_lent day_one desk_one
next_one name =
    next_of orders_of_both (Same name) 1 (first_desk realistic) before_lent day_one first_night realistic_is_valid
    realistic_called two_days_hold.1.1 two_days_hold.1.2 (told_one name) (chosen_one name) (lit≤ tt)

next_two : (name : PickerName) → IsNext (day_plan name) 2 desk_one (lent_between name) day_two desk_two
next_two name =
    let valid : IsValid first_night.dossier = subst IsValid (sym same_dossier) realistic_is_valid in
    let called : AreCallOrders first_night.dossier.groups orders_of_both =
    subst (λ (d : DossierRows). AreCallOrders d.groups orders_of_both) (sym same_dossier) realistic_called in
    let is : IsDay None orders_of_both (ceilings_of first_night.dossier 2) first_night day_two last_evening =
    subst (λ (s : State). IsDay None orders_of_both (ceilings_of first_night.dossier 2) first_night day_two s)
    two_days_hold.1.3.3 two_days_hold.1.3.2 in
    let few : length day_two.passes ≤ length first_night.dossier.wishes + 1 =
    subst (λ (d : DossierRows). length day_two.passes ≤ length d.wishes + 1) (sym same_dossier) (lit≤ tt) in
    next_of orders_of_both (Same name) 2 desk_one (lent_between name) day_two last_evening valid called
    two_days_hold.1.3.1 is (told_two name) (tt, tt) few

abbrev days_played : Played
days_played = record { orders = orders_of_both; days = realistic_days; end = Ok desk_two }

lead_on : (name : PickerName) → Lead (day_plan name) 1 (first_desk realistic) before_lent realistic_days desk_two
lead_on name = (desk_one, next_one name, (desk_two, next_two name, refl))

abbrev lent_afterwards : PickerName → Lent
lent_afterwards name =
    record { told = λ other. picked_by (Same name) other realistic_days; choice = chosen_by }

are_played : (name : PickerName)
    → IsPlayed realistic None 2 (Same name) before_lent days_played (lent_afterwards name)
are_played name =
    record {
      called = realistic_called;
      last = desk_two;
      days = lead_on name;
      ends = (refl, refl);
      told = λ other. refl;
    }

-- a picker that is asked nothing
untold : (lent : Lent) → IsLent None lent lent
untold lent =
    record {
      back = record { choice = λ name. refl; told = λ name. ([], sym (append-nil (lent.told name))) };
      others = λ name. refl;
    }

-- ---- the files
abbrev realistic_tables : Tables
realistic_tables =
    record {
      groups = record { id = 1; scholar_pct = 20; resident_pct = 50 } ∷ [];
      programmes =
          record { id = 10; group = 1; seats = 2; limit = 0 }
          ∷ record { id = 20; group = 1; seats = 1; limit = 0 }
          ∷ [];
      schools = record { id = 5; beds = 1; ceiling = 10 } ∷ [];
      rankings =
          record { group = 1; candidate = 101; rank = 1; scholar = false; resident = false }
          ∷ record { group = 1; candidate = 102; rank = 2; scholar = true; resident = true }
          ∷ record { group = 1; candidate = 103; rank = 3; scholar = false; resident = true }
          ∷ record { group = 1; candidate = 104; rank = 4; scholar = false; resident = false }
          ∷ [];
      boarding =
          record { school = 5; candidate = 101; rank = 2 } ∷ record { school = 5; candidate = 103; rank = 1 } ∷ [];
      wishes =
          record { id = 1; candidate = 101; programme = 10; school = None; preference = 0 }
          ∷ record { id = 2; candidate = 101; programme = 10; school = Some 5; preference = 0 }
          ∷ record { id = 3; candidate = 102; programme = 10; school = None; preference = 2 }
          ∷ record { id = 4; candidate = 102; programme = 20; school = None; preference = 1 }
          ∷ record { id = 5; candidate = 103; programme = 10; school = Some 5; preference = 0 }
          ∷ record { id = 6; candidate = 103; programme = 20; school = Some 5; preference = 0 }
          ∷ record { id = 7; candidate = 104; programme = 10; school = None; preference = 0 }
          ∷ record { id = 8; candidate = 104; programme = 20; school = None; preference = 0 }
          ∷ [];
      state = [];
      ceilings = [];
      answers =
          record { day = 2; kind = kinds.Accept; target = 1 }
          ∷ record { day = 2; kind = kinds.Refuse; target = 7 }
          ∷ [];
    }

abbrev realistic_files : Files
realistic_files = record { tables = realistic_tables; chain = [] }

files_read : files_in nine_slots realistic_slots ≡ Ok realistic_files
unfolding csv_on_literals field_at table_of rows_from group_row programme_row school_row rank_row board_row wish_row
    state_row ceiling_row answer_row number added_number optional_number optional_date flag word sized with_rows
    with_slot with_slots
files_read = refl

files_sound : first_fault realistic_tables ≡ None
unfolding first_after
files_sound = refl

accepts : Accepts nine_slots realistic_slots realistic_files
accepts = record { read = files_read; none = files_sound }

its_rows : dossier_of realistic_tables ≡ realistic
its_rows = refl

-- ---- the runs
-- what an accepted job's days end with is the outcome of a run
ran : (mode : Mode) (days : ℕ) (picker : PickerChoice) (deadlines : Option Deadlines) (slots : Slot → List ℕ)
    (words : List (List ℕ)) (job : Job) (before after : Lent) (exit : Exit) (text : List ℕ)
    → request_of words ≡ Some (request_with mode days picker deadlines)
    → job_of (request_with mode days picker deadlines) slots ≡ Ok job
    → IsEnding job before after exit text → Ran mode days deadlines words slots exit text
unfolding IsOutcome
ran mode days picker deadlines slots words job before after exit text asks is ending =
    let request : Request = request_with mode days picker deadlines in
    let is_accepted : accepted words slots ≡ Ok job = accepted_as words slots request job asks is in
    record {
      picker = picker;
      before = before;
      after = after;
      asks = asks;
      is_outcome = subst (λ (found : Result Job Stop). Ends found before after exit text) (sym is_accepted) ending;
    }

abbrev its_chain : List ℕ
its_chain = chain_text realistic realistic_days

abbrev its_replay : List ℕ
its_replay = replay_text realistic None orders_of_both realistic_days last_evening

abbrev its_proof : List ℕ
its_proof = proved_text 2 last_evening None

-- the chain of the two days, and their replay
chain_run : Ran Chain 2 None words_of_chain realistic_slots Done its_chain
chain_run =
    let request : Request = request_with Chain 2 (Same First) None in
    let job : Job = job_with request realistic_files in
    let ending : IsEnding job before_lent (lent_afterwards First) Done its_chain =
    record {
      played = days_played;
      between = lent_afterwards First;
      days = are_played First;
      tells = tt;
      lends = untold (lent_afterwards First);
      ends = (refl, ap (λ (d : DossierRows). chain_text d realistic_days) (sym its_rows));
    } in
    ran Chain 2 (Same First) None realistic_slots words_of_chain job before_lent (lent_afterwards First) Done its_chain
    chain_asks (chain_job 2 (Same First) None realistic_slots realistic_files accepts) ending

replay_run : Ran Replay 2 None words_of_replay realistic_slots Done its_replay
replay_run =
    let request : Request = request_with Replay 2 (Same Last) None in
    let job : Job = job_with request realistic_files in
    let ending : IsEnding job before_lent (lent_afterwards Last) Done its_replay =
    record {
      played = days_played;
      between = lent_afterwards Last;
      days = are_played Last;
      tells = tt;
      lends = untold (lent_afterwards Last);
      ends = (
        refl,
        ap (λ (d : DossierRows). replay_text d None orders_of_both realistic_days last_evening)
            (sym its_rows),
      );
    } in
    ran Replay 2 (Same Last) None realistic_slots words_of_replay job before_lent (lent_afterwards Last) Done its_replay
    replay_asks (replay_job 2 (Same Last) None realistic_slots realistic_files accepts) ending

-- the chain fits its slot
its_size : length its_chain ≤ 1073741824
its_size = own_texts_are_proved_here.2

chain_accepts : Accepts (nine_slots ++ slot_names.Chain ∷ []) (with_chain its_chain realistic_slots)
    (record { tables = realistic_tables; chain = its_chain })
chain_accepts =
    record {
      read = chain_added nine_slots realistic_slots (with_chain its_chain realistic_slots) realistic_files
          (refl, (refl, (refl, (refl, (refl, (refl, (refl, (refl, (refl, tt))))))))) its_size files_read;
      none = files_sound;
    }

-- the check of that chain, which runs no day
check_run : Ran Check 1 None words_of_check (with_chain its_chain realistic_slots) Done its_proof
check_run =
    let handed : Files = record { tables = realistic_tables; chain = its_chain } in
    let job : Job = job_with (request_with Check 1 (Same First) None) handed in
    let ending : IsEnding job before_lent before_lent Done its_proof =
    record {
      played = record { orders = orders_of_both; days = []; end = Ok (first_desk realistic) };
      between = before_lent;
      days =
          record {
            called = realistic_called;
            last = first_desk realistic;
            days = refl;
            ends = (refl, refl);
            told = λ name. refl;
          };
      tells = tt;
      lends = untold before_lent;
      ends = subst (λ (d : DossierRows). IsChecked d its_chain None orders_of_both Done its_proof) (sym its_rows)
          own_texts_are_proved_here.4;
    } in
    ran Check 1 (Same First) None (with_chain its_chain realistic_slots) words_of_check job before_lent before_lent Done
    its_proof check_asks (check_job 1 (Same First) None (with_chain its_chain realistic_slots) handed chain_accepts)
    ending

-- ---- the witnesses
pub chains_are_proved_here : ChainsAreProvedWitness
chains_are_proved_here =
    let ends = chains_are_proved 2 1 None words_of_chain words_of_check realistic_slots Done its_chain its_proof
    its_size chain_run check_run in
    (its_size, chain_run, check_run, ends.0, ends.1, ends.2, ends.3)

pub checks_end_as_replays_here : ChecksEndAsReplaysWitness
checks_end_as_replays_here =
    let ends = checks_end_as_replays 2 1 None words_of_replay words_of_chain words_of_check realistic_slots Done
    its_replay its_chain its_proof its_size replay_run chain_run check_run in
    (its_size, replay_run, chain_run, check_run, ends.0, ends.1, ends.2, ends.3)

-- Witnesses of the laws of whole runs: two days of a realistic dossier, with a fall, from its
-- bytes; the replay has another picker than the chain.
use Rattle.std.specs.Prelude.{◌≡◌, ℕ, ◌≤◌, List, [], ◌∷◌, ◌++◌, Option, None, Ok, codes, length}
use Rattle.admit_core.specs.State.{State}
use Rattle.admit_core.specs.WorkedRows.{last_marks, realistic, realistic_days, realistic_order}
use Rattle.admit_core.specs.declared.slot.Slot.{Slot}
use Rattle.admit_core.specs.declared.slot.Slot.TheVariants as slot
use Rattle.certificate.specs.ChainText.{chain_text}
use Rattle.intake.specs.Input.{Job, accepted}
use Rattle.modes.specs.Checking.{proved_text}
use Rattle.modes.specs.Replay.{replay_text}
use Rattle.modes.specs.declared.exit.Exit.{Exit}
use Rattle.modes.specs.declared.exit.Exit.TheVariants.{Done}
use Rattle.request.specs.declared.modes.Mode.TheVariants.{Chain, Check, Replay}
use Rattle.request.specs.declared.request.Deadlines.{Deadlines}
use Rattle.outcome_laws.specs.Outcomes.{EndAlike, IsProved, Ran, with_chain}

-- the bytes of the realistic dossier
abbrev pub realistic_slots : Slot → List ℕ
realistic_slots slot.Groups = codes "group,scholar_pct,resident_pct\n1,20,50\n"
realistic_slots slot.Programmes = codes "programme,group,seats\n10,1,2\n20,1,1\n"
realistic_slots slot.Schools = codes "school,beds,ceiling\n5,1,10\n"
realistic_slots slot.Rankings =
    codes "group,candidate,rank,scholar,resident\n1,101,1,0,0\n1,102,2,1,1\n"
    ++ codes "1,103,3,0,1\n1,104,4,0,0\n"
realistic_slots slot.Boarding = codes "school,candidate,rank\n5,101,2\n5,103,1\n"
realistic_slots slot.Wishes =
    codes "wish,candidate,programme,school,preference\n1,101,10,,0\n2,101,10,5,0\n3,102,10,,2\n"
    ++ codes "4,102,20,,1\n5,103,10,5,0\n6,103,20,5,0\n7,104,10,,0\n8,104,20,,0\n"
realistic_slots slot.State = codes "wish,status\n"
realistic_slots slot.Ceilings = codes "day,school,ceiling\n"
realistic_slots slot.Answers = codes "day,kind,target\n2,accept,1\n2,refuse,7\n"
realistic_slots slot.Chain = []

-- words that ask for two days of each mode, and for the check
abbrev pub words_of_chain : List (List ℕ)
words_of_chain = codes "chain" ∷ codes "--days" ∷ codes "2" ∷ []

abbrev pub words_of_replay : List (List ℕ)
words_of_replay =
    codes "replay" ∷ codes "--days" ∷ codes "2" ∷ codes "--picker" ∷ codes "last" ∷ []

abbrev pub words_of_check : List (List ℕ)
words_of_check = codes "check" ∷ []

-- the evening of the second day
abbrev pub last_evening : State
last_evening = record { dossier = realistic; marks = last_marks }

abbrev pub ChainsAreProvedWitness : Type 0
ChainsAreProvedWitness =
    let days : ℕ = 2 in
    let number : ℕ = 1 in
    let deadlines : Option Deadlines = None in
    let words : List (List ℕ) = words_of_chain in
    let check_words : List (List ℕ) = words_of_check in
    let slots : Slot → List ℕ = realistic_slots in
    let exit : Exit = Done in
    let text : List ℕ = chain_text realistic realistic_days in
    let checked : List ℕ = proved_text 2 last_evening None in
    (length text ≤ 1073741824)
    × Ran Chain days deadlines words slots Done text
    × Ran Check number deadlines check_words (with_chain text slots) exit checked
    × (exit ≡ Done) × (job : Job) × (accepted words slots ≡ Ok job)
    × IsProved job days text checked

abbrev pub ChecksEndAsReplaysWitness : Type 0
ChecksEndAsReplaysWitness =
    let days : ℕ = 2 in
    let number : ℕ = 1 in
    let deadlines : Option Deadlines = None in
    let words : List (List ℕ) = words_of_replay in
    let chain_words : List (List ℕ) = words_of_chain in
    let check_words : List (List ℕ) = words_of_check in
    let slots : Slot → List ℕ = realistic_slots in
    let exit : Exit = Done in
    let replayed : List ℕ =
    replay_text realistic None (realistic_order ∷ []) realistic_days last_evening in
    let text : List ℕ = chain_text realistic realistic_days in
    let checked : List ℕ = proved_text 2 last_evening None in
    (length text ≤ 1073741824)
    × Ran Replay days deadlines words slots Done replayed
    × Ran Chain days deadlines chain_words slots Done text
    × Ran Check number deadlines check_words (with_chain text slots) exit checked
    × (exit ≡ Done) × (job : Job) × (accepted words slots ≡ Ok job)
    × EndAlike job days replayed checked

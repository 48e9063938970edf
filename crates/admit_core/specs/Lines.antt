-- How slots, statuses, bounds and refusals are printed.
use Rattle.std.specs.Prelude.{ℕ, List, [], ◌++◌, codes}
use Rattle.std.specs.Fmt.{decimal}
use Rattle.admit_core.specs.declared.slot.Slot.{Slot}
use Rattle.admit_core.specs.declared.slot.Slot.TheVariants.{Groups, Programmes, Schools, Rankings, Boarding, Wishes}
use Rattle.admit_core.specs.declared.slot.Slot.TheVariants.{State, Ceilings, Answers, Chain}
use Rattle.admit_core.specs.declared.state.Status.{Status}
use Rattle.admit_core.specs.declared.state.Status.TheVariants.{Waiting, Offered, Accepted, Refused, Withdrawn, Quit}
use Rattle.admit_core.specs.declared.state.Status.TheVariants.{AutoRefused, AutoWithdrawn, Lapsed}
use Rattle.admit_core.specs.declared.ranking.Bound.{Bound}
use Rattle.admit_core.specs.declared.ranking.Bound.TheVariants as bound
use Rattle.admit_core.specs.declared.refusal.Reason.{Reason}
use Rattle.admit_core.specs.declared.refusal.Reason.TheVariants.{Header, FieldCount, NotNumber, OutOfRange, NotFlag}
use Rattle.admit_core.specs.declared.refusal.Reason.TheVariants.{NotWord, TooManyRows, TooLarge, Repeat, Unknown}
use Rattle.admit_core.specs.declared.refusal.Reason.TheVariants.{RankTaken, Unranked, NoBoardingRank, PreferenceMixed}
use Rattle.admit_core.specs.declared.refusal.Reason.TheVariants.{PreferenceTaken, TwoAccepted, DayFalls, UnfitAnswer}
use Rattle.admit_core.specs.declared.refusal.Reason.TheVariants.{NotDate}
use Rattle.admit_core.specs.declared.refusal.Refusal.{Refusal}
use Rattle.admit_core.specs.declared.lines.Kept.{Kept}
use Rattle.admit_core.specs.declared.lines.Kept.TheVariants.{Nothing, Number, Found}

abbrev pub slot_name : Slot → List ℕ
slot_name Groups = codes "groups"
slot_name Programmes = codes "programmes"
slot_name Schools = codes "schools"
slot_name Rankings = codes "rankings"
slot_name Boarding = codes "boarding"
slot_name Wishes = codes "wishes"
slot_name State = codes "state"
slot_name Ceilings = codes "ceilings"
slot_name Answers = codes "answers"
slot_name Chain = codes "chain"

abbrev pub status_word : Status → List ℕ
status_word Waiting = codes "waiting"
status_word Offered = codes "offered"
status_word Accepted = codes "accepted"
status_word Refused = codes "refused"
status_word Withdrawn = codes "withdrawn"
status_word Quit = codes "quit"
status_word AutoRefused = codes "auto_refused"
status_word AutoWithdrawn = codes "auto_withdrawn"
status_word Lapsed = codes "lapsed"

-- the letter of a position in the line of the rules
abbrev pub bound_letter : Bound → List ℕ
bound_letter bound.Free = codes "-"
bound_letter bound.Scholar = codes "s"
bound_letter bound.Resident = codes "r"
bound_letter bound.Both = codes "b"
bound_letter bound.Alone = codes "x"

abbrev pub reason_number : Reason → ℕ
reason_number Header = 1
reason_number (FieldCount found) = 2
reason_number (NotNumber field) = 3
reason_number (OutOfRange field) = 4
reason_number (NotFlag field) = 5
reason_number (NotWord field) = 6
reason_number TooManyRows = 7
reason_number TooLarge = 8
reason_number (Repeat first) = 9
reason_number (Unknown field) = 10
reason_number (RankTaken first) = 11
reason_number Unranked = 12
reason_number NoBoardingRank = 13
reason_number (PreferenceMixed first) = 14
reason_number (PreferenceTaken first) = 15
reason_number (TwoAccepted first) = 16
reason_number DayFalls = 17
reason_number (UnfitAnswer status) = 18
reason_number (NotDate field) = 20

abbrev pub reason_name : Reason → List ℕ
reason_name Header = codes "Header"
reason_name (FieldCount found) = codes "FieldCount"
reason_name (NotNumber field) = codes "NotNumber"
reason_name (OutOfRange field) = codes "OutOfRange"
reason_name (NotFlag field) = codes "NotFlag"
reason_name (NotWord field) = codes "NotWord"
reason_name TooManyRows = codes "TooManyRows"
reason_name TooLarge = codes "TooLarge"
reason_name (Repeat first) = codes "Repeat"
reason_name (Unknown field) = codes "Unknown"
reason_name (RankTaken first) = codes "RankTaken"
reason_name Unranked = codes "Unranked"
reason_name NoBoardingRank = codes "NoBoardingRank"
reason_name (PreferenceMixed first) = codes "PreferenceMixed"
reason_name (PreferenceTaken first) = codes "PreferenceTaken"
reason_name (TwoAccepted first) = codes "TwoAccepted"
reason_name DayFalls = codes "DayFalls"
reason_name (UnfitAnswer status) = codes "UnfitAnswer"
reason_name (NotDate field) = codes "NotDate"

-- what a reason keeps beside its name
abbrev pub kept_by : Reason → Kept
kept_by Header = Nothing
kept_by (FieldCount found) = Number found
kept_by (NotNumber field) = Number field
kept_by (OutOfRange field) = Number field
kept_by (NotFlag field) = Number field
kept_by (NotWord field) = Number field
kept_by TooManyRows = Nothing
kept_by TooLarge = Nothing
kept_by (Repeat first) = Number first
kept_by (Unknown field) = Number field
kept_by (RankTaken first) = Number first
kept_by Unranked = Nothing
kept_by NoBoardingRank = Nothing
kept_by (PreferenceMixed first) = Number first
kept_by (PreferenceTaken first) = Number first
kept_by (TwoAccepted first) = Number first
kept_by DayFalls = Nothing
kept_by (UnfitAnswer status) = Found status
kept_by (NotDate field) = Number field

-- as it stands after the name
abbrev pub kept_text : Kept → List ℕ
kept_text Nothing = []
kept_text (Number number) = codes " " ++ decimal number
kept_text (Found status) = codes " " ++ status_word status

-- a reason's name, and the value that it keeps
abbrev pub reason_text : Reason → List ℕ
reason_text reason = reason_name reason ++ kept_text (kept_by reason)

-- the line of a refusal, without its line feed
abbrev pub refusal_text : Refusal → List ℕ
refusal_text r =
    codes "refused " ++ (slot_name r.slot
    ++ (codes " row " ++ (decimal r.row
    ++ (codes " reason "
    ++ (decimal (reason_number r.reason) ++ (codes " " ++ reason_text r.reason))))))

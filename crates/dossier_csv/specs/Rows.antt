-- The layouts of the slots, and what a row of each says.
use Rattle.std.specs.Prelude.{ℕ, List, [], ◌∷◌, Result, Ok, codes}
use Rattle.admit_core.specs.declared.dossier.AnswerKind.{AnswerKind}
use Rattle.admit_core.specs.declared.dossier.AnswerKind.TheVariants.{Accept, Refuse, Withdraw, Quit}
use Rattle.std.specs.Option.{ForSome}
use Rattle.admit_core.specs.Lines.{status_word}
use Rattle.admit_core.specs.declared.slot.Slot.TheVariants as slots
use Rattle.admit_core.specs.declared.state.Status.{Status}
use Rattle.admit_core.specs.declared.state.Status.TheVariants as status
use Rattle.admit_core.specs.declared.refusal.Reason.{Reason}
use Rattle.admit_core.specs.declared.tables.AnswerRow.{AnswerRow}
use Rattle.admit_core.specs.declared.tables.BoardRow.{BoardRow}
use Rattle.admit_core.specs.declared.tables.CeilingRow.{CeilingRow}
use Rattle.admit_core.specs.declared.tables.GroupRow.{GroupRow}
use Rattle.admit_core.specs.declared.tables.ProgrammeRow.{ProgrammeRow}
use Rattle.admit_core.specs.declared.tables.RankRow.{RankRow}
use Rattle.admit_core.specs.declared.tables.SchoolRow.{SchoolRow}
use Rattle.admit_core.specs.declared.tables.StateRow.{StateRow}
use Rattle.admit_core.specs.declared.tables.WishRow.{WishRow}
use Rattle.dossier_csv.specs.Columns.{◌>>=◌, IsSince, added_number, amounts, days, flag, ids, number, optional_date}
use Rattle.dossier_csv.specs.Columns.{optional_number, percents, word, words}
use Rattle.dossier_csv.specs.Layout.{Layout, layout_of}

unfoldable pub group_row : List (List ℕ) → Result GroupRow Reason
group_row fields = do
  id ← number ids fields 1
  scholar_pct ← number percents fields 2
  resident_pct ← number percents fields 3
  Ok (record { id = id; scholar_pct = scholar_pct; resident_pct = resident_pct })

abbrev pub groups : Layout GroupRow
groups = layout_of slots.Groups (codes "group,scholar_pct,resident_pct" ∷ []) group_row

unfoldable pub programme_row : List (List ℕ) → Result ProgrammeRow Reason
programme_row fields = do
  id ← number ids fields 1
  group ← number ids fields 2
  seats ← number amounts fields 3
  limit ← added_number amounts fields 4
  Ok (record { id = id; group = group; seats = seats; limit = limit })

abbrev pub programmes : Layout ProgrammeRow
programmes =
    layout_of slots.Programmes
    (codes "programme,group,seats" ∷ codes "programme,group,seats,limit" ∷ [])
    programme_row

unfoldable pub school_row : List (List ℕ) → Result SchoolRow Reason
school_row fields = do
  id ← number ids fields 1
  beds ← number amounts fields 2
  ceiling ← number amounts fields 3
  Ok (record { id = id; beds = beds; ceiling = ceiling })

abbrev pub schools : Layout SchoolRow
schools = layout_of slots.Schools (codes "school,beds,ceiling" ∷ []) school_row

unfoldable pub rank_row : List (List ℕ) → Result RankRow Reason
rank_row fields = do
  group ← number ids fields 1
  candidate ← number ids fields 2
  rank ← number ids fields 3
  scholar ← flag fields 4
  resident ← flag fields 5
  Ok
      (record {
        group = group;
        candidate = candidate;
        rank = rank;
        scholar = scholar;
        resident = resident;
      })

abbrev pub rankings : Layout RankRow
rankings = layout_of slots.Rankings (codes "group,candidate,rank,scholar,resident" ∷ []) rank_row

unfoldable pub board_row : List (List ℕ) → Result BoardRow Reason
board_row fields = do
  school ← number ids fields 1
  candidate ← number ids fields 2
  rank ← number ids fields 3
  Ok (record { school = school; candidate = candidate; rank = rank })

abbrev pub boarding : Layout BoardRow
boarding = layout_of slots.Boarding (codes "school,candidate,rank" ∷ []) board_row

unfoldable pub wish_row : List (List ℕ) → Result WishRow Reason
wish_row fields = do
  id ← number ids fields 1
  candidate ← number ids fields 2
  programme ← number ids fields 3
  school ← optional_number ids fields 4
  preference ← number amounts fields 5
  Ok
      (record {
        id = id;
        candidate = candidate;
        programme = programme;
        school = school;
        preference = preference;
      })

abbrev pub wishes : Layout WishRow
wishes = layout_of slots.Wishes (codes "wish,candidate,programme,school,preference" ∷ []) wish_row

-- the statuses, each beside the word that it is printed by
abbrev pub statuses : List (List ℕ × Status)
statuses =
    words status_word (status.Waiting ∷ status.Offered ∷ status.Accepted ∷ status.Refused
    ∷ status.Withdrawn ∷ status.Quit ∷ status.AutoRefused ∷ status.AutoWithdrawn
    ∷ status.Lapsed ∷ [])

unfoldable pub state_row : List (List ℕ) → Result StateRow Reason
state_row fields = do
  wish ← number ids fields 1
  what ← word statuses fields 2
  since ← optional_date fields 3
  Ok (record { wish = wish; status = what; since = since })

abbrev pub state : Layout StateRow
state = layout_of slots.State (codes "wish,status" ∷ codes "wish,status,since" ∷ []) state_row

-- a row whose date, if it has one, is a date
abbrev pub IsDatedRow : StateRow → Type 0
IsDatedRow row = ForSome row.since IsSince

unfoldable pub ceiling_row : List (List ℕ) → Result CeilingRow Reason
ceiling_row fields = do
  day ← number days fields 1
  school ← number ids fields 2
  ceiling ← number amounts fields 3
  Ok (record { day = day; school = school; ceiling = ceiling })

abbrev pub ceilings : Layout CeilingRow
ceilings = layout_of slots.Ceilings (codes "day,school,ceiling" ∷ []) ceiling_row

abbrev pub kind_word : AnswerKind → List ℕ
kind_word Accept = codes "accept"
kind_word Refuse = codes "refuse"
kind_word Withdraw = codes "withdraw"
kind_word Quit = codes "quit"

abbrev pub kinds : List (List ℕ × AnswerKind)
kinds = words kind_word (Accept ∷ Refuse ∷ Withdraw ∷ Quit ∷ [])

unfoldable pub answer_row : List (List ℕ) → Result AnswerRow Reason
answer_row fields = do
  day ← number days fields 1
  kind ← word kinds fields 2
  target ← number ids fields 3
  Ok (record { day = day; kind = kind; target = target })

abbrev pub answers : Layout AnswerRow
answers = layout_of slots.Answers (codes "day,kind,target" ∷ []) answer_row

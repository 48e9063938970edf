-- The texts of the slots: a header, and a line a row.
use Rattle.std.specs.Prelude.{ℕ, Bool, true, false, List, [], ◌∷◌, ◌++◌, codes, flat_map, nat_lt, Option, Some, None}
use Rattle.std.specs.Prelude.{if◌then◌else◌}
use Rattle.std.specs.Fmt.{decimal}
use Rattle.admit_core.specs.Lines.{status_word}
use Rattle.admit_core.specs.declared.slot.Slot.{Slot}
use Rattle.admit_core.specs.declared.slot.Slot.TheVariants as slots
use Rattle.admit_core.specs.declared.tables.AnswerRow.{AnswerRow}
use Rattle.admit_core.specs.declared.tables.BoardRow.{BoardRow}
use Rattle.admit_core.specs.declared.tables.CeilingRow.{CeilingRow}
use Rattle.admit_core.specs.declared.tables.GroupRow.{GroupRow}
use Rattle.admit_core.specs.declared.tables.ProgrammeRow.{ProgrammeRow}
use Rattle.admit_core.specs.declared.tables.RankRow.{RankRow}
use Rattle.admit_core.specs.declared.tables.SchoolRow.{SchoolRow}
use Rattle.admit_core.specs.declared.tables.Since.{Since}
use Rattle.admit_core.specs.declared.tables.StateRow.{StateRow}
use Rattle.admit_core.specs.declared.tables.Tables.{Tables}
use Rattle.admit_core.specs.declared.tables.WishRow.{WishRow}
use Rattle.dossier_csv.specs.Rows.{kind_word}
use Rattle.report.specs.Words.{row}

-- how a slot is written: the names of its columns, and what a row has in them
pub record Written (A : Type 0) : Type 0 where
  pub header : List (List ℕ)
  pub fields : A → List (List ℕ)

-- the header, and the line of each row in the order of the rows
abbrev pub table_text : {A : Type 0} → Written A → List A → List ℕ
table_text written rows = row written.header ++ flat_map (λ x. row (written.fields x)) rows

abbrev pub groups : Written GroupRow
groups =
    record {
      header = codes "group" ∷ codes "scholar_pct" ∷ codes "resident_pct" ∷ [];
      fields = λ r. decimal r.id ∷ decimal r.scholar_pct ∷ decimal r.resident_pct ∷ [];
    }

-- a programme without a call limit has a limit of 0
abbrev pub programmes : Written ProgrammeRow
programmes =
    record {
      header = codes "programme" ∷ codes "group" ∷ codes "seats" ∷ codes "limit" ∷ [];
      fields = λ r. decimal r.id ∷ decimal r.group ∷ decimal r.seats ∷ decimal r.limit ∷ [];
    }

abbrev pub schools : Written SchoolRow
schools =
    record {
      header = codes "school" ∷ codes "beds" ∷ codes "ceiling" ∷ [];
      fields = λ r. decimal r.id ∷ decimal r.beds ∷ decimal r.ceiling ∷ [];
    }

abbrev pub flag_word : Bool → List ℕ
flag_word true = codes "1"
flag_word false = codes "0"

abbrev pub rankings : Written RankRow
rankings =
    record {
      header = codes "group" ∷ codes "candidate" ∷ codes "rank" ∷ codes "scholar"
          ∷ codes "resident" ∷ [];
      fields = λ r. decimal r.group ∷ decimal r.candidate ∷ decimal r.rank ∷ flag_word r.scholar
          ∷ flag_word r.resident ∷ [];
    }

abbrev pub boarding : Written BoardRow
boarding =
    record {
      header = codes "school" ∷ codes "candidate" ∷ codes "rank" ∷ [];
      fields = λ r. decimal r.school ∷ decimal r.candidate ∷ decimal r.rank ∷ [];
    }

-- a wish without a school has an empty field for it
abbrev pub school_word : Option ℕ → List ℕ
school_word None = []
school_word (Some school) = decimal school

abbrev pub wishes : Written WishRow
wishes =
    record {
      header = codes "wish" ∷ codes "candidate" ∷ codes "programme" ∷ codes "school"
          ∷ codes "preference" ∷ [];
      fields = λ r. decimal r.id ∷ decimal r.candidate ∷ decimal r.programme
          ∷ school_word r.school ∷ decimal r.preference ∷ [];
    }

-- a month or a day, with a zero in front where it has one digit
abbrev pub two_or_more : ℕ → List ℕ
two_or_more n = if nat_lt n 10 then 48 ∷ decimal n else decimal n

-- a date as YYYY-MM-DD
abbrev pub date_word : Since → List ℕ
date_word date =
    decimal date.year ++ 45 ∷ (two_or_more date.month ++ 45 ∷ two_or_more date.day)

-- a row without a date has an empty field for it
abbrev pub since_word : Option Since → List ℕ
since_word None = []
since_word (Some date) = date_word date

-- a state whose offers have dates
abbrev pub dated_state : Written StateRow
dated_state =
    record {
      header = codes "wish" ∷ codes "status" ∷ codes "since" ∷ [];
      fields = λ r. decimal r.wish ∷ status_word r.status ∷ since_word r.since ∷ [];
    }

-- one without dates
abbrev pub plain_state : Written StateRow
plain_state =
    record {
      header = codes "wish" ∷ codes "status" ∷ [];
      fields = λ r. decimal r.wish ∷ status_word r.status ∷ [];
    }

abbrev pub state : Bool → Written StateRow
state true = dated_state
state false = plain_state

abbrev pub ceilings : Written CeilingRow
ceilings =
    record {
      header = codes "day" ∷ codes "school" ∷ codes "ceiling" ∷ [];
      fields = λ r. decimal r.day ∷ decimal r.school ∷ decimal r.ceiling ∷ [];
    }

abbrev pub answers : Written AnswerRow
answers =
    record {
      header = codes "day" ∷ codes "kind" ∷ codes "target" ∷ [];
      fields = λ r. decimal r.day ∷ kind_word r.kind ∷ decimal r.target ∷ [];
    }

-- the text of each slot of tables, whose state has dates or has none; the chain slot has no rows
abbrev pub slot_text : Bool → Tables → Slot → List ℕ
slot_text dated t slots.Groups = table_text groups t.groups
slot_text dated t slots.Programmes = table_text programmes t.programmes
slot_text dated t slots.Schools = table_text schools t.schools
slot_text dated t slots.Rankings = table_text rankings t.rankings
slot_text dated t slots.Boarding = table_text boarding t.boarding
slot_text dated t slots.Wishes = table_text wishes t.wishes
slot_text dated t slots.State = table_text (state dated) t.state
slot_text dated t slots.Ceilings = table_text ceilings t.ceilings
slot_text dated t slots.Answers = table_text answers t.answers
slot_text dated t slots.Chain = []

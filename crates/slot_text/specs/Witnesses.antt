-- For each law a worked case that meets all its premises, with what it concludes there: the law's
-- text, with a value for each variable and a product for each arrow.
use Rattle.std.specs.Prelude.{◌≡◌, ℕ, Bool, true, false, All, [], ◌∷◌, ◌++◌, codes, None, Option, Some}
use Rattle.admit_core.specs.Ranges.{AreTables}
use Rattle.admit_core.specs.declared.dossier.AnswerKind.TheVariants.{Quit, Refuse}
use Rattle.admit_core.specs.declared.slot.Slot.TheVariants as slots
use Rattle.admit_core.specs.declared.state.Status.TheVariants.{Lapsed, Offered}
use Rattle.admit_core.specs.declared.tables.Tables.{Tables}
use Rattle.admit_core.specs.declared.tables.WishRow.{WishRow}
use Rattle.report.specs.Words.{row}
use Rattle.slot_text.specs.ReadBack.{AreReadBack, HasDate}
use Rattle.slot_text.specs.Texts.{slot_text}

abbrev pub wish : ℕ → Option ℕ → WishRow
wish id school =
    record { id = id; candidate = 11; programme = 10; school = school; preference = 2 }

-- a row or two in each slot, with a wish without a school and a wish without a date
abbrev pub few_rows : Tables
few_rows =
    record {
      groups = record { id = 1; scholar_pct = 5; resident_pct = 100 } ∷ [];
      programmes = record { id = 10; group = 1; seats = 7; limit = 0 } ∷ [];
      schools = record { id = 5; beds = 0; ceiling = 9 } ∷ [];
      rankings = record { group = 1; candidate = 11; rank = 3; scholar = true; resident = false }
          ∷ [];
      boarding = record { school = 5; candidate = 11; rank = 4 } ∷ [];
      wishes = wish 1 (Some 5) ∷ wish 2 None ∷ [];
      state = record {
        wish = 1;
        status = Offered;
        since = Some (record { year = 2026; month = 6; day = 12 });
      } ∷ record { wish = 2; status = Lapsed; since = None } ∷ [];
      ceilings = record { day = 366; school = 5; ceiling = 8 } ∷ [];
      answers = record { day = 1; kind = Quit; target = 11 }
          ∷ record { day = 2; kind = Refuse; target = 1 } ∷ [];
    }

abbrev pub SlotsReadBackWitness : Type 0
SlotsReadBackWitness =
    let dated : Bool = true in
    let t : Tables = few_rows in
    AreTables t
    × All (HasDate dated) t.state
    × AreReadBack dated t

-- some of the texts
abbrev pub WorkedTexts : Type 0
WorkedTexts =
    (slot_text true few_rows slots.Rankings
    ≡ row (codes "group,candidate,rank,scholar,resident" ∷ []) ++ row (codes "1,11,3,1,0" ∷ []))
    × (slot_text true few_rows slots.Wishes
    ≡ row (codes "wish,candidate,programme,school,preference" ∷ [])
    ++ row (codes "1,11,10,5,2" ∷ [])
    ++ row (codes "2,11,10,,2" ∷ []))
    × (slot_text true few_rows slots.State
    ≡ row (codes "wish,status,since" ∷ []) ++ row (codes "1,offered,2026-06-12" ∷ [])
    ++ row (codes "2,lapsed," ∷ []))
    × (slot_text false few_rows slots.State
    ≡ row (codes "wish,status" ∷ []) ++ row (codes "1,offered" ∷ []) ++ row (codes "2,lapsed" ∷ []))
    × (slot_text true few_rows slots.Answers
    ≡ row (codes "day,kind,target" ∷ []) ++ row (codes "1,quit,11" ∷ [])
    ++ row (codes "2,refuse,1" ∷ []))

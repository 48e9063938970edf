-- Worked slots: the rows of a few bytes, and a slot of each fault of shape.
use Rattle.std.specs.Prelude.{◌≡◌, ℕ, true, false, List, [], ◌∷◌, codes, Some, None, Ok, Err}
use Rattle.admit_core.specs.declared.dossier.AnswerKind.TheVariants.{Withdraw}
use Rattle.admit_core.specs.declared.refusal.Reason.TheVariants.{FieldCount, Header, NotDate, NotFlag, NotNumber}
use Rattle.admit_core.specs.declared.refusal.Reason.TheVariants.{NotWord, OutOfRange, TooManyRows}
use Rattle.admit_core.specs.declared.slot.Slot.TheVariants as slot
use Rattle.admit_core.specs.declared.state.Status.TheVariants as status
use Rattle.dossier_csv.specs.Rows.{answers, ceilings, groups, programmes, rankings, schools, state, wishes}
use Rattle.dossier_csv.specs.Shape.{row_of, shape}

-- both headers of the programmes slot
abbrev pub ProgrammeRows : Type 0
ProgrammeRows =
    (shape programmes (codes "programme,group,seats\n10,1,2\n")
    ≡ Ok (record { id = 10; group = 1; seats = 2; limit = 0 } ∷ []))
    × (shape programmes (codes "programme,group,seats,limit\r\n\"10\",1,02,3")
    ≡ Ok (record { id = 10; group = 1; seats = 2; limit = 3 } ∷ []))

-- a date of the state slot, and none
abbrev pub StateRows : Type 0
StateRows =
    shape state (codes "wish,status,since\n1,offered,2024-02-29\n2,lapsed,\n")
    ≡ Ok
    (record {
      wish = 1;
      status = status.Offered;
      since = Some (record { year = 2024; month = 2; day = 29 });
    } ∷ record { wish = 2; status = status.Lapsed; since = None } ∷ [])

-- flags, words, and columns that may be empty
abbrev pub OtherRows : Type 0
OtherRows =
    (shape rankings (codes "group,candidate,rank,scholar,resident\n1,11,3,1,0\n")
    ≡ Ok (record { group = 1; candidate = 11; rank = 3; scholar = true; resident = false } ∷ []))
    × (shape wishes (codes "wish,candidate,programme,school,preference\n7,11,10,,0\n8,11,10,5,2\n")
    ≡ Ok
    (record { id = 7; candidate = 11; programme = 10; school = None; preference = 0 }
    ∷ record { id = 8; candidate = 11; programme = 10; school = Some 5; preference = 2 } ∷ []))
    × (shape answers (codes "day,kind,target\n366,withdraw,7\n")
    ≡ Ok (record { day = 366; kind = Withdraw; target = 7 } ∷ []))

-- a slot of no bytes has no header, nor has one with its columns in another order
abbrev pub HeaderFaults : Type 0
HeaderFaults =
    (shape state [] ≡ Err (record { slot = slot.State; row = 1; reason = Header }))
    × (shape schools (codes "school,ceiling,beds\n5,1,9\n")
    ≡ Err (record { slot = slot.Schools; row = 1; reason = Header }))

-- a field less than the header has, and one more
abbrev pub FieldCountFaults : Type 0
FieldCountFaults =
    (shape programmes (codes "programme,group,seats,limit\n10,1,1\n")
    ≡ Err (record { slot = slot.Programmes; row = 2; reason = FieldCount 3 }))
    × (shape schools (codes "school,beds,ceiling\n5,1,9\n6,1,9,\n")
    ≡ Err (record { slot = slot.Schools; row = 3; reason = FieldCount 4 }))

-- nothing, a sign, and eleven digits are no number
abbrev pub NumberFaults : Type 0
NumberFaults =
    (shape groups (codes "group,scholar_pct,resident_pct\n1,,3\n")
    ≡ Err (record { slot = slot.Groups; row = 2; reason = NotNumber 2 }))
    × (shape groups (codes "group,scholar_pct,resident_pct\n1,5,+3\n")
    ≡ Err (record { slot = slot.Groups; row = 2; reason = NotNumber 3 }))
    × (shape groups (codes "group,scholar_pct,resident_pct\n00000000001,5,3\n")
    ≡ Err (record { slot = slot.Groups; row = 2; reason = NotNumber 1 }))

-- the first number past each limit, and the last within
abbrev pub RangeFaults : Type 0
RangeFaults =
    (shape groups (codes "group,scholar_pct,resident_pct\n0,5,3\n")
    ≡ Err (record { slot = slot.Groups; row = 2; reason = OutOfRange 1 }))
    × (shape groups (codes "group,scholar_pct,resident_pct\n2000000000,100,101\n")
    ≡ Err (record { slot = slot.Groups; row = 2; reason = OutOfRange 3 }))
    × (shape schools (codes "school,beds,ceiling\n2000000000,0,2000000001\n")
    ≡ Err (record { slot = slot.Schools; row = 2; reason = OutOfRange 3 }))
    × (shape ceilings (codes "day,school,ceiling\n366,5,1\n367,5,1\n")
    ≡ Err (record { slot = slot.Ceilings; row = 3; reason = OutOfRange 1 }))

-- what is not a flag, a word of the slot or a date
abbrev pub WordFaults : Type 0
WordFaults =
    (shape rankings (codes "group,candidate,rank,scholar,resident\n1,11,3,2,0\n")
    ≡ Err (record { slot = slot.Rankings; row = 2; reason = NotFlag 4 }))
    × (shape answers (codes "day,kind,target\n1,Accept,7\n")
    ≡ Err (record { slot = slot.Answers; row = 2; reason = NotWord 2 }))
    × (shape state (codes "wish,status,since\n1,offered,2023-02-29\n")
    ≡ Err (record { slot = slot.State; row = 2; reason = NotDate 3 }))

-- of two faults in a row the one further left is told, and of two rows the earlier one
abbrev pub FirstFaultOfShape : Type 0
FirstFaultOfShape =
    shape rankings (codes "group,candidate,rank,scholar,resident\n1,11,3,0,0\n1,0,x,2,0\n1\n")
    ≡ Err (record { slot = slot.Rankings; row = 3; reason = OutOfRange 2 })

-- the rows of a slot are at most 16,000,000, below their header
abbrev pub TooManyRowsFault : Type 0
TooManyRowsFault =
    let fields : List (List ℕ) = codes "5" ∷ codes "1" ∷ codes "9" ∷ [] in
    (row_of schools 3 16000001 fields ≡ Ok (record { id = 5; beds = 1; ceiling = 9 }))
    × (row_of schools 3 16000002 fields ≡ Err TooManyRows)

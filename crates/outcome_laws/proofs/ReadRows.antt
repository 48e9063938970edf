-- What is read of a slot is in the ranges of its columns.
use Rattle.std.proofs.Common.{◌≡◌, ℕ, ◌+◌, ◌≤◌, Bool, true, false, List, [], ◌∷◌, All, Option, None, Some, Result, Ok}
use Rattle.std.proofs.Common.{Err, IfOk, arith, inl, inr, length, subst}
use Rattle.std.specs.Prelude.{◌&&◌, ◌==◌, if◌then◌else◌, nat_le, nat_lt}
use Rattle.std.specs.List.{list_any}
use Rattle.std.specs.Option.{ForSome}
use Rattle.std.proofs.lemmas.Bool.{and_parts, cases_Bool, leb-false, leb-true}
use Rattle.std.proofs.lemmas.List.Elements.{All-cons, All-nil}
use Rattle.std.proofs.lemmas.Result.{IfOk-weaker}
use Rattle.admit_core.specs.Ranges.{AreRows, IsAnswerRow, IsBoardRow, IsCeilingRow, IsGroupRow, IsNumber}
use Rattle.admit_core.specs.Ranges.{IsProgrammeRow, IsRankRow, IsSchoolRow, IsStateRow, IsWishRow}
use Rattle.admit_core.specs.declared.refusal.Reason.{Reason}
use Rattle.admit_core.specs.declared.refusal.Reason.TheVariants.{FieldCount, TooManyRows}
use Rattle.admit_core.specs.declared.refusal.Refusal.{Refusal}
use Rattle.admit_core.specs.declared.slot.Slot.{Slot}
use Rattle.dossier_csv.specs.Columns.{◌>>=◌, added_number, amounts, days, flag, ids, number, number_of, optional_date}
use Rattle.dossier_csv.specs.Columns.{optional_from, optional_number, percents, text_at, within, word}
use Rattle.dossier_csv.specs.Layout.{Layout}
use Rattle.dossier_csv.specs.Rows.{answer_row, board_row, ceiling_row, group_row, kinds, programme_row, rank_row}
use Rattle.dossier_csv.specs.Rows.{school_row, state_row, statuses, wish_row}
use Rattle.dossier_csv.specs.Shape.{at_row, row_of, rows_from, same_texts, table_of, with_row}
use Rattle.outcome_laws.proofs.TypeOf.{TypeOf}

-- the limits of a column, a type that its crate does not export
abbrev Limits : Type 0
Limits = TypeOf ids

-- ---- steps of a row
step : {A B : Type 0} {P : A → Type 0} (Q : B → Type 0) (r : Result A Reason) (next : A → Result B Reason)
    → IfOk r P → ((x : A) → P x → IfOk (next x) Q) → IfOk (r >>= next) Q
step Q (Ok x) next here goes = goes x here
step Q (Err reason) next here goes = tt

-- a step of which nothing is asked
any : {A B : Type 0} (Q : B → Type 0) (r : Result A Reason) (next : A → Result B Reason)
    → ((x : A) → IfOk (next x) Q) → IfOk (r >>= next) Q
any Q (Ok x) next goes = goes x
any Q (Err reason) next goes = tt

-- ---- columns
abbrev IsIn : Limits → ℕ → Type 0
IsIn limits n = (limits.least ≤ n) × (n ≤ limits.most)

within_in : (limits : Limits) (position : ℕ) (o : Option ℕ) → IfOk (within limits position o) (IsIn limits)
within_in limits position None = tt
within_in limits position (Some n) =
    elim (cases_Bool (nat_le limits.least n && nat_le n limits.most)) [
      | inl is ↦ let parts = and_parts _ _ is in rw is (leb-true _ _ parts.0, leb-true _ _ parts.1)
      | inr not_so ↦ rw not_so tt
    ]

number_in : (limits : Limits) (fields : List (List ℕ)) (position : ℕ)
    → IfOk (number limits fields position) (IsIn limits)
unfolding number
number_in limits fields position = within_in limits position (number_of (text_at fields position))

id_in : (fields : List (List ℕ)) (position : ℕ) → IfOk (number ids fields position) IsNumber
id_in fields position =
    IfOk-weaker (number ids fields position) (IsIn ids) IsNumber (λ n is. record { from_one = is.0; at_most = is.1 })
    (number_in ids fields position)

added_in : (fields : List (List ℕ)) (position : ℕ)
    → IfOk (added_number amounts fields position) (λ n. n ≤ 2000000000)
unfolding added_number
added_in fields position =
    elim (cases_Bool (nat_lt (length fields) position)) [
      | inl is ↦ rw is (omega arith)
      | inr not_so ↦ rw not_so (IfOk-weaker (number amounts fields position) (IsIn amounts) (λ n. n ≤ 2000000000)
          (λ n is. is.1) (number_in amounts fields position))
    ]

some_in : (n m : ℕ) → Some n ≡ Some m → IsIn ids n → IsNumber m
some_in n m e is =
    let same : n ≡ m = cc in
    subst IsNumber same (record { from_one = is.0; at_most = is.1 })

none_in : (m : ℕ) → None ≡ Some m → IsNumber m
none_in m e = absurd (cc)

optional_from_in : (position : ℕ) (text : List ℕ) → IfOk (optional_from ids position text) (λ o. ForSome o IsNumber)
optional_from_in position [] = none_in
optional_from_in position (byte ∷ text) =
    step (λ o. ForSome o IsNumber) (within ids position (number_of (byte ∷ text))) (λ n. Ok (Some n))
    (within_in ids position (number_of (byte ∷ text))) (λ n is. λ m e. some_in n m e is)

optional_in : (fields : List (List ℕ)) (position : ℕ)
    → IfOk (optional_number ids fields position) (λ o. ForSome o IsNumber)
unfolding optional_number
optional_in fields position = optional_from_in position (text_at fields position)

-- ---- the rows of each slot
pub group_in : (fields : List (List ℕ)) → IfOk (group_row fields) IsGroupRow
unfolding group_row
group_in fields =
    step IsGroupRow (number ids fields 1) _ (id_in fields 1) (λ id id_is.
    step IsGroupRow (number percents fields 2) _ (number_in percents fields 2) (λ scholar scholar_is.
    step IsGroupRow (number percents fields 3) _ (number_in percents fields 3) (λ resident resident_is.
    record { id = id_is; scholar_pct = scholar_is.1; resident_pct = resident_is.1 })))

pub programme_in : (fields : List (List ℕ)) → IfOk (programme_row fields) IsProgrammeRow
unfolding programme_row
programme_in fields =
    step IsProgrammeRow (number ids fields 1) _ (id_in fields 1) (λ id id_is.
    step IsProgrammeRow (number ids fields 2) _ (id_in fields 2) (λ group group_is.
    step IsProgrammeRow (number amounts fields 3) _ (number_in amounts fields 3) (λ seats seats_is.
    step IsProgrammeRow (added_number amounts fields 4) _ (added_in fields 4) (λ limit limit_is.
    record { id = id_is; group = group_is; seats = seats_is.1; limit = limit_is }))))

pub school_in : (fields : List (List ℕ)) → IfOk (school_row fields) IsSchoolRow
unfolding school_row
school_in fields =
    step IsSchoolRow (number ids fields 1) _ (id_in fields 1) (λ id id_is.
    step IsSchoolRow (number amounts fields 2) _ (number_in amounts fields 2) (λ beds beds_is.
    step IsSchoolRow (number amounts fields 3) _ (number_in amounts fields 3) (λ ceiling ceiling_is.
    record { id = id_is; beds = beds_is.1; ceiling = ceiling_is.1 })))

pub rank_in : (fields : List (List ℕ)) → IfOk (rank_row fields) IsRankRow
unfolding rank_row
rank_in fields =
    step IsRankRow (number ids fields 1) _ (id_in fields 1) (λ group group_is.
    step IsRankRow (number ids fields 2) _ (id_in fields 2) (λ candidate candidate_is.
    step IsRankRow (number ids fields 3) _ (id_in fields 3) (λ rank rank_is.
    any IsRankRow (flag fields 4) _ (λ scholar.
    any IsRankRow (flag fields 5) _ (λ resident.
    record { group = group_is; candidate = candidate_is; rank = rank_is })))))

pub board_in : (fields : List (List ℕ)) → IfOk (board_row fields) IsBoardRow
unfolding board_row
board_in fields =
    step IsBoardRow (number ids fields 1) _ (id_in fields 1) (λ school school_is.
    step IsBoardRow (number ids fields 2) _ (id_in fields 2) (λ candidate candidate_is.
    step IsBoardRow (number ids fields 3) _ (id_in fields 3) (λ rank rank_is.
    record { school = school_is; candidate = candidate_is; rank = rank_is })))

pub wish_in : (fields : List (List ℕ)) → IfOk (wish_row fields) IsWishRow
unfolding wish_row
wish_in fields =
    step IsWishRow (number ids fields 1) _ (id_in fields 1) (λ id id_is.
    step IsWishRow (number ids fields 2) _ (id_in fields 2) (λ candidate candidate_is.
    step IsWishRow (number ids fields 3) _ (id_in fields 3) (λ programme programme_is.
    step IsWishRow (optional_number ids fields 4) _ (optional_in fields 4) (λ school school_is.
    step IsWishRow (number amounts fields 5) _ (number_in amounts fields 5) (λ preference preference_is.
    record {
      id = id_is;
      candidate = candidate_is;
      programme = programme_is;
      school = school_is;
      preference = preference_is.1;
    })))))

pub state_in : (fields : List (List ℕ)) → IfOk (state_row fields) IsStateRow
unfolding state_row
state_in fields =
    step IsStateRow (number ids fields 1) _ (id_in fields 1) (λ wish wish_is.
    any IsStateRow (word statuses fields 2) _ (λ status.
    any IsStateRow (optional_date fields 3) _ (λ since.
    record { wish = wish_is })))

pub ceiling_in : (fields : List (List ℕ)) → IfOk (ceiling_row fields) IsCeilingRow
unfolding ceiling_row
ceiling_in fields =
    step IsCeilingRow (number days fields 1) _ (number_in days fields 1) (λ day day_is.
    step IsCeilingRow (number ids fields 2) _ (id_in fields 2) (λ school school_is.
    step IsCeilingRow (number amounts fields 3) _ (number_in amounts fields 3) (λ ceiling ceiling_is.
    record { day = record { from_one = day_is.0; at_most = day_is.1 }; school = school_is; ceiling = ceiling_is.1 })))

pub answer_in : (fields : List (List ℕ)) → IfOk (answer_row fields) IsAnswerRow
unfolding answer_row
answer_in fields =
    step IsAnswerRow (number days fields 1) _ (number_in days fields 1) (λ day day_is.
    any IsAnswerRow (word kinds fields 2) _ (λ kind.
    step IsAnswerRow (number ids fields 3) _ (id_in fields 3) (λ target target_is.
    record { day = record { from_one = day_is.0; at_most = day_is.1 }; target = target_is })))

-- ---- the rows under a header
chosen : {A : Type 0} (P : A → Type 0) (first second : Bool) (reason other : Reason) (r : Result A Reason)
    → IfOk r P → IfOk (if first then Err reason else if second then r else Err other) P
chosen P true second reason other r is = tt
chosen P false true reason other r is = is
chosen P false false reason other r is = tt

at_row_in : {A : Type 0} (P : A → Type 0) (slot : Slot) (number : ℕ) (r : Result A Reason) → IfOk r P
    → IfOk (at_row slot number r) P
at_row_in P slot number (Ok row) is = is
at_row_in P slot number (Err reason) is = tt

-- rows from one with this number on, of which the last has at most the number 16,000,001
record AreFrom {A : Type 0} (IsRow : A → Type 0) (number : ℕ) (rows : List A) : Type 0 where
  few : number + length rows ≤ 16000002
  each : All IsRow rows

module _ {A : Type 0} (IsRow : A → Type 0) where
  with_row_in : (number : ℕ) (r : Result A Refusal) (others : Result (List A) Refusal) → IfOk r IsRow
      → IfOk others (AreFrom IsRow (number + 1)) → IfOk (with_row r others) (AreFrom IsRow number)
  with_row_in number (Err refusal) others here rest = tt
  with_row_in number (Ok row) (Err refusal) here rest = tt
  with_row_in number (Ok row) (Ok rows) here rest =
      record { few = omega (arith, rest.few); each = All-cons IsRow row rows here rest.each }

  module _ (layout : Layout A) (row_in : (fields : List (List ℕ)) → IfOk (layout.row fields) IsRow) where
    rows_in : (width number : ℕ) (records : List (List (List ℕ))) → number ≤ 16000002
        → IfOk (rows_from layout width number records) (AreFrom IsRow number)
    unfolding rows_from
    rows_in width number [] le = record { few = omega (arith, le); each = All-nil IsRow }
    rows_in width number (fields ∷ others) le =
        elim (cases_Bool (nat_le 16000002 number)) [
          | inl full ↦ rw full tt
          | inr room ↦
              with_row_in number (at_row layout.slot number (row_of layout width number fields))
              (rows_from layout width (number + 1) others)
              (at_row_in IsRow layout.slot number (row_of layout width number fields)
              (chosen IsRow (nat_le 16000002 number) (length fields == width) TooManyRows
              (FieldCount (length fields)) (layout.row fields) (row_in fields)))
              (rows_in width (number + 1) others (omega (arith, leb-false 16000002 number room)))
        ]

    pub table_in : (records : List (List (List ℕ))) → IfOk (table_of layout records) (AreRows IsRow)
    unfolding table_of
    table_in [] = tt
    table_in (first ∷ others) =
        elim (cases_Bool (list_any (same_texts first) layout.headers)) [
          | inl is ↦ rw is (IfOk-weaker (rows_from layout (length first) 2 others) (AreFrom IsRow 2) (AreRows IsRow)
              (λ rows are. record { size = omega (arith, are.few); each = are.each })
              (rows_in (length first) 2 others (omega arith)))
          | inr not_so ↦ rw not_so tt
        ]

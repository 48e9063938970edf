-- The tables of slots that are read are in the ranges of their columns.
use Rattle.std.proofs.Common.{◌≡◌, ◌∙◌, ℕ, ◌≤◌, List, [], ◌∷◌, ◌++◌, Result, Ok, Err, IfOk, ap, length, lit≤, refl}
use Rattle.std.proofs.Common.{subst, sym}
use Rattle.std.specs.Prelude.{⊤}
use Rattle.std.specs.Result.{result_map_both}
use Rattle.std.proofs.lemmas.Bool.{le-ltb}
use Rattle.std.proofs.lemmas.List.Elements.{All-nil}
use Rattle.admit_core.specs.Ranges.{AreRows, AreTables, IsAnswerRow, IsBoardRow, IsCeilingRow, IsGroupRow}
use Rattle.admit_core.specs.Ranges.{IsProgrammeRow, IsRankRow, IsSchoolRow, IsStateRow, IsWishRow}
use Rattle.admit_core.specs.declared.refusal.Refusal.{Refusal}
use Rattle.admit_core.specs.declared.slot.Slot.{Slot}
use Rattle.admit_core.specs.declared.slot.Slot.TheVariants as names
use Rattle.admit_core.specs.declared.tables.Tables.{Tables}
use Rattle.dossier_csv.specs.Rows as Rows
use Rattle.dossier_csv.specs.Shape.{records_of, shape}
use Rattle.intake.specs.Reading.{chain_after, files_in, made_by, no_files, no_rows, sized, with_rows, with_slot}
use Rattle.intake.specs.Reading.{with_slots}
use Rattle.intake.specs.Stops.{◌>>=◌, refused_as}
use Rattle.intake.specs.declared.stop.Stop.{Stop}
use Rattle.outcome_laws.proofs.TypeOf.{TypeOf}
use Rattle.outcome_laws.proofs.ReadRows.{answer_in, board_in, ceiling_in, group_in, programme_in, rank_in, school_in}
use Rattle.outcome_laws.proofs.ReadRows.{state_in, table_in, wish_in}

-- what is read of the slots, a type that its crate does not export
abbrev pub Files : Type 0
Files = TypeOf no_files

nine_tables : {t : Tables} → AreRows IsGroupRow t.groups → AreRows IsProgrammeRow t.programmes
    → AreRows IsSchoolRow t.schools
    → AreRows IsRankRow t.rankings → AreRows IsBoardRow t.boarding → AreRows IsWishRow t.wishes
    → AreRows IsStateRow t.state → AreRows IsCeilingRow t.ceilings → AreRows IsAnswerRow t.answers → AreTables t
nine_tables groups programmes schools rankings boarding wishes state ceilings answers =
    record {
      groups = groups;
      programmes = programmes;
      schools = schools;
      rankings = rankings;
      boarding = boarding;
      wishes = wishes;
      state = state;
      ceilings = ceilings;
      answers = answers;
    }

no_rows_are : AreTables no_rows
no_rows_are =
    record {
      groups = record { size = lit≤ tt; each = All-nil IsGroupRow };
      programmes = record { size = lit≤ tt; each = All-nil IsProgrammeRow };
      schools = record { size = lit≤ tt; each = All-nil IsSchoolRow };
      rankings = record { size = lit≤ tt; each = All-nil IsRankRow };
      boarding = record { size = lit≤ tt; each = All-nil IsBoardRow };
      wishes = record { size = lit≤ tt; each = All-nil IsWishRow };
      state = record { size = lit≤ tt; each = All-nil IsStateRow };
      ceilings = record { size = lit≤ tt; each = All-nil IsCeilingRow };
      answers = record { size = lit≤ tt; each = All-nil IsAnswerRow };
    }

made_in : {A : Type 0} (IsRow : A → Type 0) (make : List A → Tables) (r : Result (List A) Refusal)
    → IfOk r (AreRows IsRow)
    → ((rows : List A) → AreRows IsRow rows → AreTables (make rows)) → IfOk (made_by make r) AreTables
made_in IsRow make (Ok rows) are makes = makes rows are
made_in IsRow make (Err refusal) are makes = tt

rows_added : (tables : Tables) (slot : Slot) (bytes : List ℕ) → AreTables tables
    → IfOk (with_rows tables slot bytes) AreTables
unfolding with_rows
rows_added tables names.Groups bytes are =
    made_in IsGroupRow (λ rows. record tables { groups = rows }) (shape Rows.groups bytes)
    (table_in IsGroupRow Rows.groups group_in (records_of bytes))
    (λ rows new. nine_tables new are.programmes are.schools are.rankings are.boarding
    are.wishes are.state are.ceilings are.answers)
rows_added tables names.Programmes bytes are =
    made_in IsProgrammeRow (λ rows. record tables { programmes = rows }) (shape Rows.programmes bytes)
    (table_in IsProgrammeRow Rows.programmes programme_in (records_of bytes))
    (λ rows new. nine_tables are.groups new are.schools are.rankings are.boarding
    are.wishes are.state are.ceilings are.answers)
rows_added tables names.Schools bytes are =
    made_in IsSchoolRow (λ rows. record tables { schools = rows }) (shape Rows.schools bytes)
    (table_in IsSchoolRow Rows.schools school_in (records_of bytes))
    (λ rows new. nine_tables are.groups are.programmes new are.rankings are.boarding
    are.wishes are.state are.ceilings are.answers)
rows_added tables names.Rankings bytes are =
    made_in IsRankRow (λ rows. record tables { rankings = rows }) (shape Rows.rankings bytes)
    (table_in IsRankRow Rows.rankings rank_in (records_of bytes))
    (λ rows new. nine_tables are.groups are.programmes are.schools new are.boarding
    are.wishes are.state are.ceilings are.answers)
rows_added tables names.Boarding bytes are =
    made_in IsBoardRow (λ rows. record tables { boarding = rows }) (shape Rows.boarding bytes)
    (table_in IsBoardRow Rows.boarding board_in (records_of bytes))
    (λ rows new. nine_tables are.groups are.programmes are.schools are.rankings new
    are.wishes are.state are.ceilings are.answers)
rows_added tables names.Wishes bytes are =
    made_in IsWishRow (λ rows. record tables { wishes = rows }) (shape Rows.wishes bytes)
    (table_in IsWishRow Rows.wishes wish_in (records_of bytes))
    (λ rows new. nine_tables are.groups are.programmes are.schools are.rankings are.boarding
    new are.state are.ceilings are.answers)
rows_added tables names.State bytes are =
    made_in IsStateRow (λ rows. record tables { state = rows }) (shape Rows.state bytes)
    (table_in IsStateRow Rows.state state_in (records_of bytes))
    (λ rows new. nine_tables are.groups are.programmes are.schools are.rankings are.boarding
    are.wishes new are.ceilings are.answers)
rows_added tables names.Ceilings bytes are =
    made_in IsCeilingRow (λ rows. record tables { ceilings = rows }) (shape Rows.ceilings bytes)
    (table_in IsCeilingRow Rows.ceilings ceiling_in (records_of bytes))
    (λ rows new. nine_tables are.groups are.programmes are.schools are.rankings are.boarding
    are.wishes are.state new are.answers)
rows_added tables names.Answers bytes are =
    made_in IsAnswerRow (λ rows. record tables { answers = rows }) (shape Rows.answers bytes)
    (table_in IsAnswerRow Rows.answers answer_in (records_of bytes))
    (λ rows new. nine_tables are.groups are.programmes are.schools are.rankings are.boarding
    are.wishes are.state are.ceilings new)
rows_added tables names.Chain bytes are = are

-- ---- steps of a run
step : {A B : Type 0} {P : A → Type 0} (Q : B → Type 0) (r : Result A Stop) (next : A → Result B Stop)
    → IfOk r P → ((x : A) → P x → IfOk (next x) Q) → IfOk (r >>= next) Q
step Q (Ok x) next here goes = goes x here
step Q (Err stop) next here goes = tt

any : {A B : Type 0} (Q : B → Type 0) (r : Result A Stop) (next : A → Result B Stop)
    → ((x : A) → IfOk (next x) Q) → IfOk (r >>= next) Q
any Q (Ok x) next goes = goes x
any Q (Err stop) next goes = tt

refused_in : {A : Type 0} (P : A → Type 0) (r : Result A Refusal) → IfOk r P → IfOk (refused_as r) P
refused_in P (Ok x) is = is
refused_in P (Err refusal) is = is

abbrev HoldsRows : Files → Type 0
HoldsRows files = AreTables files.tables

with_tables : (make : Tables → Files) → ((t : Tables) → AreTables t → HoldsRows (make t)) → (r : Result Tables Refusal)
    → IfOk r AreTables → IfOk (result_map_both make (λ refusal. refusal) r) HoldsRows
with_tables make makes (Ok tables) are = makes tables are
with_tables make makes (Err refusal) are = tt

slot_added : (files : Files) (slot : Slot) (bytes : List ℕ) → HoldsRows files
    → IfOk (with_slot files slot bytes) HoldsRows
unfolding with_slot
slot_added files slot bytes are =
    with_tables (λ tables. record { tables = tables; chain = chain_after files.chain slot bytes }) (λ t is. is)
    (with_rows files.tables slot bytes) (rows_added files.tables slot bytes are)

slots_added : (order : List Slot) (slots : Slot → List ℕ) (files : Files) → HoldsRows files
    → IfOk (with_slots files order slots) HoldsRows
unfolding with_slots
slots_added [] slots files are = are
slots_added (x ∷ xs) slots files are =
    any HoldsRows (sized x (slots x)) _ (λ bytes.
    step {P = HoldsRows} HoldsRows (refused_as (with_slot files x bytes)) (λ more. with_slots more xs slots)
    (refused_in HoldsRows (with_slot files x bytes) (slot_added files x bytes are))
    (λ more more_are. slots_added xs slots more more_are))

-- the tables of the slots that are read
pub files_in_range : (order : List Slot) (slots : Slot → List ℕ) → IfOk (files_in order slots) HoldsRows
files_in_range order slots = slots_added order slots no_files no_rows_are

-- ---- the same slots, and then the chain
-- slots have the same bytes on both shelves
abbrev pub AreAlike : (one other : Slot → List ℕ) → List Slot → Type 0
AreAlike one other [] = ⊤
AreAlike one other (x ∷ xs) = (other x ≡ one x) × AreAlike one other xs

then_chain : (files : Files) (order : List Slot) (one other : Slot → List ℕ) → AreAlike one other order
    → with_slots files (order ++ names.Chain ∷ []) other
    ≡ (with_slots files order one >>= λ more. with_slots more (names.Chain ∷ []) other)
unfolding with_slots
then_chain files [] one other alike = refl
then_chain files (x ∷ xs) one other alike =
    subst (λ (b : List ℕ). (sized x b >>= λ bytes. refused_as (with_slot files x bytes)
    >>= λ more. with_slots more (xs ++ names.Chain ∷ []) other)
    ≡ ((sized x (one x) >>= λ bytes. refused_as (with_slot files x bytes) >>= λ more. with_slots more xs one)
    >>= λ more. with_slots more (names.Chain ∷ []) other)) (sym alike.0)
    (elim (sized x (one x)) as (λ s. (s >>= λ bytes. refused_as (with_slot files x bytes)
    >>= λ more. with_slots more (xs ++ names.Chain ∷ []) other)
    ≡ ((s >>= λ bytes. refused_as (with_slot files x bytes) >>= λ more. with_slots more xs one)
    >>= λ more. with_slots more (names.Chain ∷ []) other)) [
      | Err stop ↦ refl
      | Ok bytes ↦ elim (with_slot files x bytes) as (λ r. (refused_as r
          >>= λ more. with_slots more (xs ++ names.Chain ∷ []) other)
          ≡ ((refused_as r >>= λ more. with_slots more xs one) >>= λ more. with_slots more (names.Chain ∷ []) other)) [
            | Err refusal ↦ refl
            | Ok more ↦ then_chain more xs one other alike.1
          ]
    ])

-- a chain that fits its slot
fits_sized : (slot : Slot) (bytes : List ℕ) → length bytes ≤ 1073741824 → sized slot bytes ≡ Ok bytes
unfolding sized
fits_sized slot bytes fits = rw (le-ltb 1073741824 (length bytes) fits) refl

chain_read : (files : Files) (slots : Slot → List ℕ) → length (slots names.Chain) ≤ 1073741824
    → with_slots files (names.Chain ∷ []) slots ≡ Ok (record { tables = files.tables; chain = slots names.Chain })
unfolding with_slots with_slot with_rows
chain_read files slots fits = rw (fits_sized names.Chain (slots names.Chain) fits) refl

pub chain_added : (order : List Slot) (one other : Slot → List ℕ) (files : Files) → AreAlike one other order
    → length (other names.Chain) ≤ 1073741824 → files_in order one ≡ Ok files
    → files_in (order ++ names.Chain ∷ []) other ≡ Ok (record { tables = files.tables; chain = other names.Chain })
chain_added order one other files alike fits is =
    then_chain no_files order one other alike
    ∙ ap (λ (r : Result Files Stop). r >>= λ more. with_slots more (names.Chain ∷ []) other) is
    ∙ chain_read files other fits

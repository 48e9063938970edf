-- The rows of a dossier are those of the tables that it stands for.
use Rattle.std.proofs.Common.{ℕ, ◌≡◌, true, List, [], ◌∷◌, get_or, map, nat_eq, Option, None, Some}
use Rattle.std.proofs.Common.{option_map, refl, sym, ◌∙◌, ap}
use Rattle.std.specs.List.{AllByRecursion}
use Rattle.std.specs.Option.{option_map_or}
use Rattle.std.proofs.lemmas.List.Elements.{recursion_from_All}
use Rattle.admit_core.specs.declared.dossier.AnswerKind.{AnswerKind}
use Rattle.admit_core.specs.declared.dossier.AnswerKind.TheVariants.{Accept, Refuse, Withdraw, Quit}
use Rattle.admit_core.specs.declared.dossier.Programme.{Programme}
use Rattle.admit_core.specs.declared.dossier.School.{School}
use Rattle.admit_core.specs.declared.dossier.Wish.{Wish}
use Rattle.admit_core.specs.declared.tables.AnswerRow.{AnswerRow}
use Rattle.admit_core.specs.declared.tables.CeilingRow.{CeilingRow}
use Rattle.admit_core.specs.declared.tables.ProgrammeRow.{ProgrammeRow}
use Rattle.admit_core.specs.declared.tables.SchoolRow.{SchoolRow}
use Rattle.admit_core.specs.declared.tables.Tables.{Tables}
use Rattle.admit_core.specs.declared.tables.WishRow.{WishRow}
use Rattle.admit_core.specs.DossierRows.{DossierRows}
use Rattle.admit_core.specs.Lists.{is_among}
use Rattle.admit_core.specs.Relations.{first_fault, is_target, programme_ids, school_ids, wish_ids}
use Rattle.admit_core.specs.Standing.{answer_of_row, ceiling_of_row, dossier_of, place_of, programme_of_row}
use Rattle.admit_core.specs.Standing.{school_of_row, target_of, wish_of_row}
use Rattle.admit_core.specs.State.{State}
use Rattle.dossier_check.proofs.NoFault.{HasNoFault, no_fault}
use Rattle.dossier_check.proofs.Places.{nat_eq_sound, passes_there}
use Rattle.dossier_check.proofs.RowFacts.{ceiling_schools_known, programmes_known, schools_known, targets_known}
use Rattle.intake.specs.declared.terms.DatedTerms.{DatedTerms}
use Rattle.next_morning.specs.Morning.{morning_tables}
use Rattle.next_morning.specs.RowsBack.{answer_row, ceiling_row, daily_rows, id_at, rows_back, school_row, target_row}
use Rattle.next_morning.specs.RowsBack.{wish_row}

-- what is made of rows, and made rows again
back : {R X : Type 0} (P : R → Type 0) (made : R → X) (row : X → R) → ((r : R) → P r → row (made r) ≡ r)
    → (rows : List R) → AllByRecursion P rows → map row (map made rows) ≡ rows
back P made row each [] all = refl
back P made row each (r ∷ rows) all = λ i. each r all.0 i ∷ back P made row each rows all.1 i

-- the ids of what is made of rows are those of the rows
own_ids : {R X : Type 0} (own : R → ℕ) (id : X → ℕ) (made : R → X) → ((r : R) → id (made r) ≡ own r)
    → (rows : List R) → map id (map made rows) ≡ map own rows
own_ids own id made same [] = refl
own_ids own id made same (r ∷ rows) = λ i. same r i ∷ own_ids own id made same rows i

-- the place of an id that is there has the id
id_back : {R X : Type 0} (own : R → ℕ) (id : X → ℕ) (made : R → X) → ((r : R) → id (made r) ≡ own r)
    → (n : ℕ) (rows : List R) → is_among n (map own rows) ≡ true
    → id_at id (map made rows) (place_of (map own rows) n) ≡ n
id_back own id made same n rows among =
    ap (λ (ids : List ℕ). get_or ids (place_of (map own rows) n) 0) (own_ids own id made same rows)
    ∙ sym (nat_eq_sound n _ (passes_there (nat_eq n) (map own rows) 0 among))

module _ (t : Tables) where
  programme_back : (n : ℕ) → is_among n (programme_ids t) ≡ true
      → id_at (λ (p : Programme). p.id) (map (programme_of_row t) t.programmes) (place_of (programme_ids t) n) ≡ n
  programme_back n among =
      id_back (λ (p : ProgrammeRow). p.id) (λ (p : Programme). p.id) (programme_of_row t) (λ r. refl)
      n t.programmes among

  school_back : (n : ℕ) → is_among n (school_ids t) ≡ true
      → id_at (λ (h : School). h.id) (map school_of_row t.schools) (place_of (school_ids t) n) ≡ n
  school_back n among =
      id_back (λ (h : SchoolRow). h.id) (λ (h : School). h.id) school_of_row (λ r. refl) n t.schools among

  wish_back : (n : ℕ) → is_among n (wish_ids t) ≡ true
      → id_at (λ (w : Wish). w.id) (map (wish_of_row t) t.wishes) (place_of (wish_ids t) n) ≡ n
  wish_back n among =
      id_back (λ (w : WishRow). w.id) (λ (w : Wish). w.id) (wish_of_row t) (λ r. refl) n t.wishes among

  asked_back : (school : Option ℕ) → option_map_or (λ h. is_among h (school_ids t)) school true ≡ true
      → option_map (id_at (λ (h : School). h.id) (map school_of_row t.schools))
      (option_map (place_of (school_ids t)) school) ≡ school
  asked_back None known = refl
  asked_back (Some h) known = ap (λ (n : ℕ). Some n) (school_back h known)

  target_back : (kind : AnswerKind) (target : ℕ) → is_target t kind target ≡ true
      → target_row (dossier_of t) kind (target_of t kind target) ≡ target
  target_back Quit target known = refl
  target_back Accept target known = wish_back target known
  target_back Refuse target known = wish_back target known
  target_back Withdraw target known = wish_back target known

  abbrev IsKnown : WishRow → Type 0
  IsKnown w = (is_among w.programme (programme_ids t) ≡ true)
      × (option_map_or (λ h. is_among h (school_ids t)) w.school true ≡ true)

  wish_again : (w : WishRow) → IsKnown w
      → wish_row (dossier_of t) (wish_of_row t w) ≡ w
  wish_again w known =
      λ i. record w { programme = programme_back w.programme known.0 i; school = asked_back w.school known.1 i }

  module _ (fine : HasNoFault t) where
    schools : map school_row (map school_of_row t.schools) ≡ t.schools
    schools = back (λ (r : SchoolRow). Unit {0}) school_of_row school_row (λ r u. refl) t.schools
        (recursion_from_All (λ (r : SchoolRow). Unit {0}) t.schools (λ k d lt. tt))

    wishes : map (wish_row (dossier_of t)) (map (wish_of_row t) t.wishes) ≡ t.wishes
    wishes = back IsKnown (wish_of_row t) _ wish_again t.wishes
        (recursion_from_All IsKnown t.wishes (λ k d lt. (programmes_known t fine k d lt, schools_known t fine k d lt)))

    ceilings : map (ceiling_row (dossier_of t)) (map (ceiling_of_row t) t.ceilings) ≡ t.ceilings
    ceilings =
        let P : CeilingRow → Type 0 = λ c. is_among c.school (school_ids t) ≡ true in
        back P (ceiling_of_row t) _ (λ c known i. record c { school = school_back c.school known i }) t.ceilings
        (recursion_from_All P t.ceilings (ceiling_schools_known t fine))

    answers : map (answer_row (dossier_of t)) (map (answer_of_row t) t.answers) ≡ t.answers
    answers =
        let P : AnswerRow → Type 0 = λ x. is_target t x.kind x.target ≡ true in
        back P (answer_of_row t) _ (λ x known i. record x { target = target_back x.kind x.target known i }) t.answers
        (recursion_from_All P t.answers (targets_known t fine))

    rows_again : rows_back (dossier_of t) ≡ daily_rows (record t { state = [] })
    rows_again = λ i. record {
      groups = [];
      programmes = [];
      schools = schools i;
      rankings = [];
      boarding = [];
      wishes = wishes i;
      state = [];
      ceilings = ceilings i;
      answers = answers i;
    }

-- so what a day changes of them is what it changes of the tables
pub next_rows_are : (a : ℕ) (t : Tables) (evening : State) (dated : Option DatedTerms) (d : DossierRows)
    (old new : Tables) → new ≡ morning_tables a old evening dated → old ≡ rows_back d → d ≡ evening.dossier
    → evening.dossier ≡ dossier_of t → first_fault t ≡ None → new ≡ daily_rows (morning_tables a t evening dated)
next_rows_are a t evening dated d old new turned back_is there same none =
    turned
    ∙ ap (λ (rows : Tables). morning_tables a rows evening dated) (back_is ∙ ap rows_back (there ∙ same))
    ∙ ap (λ (rows : Tables). morning_tables a rows evening dated) (rows_again t (no_fault t none))

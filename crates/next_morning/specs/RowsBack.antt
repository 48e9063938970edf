-- The rows of a dossier, with the ids that its places stand for.
use Rattle.std.specs.Prelude.{◌≡◌, ℕ, List, [], map, option_map, slice_index}
use Rattle.admit_core.specs.declared.dossier.Answer.{Answer}
use Rattle.admit_core.specs.declared.dossier.AnswerKind.{AnswerKind}
use Rattle.admit_core.specs.declared.dossier.AnswerKind.TheVariants.{Quit}
use Rattle.admit_core.specs.declared.dossier.CeilingChange.{CeilingChange}
use Rattle.admit_core.specs.declared.dossier.School.{School}
use Rattle.admit_core.specs.declared.dossier.Wish.{Wish}
use Rattle.admit_core.specs.declared.tables.AnswerRow.{AnswerRow}
use Rattle.admit_core.specs.declared.tables.CeilingRow.{CeilingRow}
use Rattle.admit_core.specs.declared.tables.SchoolRow.{SchoolRow}
use Rattle.admit_core.specs.declared.tables.Tables.{Tables}
use Rattle.admit_core.specs.declared.tables.WishRow.{WishRow}
use Rattle.admit_core.specs.DossierRows.{DossierRows}

-- the id of what stands at a place
abbrev pub id_at : {A : Type 0} → (A → ℕ) → List A → ℕ → ℕ
id_at id items place = slice_index (map id items) place

abbrev pub school_row : School → SchoolRow
school_row h = record { id = h.id; beds = h.beds; ceiling = h.ceiling }

abbrev pub wish_row : DossierRows → Wish → WishRow
wish_row d w =
    record {
      id = w.id;
      candidate = w.candidate;
      programme = id_at (λ p. p.id) d.programmes w.programme;
      school = option_map (id_at (λ h. h.id) d.schools) w.school;
      preference = w.preference;
    }

abbrev pub ceiling_row : DossierRows → CeilingChange → CeilingRow
ceiling_row d c =
    record { day = c.day; school = id_at (λ h. h.id) d.schools c.school; ceiling = c.ceiling }

abbrev pub target_row : DossierRows → AnswerKind → ℕ → ℕ
target_row d Quit target = target
target_row d _ target = id_at (λ w. w.id) d.wishes target

abbrev pub answer_row : DossierRows → Answer → AnswerRow
answer_row d a = record { day = a.day; kind = a.kind; target = target_row d a.kind a.target }

-- a dossier has no school, no wish, no ceiling and no answer
pub record HasNoDailyRows (d : DossierRows) : Type 0 where
  pub schools : d.schools ≡ []
  pub wishes : d.wishes ≡ []
  pub ceilings : d.ceilings ≡ []
  pub answers : d.answers ≡ []

-- the rows of the schools, the wishes, the ceilings and the answers
abbrev pub rows_back : DossierRows → Tables
rows_back d =
    record {
      groups = [];
      programmes = [];
      schools = map school_row d.schools;
      rankings = [];
      boarding = [];
      wishes = map (wish_row d) d.wishes;
      state = [];
      ceilings = map (ceiling_row d) d.ceilings;
      answers = map (answer_row d) d.answers;
    }

-- the slots of tables that a day changes, and the wishes
abbrev pub daily_rows : Tables → Tables
daily_rows t = record t { groups = []; programmes = []; rankings = []; boarding = [] }

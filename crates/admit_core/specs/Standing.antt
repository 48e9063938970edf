-- The dossier that valid tables stand for: all rows in file order, with the rankings sorted by rank
-- and places for ids.
use Rattle.std.specs.Prelude.{ℕ, ◌&&◌, List, Option, Some, None, map, option_map, nat_eq, find, filter, unwrap_or}
use Rattle.std.specs.List.{position_or_len}
use Rattle.admit_core.specs.declared.state.Status.{Status}
use Rattle.admit_core.specs.declared.state.Status.TheVariants.{Waiting}
use Rattle.admit_core.specs.declared.dossier.AnswerKind.{AnswerKind}
use Rattle.admit_core.specs.declared.dossier.AnswerKind.TheVariants.{Accept, Refuse, Withdraw, Quit}
use Rattle.admit_core.specs.declared.tables.GroupRow.{GroupRow}
use Rattle.admit_core.specs.declared.tables.ProgrammeRow.{ProgrammeRow}
use Rattle.admit_core.specs.declared.tables.SchoolRow.{SchoolRow}
use Rattle.admit_core.specs.declared.tables.RankRow.{RankRow}
use Rattle.admit_core.specs.declared.tables.WishRow.{WishRow}
use Rattle.admit_core.specs.declared.tables.CeilingRow.{CeilingRow}
use Rattle.admit_core.specs.declared.tables.AnswerRow.{AnswerRow}
use Rattle.admit_core.specs.declared.tables.Tables.{Tables}
use Rattle.admit_core.specs.declared.ranking.Ranked.{Ranked}
use Rattle.admit_core.specs.declared.ranking.RankGroup.{RankGroup}
use Rattle.admit_core.specs.declared.dossier.Programme.{Programme}
use Rattle.admit_core.specs.declared.dossier.School.{School}
use Rattle.admit_core.specs.declared.dossier.Wish.{Wish}
use Rattle.admit_core.specs.declared.dossier.CeilingChange.{CeilingChange}
use Rattle.admit_core.specs.declared.dossier.Answer.{Answer}
use Rattle.admit_core.specs.DossierRows.{DossierRows}
use Rattle.admit_core.specs.Lists.{sorted_by}
use Rattle.admit_core.specs.Relations.{group_ids, programme_ids, school_ids, wish_ids}

-- the place of an id among ids
abbrev pub place_of : List ℕ → ℕ → ℕ
place_of ids id = position_or_len (nat_eq id) ids

abbrev pub ranked_row : RankRow → Ranked
ranked_row r =
    record { candidate = r.candidate; rank = r.rank; scholar = r.scholar; resident = r.resident }

-- the candidates of a group, in file order
abbrev pub ranked_in : List RankRow → ℕ → List Ranked
ranked_in rankings group = map ranked_row (filter (λ r. nat_eq group r.group) rankings)

-- a group with its candidates by rank
abbrev pub group_of_row : Tables → GroupRow → RankGroup
group_of_row t g =
    record {
      id = g.id;
      scholar_pct = g.scholar_pct;
      resident_pct = g.resident_pct;
      list = sorted_by
          (λ r. r.rank) (ranked_in t.rankings g.id);
    }

abbrev pub programme_of_row : Tables → ProgrammeRow → Programme
programme_of_row t p =
    record { id = p.id; group = place_of (group_ids t) p.group; seats = p.seats; limit = p.limit }

abbrev pub school_of_row : SchoolRow → School
school_of_row h = record { id = h.id; beds = h.beds; ceiling = h.ceiling }

-- the candidate's rank in the school; 0 without a school
abbrev pub board_rank_of : Tables → ℕ → Option ℕ → ℕ
board_rank_of t candidate None = 0
board_rank_of t candidate (Some h) =
    unwrap_or (option_map (λ b. b.rank)
    (find (λ b. nat_eq h b.school && nat_eq candidate b.candidate) t.boarding)) 0

abbrev pub wish_of_row : Tables → WishRow → Wish
wish_of_row t w =
    record {
      id = w.id;
      candidate = w.candidate;
      programme = place_of (programme_ids t) w.programme;
      school = option_map (place_of (school_ids t)) w.school;
      board_rank = board_rank_of t w.candidate w.school;
      preference = w.preference;
    }

-- a wish that no row of the state names waits
abbrev pub status_of_row : Tables → WishRow → Status
status_of_row t w =
    unwrap_or (option_map (λ s. s.status) (find (λ s. nat_eq w.id s.wish) t.state)) Waiting

abbrev pub target_of : Tables → AnswerKind → ℕ → ℕ
target_of t Quit target = target
target_of t Accept target = place_of (wish_ids t) target
target_of t Refuse target = place_of (wish_ids t) target
target_of t Withdraw target = place_of (wish_ids t) target

abbrev pub ceiling_of_row : Tables → CeilingRow → CeilingChange
ceiling_of_row t c =
    record { day = c.day; school = place_of (school_ids t) c.school; ceiling = c.ceiling }

abbrev pub answer_of_row : Tables → AnswerRow → Answer
answer_of_row t a = record { day = a.day; kind = a.kind; target = target_of t a.kind a.target }

abbrev pub dossier_of : Tables → DossierRows
dossier_of t =
    record {
      groups = map (group_of_row t) t.groups;
      programmes = map (programme_of_row t) t.programmes;
      schools = map school_of_row t.schools;
      wishes = map (wish_of_row t) t.wishes;
      statuses = map (status_of_row t) t.wishes;
      ceilings = map (ceiling_of_row t) t.ceilings;
      answers = map (answer_of_row t) t.answers;
    }

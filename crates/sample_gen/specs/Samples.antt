-- The sample of a number of candidates, slot by slot.
use Rattle.std.specs.Prelude.{ℕ, ◌+◌, ◌-◌, ◌*◌, ◌%◌, Bool, ◌&&◌, List, [], ◌∷◌, Option, Some, None, map, filter, nat_eq}
use Rattle.std.specs.Prelude.{is_some, if◌then◌else◌}
use Rattle.std.specs.List.{flat_map}
use Rattle.admit_core.specs.declared.tables.GroupRow.{GroupRow}
use Rattle.admit_core.specs.declared.tables.ProgrammeRow.{ProgrammeRow}
use Rattle.admit_core.specs.declared.tables.SchoolRow.{SchoolRow}
use Rattle.admit_core.specs.declared.tables.RankRow.{RankRow}
use Rattle.admit_core.specs.declared.tables.BoardRow.{BoardRow}
use Rattle.admit_core.specs.declared.tables.WishRow.{WishRow}
use Rattle.admit_core.specs.declared.tables.Tables.{Tables}
use Rattle.sample_gen.specs.declared.choices.Choice.{Choice}
use Rattle.sample_gen.specs.Choices.{numbers, programmes_of, school_of, choices_of, is_boarder, is_first_at_school}

-- a group for each programme
abbrev pub group_row : ℕ → GroupRow
group_row id = record { id = id; scholar_pct = (7 * id) % 31; resident_pct = (11 * id) % 41 }

abbrev pub programme_row : ℕ → ProgrammeRow
programme_row id = record { id = id; group = id; seats = 200; limit = 0 }

abbrev pub school_row : ℕ → SchoolRow
school_row id = record { id = id; beds = 40; ceiling = 1073741824 }

-- a candidate's rank in a list: the candidate's number times an odd number of the list's own, in
-- the ring of 2 ^ 30 numbers
abbrev pub rank_in : ℕ → ℕ → ℕ
rank_in multiplier candidate = 1 + (candidate * multiplier) % 1073741824

-- every fifth candidate is a scholar, and every third a resident of a programme's sector
abbrev pub rank_row : Choice → RankRow
rank_row x =
    record {
      group = x.programme;
      candidate = x.candidate;
      rank = rank_in (1000001 + 2 * x.programme) x.candidate;
      scholar = nat_eq (x.candidate % 5) 0;
      resident = nat_eq ((x.candidate + x.programme) % 3) 0;
    }

abbrev pub board_row : Choice → BoardRow
board_row x =
    record {
      school = x.school;
      candidate = x.candidate;
      rank = rank_in
          (2000001 + 2 * x.school) x.candidate;
    }

-- a boarder has one rank in a school, at their first choice there
abbrev pub has_board_row : ℕ → Choice → Bool
has_board_row programmes x = is_boarder x && is_first_at_school programmes x

-- every fourth candidate has automatic answers: the wish with the school before the one without,
-- and the earlier choice first
abbrev pub preference_of : Choice → Bool → ℕ
preference_of x boards =
    if nat_eq (x.candidate % 4) 0 then 2 * x.place + (if boards then 1 else 2) else 0

abbrev pub wish_row : Choice → Option ℕ → WishRow
wish_row x school =
    record {
      id = 6 * (x.candidate - 1) + 2 * x.place + (if is_some school then 2 else 1);
      candidate = x.candidate;
      programme = x.programme;
      school = school;
      preference = preference_of x (is_some school);
    }

-- a wish without a school, and then a boarder's with one
abbrev pub wish_rows : Choice → List WishRow
wish_rows x = wish_row x None ∷ (if is_boarder x then (wish_row x (Some x.school) ∷ []) else [])

-- the sample of n candidates
abbrev pub sample_tables : ℕ → Tables
sample_tables n =
    record {
      groups = map group_row (numbers (programmes_of n));
      programmes = map programme_row (numbers (programmes_of n));
      schools = map school_row (numbers (school_of (programmes_of n)));
      rankings = map rank_row (choices_of n);
      boarding = map board_row (filter (has_board_row (programmes_of n)) (choices_of n));
      wishes = flat_map wish_rows (choices_of n);
      state = [];
      ceilings = [];
      answers = [];
    }

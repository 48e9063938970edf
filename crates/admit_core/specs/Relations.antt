-- The first fault of tables: what each row is compared with, by slot.
use Rattle.std.specs.Prelude.{ℕ, Bool, true, false, not, ◌&&◌, ◌||◌, List, [], ◌∷◌, Option, Some, None, map, option_map}
use Rattle.std.specs.Prelude.{nat_eq, nat_lt, find, if◌then◌else◌}
use Rattle.std.specs.List.{list_any, enumerate_from}
use Rattle.std.specs.Option.{option_map_or}
use Rattle.admit_core.specs.declared.slot.Slot.TheVariants as slots
use Rattle.admit_core.specs.declared.refusal.Reason.TheVariants.{Unranked, NoBoardingRank, PreferenceMixed}
use Rattle.admit_core.specs.declared.refusal.Reason.TheVariants.{PreferenceTaken, TwoAccepted, DayFalls}
use Rattle.admit_core.specs.declared.refusal.Refusal.{Refusal}
use Rattle.admit_core.specs.declared.state.Status.{Status}
use Rattle.admit_core.specs.declared.state.Status.TheVariants.{Accepted}
use Rattle.admit_core.specs.declared.dossier.AnswerKind.{AnswerKind}
use Rattle.admit_core.specs.declared.dossier.AnswerKind.TheVariants.{Accept, Refuse, Withdraw, Quit}
use Rattle.admit_core.specs.declared.tables.GroupRow.{GroupRow}
use Rattle.admit_core.specs.declared.tables.ProgrammeRow.{ProgrammeRow}
use Rattle.admit_core.specs.declared.tables.SchoolRow.{SchoolRow}
use Rattle.admit_core.specs.declared.tables.RankRow.{RankRow}
use Rattle.admit_core.specs.declared.tables.BoardRow.{BoardRow}
use Rattle.admit_core.specs.declared.tables.WishRow.{WishRow}
use Rattle.admit_core.specs.declared.tables.StateRow.{StateRow}
use Rattle.admit_core.specs.declared.tables.CeilingRow.{CeilingRow}
use Rattle.admit_core.specs.declared.tables.AnswerRow.{AnswerRow}
use Rattle.admit_core.specs.declared.tables.Tables.{Tables}
use Rattle.admit_core.specs.Lists.{is_among}
use Rattle.admit_core.specs.Faults.{Test, first_row, first_of, first_in, repeats, takes_rank, names_unknown}

-- the ids of the rows of a slot, by place
abbrev pub group_ids : Tables → List ℕ
group_ids t = map (λ g. g.id) t.groups

abbrev pub programme_ids : Tables → List ℕ
programme_ids t = map (λ p. p.id) t.programmes

abbrev pub school_ids : Tables → List ℕ
school_ids t = map (λ h. h.id) t.schools

abbrev pub wish_ids : Tables → List ℕ
wish_ids t = map (λ w. w.id) t.wishes

-- groups and schools: no id twice
abbrev pub group_tests : List (Test GroupRow)
group_tests = repeats (λ row r. nat_eq row.id r.id) ∷ []

abbrev pub school_tests : List (Test SchoolRow)
school_tests = repeats (λ row r. nat_eq row.id r.id) ∷ []

-- programmes: no id twice, and a group that is there
abbrev pub programme_tests : Tables → List (Test ProgrammeRow)
programme_tests t =
    repeats (λ row r. nat_eq row.id r.id)
    ∷ names_unknown 2 (λ row. is_among row.group (group_ids t))
    ∷ []

-- rankings: in a group that is there, no candidate twice, and no rank twice
abbrev pub ranking_tests : Tables → List (Test RankRow)
ranking_tests t =
    repeats (λ row r. nat_eq row.group r.group && nat_eq row.candidate r.candidate)
    ∷ names_unknown 1 (λ row. is_among row.group (group_ids t))
    ∷ takes_rank (λ row r. nat_eq row.group r.group && nat_eq row.rank r.rank)
    ∷ []

-- boarding ranks: in a school that is there, no candidate twice, and no rank twice
abbrev pub boarding_tests : Tables → List (Test BoardRow)
boarding_tests t =
    repeats (λ row r. nat_eq row.school r.school && nat_eq row.candidate r.candidate)
    ∷ names_unknown 1 (λ row. is_among row.school (school_ids t))
    ∷ takes_rank (λ row r. nat_eq row.school r.school && nat_eq row.rank r.rank)
    ∷ []

-- whether two schools are the same; none is the same as none
abbrev pub same_school : Option ℕ → Option ℕ → Bool
same_school None None = true
same_school (Some h) (Some k) = nat_eq h k
same_school h k = false

abbrev pub same_wish : WishRow → WishRow → Bool
same_wish row r =
    nat_eq row.candidate r.candidate && nat_eq row.programme r.programme
    && same_school row.school r.school

-- whether the candidate is ranked in the group, and in that of the programme with this id
abbrev pub is_in_group : Tables → ℕ → ℕ → Bool
is_in_group t candidate group =
    list_any (λ r. nat_eq group r.group && nat_eq candidate r.candidate) t.rankings

abbrev pub is_ranked : Tables → ℕ → ℕ → Bool
is_ranked t programme candidate =
    option_map_or (λ p. is_in_group t candidate p.group)
    (find (λ p. nat_eq programme p.id) t.programmes) false

abbrev pub unranked : Tables → Test WishRow
unranked t before row = if is_ranked t row.programme row.candidate then None else Some Unranked

-- whether the candidate has a rank in the school
abbrev pub is_boarded : Tables → ℕ → ℕ → Bool
is_boarded t school candidate =
    list_any (λ b. nat_eq school b.school && nat_eq candidate b.candidate) t.boarding

abbrev pub no_boarding_rank : Tables → Test WishRow
no_boarding_rank t before row =
    if option_map_or (λ h. is_boarded t h row.candidate) row.school true then None
    else Some NoBoardingRank

-- one of the two wishes has a preference, and the other has none
abbrev pub are_mixed : WishRow → WishRow → Bool
are_mixed row r =
    not (nat_eq row.preference 0) && nat_eq r.preference 0 || nat_eq row.preference 0
    && not (nat_eq r.preference 0)

-- the first of the candidate's wish rows, with its number
abbrev pub first_wish_of : List WishRow → ℕ → Option (ℕ × WishRow)
first_wish_of rows candidate = find (λ x. nat_eq candidate x.1.candidate) (enumerate_from 2 rows)

abbrev pub mixed_with : WishRow → ℕ × WishRow → Option ℕ
mixed_with row first = if are_mixed row first.1 then Some first.0 else None

abbrev pub preference_mixed : Test WishRow
preference_mixed before row =
    option_map PreferenceMixed
    (option_map_or (mixed_with row) (first_wish_of before row.candidate) None)

abbrev pub preference_taken : Test WishRow
preference_taken before row =
    if nat_lt 0 row.preference
    then option_map PreferenceTaken
    (first_row (λ r. nat_eq row.candidate r.candidate
    && nat_eq row.preference r.preference) before)
    else None

-- wishes: no id and no wish twice, what they name is there, the candidate is ranked, and the
-- preferences of a candidate are all 0, or all positive and different
abbrev pub wish_tests : Tables → List (Test WishRow)
wish_tests t =
    repeats (λ row r. nat_eq row.id r.id)
    ∷ repeats same_wish
    ∷ names_unknown 3 (λ row. is_among row.programme (programme_ids t))
    ∷ names_unknown 4 (λ row. option_map_or (λ h. is_among h (school_ids t)) row.school true)
    ∷ unranked t
    ∷ no_boarding_rank t
    ∷ preference_mixed
    ∷ preference_taken
    ∷ []

-- the candidate of the wish with this id
abbrev pub candidate_with : Tables → ℕ → Option ℕ
candidate_with t wish = option_map (λ w. w.candidate) (find (λ w. nat_eq wish w.id) t.wishes)

abbrev pub same_candidate : Option ℕ → Option ℕ → Bool
same_candidate (Some c) (Some d) = nat_eq c d
same_candidate _ _ = false

abbrev pub is_accepted : Status → Bool
is_accepted Accepted = true
is_accepted _ = false

abbrev pub two_accepted : Tables → Test StateRow
two_accepted t before row =
    if is_accepted row.status
    then option_map TwoAccepted
    (first_row (λ r. is_accepted r.status
    && same_candidate (candidate_with t row.wish) (candidate_with t r.wish)) before)
    else None

-- statuses: no wish twice, a wish that is there, and no candidate with two accepted ones
abbrev pub state_tests : Tables → List (Test StateRow)
state_tests t =
    repeats (λ row r. nat_eq row.wish r.wish)
    ∷ names_unknown 1 (λ row. is_among row.wish (wish_ids t))
    ∷ two_accepted t
    ∷ []

-- the last of the rows
abbrev pub last_row : {R : Type 0} → List R → Option R
last_row [] = None
last_row (r ∷ []) = Some r
last_row (r ∷ (s ∷ rows)) = last_row (s ∷ rows)

-- the day is less than that of the row before
abbrev pub day_falls : {R : Type 0} → (R → ℕ) → Test R
day_falls day before row =
    if option_map_or (λ last. nat_lt (day row) (day last)) (last_row before) false
    then Some DayFalls else None

-- ceilings: no day and school twice, a school that is there, and days that do not fall
abbrev pub ceiling_tests : Tables → List (Test CeilingRow)
ceiling_tests t =
    repeats (λ row r. nat_eq row.day r.day && nat_eq row.school r.school)
    ∷ names_unknown 2 (λ row. is_among row.school (school_ids t))
    ∷ day_falls (λ row. row.day)
    ∷ []

-- whether an answer speaks of a wish that is there, or of a candidate who has one
abbrev pub is_target : Tables → AnswerKind → ℕ → Bool
is_target t Quit target = is_among target (map (λ w. w.candidate) t.wishes)
is_target t Accept target = is_among target (wish_ids t)
is_target t Refuse target = is_among target (wish_ids t)
is_target t Withdraw target = is_among target (wish_ids t)

-- answers: a target that is there, and days that do not fall
abbrev pub answer_tests : Tables → List (Test AnswerRow)
answer_tests t =
    names_unknown 3 (λ row. is_target t row.kind row.target)
    ∷ day_falls (λ row. row.day)
    ∷ []

-- the first fault, by slot, then by row, then by reason and field; tables without one are valid
abbrev pub first_fault : Tables → Option Refusal
first_fault t =
    first_of (
    first_in slots.Groups group_tests t.groups
    ∷ first_in slots.Programmes (programme_tests t) t.programmes
    ∷ first_in slots.Schools school_tests t.schools
    ∷ first_in slots.Rankings (ranking_tests t) t.rankings
    ∷ first_in slots.Boarding (boarding_tests t) t.boarding
    ∷ first_in slots.Wishes (wish_tests t) t.wishes
    ∷ first_in slots.State (state_tests t) t.state
    ∷ first_in slots.Ceilings (ceiling_tests t) t.ceilings
    ∷ first_in slots.Answers (answer_tests t) t.answers
    ∷ []
    )

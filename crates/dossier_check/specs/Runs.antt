-- Runs of rows in which one candidate's wishes stand together.
use Rattle.std.specs.Prelude.{◌≡◌, ◌≤◌, ◌<◌, ℕ, Bool, false, ◌&&◌, ◌||◌, List, Option, Some, None, get_or, nat_eq}
use Rattle.std.specs.Prelude.{nat_lt, if◌then◌else◌}
use Rattle.admit_core.specs.declared.tables.WishRow.{WishRow}
use Rattle.admit_core.specs.Relations.{same_school, same_wish}
use Rattle.dossier_check.specs.declared.apart.Run.{Run}

-- whether a wish has a preference that another wish of the candidate has
abbrev pub same_preference : WishRow → WishRow → Bool
same_preference row r =
    nat_eq row.candidate r.candidate && nat_lt 0 row.preference
    && nat_eq row.preference r.preference

-- whether two wishes must not stand in one slot
abbrev pub clashes : WishRow → WishRow → Bool
clashes row r = same_wish row r || same_preference row r

-- whether two wishes of one candidate clash
abbrev pub alike : WishRow → WishRow → Bool
alike row r =
    (nat_eq row.programme r.programme && same_school row.school r.school)
    || (nat_lt 0 row.preference && nat_eq row.preference r.preference)

-- the run of the next row's candidate, where candidates rise
abbrev pub run_with : Run → ℕ → ℕ → Option Run
run_with run candidate place =
    if nat_eq candidate run.candidate then Some run
    else if nat_lt run.candidate candidate
    then Some (record { candidate = candidate; from = place })
    else None

-- no two rows before a place clash, and those of the last candidate are those of the run
pub record IsRunUpTo (rows : List WishRow) (run : Run) (to : ℕ) : Type 0 where
  pub start : run.from ≤ to
  pub apart : (j k : ℕ) (d : WishRow) → j < k → k < to
      → clashes (get_or rows k d) (get_or rows j d) ≡ false
  pub others : (j : ℕ) (d : WishRow) → j < run.from → (get_or rows j d).candidate < run.candidate
  pub own : (j : ℕ) (d : WishRow) → run.from ≤ j → j < to
      → (get_or rows j d).candidate ≡ run.candidate

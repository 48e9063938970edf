-- The choices of a sample's candidates.
use Rattle.std.specs.Prelude.{ℕ, ◌+◌, ◌-◌, ◌/◌, ◌%◌, ◌<◌, ◌≤◌, Bool, not, List, map, min, nat_eq}
use Rattle.std.specs.List.{flat_map, list_all, range_with_len}
use Rattle.sample_gen.specs.declared.choices.Choice.{Choice}

-- the numbers from 1 to n
abbrev pub numbers : ℕ → List ℕ
numbers n = range_with_len 1 n

-- one programme for each 500 candidates, and one more
abbrev pub programmes_of : ℕ → ℕ
programmes_of n = 1 + n / 500

-- the programmes go by twos to the schools
abbrev pub school_of : ℕ → ℕ
school_of programme = 1 + (programme - 1) / 2

-- the programme that a candidate chooses at a place: those of their choices follow one another, and
-- after the last comes the first
abbrev pub chosen : ℕ → ℕ → ℕ → ℕ
chosen programmes candidate place = 1 + (candidate + place) % programmes

abbrev pub choice_at : ℕ → ℕ → ℕ → Choice
choice_at programmes candidate place =
    record {
      candidate = candidate;
      place = place;
      programme = chosen programmes candidate place;
      school = school_of (chosen programmes candidate place);
    }

-- a candidate's choices: three, and no more than there are programmes
abbrev pub own_choices : ℕ → ℕ → List Choice
own_choices programmes candidate =
    map (choice_at programmes candidate) (range_with_len 0 (min programmes 3))

-- the choices of n candidates
abbrev pub choices_of : ℕ → List Choice
choices_of n = flat_map (own_choices (programmes_of n)) (numbers n)

-- every second candidate wishes for boarding schools
abbrev pub is_boarder : Choice → Bool
is_boarder x = nat_eq (x.candidate % 2) 0

-- no earlier choice of the candidate has the school
abbrev pub is_first_at_school : ℕ → Choice → Bool
is_first_at_school programmes x =
    list_all (λ place. not (nat_eq (school_of (chosen programmes x.candidate place)) x.school))
    (range_with_len 0 x.place)

-- a choice in a sample of at most 1,000,000 candidates
pub record IsSmall (x : Choice) : Type 0 where
  pub from_one : 1 ≤ x.candidate
  pub candidate : x.candidate ≤ 1000000
  pub place : x.place < 3
  pub programme : x.programme ≤ 2001
  pub school : x.school ≤ 1001

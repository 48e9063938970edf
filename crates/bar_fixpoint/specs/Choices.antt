-- What the pickers choose from an ascending list of places.
use Rattle.std.specs.Prelude.{ℕ, ◌-◌, ◌==◌, List, length, slice_index, find, unwrap_or, nat_lt, if◌then◌else◌}

-- the first place
abbrev pub first_of : List ℕ → ℕ
first_of places = slice_index places 0

-- the last place
abbrev pub last_of : List ℕ → ℕ
last_of places = slice_index places (length places - 1)

-- the least place greater than the last one told; the first where none was told or none is greater
abbrev pub turn_of : List ℕ → List ℕ → ℕ
turn_of told places = if length told == 0 then first_of places
    else unwrap_or (find (nat_lt (last_of told)) places) (first_of places)

-- Worked dates.
use Rattle.std.specs.Prelude.{◌≡◌, [], ◌∷◌, codes, map, true, false, Some, None, pos, negsuc}
use Rattle.calendar.specs.Dates.{date_of, day_number, first_day, is_leap_year, last_day, last_read_day}
use Rattle.calendar.specs.Texts.{date_in, date_text}

abbrev pub LeapYears : Type 0
LeapYears =
    map is_leap_year (1900 ∷ 2000 ∷ 2023 ∷ 2024 ∷ 2100 ∷ [])
    ≡ false ∷ true ∷ false ∷ true ∷ false ∷ []

-- from dates to their numbers
abbrev pub KnownNumbers : Type 0
KnownNumbers =
    (day_number 1970 1 1 ≡ pos 0)
    × (day_number 1969 12 31 ≡ negsuc 0)
    × (day_number 2000 1 1 ≡ pos 10957)
    × (day_number 2024 2 29 ≡ pos 19782)
    × (day_number 1900 1 1 ≡ first_day)
    × (day_number 2299 12 31 ≡ last_read_day)
    × (day_number 2310 12 31 ≡ last_day)

-- and back
abbrev pub KnownDates : Type 0
KnownDates =
    (date_of (pos 0) ≡ (1970, 1, 1))
    × (date_of (negsuc 0) ≡ (1969, 12, 31))
    × (date_of (pos 19782) ≡ (2024, 2, 29))
    × (date_of first_day ≡ (1900, 1, 1))
    × (date_of last_day ≡ (2310, 12, 31))

-- texts of dates, and texts that name none
abbrev pub KnownTexts : Type 0
KnownTexts =
    (date_text (pos 20241) ≡ codes "2025-06-02")
    × (date_in (codes "2024-02-29") ≡ Some (pos 19782))
    × (date_in (codes "2000-02-29") ≡ Some (pos 11016))
    × (date_in (codes "2023-02-29") ≡ None)
    × (date_in (codes "1900-02-29") ≡ None)
    × (date_in (codes "1899-12-31") ≡ None)
    × (date_in (codes "2300-01-01") ≡ None)
    × (date_in (codes "2024-2-29") ≡ None)
    × (date_in (codes "+024-02-29") ≡ None)

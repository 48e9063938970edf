-- Since when each wish has its status.
use Rattle.std.specs.Prelude.{Bool, List, Option, None, find, is_some, map, nat_eq, not, replicate}
use Rattle.std.specs.Option.{option_and_then}
use Rattle.admit_core.specs.declared.tables.Since.{Since}
use Rattle.admit_core.specs.declared.tables.StateRow.{StateRow}
use Rattle.admit_core.specs.declared.tables.Tables.{Tables}
use Rattle.admit_core.specs.declared.tables.WishRow.{WishRow}
use Rattle.dossier_check.specs.declared.dates.Kept.{Kept}
use Rattle.dossier_check.specs.declared.dates.Kept.TheVariants.{Undated, Listed}

-- the date in the row of a wish's status; none where it has no row, or the row has no date
abbrev pub date_of_wish : Tables → WishRow → Option Since
date_of_wish t w = option_and_then (λ s. s.since) (find (λ s. nat_eq w.id s.wish) t.state)

-- the dates of the wishes, by their places
abbrev pub dates_of : Tables → List (Option Since)
dates_of t = map (date_of_wish t) t.wishes

-- the dates that are kept
abbrev pub kept_dates : Kept → List (Option Since)
kept_dates (Undated wishes) = replicate wishes None
kept_dates (Listed dates) = dates.items

-- whether a status has no date
abbrev pub is_undated : StateRow → Bool
is_undated row = not (is_some row.since)

-- The dates that are read on the next morning, as the terms of the campaign that is cut there.
use Rattle.std.specs.Prelude.{◌≡◌, ◌+ℤ◌, ℕ, ℤ, pos, List, Some, length, map}
use Rattle.std.specs.List.{range_with_len}
use Rattle.admit_core.specs.declared.records.Terms.{Terms}
use Rattle.admit_core.specs.Days.{first_evening}
use Rattle.admit_core.specs.State.{State}
use Rattle.cut_laws.specs.Cut.{StandAlike, cut_at}
use Rattle.intake.specs.Dated.{terms_from}
use Rattle.text_laws.specs.ReadBack.{HaveReadDates, since_when}

-- the terms that come of the dates of an evening's final lines, where the campaign begins again a
-- days later
abbrev pub read_terms : State → ℤ → List ℤ → ℕ → ℕ → Terms
read_terms s start before a term =
    terms_from (cut_at a s)
    (map (since_when s start before) (range_with_len 0 (length s.dossier.wishes)))
    (record { start = start +ℤ pos a; term = term })

-- where the new day 1 is a days after the old one, the open offers that are read stand as those of
-- the evening, dated a days earlier
abbrev pub ReadOffersStandAlike : Type 0
ReadOffersStandAlike =
    (s : State) (start : ℤ) (before : List ℤ) (a term : ℕ)
    → length s.marks ≡ length s.dossier.wishes
    → length before ≡ length s.dossier.wishes
    → HaveReadDates s start before
    → StandAlike a (Some (record { term = term; before = before })) s
    (Some (read_terms s start before a term)) (first_evening (cut_at a s))

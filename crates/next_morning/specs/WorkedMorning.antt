-- The worked campaign that is cut, as tables, and its three mornings after.
use Rattle.std.specs.Prelude.{◌≡◌, ℕ, false, [], ◌∷◌, None, Option, Some}
use Rattle.admit_core.specs.declared.dossier.AnswerKind.TheVariants.{Quit, Refuse}
use Rattle.admit_core.specs.declared.state.Status.{Status}
use Rattle.admit_core.specs.declared.state.Status.TheVariants.{Lapsed, Offered, Refused, Waiting}
use Rattle.admit_core.specs.declared.tables.RankRow.{RankRow}
use Rattle.admit_core.specs.declared.tables.StateRow.{StateRow}
use Rattle.admit_core.specs.declared.tables.Tables.{Tables}
use Rattle.admit_core.specs.declared.tables.WishRow.{WishRow}
use Rattle.admit_core.specs.Standing.{dossier_of}
use Rattle.cut_laws.specs.WorkedCampaign.{campaign, first_night, second_night, third_night}
use Rattle.next_morning.specs.Morning.{tables_after}

abbrev pub wish : ℕ → ℕ → Option ℕ → WishRow
wish id candidate school =
    record { id = id; candidate = candidate; programme = 10; school = school; preference = 0 }

abbrev pub campaign_tables : Tables
campaign_tables =
    record {
      groups = [];
      programmes = record { id = 10; group = 1; seats = 2; limit = 0 } ∷ [];
      schools = record { id = 5; beds = 1; ceiling = 0 } ∷ [];
      rankings = [];
      boarding = record { school = 5; candidate = 11; rank = 1 } ∷ [];
      wishes = wish 1 11 (Some 5) ∷ wish 2 12 None ∷ wish 3 13 None ∷ wish 4 14 None ∷ [];
      state = [];
      ceilings = record { day = 3; school = 5; ceiling = 9 } ∷ [];
      answers = record { day = 2; kind = Refuse; target = 3 } ∷ [];
    }

abbrev pub told : ℕ → Status → StateRow
told wish status = record { wish = wish; status = status; since = None }

-- before day 2 the answer is one of day 1, and the ceiling one of day 2; before day 3 the answer is
-- gone; and in the end the school has that ceiling, and the lapsed offer is told as lapsed
abbrev pub WorkedMornings : Type 0
WorkedMornings =
    (dossier_of campaign_tables ≡ campaign)
    × (tables_after 1 campaign_tables first_night ≡ record campaign_tables {
      state = told 1 Waiting ∷ told 2 Offered ∷ told 3 Offered ∷ told 4 Waiting ∷ [];
      ceilings = record { day = 2; school = 5; ceiling = 9 } ∷ [];
      answers = record { day = 1; kind = Refuse; target = 3 } ∷ [];
    })
    × (tables_after 2 campaign_tables second_night ≡ record campaign_tables {
      state = told 1 Waiting ∷ told 2 Offered ∷ told 3 Refused ∷ told 4 Offered ∷ [];
      ceilings = record { day = 1; school = 5; ceiling = 9 } ∷ [];
      answers = [];
    })
    × (tables_after 3 campaign_tables third_night ≡ record campaign_tables {
      schools = record { id = 5; beds = 1; ceiling = 9 } ∷ [];
      state = told 1 Offered ∷ told 2 Lapsed ∷ told 3 Refused ∷ told 4 Offered ∷ [];
      ceilings = [];
      answers = [];
    })

abbrev pub ranked : ℕ → RankRow
ranked candidate =
    record { group = 1; candidate = candidate; rank = 1; scholar = false; resident = false }

-- the tables of the small dossier
abbrev pub small_tables : Tables
small_tables =
    record {
      groups = record { id = 1; scholar_pct = 0; resident_pct = 0 } ∷ [];
      programmes = record { id = 10; group = 1; seats = 1; limit = 0 } ∷ [];
      schools = record { id = 5; beds = 1; ceiling = 9 } ∷ [];
      rankings = ranked 11 ∷ [];
      boarding = record { school = 5; candidate = 11; rank = 1 } ∷ [];
      wishes = wish 1 11 (Some 5) ∷ [];
      state = [];
      ceilings = record { day = 1; school = 5; ceiling = 3 } ∷ [];
      answers = record { day = 1; kind = Quit; target = 11 } ∷ [];
    }

-- What was played, of whose days the falls are kept or left out.
use Rattle.std.specs.Prelude.{◌≡◌, ℕ, Bool, List, map, MatchResult, Option, Result}
use Rattle.admit_core.specs.DossierRows.{DossierRows}
use Rattle.admit_core.specs.declared.ranking.CallOrder.{CallOrder}
use Rattle.admit_core.specs.declared.records.DayRecord.{DayRecord}
use Rattle.admit_core.specs.declared.records.Terms.{Terms}
use Rattle.admit_core.specs.declared.refusal.Refusal.{Refusal}
use Rattle.desk_day.specs.KeptDays.{kept_day}
use Rattle.desk_day.specs.declared.refusal.DayRefusal.{DayRefusal}
use Rattle.round.specs.KeptFalls.{IsKeptOf, are_kept}
use Rattle.played.specs.LastDesks.{DeskLeft, EndsBy}
use Rattle.played.specs.Lent.{Lent}
use Rattle.played.specs.PlayedDays.{BreaksDays, IsPlayed, OnFit, Plan, Played, PlaysDays, RunMoment, first_desk}
use Rattle.played.specs.declared.wanted.Wanted.{Wanted}

-- what was played, with all falls where they are kept, and with none elsewhere
abbrev pub kept_played : Bool → Played → Played
kept_played keeps played =
    record { orders = played.orders; days = map (kept_day keeps) played.days; end = played.end }

-- days from day 1 on, of which so many are asked for, and what is kept of those that came about
pub record PlaysDaysKept (keeps : Bool) (plan : Plan) (number : ℕ) (before : RunMoment)
    (kept : List DayRecord) (result : Result (Unit {0}) DayRefusal) (after : RunMoment) : Type 0 where
  pub days : List DayRecord
  pub plays : PlaysDays plan number before days result after
  pub keeps_so : OnFit result (kept ≡ map (kept_day keeps) days)

-- what became of the days of a dossier that are asked for, by what is kept of them
abbrev pub IsPlayedKept : Wanted → DossierRows → Option Terms → Lent → Played → Lent → Type 0
IsPlayedKept wanted d terms before kept after =
    IsKeptOf (kept_played (are_kept wanted.falls))
    (λ whole. IsPlayed d terms wanted.number wanted.who before whole after) kept

-- what the days of a run go by: a dossier, its call orders and the terms of its offers
pub record DayGrounds : Type 0 where
  pub dossier : DossierRows
  pub orders : List CallOrder
  pub terms : Option Terms

-- what days leave: their records, and the desk after them or the refusal that cut them short
pub record DaysLeft : Type 0 where
  pub days : List DayRecord
  pub end : Result DeskLeft Refusal

-- how the days that are asked for end: they were played, and what an outcome has of their records
-- and of their end is kept of them; or memory ran out
abbrev pub EndsWanted : {X E : Type 0} → Wanted → DayGrounds → Lent → Lent → Result X E
    → (X → DaysLeft) → Type 0
EndsWanted wanted by before after result left =
    MatchResult result
    (λ x. EndsBy by.orders wanted.number
    (λ played. IsPlayedKept wanted by.dossier by.terms before played after)
    (left x).days (left x).end)
    (λ _. BreaksDays (record { orders = by.orders; terms = by.terms; who = wanted.who })
    wanted.number (first_desk by.dossier) before after)

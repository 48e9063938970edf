-- What days leave to the modes that ask of the last day.
use Rattle.std.specs.Prelude.{List}
use Rattle.admit_core.specs.DossierRows.{DossierRows}
use Rattle.admit_core.specs.declared.ranking.CallOrder.{CallOrder}
use Rattle.admit_core.specs.declared.records.DayRecord.{DayRecord}
use Rattle.desk_day.specs.DeskStates.{DeskStates}
use Rattle.dossier_check.specs.Ids.{Ids}
use Rattle.intake.specs.declared.input.Input.{Input}
use Rattle.played.specs.LastDesks.{DeskBy}
use Rattle.played.specs.PlayedDays.{Played}
use Rattle.modes.specs.Jobs.{JobView}
use Rattle.modes.specs.declared.all_played.AllPlayed.{AllPlayed}

-- the dossier and its ids, the call orders by which the days were run, their records, and the desk
-- after them
pub record AfterDays : Type 0 where
  pub dossier : DossierRows
  pub index : Ids
  pub orders : List CallOrder
  pub days : List DayRecord
  pub desk : DeskStates

abbrev pub after_days : Input → List CallOrder → List DayRecord → DeskStates → AfterDays
after_days input orders days desk = record {
  dossier = input.dossier;
  index = input.index;
  orders = orders;
  days = days;
  desk = desk;
}

-- the same of the desk that days left, with its call orders
abbrev pub left_on : Input → List DayRecord → DeskBy → AfterDays
left_on input days along = after_days input along.orders days along.desk

-- of all that was played
abbrev pub left_by : Input → AllPlayed → AfterDays
left_by input played = after_days input played.last.orders played.days.items played.last.desk

-- and of what the modes see of a job
abbrev pub seen_after : JobView → Played → DeskStates → AfterDays
seen_after view played desk = record {
  dossier = view.dossier;
  index = view.index;
  orders = played.orders;
  days = played.days;
  desk = desk;
}

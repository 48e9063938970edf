-- The worked cases of the laws of read states.
use Rattle.std.proofs.Common.{◌≡◌, Ok, Some, refl, ◌∙◌, ap}
use Rattle.std.specs.Prelude.{List}
use Rattle.calendar.specs.Dates.{date_of, day_number, days_of_months, last_started}
use Rattle.admit_core.specs.declared.tables.StateRow.{StateRow}
use Rattle.admit_core.proofs.SmallDossier.{small_dossier_holds}
use Rattle.dossier_csv.specs.Rows as Rows
use Rattle.dossier_csv.specs.Shape.{shape}
use Rattle.text_laws.proofs.WorkedEvening.{small_dates as dates_are_read}
use Rattle.text_laws.specs.Witnesses.{small_evening}
use Rattle.next_morning.specs.Laws.{IsEveningOf}
use Rattle.next_morning.specs.Morning.{morning_tables}
use Rattle.next_morning.specs.ReadLaws.{final_lines}
use Rattle.next_morning.specs.ReadWitnesses.{FinalLinesAreTheStateWitness, ReadStatesAreOfTheCutWitness}
use Rattle.next_morning.specs.ReadWitnesses.{ReadStatusesAreOfTheEveningWitness, small_dates, small_rows}
use Rattle.next_morning.specs.WorkedMorning.{small_tables}
use Rattle.next_morning.proofs.ReadStates.{final_lines_are_the_state, read_states_are_of_the_cut}
use Rattle.next_morning.proofs.ReadStates.{read_statuses_are_of_the_evening}

second_evening_is : IsEveningOf small_tables small_evening
second_evening_is = record { dossier = refl; marks = refl; ids = small_dossier_holds.ids.wishes }

rows_are : (morning_tables 2 small_tables small_evening (Some small_dates)).state ≡ small_rows
unfolding date_of day_number days_of_months last_started
rows_are = refl

lines_read : shape Rows.state (final_lines small_evening (Some small_dates)) ≡ Ok small_rows
lines_read =
    final_lines_are_the_state 2 small_tables small_evening (Some small_dates) second_evening_is small_dossier_holds
    dates_are_read
    ∙ ap (λ (rows : List StateRow). Ok rows) rows_are

pub lines_witness : FinalLinesAreTheStateWitness
lines_witness = (
  second_evening_is,
  small_dossier_holds,
  dates_are_read,
  final_lines_are_the_state 2 small_tables small_evening (Some small_dates) second_evening_is small_dossier_holds
      dates_are_read,
)

pub statuses_witness : ReadStatusesAreOfTheEveningWitness
statuses_witness = (
  second_evening_is,
  small_dossier_holds,
  dates_are_read,
  lines_read,
  read_statuses_are_of_the_evening small_tables small_evening (Some small_dates) small_rows second_evening_is
      small_dossier_holds dates_are_read lines_read,
)

pub read_cut_witness : ReadStatesAreOfTheCutWitness
read_cut_witness = (
  second_evening_is,
  small_dossier_holds,
  dates_are_read,
  lines_read,
  read_states_are_of_the_cut 2 small_tables small_evening (Some small_dates) small_rows second_evening_is
      small_dossier_holds dates_are_read lines_read,
)

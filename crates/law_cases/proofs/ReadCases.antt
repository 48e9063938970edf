-- The worked cases of dates, slots and samples, by computation.
use Rattle.std.proofs.Common.{refl}
use Rattle.csv.proofs.OnLiterals.{csv_on_literals}
use Rattle.csv.specs.Records.{field_at}
use Rattle.calendar.specs.Dates.{date_of, day_number, days_of_months, last_started}
use Rattle.calendar.specs.Texts.{date_in}
use Rattle.dossier_csv.specs.Columns.{added_number, flag, number, optional_date, optional_number, word}
use Rattle.dossier_csv.specs.Rows.{answer_row, ceiling_row, group_row, programme_row, rank_row, school_row, state_row}
use Rattle.dossier_csv.specs.Rows.{wish_row}
use Rattle.dossier_csv.specs.Shape.{rows_from, table_of}
use Rattle.law_cases.specs.Dates.{KnownDates, KnownNumbers, KnownTexts, LeapYears}
use Rattle.law_cases.specs.Samples.{ChoicesOfTheFourth, SampleOfFour}
use Rattle.law_cases.specs.Slots.{FieldCountFaults, FirstFaultOfShape, HeaderFaults, NumberFaults, OtherRows}
use Rattle.law_cases.specs.Slots.{ProgrammeRows, RangeFaults, StateRows, TooManyRowsFault, WordFaults}

-- ---- dates
pub leap_years : LeapYears
leap_years = refl

pub known_numbers : KnownNumbers
unfolding day_number days_of_months
known_numbers = (refl, refl, refl, refl, refl, refl, refl)

pub known_dates : KnownDates
unfolding date_of last_started days_of_months
known_dates = (refl, refl, refl, refl, refl)

pub known_texts : KnownTexts
unfolding date_in date_of day_number last_started days_of_months
known_texts = (refl, refl, refl, refl, refl, refl, refl, refl, refl)

-- ---- slots
pub programme_rows : ProgrammeRows
unfolding csv_on_literals field_at table_of rows_from programme_row number added_number
programme_rows = (refl, refl)

pub state_rows : StateRows
unfolding csv_on_literals field_at table_of rows_from state_row number word optional_date date_in date_of day_number
    days_of_months last_started
state_rows = refl

pub other_rows : OtherRows
unfolding csv_on_literals field_at table_of rows_from rank_row wish_row answer_row number optional_number flag word
other_rows = (refl, refl, refl)

pub header_faults : HeaderFaults
unfolding csv_on_literals table_of
header_faults = (refl, refl)

pub field_count_faults : FieldCountFaults
unfolding csv_on_literals field_at table_of rows_from programme_row school_row number added_number
field_count_faults = (refl, refl)

pub number_faults : NumberFaults
unfolding csv_on_literals field_at table_of rows_from group_row number
number_faults = (refl, refl, refl)

pub range_faults : RangeFaults
unfolding csv_on_literals field_at table_of rows_from group_row school_row ceiling_row number
range_faults = (refl, refl, refl, refl)

pub word_faults : WordFaults
unfolding csv_on_literals field_at table_of rows_from rank_row answer_row state_row number flag word optional_date
    date_in date_of day_number days_of_months last_started
word_faults = (refl, refl, refl)

pub first_fault_of_shape : FirstFaultOfShape
unfolding csv_on_literals field_at table_of rows_from rank_row number flag
first_fault_of_shape = refl

pub too_many_rows : TooManyRowsFault
unfolding field_at school_row number
too_many_rows = (refl, refl)

-- ---- samples
pub sample_of_four : SampleOfFour
sample_of_four = refl

pub choices_of_the_fourth : ChoicesOfTheFourth
choices_of_the_fourth = (refl, refl, refl)

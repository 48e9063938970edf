-- The worked mornings with dates, by computation.
use Rattle.std.proofs.Common.{ℕ, zero, suc, ◌<◌, ◌≡◌, [], ◌∷◌, Some, refl, subst, sym, arith}
use Rattle.std.specs.Prelude.{pos}
use Rattle.std.proofs.lemmas.Int.{ints}
use Rattle.admit_core.specs.declared.records.Terms.{Terms}
use Rattle.admit_core.specs.Days.{Days, first_evening}
use Rattle.admit_core.specs.declared.state.Status.TheVariants.{Offered, Refused, Waiting}
use Rattle.admit_core.specs.DossierRows.{DossierRows}
use Rattle.admit_core.specs.Standing.{dossier_of}
use Rattle.admit_core.specs.State.{State}
use Rattle.admit_core.specs.WorkedRows.{marked}
use Rattle.admit_core.proofs.Rows.{passes_with}
use Rattle.calendar.specs.Dates.{date_of, day_number, days_of_months, last_started}
use Rattle.cut_laws.specs.Cut.{cut_at}
use Rattle.cut_laws.specs.WorkedCampaign.{call_orders, cut_days, cut_night, first_night, one_day_more, small_night}
use Rattle.report.specs.FinalText.{HasDate, HasDates}
use Rattle.text_laws.specs.ReadBack.{HaveReadDates}
use Rattle.next_morning.specs.DatedLaws.{next_terms}
use Rattle.next_morning.specs.DatedWitnesses.{DatedOffersStandAlikeWitness, DatedRunsAreTheRestWitness}
use Rattle.next_morning.specs.DatedWitnesses.{DatedTablesAreAcceptedWitness, DatedTablesAreOfTheCutWitness}
use Rattle.next_morning.specs.DatedWitnesses.{DatesAreOfTheEveningWitness, WorkedDatedMornings, from_june}
use Rattle.next_morning.specs.Morning.{morning_tables}
use Rattle.next_morning.specs.WorkedMorning.{campaign_tables, small_tables}
use Rattle.next_morning.proofs.DatedFaultless.{dated_tables_are_accepted}
use Rattle.next_morning.proofs.DatedMornings.{dated_offers_stand_alike, dated_runs_are_the_rest}
use Rattle.next_morning.proofs.DatedRows.{dated_tables_are_of_the_cut, dates_are_of_the_evening}
use Rattle.next_morning.proofs.WorkedMorning.{accepted_witness, first_evening_is}

first_has_dates : HasDates first_night (pos 19876) (pos 0 ∷ pos 0 ∷ pos 0 ∷ pos 0 ∷ [])
first_has_dates = record {
  start_date = (grind (arith, ints), grind (arith, ints));
  one_before_each = refl;
  offers = written;
}
  where
    written : (place : ℕ) → place < 4
        → HasDate first_night (pos 19876) (pos 0 ∷ pos 0 ∷ pos 0 ∷ pos 0 ∷ []) place
    written zero lt offered = cc
    written (suc zero) lt offered = (grind (arith, ints), grind (arith, ints))
    written (suc (suc zero)) lt offered = (grind (arith, ints), grind (arith, ints))
    written (suc (suc (suc zero))) lt offered = cc
    written (suc (suc (suc (suc place)))) lt offered = absurd (omega (arith, lt))

first_read_dates : HaveReadDates first_night (pos 19876) (pos 0 ∷ pos 0 ∷ pos 0 ∷ pos 0 ∷ [])
first_read_dates zero lt offered = cc
first_read_dates (suc zero) lt offered = (grind (arith, ints), grind (arith, ints))
first_read_dates (suc (suc zero)) lt offered = (grind (arith, ints), grind (arith, ints))
first_read_dates (suc (suc (suc zero))) lt offered = cc
first_read_dates (suc (suc (suc (suc place)))) lt offered = absurd (omega (arith, lt))

next_terms_are : next_terms 1 campaign_tables first_night from_june ≡ one_day_more
unfolding date_of day_number days_of_months last_started
next_terms_are = refl

pub worked_dated_mornings : WorkedDatedMornings
unfolding date_of day_number days_of_months last_started
worked_dated_mornings = (first_has_dates, refl, refl, next_terms_are)

-- the days over these tables
middle_night : State
middle_night = record cut_night {
  marks = marked Waiting 0 0 ∷ marked Offered 0 0 ∷ marked Refused 1 0 ∷ marked Offered 1 1 ∷ [];
}

these_days : Days (Some one_day_more) call_orders 1 (first_evening (cut_at 1 first_night)) cut_days cut_night
unfolding middle_night
these_days = (
  middle_night,
  refl,
  record {
    lapsed = refl;
    fits = refl;
    passes = (
      record {
        pass = passes_with _ call_orders (0 ∷ []) _ (record { are_falls = tt; settled = refl }) refl refl;
        autos = refl;
        freed = refl;
      },
      refl,
      refl,
    );
    left = refl;
    free = refl;
  },
  (
    cut_night,
    refl,
    record {
      lapsed = refl;
      fits = refl;
      passes = (
        record {
          pass = passes_with _ call_orders (9 ∷ []) _ (record { are_falls = tt; settled = refl }) refl refl;
          autos = refl;
          freed = refl;
        },
        refl,
        refl,
      );
      left = refl;
      free = refl;
    },
    refl,
  ),
)

dated_days : Days (Some (next_terms 1 campaign_tables first_night from_june)) call_orders 1
    (first_evening (dossier_of (morning_tables 1 campaign_tables first_night (Some from_june)))) cut_days cut_night
dated_days =
    subst (λ (x : Terms × DossierRows). Days (Some x.0) call_orders 1 (first_evening x.1) cut_days cut_night)
    (λ i. (
      sym next_terms_are i,
      sym (dated_tables_are_of_the_cut 1 campaign_tables first_night (Some from_june) first_evening_is) i,
    ))
    these_days

pub dated_cut_witness : DatedTablesAreOfTheCutWitness
dated_cut_witness = (
  first_evening_is,
  dated_tables_are_of_the_cut 1 campaign_tables first_night (Some from_june) first_evening_is,
)

pub dated_accepted_witness : DatedTablesAreAcceptedWitness
dated_accepted_witness =
    let (of, ranges, none, one, kept, faultless) = accepted_witness in
    let next = dated_tables_are_accepted 1 small_tables small_night
    (Some (record { start = pos 19876; terms = record { term = 1; before = pos 0 ∷ [] } })) of ranges none one in
    (of, ranges, none, one, next.0, next.1)

pub dates_witness : DatesAreOfTheEveningWitness
dates_witness =
    (first_evening_is, dates_are_of_the_evening 1 campaign_tables first_night from_june first_evening_is)

pub dated_offers_witness : DatedOffersStandAlikeWitness
dated_offers_witness = (
  first_evening_is,
  refl,
  first_read_dates,
  dated_offers_stand_alike 1 campaign_tables first_night from_june first_evening_is refl first_read_dates,
)

pub dated_rest_witness : DatedRunsAreTheRestWitness
dated_rest_witness = (
  first_evening_is,
  refl,
  first_read_dates,
  dated_days,
  dated_runs_are_the_rest 1 campaign_tables first_night from_june call_orders cut_days cut_night first_evening_is refl
      first_read_dates dated_days,
)

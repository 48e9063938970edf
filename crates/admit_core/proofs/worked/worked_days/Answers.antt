use Rattle.admit_core.proofs.DayRows.{vacant_seat_holds, bed_is_held_holds, ceilings_change_holds, edges_of_bars_hold}
use Rattle.admit_core.proofs.DayRows.{freed_seat_holds, freed_bed_holds, limit_under_bar_holds, answers_fit_holds}
use Rattle.admit_core.proofs.DayRows.{accepts_one_holds, accepted_stays_holds, better_offer_holds, live_twice_holds}
use Rattle.admit_core.proofs.DayRows.{holders_stand_aside_holds, quits_hold, deadline_holds, first_day_explained_holds}
use Rattle.admit_core.proofs.DayRows.{second_day_explained_holds, bars_explained_holds}
use Rattle.admit_core.proofs.worked.worked_days.Goals as goal

pub returns : goal.returns
returns c =
    record {
      vacant_seat = vacant_seat_holds;
      bed_is_held = bed_is_held_holds;
      ceilings_change = ceilings_change_holds;
      edges_of_bars = edges_of_bars_hold;
      freed_seat = freed_seat_holds;
      freed_bed = freed_bed_holds;
      limit_under_bar = limit_under_bar_holds;
      answers_fit = answers_fit_holds;
      accepts_one = accepts_one_holds;
      accepted_stays = accepted_stays_holds;
      better_offer = better_offer_holds;
      live_twice = live_twice_holds;
      holders_stand_aside = holders_stand_aside_holds;
      quits = quits_hold;
      deadline = deadline_holds;
      first_day_explained = first_day_explained_holds;
      second_day_explained = second_day_explained_holds;
      bars_explained = bars_explained_holds;
    }

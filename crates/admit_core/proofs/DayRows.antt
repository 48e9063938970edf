-- The worked days hold.
use Rattle.std.proofs.Common.{◌≡◌, ℕ, refl, List, [], ◌∷◌}
use Rattle.admit_core.specs.declared.ranking.CallOrder.{CallOrder}
use Rattle.admit_core.specs.declared.records.PassEnd.{PassEnd}
use Rattle.admit_core.specs.declared.state.Stamp.{Stamp}
use Rattle.admit_core.specs.declared.state.Mark.{Mark}
use Rattle.admit_core.specs.DossierRows.{DossierRows}
use Rattle.admit_core.specs.State.{State}
use Rattle.admit_core.specs.Falls.{IsRunOfFalls, bars_after}
use Rattle.admit_core.specs.Proposals.{proposed}
use Rattle.admit_core.specs.Boarding.{boarding}
use Rattle.admit_core.specs.Days.{IsPassEnd, changes, offered, closing, freed_after}
use Rattle.admit_core.proofs.Rows.{passes_with}
use Rattle.admit_core.specs.WorkedRows.{two_orders}
use Rattle.admit_core.specs.WorkedDays.{VacantSeat, BedIsHeld, CeilingsChange, EdgesOfBars, FreedSeat, FreedBed}
use Rattle.admit_core.specs.WorkedDays.{LimitUnderBar, AnswersFit, AcceptsOne, AcceptedStays, BetterOffer, LiveTwice}
use Rattle.admit_core.specs.WorkedDays.{HoldersStandAside, Quits, Deadline, FirstDayExplained, SecondDayExplained}
use Rattle.admit_core.specs.WorkedDays.{BarsExplained, two_candidates, edges, edge_orders, edge_marks, in_order}
use Rattle.admit_core.specs.WorkedDays.{evening_one, quits}

-- a pass with its automatic answers, by its run of falls
pass_end : (s : State) (orders : List CallOrder) (ceilings : List ℕ) (stamp : Stamp) (end : PassEnd)
    → IsRunOfFalls (boarding s orders ceilings) end.pass.falls
    → end.pass.bars ≡ bars_after ceilings end.pass.falls → end.pass.offers ≡ proposed s orders end.pass.bars
    → end.autos ≡ changes (offered s orders end.pass.bars stamp) (closing s orders end.pass.bars stamp)
    → end.freed ≡ freed_after s orders end.pass.bars stamp → IsPassEnd s orders ceilings stamp end
pass_end s orders ceilings stamp end run bars offers autos freed =
    record { pass = passes_with s orders ceilings end.pass run bars offers; autos = autos; freed = freed }

after_day : DossierRows → List Mark → State
after_day d marks = record { dossier = d; marks = marks }

pub vacant_seat_holds : VacantSeat
vacant_seat_holds = (
  _,
  refl,
  record {
    lapsed = refl;
    fits = refl;
    passes = (
      pass_end _ two_candidates [] _ _
          (record { are_falls = tt; settled = refl }) refl refl refl refl,
      refl,
      refl,
    );
    left = refl;
    free = refl;
  },
  refl,
)

pub bed_is_held_holds : BedIsHeld
bed_is_held_holds = (
  _,
  refl,
  record {
    lapsed = refl;
    fits = refl;
    passes = (
      pass_end _ two_candidates (9 ∷ []) _ _
          (record { are_falls = (refl, refl, tt); settled = refl }) refl refl refl refl,
      refl,
      refl,
    );
    left = refl;
    free = refl;
  },
  refl,
)

pub ceilings_change_holds : CeilingsChange
ceilings_change_holds = refl

pub edges_of_bars_hold : EdgesOfBars
edges_of_bars_hold = (
  refl,
  refl,
  refl,
  (
    record { dossier = edges; marks = edge_marks },
    refl,
    record {
      lapsed = refl;
      fits = refl;
      passes = (
        pass_end _ edge_orders (4 ∷ 0 ∷ 2000000000 ∷ []) _ _
            (record { are_falls = (refl, refl, tt); settled = refl }) refl refl refl refl,
        refl,
        refl,
      );
      left = refl;
      free = refl;
    },
    (
      _,
      refl,
      record {
        lapsed = refl;
        fits = refl;
        passes = (
          pass_end _ edge_orders (4 ∷ 1 ∷ 2000000000 ∷ []) _ _
              (record { are_falls = (refl, refl, tt); settled = refl }) refl refl refl refl,
          refl,
          refl,
        );
        left = refl;
        free = refl;
      },
      refl,
    ),
  ),
)

pub freed_seat_holds : FreedSeat
freed_seat_holds = (
  _,
  refl,
  record {
    lapsed = refl;
    fits = refl;
    passes = (
      pass_end _ two_orders [] _ _ (record { are_falls = tt; settled = refl }) refl refl refl refl,
      refl,
      (pass_end _ two_orders [] _ _ (record { are_falls = tt; settled = refl }) refl refl refl refl, refl, refl),
    );
    left = refl;
    free = refl;
  },
  refl,
)

pub freed_bed_holds : FreedBed
freed_bed_holds =
    let orders : List CallOrder = in_order (91 ∷ 92 ∷ []) ∷ [] in (
      _,
      refl,
      record {
        lapsed = refl;
        fits = refl;
        passes = (
          pass_end _ orders (5 ∷ []) _ _ (record { are_falls = (refl, refl, tt); settled = refl }) refl refl refl refl,
          refl,
          (pass_end _ orders (5 ∷ []) _ _ (record { are_falls = tt; settled = refl }) refl refl refl refl, refl, refl),
        );
        left = refl;
        free = refl;
      },
      refl,
    )

pub limit_under_bar_holds : LimitUnderBar
limit_under_bar_holds = (
  _,
  refl,
  record {
    lapsed = refl;
    fits = refl;
    passes = (
      pass_end _ two_candidates (9 ∷ []) _ _
          (record { are_falls = (refl, refl, tt); settled = refl }) refl refl refl refl,
      refl,
      refl,
    );
    left = refl;
    free = refl;
  },
  refl,
)

pub answers_fit_holds : AnswersFit
answers_fit_holds = (refl, refl, refl, refl, refl, refl)

pub accepts_one_holds : AcceptsOne
accepts_one_holds = refl

pub accepted_stays_holds : AcceptedStays
accepted_stays_holds = refl

pub better_offer_holds : BetterOffer
better_offer_holds = (refl, refl)

pub live_twice_holds : LiveTwice
live_twice_holds = (refl, refl, refl)

pub holders_stand_aside_holds : HoldersStandAside
holders_stand_aside_holds = (refl, refl)

pub quits_hold : Quits
quits_hold = (
  evening_one (quits 11 ∷ []),
  refl,
  record {
    lapsed = refl;
    fits = refl;
    passes = (
      pass_end _ two_candidates [] _ _
          (record { are_falls = tt; settled = refl }) refl refl refl refl,
      refl,
      refl,
    );
    left = refl;
    free = refl;
  },
  (
    _,
    refl,
    record {
      lapsed = refl;
      fits = refl;
      passes = (
        pass_end _ two_candidates [] _ _
            (record { are_falls = tt; settled = refl }) refl refl refl refl,
        refl,
        refl,
      );
      left = refl;
      free = refl;
    },
    refl,
  ),
)

pub deadline_holds : Deadline
deadline_holds = (
  (
    evening_one [],
    refl,
    record {
      lapsed = refl;
      fits = refl;
      passes = (
        pass_end _ two_candidates [] _ _
            (record { are_falls = tt; settled = refl }) refl refl refl refl,
        refl,
        refl,
      );
      left = refl;
      free = refl;
    },
    (
      evening_one [],
      refl,
      record {
        lapsed = refl;
        fits = refl;
        passes = (
          pass_end _ two_candidates [] _ _
              (record { are_falls = tt; settled = refl }) refl refl refl refl,
          refl,
          refl,
        );
        left = refl;
        free = refl;
      },
      (
        _,
        refl,
        record {
          lapsed = refl;
          fits = refl;
          passes = (
            pass_end _ two_candidates [] _ _
                (record { are_falls = tt; settled = refl }) refl refl refl refl,
            refl,
            refl,
          );
          left = refl;
          free = refl;
        },
        refl,
      ),
    ),
  ),
  refl,
  refl,
)

pub first_day_explained_holds : FirstDayExplained
first_day_explained_holds = refl

pub second_day_explained_holds : SecondDayExplained
second_day_explained_holds = refl

pub bars_explained_holds : BarsExplained
bars_explained_holds = (refl, refl)

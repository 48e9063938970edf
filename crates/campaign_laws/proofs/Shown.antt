-- What is not promised of whole days is shown by computation.
use Rattle.std.proofs.Common.{refl}
use Rattle.admit_core.specs.Faults.{first_after}
use Rattle.admit_core.proofs.ByPlaces.{by_places}
use Rattle.campaign_laws.specs.NotPromised.{BedMoreCanPlaceFewer, SeatMoreCanPlaceFewer, BedMoreCanLowerBar}
use Rattle.campaign_laws.specs.NotPromised.{BetterRankCanHarm, LeavingOutCanPay, SeatMoreCanEmpty}
use Rattle.campaign_laws.proofs.WorkedCampaign.{day_by, end_by}

pub seat_more_can_empty : SeatMoreCanEmpty
unfolding first_after
seat_more_can_empty = (
  record {
    faultless = refl;
    called =
        (record { as_long = refl; each_next = by_places 3 _ (refl, (refl, (refl, tt))) (λ k. refl) }, tt);
    are_days = (
      _,
      refl,
      day_by _ _ _ _ _ _ (
        end_by _ _ _ _ _ _ (record { are_falls = tt; settled = refl }) refl refl refl refl,
        refl,
        refl,
      ) refl refl refl refl,
      refl,
    );
  },
  record {
    faultless = refl;
    called =
        (record { as_long = refl; each_next = by_places 3 _ (refl, (refl, (refl, tt))) (λ k. refl) }, tt);
    are_days = (
      _,
      refl,
      day_by _ _ _ _ _ _ (
        end_by _ _ _ _ _ _ (record { are_falls = (refl, refl, (refl, refl, tt)); settled = refl }) refl refl refl
            refl,
        refl,
        refl,
      ) refl refl refl refl,
      refl,
    );
  },
)

pub leaving_out_can_pay : LeavingOutCanPay
unfolding first_after
leaving_out_can_pay = (
  record {
    faultless = refl;
    called = (
      record { as_long = refl; each_next = by_places 2 _ (refl, (refl, tt)) (λ k. refl) },
      (record { as_long = refl; each_next = by_places 2 _ (refl, (refl, tt)) (λ k. refl) }, tt),
    );
    are_days = (
      _,
      refl,
      day_by _ _ _ _ _ _ (
        end_by _ _ _ _ _ _ (record { are_falls = tt; settled = refl }) refl refl refl refl,
        refl,
        refl,
      ) refl refl refl refl,
      refl,
    );
  },
  record {
    faultless = refl;
    called = (
      record { as_long = refl; each_next = by_places 2 _ (refl, (refl, tt)) (λ k. refl) },
      (record { as_long = refl; each_next = by_places 2 _ (refl, (refl, tt)) (λ k. refl) }, tt),
    );
    are_days = (
      _,
      refl,
      day_by _ _ _ _ _ _ (
        end_by _ _ _ _ _ _ (record { are_falls = tt; settled = refl }) refl refl refl refl,
        refl,
        (end_by _ _ _ _ _ _ (record { are_falls = tt; settled = refl }) refl refl refl refl, refl, refl),
      ) refl refl refl refl,
      refl,
    );
  },
)

pub better_rank_can_harm : BetterRankCanHarm
unfolding first_after
better_rank_can_harm = (
  record {
    faultless = refl;
    called = (
      record { as_long = refl; each_next = by_places 2 _ (refl, (refl, tt)) (λ k. refl) },
      (record { as_long = refl; each_next = by_places 2 _ (refl, (refl, tt)) (λ k. refl) }, tt),
    );
    are_days = (
      _,
      refl,
      day_by _ _ _ _ _ _ (
        end_by _ _ _ _ _ _ (record { are_falls = tt; settled = refl }) refl refl refl refl,
        refl,
        (end_by _ _ _ _ _ _ (record { are_falls = tt; settled = refl }) refl refl refl refl, refl, refl),
      ) refl refl refl refl,
      refl,
    );
  },
  record {
    faultless = refl;
    called = (
      record { as_long = refl; each_next = by_places 2 _ (refl, (refl, tt)) (λ k. refl) },
      (record { as_long = refl; each_next = by_places 2 _ (refl, (refl, tt)) (λ k. refl) }, tt),
    );
    are_days = (
      _,
      refl,
      day_by _ _ _ _ _ _ (
        end_by _ _ _ _ _ _ (record { are_falls = tt; settled = refl }) refl refl refl refl,
        refl,
        refl,
      ) refl refl refl refl,
      refl,
    );
  },
)

pub bed_more_can_lower_bar : BedMoreCanLowerBar
unfolding first_after
bed_more_can_lower_bar = (
  record {
    faultless = refl;
    called =
        (record { as_long = refl; each_next = by_places 2 _ (refl, (refl, tt)) (λ k. refl) }, tt);
    are_days = (
      _,
      refl,
      day_by _ _ _ _ _ _ (
        end_by _ _ _ _ _ _ (record { are_falls = (refl, refl, tt); settled = refl }) refl refl refl refl,
        refl,
        refl,
      ) refl refl refl refl,
      refl,
    );
  },
  record {
    faultless = refl;
    called =
        (record { as_long = refl; each_next = by_places 2 _ (refl, (refl, tt)) (λ k. refl) }, tt);
    are_days = (
      _,
      refl,
      day_by _ _ _ _ _ _ (
        end_by _ _ _ _ _ _ (record { are_falls = tt; settled = refl }) refl refl refl refl,
        refl,
        (
          end_by _ _ _ _ _ _ (record { are_falls = (refl, refl, tt); settled = refl }) refl refl refl refl,
          refl,
          refl,
        ),
      ) refl refl refl refl,
      refl,
    );
  },
)

pub seat_more_can_place_fewer : SeatMoreCanPlaceFewer
unfolding first_after
seat_more_can_place_fewer = (
  record {
    faultless = refl;
    called =
        (record { as_long = refl; each_next = by_places 2 _ (refl, (refl, tt)) (λ k. refl) }, tt);
    are_days = (
      _,
      refl,
      day_by _ _ _ _ _ _ (
        end_by _ _ _ _ _ _ (record { are_falls = tt; settled = refl }) refl refl refl refl,
        refl,
        refl,
      ) refl refl refl refl,
      refl,
    );
  },
  record {
    faultless = refl;
    called =
        (record { as_long = refl; each_next = by_places 2 _ (refl, (refl, tt)) (λ k. refl) }, tt);
    are_days = (
      _,
      refl,
      day_by _ _ _ _ _ _ (
        end_by _ _ _ _ _ _ (record { are_falls = (refl, refl, tt); settled = refl }) refl refl refl refl,
        refl,
        refl,
      ) refl refl refl refl,
      refl,
    );
  },
)

pub bed_more_can_place_fewer : BedMoreCanPlaceFewer
unfolding first_after
bed_more_can_place_fewer = (
  record {
    faultless = refl;
    called =
        (record { as_long = refl; each_next = by_places 2 _ (refl, (refl, tt)) (λ k. refl) }, tt);
    are_days = (
      _,
      refl,
      day_by _ _ _ _ _ _ (
        end_by _ _ _ _ _ _ (record { are_falls = (refl, refl, tt); settled = refl }) refl refl refl refl,
        refl,
        refl,
      ) refl refl refl refl,
      refl,
    );
  },
  record {
    faultless = refl;
    called =
        (record { as_long = refl; each_next = by_places 2 _ (refl, (refl, tt)) (λ k. refl) }, tt);
    are_days = (
      _,
      refl,
      day_by _ _ _ _ _ _ (
        end_by _ _ _ _ _ _ (record { are_falls = tt; settled = refl }) refl refl refl refl,
        refl,
        refl,
      ) refl refl refl refl,
      refl,
    );
  },
)

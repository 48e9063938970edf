-- What is not promised of answers is shown by computation.
use Rattle.std.proofs.Common.{[], ◌∷◌, None, refl}
use Rattle.std.proofs.lemmas.List.Elements.{All-from_recursion}
use Rattle.admit_core.specs.declared.dossier.AnswerKind.TheVariants.{Accept, Quit, Withdraw}
use Rattle.admit_core.specs.declared.state.Status.TheVariants.{Accepted, Offered, Quit as HasQuit, Waiting, Withdrawn}
use Rattle.admit_core.specs.Days.{first_evening}
use Rattle.admit_core.specs.Faults.{first_after}
use Rattle.admit_core.specs.Standing.{dossier_of}
use Rattle.admit_core.specs.WorkedRows.{marked}
use Rattle.admit_core.proofs.ByPlaces.{by_places}
use Rattle.campaign_laws.specs.Beds.{IsBarredIn}
use Rattle.campaign_laws.specs.Moments.{openings}
use Rattle.campaign_laws.specs.NotPromised.{AcceptingCanCost, AcceptingEarlierCanCost, AnswersCannotBeSplit}
use Rattle.campaign_laws.specs.NotPromised.{QuittingCanCost, WithdrawingCanCost, WithdrawingCanPay}
use Rattle.campaign_laws.specs.NotPromised.{days_if_kept, if_accepted_on, if_given_up, if_split, kept_wish}
use Rattle.campaign_laws.specs.NotPromised.{marks_if_kept, three_by_rank}
use Rattle.campaign_laws.proofs.WorkedCampaign.{day_by, end_by}

pub quitting_can_cost : QuittingCanCost
unfolding first_after
quitting_can_cost = (
  record {
    faultless = refl;
    called =
        (record { as_long = refl; each_next = by_places 3 _ (refl, (refl, (refl, tt))) (λ k. refl) }, tt);
    are_days = (
      _,
      refl,
      day_by _ _ _ _ _ _ (
        end_by _ _ _ _ _ _ (record { are_falls = tt; settled = refl }) refl refl refl refl,
        refl,
        refl,
      ) refl refl refl refl,
      refl,
    );
  },
  record {
    faultless = refl;
    called =
        (record { as_long = refl; each_next = by_places 3 _ (refl, (refl, (refl, tt))) (λ k. refl) }, tt);
    are_days = (
      _,
      refl,
      day_by _ _ _ _ _ _ (
        end_by _ _ _ _ _ _ (record { are_falls = (refl, refl, tt); settled = refl }) refl refl refl refl,
        refl,
        refl,
      ) refl refl refl refl,
      refl,
    );
  },
)

pub accepting_can_cost : AcceptingCanCost
unfolding first_after
accepting_can_cost = (
  record {
    faultless = refl;
    called =
        (record { as_long = refl; each_next = by_places 1 _ (refl, tt) (λ k. refl) }, tt);
    are_days = (
      _,
      refl,
      day_by _ _ _ _ _ _ (
        end_by _ _ _ _ _ _ (record { are_falls = tt; settled = refl }) refl refl refl refl,
        refl,
        refl,
      ) refl refl refl refl,
      refl,
    );
  },
  record {
    faultless = refl;
    called =
        (record { as_long = refl; each_next = by_places 1 _ (refl, tt) (λ k. refl) }, tt);
    are_days = (
      _,
      refl,
      day_by _ _ _ _ _ _ (
        end_by _ _ _ _ _ _ (record { are_falls = tt; settled = refl }) refl refl refl refl,
        refl,
        refl,
      ) refl refl refl refl,
      refl,
    );
  },
)

pub withdrawing_can_cost : WithdrawingCanCost
unfolding first_after
withdrawing_can_cost = (
  record {
    faultless = refl;
    called =
        (record { as_long = refl; each_next = by_places 2 _ (refl, (refl, tt)) (λ k. refl) }, tt);
    are_days = (
      _,
      refl,
      day_by _ _ _ _ _ _ (
        end_by _ _ _ _ _ _ (record { are_falls = (refl, refl, tt); settled = refl }) refl refl refl refl,
        refl,
        refl,
      ) refl refl refl refl,
      refl,
    );
  },
  record {
    faultless = refl;
    called =
        (record { as_long = refl; each_next = by_places 2 _ (refl, (refl, tt)) (λ k. refl) }, tt);
    are_days = (
      _,
      refl,
      day_by _ _ _ _ _ _ (
        end_by _ _ _ _ _ _ (record { are_falls = tt; settled = refl }) refl refl refl refl,
        refl,
        refl,
      ) refl refl refl refl,
      refl,
    );
  },
)

pub withdrawing_can_pay : WithdrawingCanPay
unfolding first_after
withdrawing_can_pay = (
  record {
    faultless = refl;
    called =
        (record { as_long = refl; each_next = by_places 3 _ (refl, (refl, (refl, tt))) (λ k. refl) }, tt);
    are_days = (
      record { dossier = dossier_of (if_given_up []); marks = marks_if_kept },
      refl,
      day_by _ _ _ _ _ _ (
        end_by _ _ _ _ _ _ (record { are_falls = (refl, refl, (refl, refl, (refl, refl, tt))); settled = refl }) refl
            refl refl refl,
        refl,
        refl,
      ) refl refl refl refl,
      (
        _,
        refl,
        day_by _ _ _ _ _ _ (
          end_by _ _ _ _ _ _ (record { are_falls = (refl, refl, (refl, refl, tt)); settled = refl }) refl refl refl
              refl,
          refl,
          refl,
        ) refl refl refl refl,
        refl,
      ),
    );
  },
  record {
    waits = record { mark = marked Waiting 0 0; there = refl; waits = refl };
    barred = All-from_recursion (IsBarredIn kept_wish)
        (openings None three_by_rank (first_evening (dossier_of (if_given_up []))) days_if_kept) (refl, (refl, tt));
  },
  record {
    faultless = refl;
    called =
        (record { as_long = refl; each_next = by_places 3 _ (refl, (refl, (refl, tt))) (λ k. refl) }, tt);
    are_days = (
      record {
        dossier = dossier_of (if_given_up (record { day = 1; kind = Withdraw; target = 1 } ∷ []));
        marks =
            marked Withdrawn 1 0 ∷ marked Offered 1 1 ∷ marked Offered 1 1 ∷ marked Waiting 0 0
            ∷ marked Waiting 0 0 ∷ [];
      },
      refl,
      day_by _ _ _ _ _ _ (
        end_by _ _ _ _ _ _ (record { are_falls = tt; settled = refl }) refl refl refl refl,
        refl,
        refl,
      ) refl refl refl refl,
      (
        _,
        refl,
        day_by _ _ _ _ _ _ (
          end_by _ _ _ _ _ _ (record { are_falls = tt; settled = refl }) refl refl refl refl,
          refl,
          refl,
        ) refl refl refl refl,
        refl,
      ),
    );
  },
)

pub accepting_earlier_can_cost : AcceptingEarlierCanCost
unfolding first_after
accepting_earlier_can_cost = (
  record {
    faultless = refl;
    called =
        (record { as_long = refl; each_next = by_places 2 _ (refl, (refl, tt)) (λ k. refl) }, tt);
    are_days = (
      record {
        dossier = dossier_of (if_accepted_on (record { day = 1; kind = Accept; target = 2 } ∷ []));
        marks =
            marked Offered 1 1 ∷ marked Accepted 1 0 ∷ marked Waiting 0 0 ∷ [];
      },
      refl,
      day_by _ _ _ _ _ _ (
        end_by _ _ _ _ _ _ (record { are_falls = tt; settled = refl }) refl refl refl refl,
        refl,
        refl,
      ) refl refl refl refl,
      (
        _,
        refl,
        day_by _ _ _ _ _ _ (
          end_by _ _ _ _ _ _ (record { are_falls = tt; settled = refl }) refl refl refl refl,
          refl,
          refl,
        ) refl refl refl refl,
        refl,
      ),
    );
  },
  record {
    faultless = refl;
    called =
        (record { as_long = refl; each_next = by_places 2 _ (refl, (refl, tt)) (λ k. refl) }, tt);
    are_days = (
      record {
        dossier = dossier_of (if_accepted_on (record { day = 2; kind = Accept; target = 2 } ∷ []));
        marks =
            marked Offered 1 1 ∷ marked Offered 0 0 ∷ marked Waiting 0 0 ∷ [];
      },
      refl,
      day_by _ _ _ _ _ _ (
        end_by _ _ _ _ _ _ (record { are_falls = tt; settled = refl }) refl refl refl refl,
        refl,
        refl,
      ) refl refl refl refl,
      (
        _,
        refl,
        day_by _ _ _ _ _ _ (
          end_by _ _ _ _ _ _ (record { are_falls = tt; settled = refl }) refl refl refl refl,
          refl,
          refl,
        ) refl refl refl refl,
        refl,
      ),
    );
  },
)

pub answers_cannot_be_split : AnswersCannotBeSplit
unfolding first_after
answers_cannot_be_split = (
  record {
    faultless = refl;
    called =
        (record { as_long = refl; each_next = by_places 2 _ (refl, (refl, tt)) (λ k. refl) }, tt);
    are_days = (
      record {
        dossier =
            dossier_of (if_split
            (record { day = 2; kind = Quit; target = 101 } ∷ record { day = 2; kind = Accept; target = 2 } ∷ []));
        marks =
            marked Waiting 0 0 ∷ marked Offered 1 1 ∷ marked Offered 1 1 ∷ [];
      },
      refl,
      day_by _ _ _ _ _ _ (
        end_by _ _ _ _ _ _ (record { are_falls = tt; settled = refl }) refl refl refl refl,
        refl,
        refl,
      ) refl refl refl refl,
      (
        record {
          dossier =
              dossier_of (if_split
              (record { day = 2; kind = Quit; target = 101 } ∷ record { day = 2; kind = Accept; target = 2 } ∷ []));
          marks =
              marked Offered 2 1 ∷ marked Accepted 2 0 ∷ marked HasQuit 2 0 ∷ [];
        },
        refl,
        day_by _ _ _ _ _ _ (
          end_by _ _ _ _ _ _ (record { are_falls = tt; settled = refl }) refl refl refl refl,
          refl,
          refl,
        ) refl refl refl refl,
        (
          _,
          refl,
          day_by _ _ _ _ _ _ (
            end_by _ _ _ _ _ _ (record { are_falls = tt; settled = refl }) refl refl refl refl,
            refl,
            refl,
          ) refl refl refl refl,
          refl,
        ),
      ),
    );
  },
  record {
    faultless = refl;
    called =
        (record { as_long = refl; each_next = by_places 2 _ (refl, (refl, tt)) (λ k. refl) }, tt);
    are_days = (
      record {
        dossier =
            dossier_of (if_split
            (record { day = 2; kind = Quit; target = 101 } ∷ record { day = 3; kind = Accept; target = 2 } ∷ []));
        marks =
            marked Waiting 0 0 ∷ marked Offered 1 1 ∷ marked Offered 1 1 ∷ [];
      },
      refl,
      day_by _ _ _ _ _ _ (
        end_by _ _ _ _ _ _ (record { are_falls = tt; settled = refl }) refl refl refl refl,
        refl,
        refl,
      ) refl refl refl refl,
      (
        record {
          dossier =
              dossier_of (if_split
              (record { day = 2; kind = Quit; target = 101 } ∷ record { day = 3; kind = Accept; target = 2 } ∷ []));
          marks =
              marked Offered 2 1 ∷ marked Offered 1 1 ∷ marked HasQuit 2 0 ∷ [];
        },
        refl,
        day_by _ _ _ _ _ _ (
          end_by _ _ _ _ _ _ (record { are_falls = tt; settled = refl }) refl refl refl refl,
          refl,
          refl,
        ) refl refl refl refl,
        (
          _,
          refl,
          day_by _ _ _ _ _ _ (
            end_by _ _ _ _ _ _ (record { are_falls = tt; settled = refl }) refl refl refl refl,
            refl,
            refl,
          ) refl refl refl refl,
          refl,
        ),
      ),
    );
  },
)

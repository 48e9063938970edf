-- The worked campaign, by computation.
use Rattle.std.proofs.Common.{◌≡◌, ◌-◌, false, nat_eq, nat_le, true, arith, [], ◌∷◌, None, Some, refl}
use Rattle.std.proofs.lemmas.Bool.Decides.{nat_tests}
use Rattle.admit_core.specs.Days.{Days, IsDay, ceilings_of, first_evening}
use Rattle.admit_core.specs.declared.state.Status.TheVariants.{Offered, Refused, Waiting}
use Rattle.admit_core.specs.State.{State}
use Rattle.admit_core.specs.WorkedRows.{marked}
use Rattle.admit_core.proofs.Rows.{passes_with}
use Rattle.admit_core.proofs.SmallDossier.{small_dossier_holds}
use Rattle.cut_laws.specs.Cut.{IsGivenAlike, cut_at, terms_at}
use Rattle.cut_laws.specs.Witnesses.{AlikeStatesGoOnAlikeWitness, CampaignsMayBeCutWitness, CutDaysAreTheRestWitness}
use Rattle.cut_laws.specs.Witnesses.{CutsAreValidWitness, OpenOffersDecideWitness, StampsDecideNothingWitness}
use Rattle.cut_laws.specs.WorkedCampaign.{NextMorning, call_orders, campaign, cut_days, cut_night, first_night}
use Rattle.cut_laws.specs.WorkedCampaign.{one_day_more, other_morning, other_night, second_day, second_night}
use Rattle.cut_laws.specs.WorkedCampaign.{small_night, third_day, third_night}
use Rattle.cut_laws.proofs.Cut.{alike_states_go_on, campaigns_may_be_cut, open_offers_decide}
use Rattle.cut_laws.proofs.Rest.{cut_days_are_the_rest}
use Rattle.cut_laws.proofs.ValidCut.{cuts_are_valid}
use Rattle.cut_laws.proofs.Days.{stamps_decide_nothing}

second_holds : IsDay None call_orders (0 ∷ []) first_night second_day second_night
second_holds = record {
  lapsed = refl;
  fits = refl;
  passes = (
    record {
      pass = passes_with _ call_orders (0 ∷ []) _ (record { are_falls = tt; settled = refl }) refl refl;
      autos = refl;
      freed = refl;
    },
    refl,
    refl,
  );
  left = refl;
  free = refl;
}

pub stamps_witness : StampsDecideNothingWitness
stamps_witness = (
  refl,
  refl,
  second_holds,
  stamps_decide_nothing call_orders (0 ∷ []) first_night other_night second_day 7 second_night refl refl second_holds,
)

next_holds : IsDay (Some one_day_more) call_orders (ceilings_of campaign 2) first_night second_day second_night
next_holds = record {
  lapsed = refl;
  fits = refl;
  passes = (
    record {
      pass = passes_with _ call_orders (0 ∷ []) _ (record { are_falls = tt; settled = refl }) refl refl;
      autos = refl;
      freed = refl;
    },
    refl,
    refl,
  );
  left = refl;
  free = refl;
}

third_holds : IsDay (Some one_day_more) call_orders (ceilings_of campaign 3) second_night third_day third_night
third_holds = record {
  lapsed = refl;
  fits = refl;
  passes = (
    record {
      pass = passes_with _ call_orders (9 ∷ []) _ (record { are_falls = tt; settled = refl }) refl refl;
      autos = refl;
      freed = refl;
    },
    refl,
    refl,
  );
  left = refl;
  free = refl;
}

rest_holds : Days (Some one_day_more) call_orders 2 first_night (second_day ∷ third_day ∷ []) third_night
rest_holds = (second_night, refl, next_holds, (third_night, refl, third_holds, refl))

pub offers_witness : OpenOffersDecideWitness
offers_witness =
    let t = first_evening (cut_at 2 second_night) in (
      refl,
      (refl, refl),
      refl,
      refl,
      refl,
      omega arith,
      refl,
      third_holds,
      open_offers_decide 2 (Some one_day_more) (terms_at 2 (Some one_day_more) second_night) call_orders (9 ∷ [])
          second_night t third_day third_night refl (refl, refl) refl refl refl (omega arith) refl third_holds,
    )

pub cut_witness : CampaignsMayBeCutWitness
cut_witness = (
  refl,
  refl,
  rest_holds,
  campaigns_may_be_cut (Some one_day_more) call_orders 1 first_night (second_day ∷ third_day ∷ []) third_night refl refl
      rest_holds,
)

-- the days of the cut campaign, by computation
middle_night : State
middle_night = record cut_night {
  marks = marked Waiting 0 0 ∷ marked Offered 0 0 ∷ marked Refused 1 0 ∷ marked Offered 1 1 ∷ [];
}

cut_holds : Days (terms_at 1 (Some one_day_more) first_night) call_orders 1 (first_evening (cut_at 1 first_night))
    cut_days cut_night
unfolding middle_night
cut_holds = (
  middle_night,
  refl,
  record {
    lapsed = refl;
    fits = refl;
    passes = (
      record {
        pass = passes_with _ call_orders (0 ∷ []) _ (record { are_falls = tt; settled = refl }) refl refl;
        autos = refl;
        freed = refl;
      },
      refl,
      refl,
    );
    left = refl;
    free = refl;
  },
  (
    cut_night,
    refl,
    record {
      lapsed = refl;
      fits = refl;
      passes = (
        record {
          pass = passes_with _ call_orders (9 ∷ []) _ (record { are_falls = tt; settled = refl }) refl refl;
          autos = refl;
          freed = refl;
        },
        refl,
        refl,
      );
      left = refl;
      free = refl;
    },
    refl,
  ),
)

pub rest_witness : CutDaysAreTheRestWitness
rest_witness = (
  refl,
  refl,
  cut_holds,
  cut_days_are_the_rest (Some one_day_more) call_orders 1 first_night cut_days cut_night refl refl cut_holds,
)

pub next_morning : NextMorning
next_morning = (refl, refl, refl)

-- the ceiling and the answers of the days from 3 on
given_alike : IsGivenAlike 2 campaign other_morning
given_alike = record {
  ceilings = λ day past.
      let late : nat_le 3 day ≡ true = grind (arith, nat_tests, past) in
      let early : nat_le 1 (day - 2) ≡ true = grind (arith, nat_tests, past) in
      rw (late, early) refl;
  answers = λ day past.
      let none : nat_eq 2 day ≡ false = grind (arith, nat_tests, past) in
      rw none refl;
}

third_alone : Days (Some one_day_more) call_orders 3 second_night (third_day ∷ []) third_night
third_alone = (third_night, refl, third_holds, refl)

pub alike_witness : AlikeStatesGoOnAlikeWitness
alike_witness = (
  refl,
  (refl, refl),
  refl,
  refl,
  refl,
  given_alike,
  third_alone,
  alike_states_go_on 2 (Some one_day_more) (terms_at 2 (Some one_day_more) second_night) call_orders second_night
      (first_evening other_morning) (third_day ∷ []) third_night refl (refl, refl) refl refl refl given_alike
      third_alone,
)

pub valid_witness : CutsAreValidWitness
valid_witness = (
  small_dossier_holds,
  refl,
  (λ i j e below lt. absurd (omega (arith, below, lt))),
  cuts_are_valid 1 small_night small_dossier_holds refl (λ i j e below lt. absurd (omega (arith, below, lt))),
)

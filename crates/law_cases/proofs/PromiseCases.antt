-- The witnesses of what the rules promise a candidate, by computation.
use Rattle.std.proofs.Common.{ℕ, zero, suc, ◌<◌, ◌≡◌, List, [], ◌∷◌, length, refl, arith, lit≤, lit<}
use Rattle.std.specs.Prelude.{◌≢◌}
use Rattle.admit_core.specs.declared.ranking.CallOrder.{CallOrder}
use Rattle.admit_core.specs.declared.state.Status.TheVariants.{Waiting}
use Rattle.admit_core.specs.DossierRows.{DossierRows}
use Rattle.admit_core.specs.Proposals.{order_of}
use Rattle.admit_core.specs.WorkedRows.{boarder, first_pass, morning}
use Rattle.fairness.specs.Exchanges.{with_ranks_exchanged}
use Rattle.fairness.specs.NotPromised.{plain}
use Rattle.fairness.proofs.Beds.{no_bed_goes_to_worse_rank}
use Rattle.fairness.proofs.Shown.{called}
use Rattle.law_cases.specs.Fairness.{BetterBoardingRankCostsNoOfferWitness, BetterIsNeverLaterOtherWitness}
use Rattle.law_cases.specs.Fairness.{BetterIsNeverLaterWitness, BetterPositionCostsNoOfferOtherWitness}
use Rattle.law_cases.specs.Fairness.{BetterPositionCostsNoOfferWitness, CallsEachKindByRankWitness}
use Rattle.law_cases.specs.Fairness.{CallsResidentScholarsByRankWitness, GoToBetterRanksBetterWitness}
use Rattle.law_cases.specs.Fairness.{NoBedGoesToWorseRankWitness, NobodyIsPassedOverOtherWitness}
use Rattle.law_cases.specs.Fairness.{NobodyIsPassedOverWitness, two_plain_orders, two_rankings, two_school_orders}
use Rattle.law_cases.specs.Fairness.{two_schools}
use Rattle.law_cases.proofs.BarCases.{greatest_of}
use Rattle.law_cases.proofs.Tested.{distinct_by}
use Rattle.law_cases.proofs.Valid.{ranking_by, valid_by}

pub calls_each_kind_by_rank : CallsEachKindByRankWitness
calls_each_kind_by_rank = (
  ranking_by _ refl,
  called 4 _ _ refl (refl, (refl, (refl, (refl, tt)))) (λ k. refl),
  (0, lit< tt, refl),
  (3, lit< tt, refl),
  refl,
  refl,
  refl,
  refl,
  lit< tt,
  lit< tt,
)

pub calls_resident_scholars_by_rank : CallsResidentScholarsByRankWitness
calls_resident_scholars_by_rank = (
  ranking_by _ refl,
  called 4 _ _ refl (refl, (refl, (refl, (refl, tt)))) (λ k. refl),
  refl,
  refl,
  refl,
  lit≤ tt,
)

pub better_is_never_later : BetterIsNeverLaterWitness
better_is_never_later = (
  ranking_by _ refl,
  ranking_by _ refl,
  called 3 _ _ refl (refl, (refl, (refl, tt))) (λ k. refl),
  called 3 _ _ refl (refl, (refl, (refl, tt))) (λ k. refl),
  record {
    scholar_pct = refl;
    resident_pct = refl;
    others = refl;
    ranked = (1, lit< tt, refl);
    ranked_now = (1, lit< tt, refl);
    same = refl;
    rank = lit≤ tt;
    scholar = λ is. refl;
    resident = λ is. refl;
  },
  record { no_later = lit≤ tt; same_before = refl },
)

pub better_is_never_later_other : BetterIsNeverLaterOtherWitness
better_is_never_later_other = (
  ranking_by _ refl,
  ranking_by _ refl,
  called 3 _ _ refl (refl, (refl, (refl, tt))) (λ k. refl),
  called 3 _ _ refl (refl, (refl, (refl, tt))) (λ k. refl),
  record {
    scholar_pct = refl;
    resident_pct = refl;
    others = refl;
    ranked = (2, lit< tt, refl);
    ranked_now = (1, lit< tt, refl);
    same = refl;
    rank = lit≤ tt;
    scholar = λ is. is;
    resident = λ is. is;
  },
  record { no_later = lit≤ tt; same_before = refl },
)

pub nobody_is_passed_over : NobodyIsPassedOverWitness
nobody_is_passed_over = (refl, refl, refl, refl)

pub nobody_is_passed_over_other : NobodyIsPassedOverOtherWitness
nobody_is_passed_over_other = (refl, refl, refl, refl)

pub no_bed_goes_to_worse_rank_here : NoBedGoesToWorseRankWitness
no_bed_goes_to_worse_rank_here =
    let valid = valid_by two_rankings.dossier refl in
    let greatest = greatest_of two_rankings two_plain_orders (9 ∷ []) (0 ∷ []) (2 ∷ [])
    (record { are_falls = (refl, refl, tt); settled = refl }) refl in (
      valid,
      greatest,
      refl,
      refl,
      lit< tt,
      no_bed_goes_to_worse_rank two_rankings two_plain_orders (9 ∷ []) (2 ∷ []) first_pass (boarder 3 12 0 0 3 0)
          (morning Waiting) 0 valid greatest refl refl (lit< tt),
    )

pub go_to_better_ranks : GoToBetterRanksBetterWitness
go_to_better_ranks = (refl, (1, lit< tt, refl), refl, refl, lit< tt)

-- in no other programme of two does the order change
alone_first : (d : DossierRows) (orders moved : List CallOrder) → length d.programmes ≡ 2
    → order_of d moved 1 ≡ order_of d orders 1
    → (q : ℕ) → q < length d.programmes → q ≢ 0 → order_of d moved q ≡ order_of d orders q
alone_first d orders moved two same zero there other = absurd (other refl)
alone_first d orders moved two same (suc zero) there other = same
alone_first d orders moved two same (suc (suc q)) there other = absurd (omega (arith, there, two))

alone_last : (d : DossierRows) (orders moved : List CallOrder) → length d.programmes ≡ 2
    → order_of d moved 0 ≡ order_of d orders 0
    → (q : ℕ) → q < length d.programmes → q ≢ 1 → order_of d moved q ≡ order_of d orders q
alone_last d orders moved two same zero there other = same
alone_last d orders moved two same (suc zero) there other = absurd (other refl)
alone_last d orders moved two same (suc (suc q)) there other = absurd (omega (arith, there, two))

pub better_position_costs_no_offer : BetterPositionCostsNoOfferWitness
better_position_costs_no_offer =
    let moved : List CallOrder = plain (13 ∷ 12 ∷ 11 ∷ []) ∷ plain (11 ∷ 13 ∷ 12 ∷ []) ∷ [] in (
      valid_by two_rankings.dossier refl,
      record {
        front = [];
        passed = 12;
        back = 11 ∷ [];
        was = refl;
        becomes = refl;
        once = distinct_by _ refl;
        others = alone_first two_rankings.dossier two_plain_orders moved refl refl;
      },
      greatest_of two_rankings two_plain_orders (9 ∷ []) (0 ∷ []) (2 ∷ [])
          (record { are_falls = (refl, refl, tt); settled = refl }) refl,
      greatest_of two_rankings moved (9 ∷ []) [] (9 ∷ []) (record { are_falls = tt; settled = refl }) refl,
      refl,
      refl,
    )

pub better_position_costs_no_offer_other : BetterPositionCostsNoOfferOtherWitness
better_position_costs_no_offer_other =
    let moved : List CallOrder = plain (13 ∷ 11 ∷ 12 ∷ []) ∷ plain (12 ∷ 13 ∷ 11 ∷ []) ∷ [] in (
      valid_by two_schools.dossier refl,
      record {
        front = 12 ∷ [];
        passed = 11;
        back = [];
        was = refl;
        becomes = refl;
        once = distinct_by _ refl;
        others = alone_last two_schools.dossier two_school_orders moved refl refl;
      },
      greatest_of two_schools two_school_orders (9 ∷ 9 ∷ []) (0 ∷ []) (2 ∷ 9 ∷ [])
          (record { are_falls = (refl, refl, tt); settled = refl }) refl,
      greatest_of two_schools moved (9 ∷ 9 ∷ []) (0 ∷ []) (2 ∷ 9 ∷ [])
          (record { are_falls = (refl, refl, tt); settled = refl }) refl,
      refl,
      refl,
    )

pub better_boarding_rank_costs_no_offer : BetterBoardingRankCostsNoOfferWitness
better_boarding_rank_costs_no_offer = (
  valid_by two_schools.dossier refl,
  (0, lit< tt, refl),
  refl,
  record { from_one = lit≤ tt; below = lit< tt; none_between = λ v listed has more less. omega (arith, more, less) },
  greatest_of two_schools two_school_orders (9 ∷ 9 ∷ []) (0 ∷ []) (2 ∷ 9 ∷ [])
      (record { are_falls = (refl, refl, tt); settled = refl }) refl,
  greatest_of (with_ranks_exchanged two_schools 0 1 2) two_school_orders (9 ∷ 9 ∷ []) (0 ∷ []) (2 ∷ 9 ∷ [])
      (record { are_falls = (refl, refl, tt); settled = refl }) refl,
  refl,
  refl,
)

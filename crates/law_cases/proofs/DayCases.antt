-- The witnesses of the laws of days and explanations, by computation and by the laws.
use Rattle.std.proofs.Common.{ℕ, ◌<◌, ◌≡◌, true, List, [], ◌∷◌, refl, lit≤, lit<, None, nat_lt}
use Rattle.std.specs.List.{All, list_all}
use Rattle.std.proofs.lemmas.Bool.{ltb-true}
use Rattle.std.proofs.lemmas.List.Elements.{All-cons, All-nil}
use Rattle.admit_core.specs.CallOrder.{AreCallOrders}
use Rattle.admit_core.specs.Days.{Days, IsDay, first_evening}
use Rattle.admit_core.specs.EveningLaws.{last_bars}
use Rattle.admit_core.specs.State.{State}
use Rattle.admit_core.specs.WorkedDays.{fall, two_candidates}
use Rattle.admit_core.specs.WorkedRows.{realistic, realistic_order}
use Rattle.law_cases.specs.Days.{held_bed, held_bed_evening}
use Rattle.admit_core.proofs.Rows.{passes_with}
use Rattle.desk_day.specs.DayPlaces.{IsDayIn, IsFallIn, IsPassIn}
use Rattle.desk_day.specs.RunDay.{IsDayDone}
use Rattle.desk_day.proofs.DayLaws.{laws_kept}
use Rattle.desk_day.proofs.Stamps.{stamps_kept}
use Rattle.desk_day.proofs.PassEnds.{day_ends_so, desk_ends_so}
use Rattle.desk_day.proofs.SameDays.{only_falls_differ}
use Rattle.fairness.proofs.Shown.{called}
use Rattle.law_cases.specs.Explanations.{CampaignsAreFixedWitness, CampaignsFixThemWitness, DaysEndSoWitness}
use Rattle.law_cases.specs.Explanations.{DaysFixThemWitness, DesksEndSoWitness, EachIsListedWitness}
use Rattle.law_cases.specs.Explanations.{OnlyFallsDifferWitness, desk_at, first_falls_first, full_schools, held_day}
use Rattle.law_cases.specs.Explanations.{held_start, realistic_day, realistic_evening, second_falls_first}
use Rattle.law_cases.proofs.PassCases.{held_called, held_passes, realistic_called, realistic_holds}
use Rattle.law_cases.proofs.Tested.{all_by}
use Rattle.law_cases.proofs.Valid.{valid_by}
use Rattle.campaign_laws.proofs.WorkedCampaign.{day_by}

abbrev old : State
old = first_evening full_schools

-- the days of the two schools
one_first : IsDay None two_candidates (4 ∷ 4 ∷ []) old (first_falls_first 1) old
one_first = day_by _ _ _ _ _ _ (
  record {
    pass = passes_with _ two_candidates (4 ∷ 4 ∷ []) _
        (record { are_falls = (refl, refl, (refl, refl, tt)); settled = refl }) refl refl;
    autos = refl;
    freed = refl;
  },
  refl,
  refl,
) refl refl refl refl

one_second : IsDay None two_candidates (4 ∷ 4 ∷ []) old (second_falls_first 1) old
one_second = day_by _ _ _ _ _ _ (
  record {
    pass = passes_with _ two_candidates (4 ∷ 4 ∷ []) _
        (record { are_falls = (refl, refl, (refl, refl, tt)); settled = refl }) refl refl;
    autos = refl;
    freed = refl;
  },
  refl,
  refl,
) refl refl refl refl

two_first : IsDay None two_candidates (4 ∷ 4 ∷ []) old (first_falls_first 2) old
two_first = day_by _ _ _ _ _ _ (
  record {
    pass = passes_with _ two_candidates (4 ∷ 4 ∷ []) _
        (record { are_falls = (refl, refl, (refl, refl, tt)); settled = refl }) refl refl;
    autos = refl;
    freed = refl;
  },
  refl,
  refl,
) refl refl refl refl

two_second : IsDay None two_candidates (4 ∷ 4 ∷ []) old (second_falls_first 2) old
two_second = day_by _ _ _ _ _ _ (
  record {
    pass = passes_with _ two_candidates (4 ∷ 4 ∷ []) _
        (record { are_falls = (refl, refl, (refl, refl, tt)); settled = refl }) refl refl;
    autos = refl;
    freed = refl;
  },
  refl,
  refl,
) refl refl refl refl

full_called : AreCallOrders full_schools.groups two_candidates
full_called = (called 2 _ _ refl (refl, (refl, tt)) (λ k. refl), tt)

pub only_falls_differ_here : OnlyFallsDifferWitness
only_falls_differ_here = (
  refl,
  one_first,
  one_second,
  refl,
  (only_falls_differ None two_candidates (4 ∷ 4 ∷ []) old (first_falls_first 1)
      (second_falls_first 1) old old refl one_first one_second).1,
)

both : Days None two_candidates 1 old (first_falls_first 1 ∷ first_falls_first 2 ∷ []) old
both = (old, refl, one_first, (old, refl, two_first, refl))

twins : Days None two_candidates 1 old (second_falls_first 1 ∷ first_falls_first 2 ∷ []) old
twins = (old, refl, one_second, (old, refl, two_first, refl))

pub campaigns_are_fixed_here : CampaignsAreFixedWitness
campaigns_are_fixed_here = (
  full_called,
  full_called,
  refl,
  both,
  twins,
  refl,
  (
    (only_falls_differ None two_candidates (4 ∷ 4 ∷ []) old (first_falls_first 1)
        (second_falls_first 1) old old refl one_first one_second).1,
    (
      (only_falls_differ None two_candidates (4 ∷ 4 ∷ []) old (first_falls_first 2)
          (first_falls_first 2) old old refl two_first two_first).1,
      tt,
    ),
  ),
)

pub each_is_listed : EachIsListedWitness
each_is_listed = (refl, refl, refl, refl)

pub realistic_is_day : IsDay None (realistic_order ∷ []) (10 ∷ []) (first_evening realistic) realistic_day
    realistic_evening
realistic_is_day = record { lapsed = refl; fits = refl; passes = realistic_holds; left = refl; free = refl }

pub days_end_so_here : DaysEndSoWitness
days_end_so_here = (
  realistic_called,
  refl,
  realistic_is_day,
  day_ends_so None (realistic_order ∷ []) (10 ∷ [])
      (first_evening realistic) realistic_day realistic_evening realistic_called refl realistic_is_day,
)

pub held_is_day : IsDay None two_candidates (9 ∷ []) held_start held_day held_bed_evening
held_is_day = record { lapsed = refl; fits = refl; passes = held_passes; left = refl; free = refl }

-- numbers of a list below a bound
below_by : (n : ℕ) (xs : List ℕ) → list_all (λ x. nat_lt x n) xs ≡ true → All (λ x. x < n) xs
below_by n xs t = all_by (λ (x : ℕ). x < n) (λ x. nat_lt x n) (λ x. ltb-true x n) xs t

held_places : IsDayIn held_bed held_day
held_places = record {
  lapsed = All-nil _;
  passes = All-cons (IsPassIn held_bed) _ []
      (record {
        bars = refl;
        falls = All-cons (IsFallIn held_bed) (fall 0 9 1 (1 ∷ [])) []
            (record { school = lit< tt; wishes = below_by 2 (1 ∷ []) refl }) (All-nil (IsFallIn held_bed));
        offers = below_by 2 [] refl;
        autos = All-nil _;
      })
      (All-nil (IsPassIn held_bed));
  left = refl;
  free = refl;
}

held_is_done : IsDayDone None two_candidates (9 ∷ []) 1 (desk_at held_start []) held_day
    (desk_at held_bed_evening (0 ∷ []))
held_is_done = record {
  rule = record { number = refl; is_day = held_is_day; opening = refl; told = refl; chosen = ((refl, tt), tt) };
  follows = record {
    laws = laws_kept None two_candidates (9 ∷ []) held_start held_day held_bed_evening (valid_by held_bed refl)
        held_called refl held_is_day;
    few = lit≤ tt;
    places = held_places;
    stamps = stamps_kept None two_candidates (9 ∷ []) held_start held_day held_bed_evening held_is_day;
  };
}

pub desks_end_so_here : DesksEndSoWitness
desks_end_so_here = (
  held_called,
  refl,
  held_is_done,
  desk_ends_so None two_candidates (9 ∷ []) (9 ∷ []) (last_bars held_day.passes) 1 (desk_at held_start [])
      (desk_at held_bed_evening (0 ∷ [])) held_day held_called refl held_is_done refl refl,
)

pub days_fix_them_here : DaysFixThemWitness
days_fix_them_here = (refl, one_first, one_second, refl)

pub campaigns_fix_them_here : CampaignsFixThemWitness
campaigns_fix_them_here = (
  full_called,
  full_called,
  refl,
  (old, refl, one_first, refl),
  (old, refl, one_second, refl),
  refl,
  two_second,
  two_first,
  refl,
)

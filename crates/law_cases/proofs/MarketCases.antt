-- The witnesses of the laws of markets, by computation and by the laws.
use Rattle.std.proofs.Common.{ℕ, zero, suc, ◌≡◌, true, List, [], ◌∷◌, refl, subst, arith, lit≤, Some, nat_lt}
use Rattle.std.specs.Prelude.{◌≢◌, IsTrue}
use Rattle.std.proofs.lemmas.Bool.{false≢true}
use Rattle.admit_core.specs.Falls.{IsGreatest, Leads, bars_after, falls_by}
use Rattle.admit_core.proofs.ByPlaces.{by_places}
use Rattle.admit_core.proofs.FallsLaw.{run_is_greatest}
use Rattle.markets.specs.Bars.{market_system}
use Rattle.markets.proofs.Lawful.{market_is_lawful}
use Rattle.markets.specs.Markets.{IsMarket, MarketRows, list_of, lists_it, market_position}
use Rattle.markets.specs.Matchings.{IsBestForAll, IsMatching, IsStable, place_of}
use Rattle.markets.proofs.Best.{greatest_is_best}
use Rattle.markets.proofs.SamePlaced.{any_two, placed_in_all, there_is_a_best}
use Rattle.markets.proofs.Stable.{greatest_is_stable}
use Rattle.stable_market.specs.Truth.{DifferAtMostIn}
use Rattle.stable_market.specs.Worked.{contested, crossed}
use Rattle.stable_market.proofs.Blocking.{stable_from}
use Rattle.law_cases.specs.Markets.{CrossedDossier, GreatestBarsAreBestWitness, GreatestBarsAreStableWitness}
use Rattle.law_cases.specs.Markets.{GreatestBarsPlaceTheSameWitness, MarketsAreLawfulWitness, TheBestIsOneWitness}
use Rattle.law_cases.specs.Markets.{TheSameHavePlacesWitness, TheSameWhicheverFallsFirstWitness, ThereIsABestWitness}
use Rattle.law_cases.specs.Markets.{TruthPaysWitness, second_alone, their_first, their_second, two_contests}

-- the greatest bars of a market, by the programmes that fall
bars_by : (m : MarketRows) (picks bars : List ℕ) → IsMarket m → Leads (market_system m) picks
    → bars_after (market_system m).ceilings (falls_by (market_system m) (market_system m).ceilings picks) ≡ bars
    → IsGreatest (market_system m) bars
bars_by m picks bars is leads ends =
    let sys = market_system m in
    subst (IsGreatest sys) ends (run_is_greatest sys (market_is_lawful m is) (falls_by sys sys.ceilings picks) leads)

-- the four markets
crossed_is : IsMarket crossed
crossed_is = record {
  one_seat_each = refl;
  lists = by_places 2 _ ((λ lt. refl), ((λ lt. refl), tt)) (λ k lt. absurd (omega (arith, lt)));
  orders = by_places 2 _ ((λ lt. refl), ((λ lt. refl), tt)) (λ k lt. absurd (omega (arith, lt)));
}

contested_is : IsMarket contested
contested_is = record {
  one_seat_each = refl;
  lists = by_places 3 _ ((λ lt. refl), ((λ lt. refl), ((λ lt. refl), tt))) (λ k lt. absurd (omega (arith, lt)));
  orders = by_places 2 _ ((λ lt. refl), ((λ lt. refl), tt)) (λ k lt. absurd (omega (arith, lt)));
}

two_are : IsMarket two_contests
two_are = record {
  one_seat_each = refl;
  lists = by_places 4 _ ((λ lt. refl), ((λ lt. refl), ((λ lt. refl), ((λ lt. refl), tt))))
      (λ k lt. absurd (omega (arith, lt)));
  orders = by_places 2 _ ((λ lt. refl), ((λ lt. refl), tt)) (λ k lt. absurd (omega (arith, lt)));
}

second_is : IsMarket second_alone
second_is = record {
  one_seat_each = refl;
  lists = by_places 2 _ ((λ lt. refl), ((λ lt. refl), tt)) (λ k lt. absurd (omega (arith, lt)));
  orders = by_places 2 _ ((λ lt. refl), ((λ lt. refl), tt)) (λ k lt. absurd (omega (arith, lt)));
}

pub markets_are_lawful : MarketsAreLawfulWitness
markets_are_lawful = (contested_is, market_is_lawful contested contested_is)

contested_bars : IsGreatest (market_system contested) (1 ∷ 1 ∷ [])
contested_bars = bars_by contested (0 ∷ 1 ∷ []) (1 ∷ 1 ∷ []) contested_is
    (record { are_falls = (refl, refl, (refl, refl, tt)); settled = refl }) refl

pub crossed_bars : IsGreatest (market_system crossed) (2 ∷ 2 ∷ [])
crossed_bars = bars_by crossed [] (2 ∷ 2 ∷ []) crossed_is (record { are_falls = tt; settled = refl }) refl

pub greatest_bars_are_stable : GreatestBarsAreStableWitness
greatest_bars_are_stable = (
  contested_is,
  contested_bars,
  greatest_is_stable contested
      (1 ∷ 1 ∷ []) contested_is contested_bars,
)

pub greatest_bars_are_best : GreatestBarsAreBestWitness
greatest_bars_are_best = (crossed_is, crossed_bars, greatest_is_best crossed (2 ∷ 2 ∷ []) crossed_is crossed_bars)

pub the_same_whichever_falls_first : TheSameWhicheverFallsFirstWitness
the_same_whichever_falls_first = (
  two_are,
  record { are_falls = (refl, refl, (refl, refl, tt)); settled = refl },
  record { are_falls = (refl, refl, (refl, refl, tt)); settled = refl },
  refl,
)

pub greatest_bars_place_the_same : GreatestBarsPlaceTheSameWitness
greatest_bars_place_the_same = (
  contested_is,
  contested_bars,
  placed_in_all contested
      (1 ∷ 1 ∷ []) contested_is contested_bars,
)

-- ---- stable matchings
first_stable : IsStable crossed their_first
first_stable = greatest_is_stable crossed (2 ∷ 2 ∷ []) crossed_is crossed_bars

first_best : IsBestForAll crossed their_first
first_best = greatest_is_best crossed (2 ∷ 2 ∷ []) crossed_is crossed_bars

second_listed : (x p : ℕ) → place_of their_second x ≡ Some p → IsTrue (lists_it crossed p x)
second_listed zero p at = let is : 0 ≡ p = (cc) in subst (λ (q : ℕ). IsTrue (lists_it crossed q 0)) is refl
second_listed (suc zero) p at = let is : 1 ≡ p = (cc) in subst (λ (q : ℕ). IsTrue (lists_it crossed q 1)) is refl
second_listed (suc (suc x)) p at = let no : ⊥ = (cc) in absurd no

second_matches : IsMatching crossed their_second
second_matches = record {
  one_place_each = refl;
  listed = second_listed;
  seated = by_places 2 _ ((λ lt. lit≤ tt), ((λ lt. lit≤ tt), tt)) (λ k lt. absurd (omega (arith, lt)));
}

second_stable : IsStable crossed their_second
second_stable =
    stable_from crossed their_second second_matches
    (by_places 2 _ ((λ least lt. refl), ((λ least lt. refl), tt)) (λ k least lt. absurd (omega (arith, lt))))

pub there_is_a_best_here : ThereIsABestWitness
there_is_a_best_here =
    let found = there_is_a_best crossed crossed_is in
    (crossed_is, found.0, found.1, found.2)

pub the_same_have_places : TheSameHavePlacesWitness
the_same_have_places = (
  crossed_is,
  first_stable,
  second_stable,
  any_two crossed their_first their_second crossed_is
      first_stable second_stable,
)

pub the_best_is_one_here : TheBestIsOneWitness
the_best_is_one_here = (first_stable, first_best, first_stable, first_best, refl)

-- ---- another list
same_lists : (y : ℕ) → y ≢ 0 → list_of crossed y ≡ list_of second_alone y
same_lists zero other = absurd (other refl)
same_lists (suc zero) other = refl
same_lists (suc (suc y)) other = refl

same_ranks : (p y z : ℕ) → IsTrue (lists_it crossed p y) → IsTrue (lists_it crossed p z)
    → IsTrue (lists_it second_alone p y) → IsTrue (lists_it second_alone p z)
    → nat_lt (market_position crossed p y) (market_position crossed p z)
    ≡ nat_lt (market_position second_alone p y) (market_position second_alone p z)
same_ranks zero y z a b c d = refl
same_ranks (suc zero) y z a b c d = rw (only_one y c, only_one z d) refl where
  only_one : (x : ℕ) → lists_it second_alone 1 x ≡ true → x ≡ 1
  only_one zero t = absurd (false≢true t)
  only_one (suc zero) t = refl
  only_one (suc (suc x)) t = absurd (false≢true t)
same_ranks (suc (suc p)) y z a b c d = refl

differ : DifferAtMostIn 0 crossed second_alone
differ = record {
  candidates = refl;
  programmes = refl;
  same_seats = refl;
  same_lists = same_lists;
  same_ranks = same_ranks;
}

second_bars : IsGreatest (market_system second_alone) (1 ∷ 1 ∷ [])
second_bars = bars_by second_alone (0 ∷ []) (1 ∷ 1 ∷ []) second_is
    (record { are_falls = (refl, refl, tt); settled = refl }) refl

pub truth_pays_here : TruthPaysWitness
truth_pays_here = (
  crossed_is,
  second_is,
  differ,
  first_stable,
  first_best,
  greatest_is_stable second_alone (1 ∷ 1 ∷ []) second_is second_bars,
  refl,
  refl,
)

pub crossed_dossier : CrossedDossier
crossed_dossier = (refl, refl)

-- What the demanded positions of a market keep under bars, and that this makes it a lawful system.
use Rattle.std.specs.Prelude.{◌≡◌, ℕ, ◌≤◌, ◌<◌, true, List, length, slice_index}
use Rattle.std.specs.List.Sorted.{IsStrictlyIncreasing}
use Rattle.std.proofs.lemmas.Bool.{eqb-true}
use Rattle.std.proofs.lemmas.Cmp.{nat_eq_equiv}
use Rattle.std.proofs.lemmas.Map.Views.{Contains-from_any, list_any-from_Contains}
use Rattle.admit_core.specs.Lists.{is_among}
use Rattle.admit_core.specs.Falls.{IsAtMost, IsLawful}
use Rattle.markets.specs.Markets.{MarketRows}
use Rattle.markets.specs.Bars.{demanded, market_system}

-- each programme has its seats; its demanded positions rise, stand from 1 to its bar, and stay
-- demanded while bars fall. It is `IsLawful` in tests that compute, of which each has one proof: so
-- a type can keep it
pub record KeepsPositions (m : MarketRows) : Type 0 where
  pub one_seat_each : length m.seats ≡ length (market_system m).ceilings
  pub rising : (bars : List ℕ) (p : ℕ) → IsStrictlyIncreasing (demanded m bars p)
  pub from_one : (bars : List ℕ) (p r : ℕ) → is_among r (demanded m bars p) ≡ true → 1 ≤ r
  pub to_bar : (bars : List ℕ) (p r : ℕ) → IsAtMost bars (market_system m).ceilings
      → p < length bars → is_among r (demanded m bars p) ≡ true → r ≤ slice_index bars p
  pub stay :
      (lower upper : List ℕ) (p r : ℕ)
      → IsAtMost lower upper
      → IsAtMost upper (market_system m).ceilings
      → p < length lower
      → is_among r (demanded m upper p) ≡ true
      → r ≤ slice_index lower p
      → is_among r (demanded m lower p) ≡ true

pub lawful_by : (m : MarketRows) → KeepsPositions m → IsLawful (market_system m)
lawful_by m keeps = record {
  one_free_each = keeps.one_seat_each;
  ascending = λ bars p under lt. keeps.rising bars p;
  from_one = λ bars p r under lt h.
      keeps.from_one bars p r (list_any-from_Contains nat_eq_equiv r (demanded m bars p) h);
  to_bar = λ bars p r under lt h.
      keeps.to_bar bars p r under lt (list_any-from_Contains nat_eq_equiv r (demanded m bars p) h);
  stay_demanded = λ lower upper p r below under lt h le.
      Contains-from_any eqb-true r (demanded m lower p)
      (keeps.stay lower upper p r below under lt
      (list_any-from_Contains nat_eq_equiv r (demanded m upper p) h) le);
}

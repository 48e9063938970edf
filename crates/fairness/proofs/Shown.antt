-- What is not promised is shown by computation.
use Rattle.std.proofs.Common.{◌≡◌, ℕ, refl, List, [], ◌∷◌, None, length, subst, take}
use Rattle.std.specs.Prelude.{slice_get, zip}
use Rattle.admit_core.specs.declared.ranking.CallOrder.{CallOrder}
use Rattle.admit_core.specs.declared.ranking.RankGroup.{RankGroup}
use Rattle.admit_core.specs.declared.tables.Tables.{Tables}
use Rattle.admit_core.specs.Boarding.{boarding}
use Rattle.admit_core.specs.CallOrder.{AreCallOrders, IsCallOrder, next_after}
use Rattle.admit_core.specs.Days.{ceilings_of, first_evening}
use Rattle.admit_core.specs.Falls.{IsGreatest, Leads, bars_after, falls_by}
use Rattle.admit_core.specs.Faults.{first_after}
use Rattle.admit_core.specs.Relations.{first_fault}
use Rattle.admit_core.specs.Standing.{dossier_of}
use Rattle.admit_core.proofs.ByPlaces.{EachBelow, after, by_places}
use Rattle.admit_core.proofs.DemandLaws.{boarding_is_lawful}
use Rattle.admit_core.proofs.FallsLaw.{run_is_greatest}
use Rattle.fairness.specs.NotPromised.{Gives, offers_of, BetterBoardingRank, BetterRank, OneBedMore, OneSeatMore}
use Rattle.fairness.specs.NotPromised.{SharedGroup, ToBeAScholar}

-- a call order by its first calls, one after another
pub called : (n : ℕ) (g : RankGroup) (o : CallOrder) → length o.trace ≡ length o.list
    → EachBelow n (λ k. next_after g (take k o.list) ≡ slice_get (zip o.list o.trace) k)
    → ((k : ℕ) → next_after g (take (after n k) o.list) ≡ slice_get (zip o.list o.trace) (after n k))
    → IsCallOrder g o
called n g o long first later = record { as_long = long; each_next = by_places n _ first later }

-- by the schools that fall, in their order
gives_by : (t : Tables) (orders : List CallOrder) (picks bars offers : List ℕ) → first_fault t ≡ None
    → AreCallOrders (dossier_of t).groups orders
    → Leads (boarding (first_evening (dossier_of t)) orders (ceilings_of (dossier_of t) 1)) picks
    → bars_after (ceilings_of (dossier_of t) 1)
    (falls_by (boarding (first_evening (dossier_of t)) orders (ceilings_of (dossier_of t) 1))
    (ceilings_of (dossier_of t) 1) picks) ≡ bars
    → offers_of (dossier_of t) orders bars ≡ offers → Gives t orders bars offers
gives_by t orders picks bars offers faultless called leads ends offered =
    let ceilings = ceilings_of (dossier_of t) 1 in
    let s = first_evening (dossier_of t) in
    let sys = boarding s orders ceilings in
    record {
      faultless = faultless;
      called = called;
      greatest = subst (IsGreatest sys) ends (run_is_greatest sys (boarding_is_lawful s orders ceilings)
          (falls_by sys ceilings picks) leads);
      offered = offered;
    }

pub one_seat_more : OneSeatMore
unfolding first_after
one_seat_more = (
  gives_by _ _ [] _ _ refl (called 2 _ _ refl (refl, (refl, tt)) (λ k. refl), tt)
      (record { are_falls = tt; settled = refl }) refl refl,
  gives_by _ _ (0 ∷ []) _ _ refl (called 2 _ _ refl (refl, (refl, tt)) (λ k. refl), tt)
      (record { are_falls = (refl, refl, tt); settled = refl }) refl refl,
)

pub one_bed_more : OneBedMore
unfolding first_after
one_bed_more = (
  gives_by _ _ (0 ∷ []) _ _ refl (called 2 _ _ refl (refl, (refl, tt)) (λ k. refl), tt)
      (record { are_falls = (refl, refl, tt); settled = refl }) refl refl,
  gives_by _ _ [] _ _ refl (called 2 _ _ refl (refl, (refl, tt)) (λ k. refl), tt)
      (record { are_falls = tt; settled = refl }) refl refl,
)

pub better_rank : BetterRank
unfolding first_after
better_rank = (
  gives_by _ _ (0 ∷ []) _ _ refl (
    called 3 _ _ refl (refl, (refl, (refl, tt)))
        (λ k. refl),
    (called 3 _ _ refl (refl, (refl, (refl, tt))) (λ k. refl), tt),
  )
      (record { are_falls = (refl, refl, tt); settled = refl }) refl refl,
  gives_by _ _ [] _ _ refl (
    called 3 _ _ refl (refl, (refl, (refl, tt)))
        (λ k. refl),
    (called 3 _ _ refl (refl, (refl, (refl, tt))) (λ k. refl), tt),
  )
      (record { are_falls = tt; settled = refl }) refl refl,
)

pub better_boarding_rank : BetterBoardingRank
unfolding first_after
better_boarding_rank = (
  gives_by _ _ (0 ∷ []) _ _ refl (
    called 3 _ _ refl (refl, (refl, (refl, tt)))
        (λ k. refl),
    (called 3 _ _ refl (refl, (refl, (refl, tt))) (λ k. refl), tt),
  )
      (record { are_falls = (refl, refl, tt); settled = refl }) refl refl,
  gives_by _ _ (0 ∷ 1 ∷ []) _ _ refl (
    called 3 _ _ refl (refl, (refl, (refl, tt)))
        (λ k. refl),
    (called 3 _ _ refl (refl, (refl, (refl, tt))) (λ k. refl), tt),
  )
      (record { are_falls = (refl, refl, (refl, refl, tt)); settled = refl }) refl refl,
)

pub to_be_a_scholar : ToBeAScholar
unfolding first_after
to_be_a_scholar = (
  gives_by _ _ [] _ _ refl (called 3 _ _ refl (refl, (refl, (refl, tt))) (λ k. refl), tt)
      (record { are_falls = tt; settled = refl }) refl refl,
  gives_by _ _ (0 ∷ []) _ _ refl (called 3 _ _ refl (refl, (refl, (refl, tt))) (λ k. refl), tt)
      (record { are_falls = (refl, refl, tt); settled = refl }) refl refl,
)

pub shared_group : SharedGroup
unfolding first_after
shared_group = (
  gives_by _ _ (0 ∷ []) _ _ refl (called 3 _ _ refl (refl, (refl, (refl, tt))) (λ k. refl), tt)
      (record { are_falls = (refl, refl, tt); settled = refl }) refl refl,
  gives_by _ _ [] _ _ refl (called 3 _ _ refl (refl, (refl, (refl, tt))) (λ k. refl), tt)
      (record { are_falls = tt; settled = refl }) refl refl,
)

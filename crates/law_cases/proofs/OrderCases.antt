-- The witnesses of the laws of call orders, by computation.
use Rattle.std.proofs.Common.{ℕ, zero, suc, ◌<◌, [], ◌∷◌, refl, arith, lit≤, lit<, true, false}
use Rattle.std.specs.Prelude.{slice_get, Some, ◌≢◌}
use Rattle.std.specs.List.Sorted.{IsPermutation}
use Rattle.std.proofs.lemmas.Bool.{false≢true}
use Rattle.admit_core.specs.declared.ranking.Bound.TheVariants.{Alone, Free, Resident, Scholar}
use Rattle.admit_core.specs.declared.ranking.CallOrder.{CallOrder}
use Rattle.admit_core.specs.declared.ranking.RankGroup.{RankGroup}
use Rattle.admit_core.specs.declared.ranking.Ranked.{Ranked}
use Rattle.admit_core.specs.CallOrder.{IsCallOrder}
use Rattle.admit_core.specs.CallOrderLaws.{KeepsRate, ranked_candidates}
use Rattle.admit_core.specs.WorkedRows.{group, order, ranked, realistic_group, realistic_order}
use Rattle.admit_core.proofs.ByPlaces.{by_places}
use Rattle.admit_core.proofs.OneOrder.{one_order}
use Rattle.admit_core.proofs.OrderLaws.{laws_kept}
use Rattle.fairness.proofs.Shown.{called}
use Rattle.law_cases.specs.CallOrders.{CallOrdersKeepLawsOtherWitness, CallOrdersKeepLawsWitness}
use Rattle.law_cases.specs.CallOrders.{CallsResidentScholarsFirstWitness, EachRankingHasOneOrderWitness}
use Rattle.law_cases.specs.CallOrders.{HasLesserRankWitness, IsLeastByResidentsWitness, IsLeastByScholarsWitness}
use Rattle.law_cases.specs.CallOrders.{IsLeastThatKeepsWitness, KeepsOrderLawsOnlyWitness, KeepsRateAfterWitness}
use Rattle.law_cases.specs.CallOrders.{KeepsResidentRateWitness, scholars_first}
use Rattle.law_cases.proofs.Valid.{ranking_by}

realistic_called : IsCallOrder realistic_group realistic_order
realistic_called = called 4 _ _ refl (refl, (refl, (refl, (refl, tt)))) (λ k. refl)

pub call_orders_keep_laws : CallOrdersKeepLawsWitness
call_orders_keep_laws =
    let ranking = ranking_by realistic_group refl in
    (ranking, realistic_called, laws_kept realistic_group realistic_order ranking realistic_called)

pub call_orders_keep_laws_other : CallOrdersKeepLawsOtherWitness
call_orders_keep_laws_other =
    let g : RankGroup = group 50 50 (ranked 1 1 false false ∷ ranked 2 2 true false ∷ ranked 3 3 false true ∷ []) in
    let o : CallOrder = order (2 ∷ 3 ∷ 1 ∷ []) (Alone ∷ Resident ∷ Free ∷ []) in
    let ranking = ranking_by g refl in
    let is : IsCallOrder g o = called 3 g o refl (refl, (refl, (refl, tt))) (λ k. refl) in
    (ranking, is, laws_kept g o ranking is)

pub each_ranking_has_one_order : EachRankingHasOneOrderWitness
each_ranking_has_one_order =
    let ranking = ranking_by realistic_group refl in
    let found = one_order realistic_group ranking in
    (ranking, found.0, found.1, found.2)

pub only_one_order : KeepsOrderLawsOnlyWitness
only_one_order = (realistic_called, refl)

pub keeps_rate_after : KeepsRateAfterWitness
keeps_rate_after = (refl, lit≤ tt)

not_alone : (k : ℕ) → k < 2 → slice_get realistic_order.trace k ≢ Some Alone
not_alone zero lt e = let no : ⊥ = (cc) in no
not_alone (suc zero) lt e = let no : ⊥ = (cc) in no
not_alone (suc (suc k)) lt e = absurd (omega (arith, lt))

pub keeps_resident_rate : KeepsResidentRateWitness
keeps_resident_rate = (not_alone, λ some. lit≤ tt)

pub calls_resident_scholars_first : CallsResidentScholarsFirstWitness
calls_resident_scholars_first = ((0, lit< tt, refl), (3, lit< tt, refl), refl, refl, lit< tt, refl, lit< tt)

pub has_lesser_rank : HasLesserRankWitness
has_lesser_rank = (refl, (0, lit< tt, refl), (2, lit< tt, refl), refl, refl, λ e. absurd (omega (arith, e)), lit< tt)

by_scholars : IsCallOrder scholars_first (order (2 ∷ 4 ∷ 1 ∷ 3 ∷ []) (Scholar ∷ Scholar ∷ Free ∷ Free ∷ []))
by_scholars = called 4 _ _ refl (refl, (refl, (refl, (refl, tt)))) (λ k. refl)

other_keeps : KeepsRate 100 (λ (r : Ranked). r.scholar) scholars_first (2 ∷ 4 ∷ 3 ∷ 1 ∷ [])
other_keeps =
    by_places 4 _ (
      (λ some. lit≤ tt),
      ((λ some. lit≤ tt), ((λ some. lit≤ tt), ((λ some. absurd (false≢true some)), tt))),
    )
    (λ k some. absurd (false≢true some))

other_permutes : IsPermutation (ranked_candidates scholars_first) (2 ∷ 4 ∷ 3 ∷ 1 ∷ [])
other_permutes = record { moves = (1, 3) ∷ (0, 1) ∷ []; below = (lit< tt, lit< tt, (lit< tt, lit< tt, tt)); is = refl }

pub is_least_that_keeps : IsLeastThatKeepsWitness
is_least_that_keeps = (
  other_permutes,
  other_keeps,
  (laws_kept scholars_first _ (ranking_by scholars_first refl) by_scholars).least_by_scholars refl
      (2 ∷ 4 ∷ 3 ∷ 1 ∷ []) other_permutes other_keeps,
)

pub is_least_by_scholars : IsLeastByScholarsWitness
is_least_by_scholars =
    (refl, (laws_kept scholars_first _ (ranking_by scholars_first refl) by_scholars).least_by_scholars refl)

pub is_least_by_residents : IsLeastByResidentsWitness
is_least_by_residents =
    let g : RankGroup = group 0 100 (ranked 1 1 false false ∷ ranked 2 2 false true ∷ []) in
    let o : CallOrder = order (2 ∷ 1 ∷ []) (Resident ∷ Free ∷ []) in (
      refl,
      (laws_kept g o (ranking_by g refl) (called 2 g o refl (refl, (refl, tt)) (λ k. refl))).least_by_residents
          refl,
    )

-- No call order is longer than a ranking may be.
use Rattle.std.proofs.Common.{ℕ, zero, suc, ◌≤◌, List, [], ◌∷◌, length, arith}
use Rattle.std.specs.Prelude.{slice_get, option_map, unwrap_or}
use Rattle.std.specs.List.{All}
use Rattle.std.proofs.lemmas.List.Elements.{All-head, All-tail}
use Rattle.admit_core.specs.declared.ranking.RankGroup.{RankGroup}
use Rattle.admit_core.specs.declared.ranking.CallOrder.{CallOrder}
use Rattle.admit_core.specs.DossierRows.{DossierRows, group_of}
use Rattle.admit_core.specs.CallOrder.{AreCallOrders}
use Rattle.admit_core.specs.Validity.{IsValid, IsValidGroup}
use Rattle.admit_core.specs.Proposals.{order_of}
use Rattle.admit_core.proofs.OrderPermutes.{length-order}

few_at : (gs : List RankGroup) (os : List CallOrder) → All IsValidGroup gs → AreCallOrders gs os → (g : ℕ)
    → length (unwrap_or (option_map (λ (o : CallOrder). o.list) (slice_get os g)) []) ≤ 16000000
few_at [] [] valid calls g = omega arith
few_at [] (o ∷ os) valid calls g = absurd calls
few_at (x ∷ gs) [] valid calls g = absurd calls
few_at (x ∷ gs) (o ∷ os) valid calls zero =
    let first = All-head IsValidGroup x gs valid in
    omega (arith, length-order x o first.ranking calls.0, first.size)
few_at (x ∷ gs) (o ∷ os) valid calls (suc g) = few_at gs os (All-tail IsValidGroup x gs valid) calls.1 g

pub few_called : (d : DossierRows) (orders : List CallOrder) → IsValid d
    → AreCallOrders d.groups orders → (p : ℕ) → length (order_of d orders p) ≤ 16000000
few_called d orders valid calls p = few_at d.groups orders valid.groups calls (group_of d p)

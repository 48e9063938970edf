-- Every candidate who has a wish is called.
use Rattle.std.proofs.Common.{ℕ, zero, suc, ◌≡◌, true, List, [], ◌∷◌, map, length, refl, ◌∙◌, ap, arith}
use Rattle.std.specs.Prelude.{option_map, unwrap_or, slice_get, All}
use Rattle.admit_core.specs.declared.ranking.RankGroup.{RankGroup}
use Rattle.admit_core.specs.declared.ranking.CallOrder.{CallOrder}
use Rattle.admit_core.specs.Lists.{is_among}
use Rattle.admit_core.specs.CallOrder.{AreCallOrders}
use Rattle.admit_core.specs.DossierRows.{DossierRows, group_of}
use Rattle.admit_core.specs.Validity.{IsValid, IsValidGroup}
use Rattle.admit_core.proofs.OrderPermutes.{among-order}
use Rattle.day_state.specs.Kept.{wish_in}
use Rattle.day_state.proofs.Change.{wish_valid}
use Rattle.proposals.specs.Called.{AreCalled}

as_many : (groups : List RankGroup) (orders : List CallOrder) → AreCallOrders groups orders
    → length orders ≡ length groups
as_many [] [] are = refl
as_many [] (o ∷ os) are = absurd are
as_many (g ∷ gs) [] are = absurd are
as_many (g ∷ gs) (o ∷ os) are = ap suc (as_many gs os are.1)

-- who is ranked in the group at a place is called in the order at that place
called_at : (groups : List RankGroup) (orders : List CallOrder) → All IsValidGroup groups → AreCallOrders groups orders
    → (j c : ℕ)
    → is_among c (map (λ r. r.candidate) (unwrap_or (option_map (λ g. g.list) (slice_get groups j)) [])) ≡ true
    → is_among c (unwrap_or (option_map (λ o. o.list) (slice_get orders j)) []) ≡ true
called_at [] [] valid are j c t = t
called_at [] (o ∷ os) valid are j c t = absurd are
called_at (g ∷ gs) [] valid are j c t = absurd are
called_at (g ∷ gs) (o ∷ os) valid are zero c t = among-order g o (valid zero g (omega arith)).ranking are.0 c ∙ t
called_at (g ∷ gs) (o ∷ os) valid are (suc j) c t =
    called_at gs os (λ k d lt. valid (suc k) d (omega arith)) are.1 j c t

-- in a valid dossier each wish's candidate is called in its programme's order
pub all_called : (d : DossierRows) → IsValid d → (orders : List CallOrder) → AreCallOrders d.groups orders
    → AreCalled d orders
all_called d valid orders are = record {
  as_many = as_many d.groups orders are;
  each = λ k lt.
      let w = wish_in d.wishes k in
      called_at d.groups orders valid.groups are (group_of d w.programme) w.candidate (wish_valid d valid k lt).ranked;
}

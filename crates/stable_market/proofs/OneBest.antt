-- A market has one stable matching that is best for all.
use Rattle.std.proofs.Common.{ℕ, ◌≡◌, List, inl, inr, refl, sym, ◌∙◌, ap}
use Rattle.std.specs.Prelude.{Option, Some, None}
use Rattle.std.specs.List.{before_first}
use Rattle.std.proofs.lemmas.Bool.{cases_Bool, false≢true}
use Rattle.std.proofs.lemmas.List.{ext_get_or}
use Rattle.admit_core.specs.Lists.{is_among}
use Rattle.markets.specs.Markets.{MarketRows, list_of}
use Rattle.markets.specs.Matchings.{place_of, is_at, IsStable, IsBestForAll}
use Rattle.markets.proofs.Firsts.{at_place}
use Rattle.markets.specs.Laws.{TheBestIsOne}
use Rattle.markets.proofs.SamePlaced.{other_first}

-- a programme that a candidate has in the one they have in the other
has_it : (m : MarketRows) (one other : List (Option ℕ)) → IsStable m one → IsBestForAll m one → IsStable m other
    → IsBestForAll m other → (x p : ℕ) → place_of one x ≡ Some p → place_of other x ≡ Some p
has_it m one other one_stable one_best other_stable other_best x p at =
    let list : List ℕ = list_of m x in
    elim (cases_Bool (is_at p (place_of other x))) [
      | inl here ↦ at_place p (place_of other x) here
      | inr apart ↦
          let (q, rest) = other_first p (place_of other x) list (one_stable.matching.listed x p at) apart
          (other_best one one_stable x p at) in
          let moved = ap (λ (o : Option ℕ). is_among q (before_first (λ r. is_at r o) list)) at in
          absurd (false≢true (sym (one_best other other_stable x q rest.0) ∙ moved ∙ rest.1))
    ]

same : (m : MarketRows) (one other : List (Option ℕ)) → IsStable m one → IsBestForAll m one → IsStable m other
    → IsBestForAll m other → (x : ℕ) (o u : Option ℕ) → place_of one x ≡ o → place_of other x ≡ u → o ≡ u
same m one other one_stable one_best other_stable other_best x None None e f = refl
same m one other one_stable one_best other_stable other_best x (Some p) u e f =
    sym (has_it m one other one_stable one_best other_stable other_best x p e) ∙ f
same m one other one_stable one_best other_stable other_best x None (Some q) e f =
    sym e ∙ has_it m other one other_stable other_best one_stable one_best x q f

pub the_best_is_one : TheBestIsOne
the_best_is_one = λ m one other one_stable one_best other_stable other_best.
    ext_get_or None one other (one_stable.matching.one_place_each ∙ sym other_stable.matching.one_place_each)
    (λ x lt. same m one other one_stable one_best other_stable other_best x (place_of one x)
    (place_of other x) refl refl)

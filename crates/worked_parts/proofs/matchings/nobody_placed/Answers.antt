use Rattle.std.proofs.Common.{ℕ, zero, suc, ◌≡◌, Bool, false, List, [], ◌∷◌, filter, length, replicate, refl, sym, ◌∙◌}
use Rattle.std.proofs.Common.{ap, subst, arith, rules, None}
use Rattle.std.specs.List.{range_with_len}
use Rattle.std.proofs.lemmas.List.{length-replicate}
use Rattle.markets.specs.Markets.{MarketRows}
use Rattle.markets.specs.Matchings.{IsMatching, holders, is_at, place_of}
use Rattle.worked_parts.proofs.matchings.nobody_placed.Goals as goal

none_at : (n x : ℕ) → place_of (replicate n None) x ≡ None
none_at zero x = refl
none_at (suc n) zero = refl
none_at (suc n) (suc x) = none_at n x

none_kept : (xs : List ℕ) → filter (λ x. false) xs ≡ []
none_kept [] = refl
none_kept (x ∷ xs) = none_kept xs

nobody_held : (n p : ℕ) → holders (replicate n None) p ≡ []
nobody_held n p =
    let numbers : List ℕ = range_with_len 0 (length (replicate n None)) in
    ap (λ (test : ℕ → Bool). filter test numbers) (λ i x. is_at p (none_at n x i)) ∙ none_kept numbers

nobody : (m : MarketRows) (n : ℕ) → n ≡ length m.lists → IsMatching m (replicate n None)
nobody m n as_many =
    record {
      one_place_each = length-replicate n None ∙ as_many;
      listed = λ x p at. absurd (cc (at, none_at n x));
      seated = λ p lt. let none : length (holders (replicate n None) p) ≡ 0 = ap length (nobody_held n p) in
          omega (arith, none);
    }

pub returns : goal.returns
returns c =
    let none : c.in_ok-places.places.items ≡ replicate c.candidates.result None = search rules in
    subst (IsMatching c.args.market.now) (sym none) (nobody c.args.market.now _ c.candidates.ensures)

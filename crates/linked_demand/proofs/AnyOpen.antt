-- The search for an open wish of a claim.
use Rattle.std.proofs.Common.{ℕ, zero, suc, ◌≡◌, Bool, true, ◌||◌, List, [], ◌∷◌, drop, ◌∙◌, ap}
use Rattle.std.specs.List.{list_any}
use Rattle.admit_core.proofs.Plain.{or_true}

-- one that passes behind a place passes
pub any_behind : (f : ℕ → Bool) (ks : List ℕ) (i : ℕ) → list_any f (drop i ks) ≡ true → list_any f ks ≡ true
any_behind f ks zero t = t
any_behind f [] (suc i) t = t
any_behind f (k ∷ ks) (suc i) t = ap (λ b. f k || b) (any_behind f ks i t) ∙ or_true (f k)

-- What is left after the first item.
use Rattle.std.proofs.Common.{◌≡◌, ◌∙◌, ℕ, ◌+◌, List, [], ◌∷◌, Option, None, Some, arith, drop, length, refl, sym}
use Rattle.std.specs.Prelude.{MatchOption}

no_items : {A : Type 0} (xs : List A) → length xs ≡ 0 → xs ≡ []
no_items [] none = refl
no_items (x ∷ xs) none = absurd (omega arith)

-- n and m count the items before and after the first one is taken
pub without_first : {A : Type 0} (xs ys : List A) (first : Option A) (n m : ℕ) → n ≡ length xs → m ≡ length ys
    → MatchOption first ((n ≡ 0) × (m ≡ 0)) (λ x. (xs ≡ x ∷ ys) × (m + 1 ≡ n)) → ys ≡ drop 1 xs
without_first xs ys None n m n_is m_is none =
    rw (no_items xs (sym n_is ∙ none.0), no_items ys (sym m_is ∙ none.1)) refl
without_first xs ys (Some x) n m n_is m_is some = rw some.0 refl

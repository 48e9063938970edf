-- Lists of consecutive numbers, and steps that append.
use Rattle.std.proofs.Common.{◌≡◌, ℕ, ◌+◌, suc, List, [], ◌∷◌, ◌++◌, sym, ◌∙◌, ap, arith, append_assoc}
use Rattle.std.specs.List.{flat_map, range_with_len}
use Rattle.std.proofs.lemmas.List.{append-nil}
use Rattle.std.proofs.lemmas.List.Concat.{flat_map-append}
use Prim.Native.Nat.{zero}

from_here : (a j : ℕ) → a + 0 ≡ j → a ≡ j
from_here a j e = omega arith

one_on : (a n j : ℕ) → a + suc n ≡ j → a + 1 + n ≡ j
one_on a n j e = omega arith

range_suc : (a n j : ℕ) → a + n ≡ j → range_with_len a (suc n) ≡ range_with_len a n ++ j ∷ []
range_suc a zero j e = ap (λ i. i ∷ []) (from_here a j e)
range_suc a (suc n) j e = ap (λ xs. a ∷ xs) (range_suc (a + 1) n j (one_on a n j e))

-- one number more
pub range_more : (a n m j : ℕ) → a + n ≡ j → m ≡ n + 1 → range_with_len a m ≡ range_with_len a n ++ j ∷ []
range_more a n m j e more = let is : m ≡ suc n = omega arith in rw is (range_suc a n j e)

-- what is appended at one more number
pub flat_map-range_more : {X : Type 0} (f : ℕ → List X) (a n m j : ℕ) → a + n ≡ j → m ≡ n + 1
    → flat_map f (range_with_len a m) ≡ flat_map f (range_with_len a n) ++ f j
flat_map-range_more f a n m j e more =
    ap (flat_map f) (range_more a n m j e more) ∙ flat_map-append f (range_with_len a n) (j ∷ [])
    ∙ ap (λ xs. flat_map f (range_with_len a n) ++ xs) (append-nil (f j))

-- a list that grows after its start by one more
pub grown : {X : Type 0} (new old start front whole : List X) (x y : X) → new ≡ old ++ x ∷ [] → old ≡ start ++ front
    → x ≡ y → whole ≡ front ++ y ∷ []
    → new ≡ start ++ whole
grown new old start front whole x y pushed so_far is ends =
    pushed ∙ ap (λ v. v ++ x ∷ []) so_far ∙ append_assoc start front (x ∷ [])
    ∙ ap (λ v. start ++ (front ++ v ∷ [])) is ∙ ap (λ v. start ++ v) (sym ends)

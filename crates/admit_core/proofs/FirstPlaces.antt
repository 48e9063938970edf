-- Where a number stands first in a list, and which stands last.
use Rattle.std.proofs.Common.{◌≡◌, ℕ, ◌<◌, suc, true, false, List, [], ◌∷◌, Some, length, get_or, position, refl, arith}
use Rattle.std.proofs.Common.{nat_eq}
use Prim.Native.Nat.{zero}
use Rattle.std.specs.List.{AllByRecursion, list_any}
use Rattle.std.proofs.lemmas.Bool.Decides.{nat_tests}
use Rattle.std.proofs.lemmas.List.Quantifiers.{position-Some}
use Rattle.admit_core.specs.Blocking.{last_of}

-- g stands at i, and not before
abbrev pub IsAt : ℕ → List ℕ → ℕ → Type 0
IsAt g [] i = ⊥
IsAt g (k ∷ ks) zero = nat_eq g k ≡ true
IsAt g (k ∷ ks) (suc i) = (nat_eq g k ≡ false) × IsAt g ks i

at_from : (g : ℕ) (ks : List ℕ) (i : ℕ) → i < length ks → nat_eq g (get_or ks i 0) ≡ true
    → ((k : ℕ) → k < i → nat_eq g (get_or ks k 0) ≡ false) → IsAt g ks i
at_from g [] i lt at before = absurd (omega arith)
at_from g (k ∷ ks) zero lt at before = at
at_from g (k ∷ ks) (suc i) lt at before =
    (before 0 (omega arith), at_from g ks i (omega arith) at (λ j below. before (suc j) (omega arith)))

pub is_at : (g : ℕ) (ks : List ℕ) (i : ℕ) → position (nat_eq g) ks ≡ Some i → IsAt g ks i
is_at g ks i e = let p = position-Some (nat_eq g) ks i 0 e in at_from g ks i p.0 p.1 p.2

pub none_after : (g k : ℕ) (ks : List ℕ) → nat_eq g k ≡ true → AllByRecursion (λ y. nat_eq k y ≡ false) ks
    → list_any (nat_eq g) ks ≡ false
none_after g k [] e h = refl
none_after g k (y ∷ ys) e (here, rest) =
    let f : nat_eq g y ≡ false = grind (arith, nat_tests) in rw f (none_after g k ys e rest)

-- the last of a list stays so where one is put in front
pub last_more : (x : ℕ) (ys : List ℕ) (v : ℕ) → last_of ys ≡ Some v → last_of (x ∷ ys) ≡ Some v
last_more x [] v is = absurd (cc)
last_more x (y ∷ ys) v is = is

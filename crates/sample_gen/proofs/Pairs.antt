-- What holds of each element, and of each two, of lists that are made from other lists.
use Rattle.std.proofs.Common.{◌≡◌, ℕ, ◌+◌, ◌<◌, ◌≤◌, ◌*◌, suc, List, [], ◌∷◌, ◌++◌, length, get_or, map, sym, subst}
use Rattle.std.proofs.Common.{arith, length-append}
use Rattle.std.specs.List.{All, AllPairs, flat_map, range_with_len}
use Rattle.std.proofs.lemmas.List.Elements.{All-nil, All-head, All-tail, All-append, All-map}
use Rattle.std.proofs.lemmas.List.Kept.{AllPairs-cons}
use Rattle.std.proofs.lemmas.List.FromFn.{length-range_with_len, get_or-range_with_len}

pub All-range : (P : ℕ → Type 0) (a n : ℕ) → ((k : ℕ) → k < n → P (a + k)) → All P (range_with_len a n)
All-range P a n holds k d lt =
    let within : k < n = subst (λ m. k < m) (length-range_with_len a n) lt in
    subst P (sym (get_or-range_with_len a n k d within)) (holds k within)

pub All-flat_map : {X Y : Type 0} (P : Y → Type 0) (f : X → List Y) (xs : List X) → All (λ x. All P (f x)) xs
    → All P (flat_map f xs)
All-flat_map P f [] all = All-nil P
All-flat_map P f (x ∷ xs) all =
    All-append P (f x) (flat_map f xs) (All-head (λ y. All P (f y)) x xs all)
    (All-flat_map P f xs (All-tail (λ y. All P (f y)) x xs all))

pub length-flat_map-le : {X Y : Type 0} (f : X → List Y) (b : ℕ) (xs : List X) → All (λ x. length (f x) ≤ b) xs
    → length (flat_map f xs) ≤ b * length xs
length-flat_map-le f b [] all = omega arith
length-flat_map-le f b (x ∷ xs) all =
    let here : length (f x) ≤ b = All-head (λ y. length (f y) ≤ b) x xs all in
    let rest : length (flat_map f xs) ≤ b * length xs =
    length-flat_map-le f b xs (All-tail (λ y. length (f y) ≤ b) x xs all) in
    step (length (f x ++ flat_map f xs)) (length (f x)) (length (flat_map f xs)) b (length xs)
    (length-append (f x) (flat_map f xs)) here rest
  where
    step : (n p q b k : ℕ) → n ≡ p + q → p ≤ b → q ≤ b * k → n ≤ b * suc k
    step n p q b k e p_le q_le = omega arith

pub pairs_head : {X : Type 0} (R : X → X → Type 0) (x : X) (xs : List X) → AllPairs R (x ∷ xs) → All (R x) xs
pairs_head R x xs pairs k d lt = pairs 0 (suc k) d (omega arith) (omega arith)

pub pairs_tail : {X : Type 0} (R : X → X → Type 0) (x : X) (xs : List X) → AllPairs R (x ∷ xs) → AllPairs R xs
pairs_tail R x xs pairs i j d lt within = pairs (suc i) (suc j) d (omega arith) (omega arith)

pub AllPairs-nil : {X : Type 0} (R : X → X → Type 0) → AllPairs R []
AllPairs-nil R i j d lt within = absurd (omega arith)

pub AllPairs-append : {X : Type 0} (R : X → X → Type 0) (xs ys : List X) → AllPairs R xs → AllPairs R ys
    → All (λ x. All (R x) ys) xs → AllPairs R (xs ++ ys)
AllPairs-append R [] ys own others across = others
AllPairs-append R (x ∷ xs) ys own others across =
    AllPairs-cons R x (xs ++ ys) (All-append (R x) xs ys (pairs_head R x xs own)
    (All-head (λ z. All (R z) ys) x xs across))
    (AllPairs-append R xs ys (pairs_tail R x xs own) others (All-tail (λ z. All (R z) ys) x xs across))

pub AllPairs-map : {X Y : Type 0} (R : Y → Y → Type 0) (f : X → Y) (xs : List X) → AllPairs (λ x y. R (f x) (f y)) xs
    → AllPairs R (map f xs)
AllPairs-map R f [] pairs = AllPairs-nil R
AllPairs-map R f (x ∷ xs) pairs =
    AllPairs-cons R (f x) (map f xs) (All-map (R (f x)) f xs (pairs_head (λ a b. R (f a) (f b)) x xs pairs))
    (AllPairs-map R f xs (pairs_tail (λ a b. R (f a) (f b)) x xs pairs))

pub AllPairs-range : (R : ℕ → ℕ → Type 0) (a n : ℕ) → ((i j : ℕ) → i < j → j < n → R (a + i) (a + j))
    → AllPairs R (range_with_len a n)
AllPairs-range R a n holds i j d lt within =
    let j_lt : j < n = subst (λ m. j < m) (length-range_with_len a n) within in
    let i_lt : i < n = omega arith in
    subst (λ x. R x (get_or (range_with_len a n) j d)) (sym (get_or-range_with_len a n i d i_lt))
    (subst (λ y. R (a + i) y) (sym (get_or-range_with_len a n j d j_lt)) (holds i j lt j_lt))

pub AllPairs-flat_map : {X Y : Type 0} (R : Y → Y → Type 0) (f : X → List Y) (xs : List X)
    → All (λ x. AllPairs R (f x)) xs
    → AllPairs (λ x y. All (λ a. All (R a) (f y)) (f x)) xs → AllPairs R (flat_map f xs)
AllPairs-flat_map R f [] own across = AllPairs-nil R
AllPairs-flat_map R f (x ∷ xs) own across =
    AllPairs-append R (f x) (flat_map f xs) (All-head (λ y. AllPairs R (f y)) x xs own)
    (AllPairs-flat_map R f xs (All-tail (λ y. AllPairs R (f y)) x xs own)
    (pairs_tail (λ y z. All (λ a. All (R a) (f z)) (f y)) x xs across))
    (λ k d lt. All-flat_map (R (get_or (f x) k d)) f xs
    (λ j y within. pairs_head (λ y z. All (λ a. All (R a) (f z)) (f y)) x xs across j y within k d lt))

-- what follows of two elements, in their order, from what holds of each and of both
pub AllPairs-from : {X : Type 0} (P : X → Type 0) (R S : X → X → Type 0) (xs : List X)
    → ((x y : X) → P x → P y → R x y → S x y)
    → All P xs → AllPairs R xs → AllPairs S xs
AllPairs-from P R S xs gives all pairs i j d lt within =
    gives (get_or xs i d) (get_or xs j d) (all i d (omega arith)) (all j d within) (pairs i j d lt within)

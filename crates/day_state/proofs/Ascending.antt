-- Rising numbers.
use Rattle.std.proofs.Common.{ℕ, suc, ◌+◌, ◌≤◌, ◌<◌, ◌≡◌, List, [], ◌∷◌, length, get_or, ap, inl, inr, arith}
use Rattle.std.proofs.lemmas.Bool.{cases_lt}
use Rattle.std.specs.List.{range_with_len, AllByRecursion}
use Rattle.std.specs.List.Sorted.{IsStrictlyIncreasing}
use Rattle.std.proofs.lemmas.List.FromFn.{get_or-range_with_len, length-range_with_len}
use Rattle.std.proofs.lemmas.List.Kept.{AllPairs-from_increasing}
use Rattle.admit_core.proofs.Tests.{Ascends}

-- rising numbers, by recursion
above_all : (n : ℕ) (ns : List ℕ) → ((i : ℕ) → i < length ns → n < get_or ns i 0) → AllByRecursion (λ m. n < m) ns
above_all n [] above = tt
above_all n (m ∷ ms) above = (above 0 (omega arith), above_all n ms (λ i lt. above (suc i) (omega arith)))

ascends : (ns : List ℕ) → ((i j : ℕ) → i < j → j < length ns → get_or ns i 0 < get_or ns j 0) → Ascends ns
ascends [] rises = tt
ascends (n ∷ ns) rises = (
  above_all n ns (λ i lt. rises 0 (suc i) (omega arith) (omega arith)),
  ascends ns
      (λ i j lt within. rises (suc i) (suc j) (omega arith) (omega arith)),
)

pub ascends_from : (ns : List ℕ) → IsStrictlyIncreasing ns → Ascends ns
ascends_from ns rises = ascends ns (λ i j lt within. AllPairs-from_increasing ns rises i j 0 lt within)

pub no_fall : (ns : List ℕ) → IsStrictlyIncreasing ns → (i j : ℕ) → i ≤ j → j < length ns
    → get_or ns i 0 ≤ get_or ns j 0
no_fall ns rises i j le lt =
    elim (cases_lt i j) [
      | inl before ↦ omega (arith, AllPairs-from_increasing ns rises i j 0 before lt)
      | inr behind ↦
          let same : i ≡ j = omega (arith, le, behind) in
          omega (arith, ap (λ (k : ℕ). get_or ns k 0) same)
    ]

pub range_rises : (a n : ℕ) → IsStrictlyIncreasing (range_with_len a n)
range_rises a n k lt =
    let long = length-range_with_len a n in
    let here : get_or (range_with_len a n) k 0 ≡ a + k = get_or-range_with_len a n k 0 (omega (arith, lt, long)) in
    let next : get_or (range_with_len a n) (k + 1) 0 ≡ a + (k + 1) =
    get_or-range_with_len a n (k + 1) 0 (omega (arith, lt, long)) in
    rw (here, next) (omega arith)

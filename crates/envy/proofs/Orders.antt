-- Who stands behind whom in a call order.
use Rattle.std.proofs.Common.{ℕ, ◌+◌, ◌≤◌, ◌<◌, ◌≡◌, true, List, length, drop, inl, inr, refl, sym, ◌∙◌, ap, arith}
use Rattle.std.proofs.Common.{nat_eq, get_or}
use Rattle.std.specs.List.{IsDistinct, position_or_len}
use Rattle.std.proofs.lemmas.Bool.{cases_lt, eqb-true, eq-eqb, false≢true}
use Rattle.std.proofs.lemmas.List.{get_or-drop, get_or_default, length-drop}
use Rattle.std.proofs.lemmas.List.Sums.{passes_at_first}
use Rattle.std.proofs.lemmas.Map.Keys.{apart_from_distinct}
use Rattle.admit_core.proofs.Counting.{first_at_most}

-- in an order without repeats who stands at a place stands first there
pub first_there : (xs : List ℕ) → IsDistinct nat_eq xs → (k : ℕ) → k < length xs
    → position_or_len (nat_eq (get_or xs k 0)) xs ≡ k
first_there xs apart k lt =
    let c = get_or xs k 0 in
    let n = position_or_len (nat_eq c) xs in
    let le : n ≤ k = first_at_most c xs k refl in
    elim (cases_lt n k) [
      | inl below ↦
          let here : nat_eq c (get_or xs n 0) ≡ true = passes_at_first (nat_eq c) xs 0 (omega (arith, below, lt)) in
          let same : nat_eq (get_or xs n 0) c ≡ true =
          eq-eqb (get_or xs n 0) c (sym (eqb-true c (get_or xs n 0) here)) in
          absurd (false≢true (sym (apart_from_distinct nat_eq xs n k 0 apart below lt) ∙ same))
      | inr above ↦ omega (arith, le, above)
    ]

-- one who stands behind another has a later place
pub record IsBehind (xs : List ℕ) (n : ℕ) (c : ℕ) : Type 0 where
  pub place : ℕ
  pub within : place < length xs
  pub later : n < place
  pub is_there : get_or xs place 0 ≡ c
  pub first : position_or_len (nat_eq c) xs ≡ place

pub behind_at : (xs : List ℕ) → IsDistinct nat_eq xs → (n j d : ℕ) → j < length (drop (n + 1) xs)
    → IsBehind xs n (get_or (drop (n + 1) xs) j d)
behind_at xs apart n j d lt =
    let within : n + 1 + j < length xs = omega (arith, lt, length-drop (n + 1) xs) in
    let there : get_or (drop (n + 1) xs) j d ≡ get_or xs (n + 1 + j) 0 = get_or-drop (n + 1) xs j d
    ∙ get_or_default xs (n + 1 + j) d 0 within in
    record {
      place = n + 1 + j;
      within = within;
      later = omega arith;
      is_there = sym there;
      first = ap (λ (c : ℕ). position_or_len (nat_eq c) xs) there ∙ first_there xs apart (n + 1 + j) within;
    }

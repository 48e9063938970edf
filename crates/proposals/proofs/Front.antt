-- The prefix of a call order before a candidate.
use Rattle.std.proofs.Common.{ℕ, zero, suc, ◌+◌, ◌≤◌, ◌<◌, ◌≡◌, Bool, false, cond, ◌||◌, List, [], ◌∷◌, ◌++◌, length}
use Rattle.std.proofs.Common.{take, get_or, inl, inr, refl, sym, ◌∙◌, ap, arith, nat_eq, filter, count_by}
use Rattle.std.specs.List.{before_first}
use Rattle.std.proofs.lemmas.Bool.{cases_Bool, eq-eqb, or_parts}
use Rattle.std.proofs.lemmas.List.{take_more}
use Rattle.std.proofs.lemmas.List.Folds.{list_any-append}
use Rattle.std.proofs.lemmas.List.Sums.{length-filter}
use Rattle.std.specs.List as std_list
use Rattle.admit_core.proofs.Plain.{or_last}
use Rattle.admit_core.specs.Lists.{is_among}

-- the prefix of a list before the first place of a number
abbrev pub up_to : ℕ → List ℕ → List ℕ
up_to c [] = []
up_to c (x ∷ xs) = cond (nat_eq c x) [] (x ∷ up_to c xs)

pub before_is : (c : ℕ) (xs : List ℕ) → before_first (nat_eq c) xs ≡ up_to c xs
before_is c [] = refl
before_is c (x ∷ xs) =
    elim (cases_Bool (nat_eq c x)) [
      | inl here ↦ rw here refl
      | inr other ↦
          let one : 1 + std_list.position_or_len (nat_eq c) xs ≡ suc (std_list.position_or_len (nat_eq c) xs) =
          omega arith in
          rw (other, one) (ap (λ (ys : List ℕ). x ∷ ys) (before_is c xs))
    ]

same_up_to : (c : ℕ) (xs : List ℕ) (i : ℕ) → i < length xs → get_or xs i 0 ≡ c → is_among c (take i xs) ≡ false
    → up_to c xs ≡ take i xs
same_up_to c [] i lt at none = absurd (omega arith)
same_up_to c (x ∷ xs) zero lt at none = rw (eq-eqb c x (sym at)) refl
same_up_to c (x ∷ xs) (suc i) lt at none =
    let parts = or_parts (nat_eq c x) (is_among c (take i xs)) none in
    rw parts.0 (ap (λ (ys : List ℕ). x ∷ ys) (same_up_to c xs i (omega arith) at parts.1))

short_up_to : (c : ℕ) (xs : List ℕ) (i : ℕ) → i < length xs → get_or xs i 0 ≡ c → length (up_to c xs) ≤ i
short_up_to c [] i lt at = absurd (omega arith)
short_up_to c (x ∷ xs) zero lt at = rw (eq-eqb c x (sym at)) (omega arith)
short_up_to c (x ∷ xs) (suc i) lt at =
    let later = short_up_to c xs i (omega arith) at in
    elim (cases_Bool (nat_eq c x)) [ inl here ↦ rw here (omega arith) | inr other ↦ rw other (omega (arith, later)) ]

fewer_up_to : (q : ℕ → Bool) (c : ℕ) (xs : List ℕ) (i : ℕ) → i < length xs → get_or xs i 0 ≡ c
    → length (filter q (up_to c xs)) ≤ length (filter q (take i xs))
fewer_up_to q c [] i lt at = absurd (omega arith)
fewer_up_to q c (x ∷ xs) zero lt at = rw (eq-eqb c x (sym at)) (omega arith)
fewer_up_to q c (x ∷ xs) (suc i) lt at =
    let later = fewer_up_to q c xs i (omega arith) at in
    elim (cases_Bool (nat_eq c x)) [
      | inl here ↦ rw here (omega arith)
      | inr other ↦ rw other
          (elim (cases_Bool (q x)) [ inl passes ↦ rw passes (omega (arith, later)) | inr fails ↦ rw fails later ])
    ]

-- the prefix before a candidate's first place is no longer than that before one of their places, and no more in it pass
-- a test
pub front_short : (c : ℕ) (xs : List ℕ) (i : ℕ) → i < length xs → get_or xs i 0 ≡ c
    → length (before_first (nat_eq c) xs) ≤ i
front_short c xs i lt at = rw (before_is c xs) (short_up_to c xs i lt at)

pub front_fewer : (q : ℕ → Bool) (c : ℕ) (xs : List ℕ) (i : ℕ) → i < length xs → get_or xs i 0 ≡ c
    → count_by q (before_first (nat_eq c) xs) ≤ count_by q (take i xs)
front_fewer q c xs i lt at =
    rw (before_is c xs)
    (omega (arith, fewer_up_to q c xs i lt at, length-filter q (up_to c xs), length-filter q (take i xs)))

-- and where it is their first place, the two are the same
pub front_same : (c : ℕ) (xs : List ℕ) (i : ℕ) → i < length xs → get_or xs i 0 ≡ c → is_among c (take i xs) ≡ false
    → before_first (nat_eq c) xs ≡ take i xs
front_same c xs i lt at none = before_is c xs ∙ same_up_to c xs i lt at none

-- who is among one more
pub among_more : (n : ℕ) (xs : List ℕ) (i : ℕ) → i < length xs
    → is_among n (take (i + 1) xs) ≡ (is_among n (take i xs) || nat_eq n (get_or xs i 0))
among_more n xs i lt =
    rw (take_more xs i 0 lt)
    (list_any-append (nat_eq n) (take i xs) (get_or xs i 0 ∷ [])
    ∙ or_last (is_among n (take i xs)) (nat_eq n (get_or xs i 0)))

count_step : (q : ℕ → Bool) (xs : List ℕ) (x : ℕ)
    → length (filter q (xs ++ x ∷ [])) ≡ length (filter q xs) + cond (q x) 1 0
count_step q [] x = elim (cases_Bool (q x)) [ inl passes ↦ rw passes refl | inr fails ↦ rw fails refl ]
count_step q (y ∷ ys) x =
    let later = count_step q ys x in
    elim (cases_Bool (q y)) [ inl passes ↦ rw passes (omega (arith, later)) | inr fails ↦ rw fails later ]

-- how many pass a test among one more
pub count_more : (q : ℕ → Bool) (xs : List ℕ) (i : ℕ) → i < length xs
    → count_by q (take (i + 1) xs) ≡ count_by q (take i xs) + cond (q (get_or xs i 0)) 1 0
count_more q xs i lt =
    rw (take_more xs i 0 lt)
    (omega (
      arith,
      count_step q (take i xs) (get_or xs i 0),
      length-filter q (take i xs ++ get_or xs i 0 ∷ []),
      length-filter q (take i xs),
    ))

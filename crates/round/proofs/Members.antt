-- Lists of numbers of which none stands twice.
use Rattle.std.proofs.Common.{ℕ, ◌≡◌, Bool, true, false, List, [], ◌∷◌, inl, inr, ◌∙◌, nat_eq, filter}
use Rattle.std.specs.List.{IsDistinct, AllByRecursion}
use Rattle.std.proofs.lemmas.Bool.{cases_Bool, eqb-true, or_cases, or_left, or_right, or_parts}
use Rattle.std.proofs.lemmas.Map.Keys.{IsDistinct-cons}
use Rattle.admit_core.proofs.Holders.{among_distinct}
use Rattle.admit_core.specs.Lists.{is_among, distinct}

pub among_filtered : (p : ℕ → Bool) (c : ℕ) (ns : List ℕ) → is_among c (filter p ns) ≡ true
    → (is_among c ns ≡ true) × (p c ≡ true)
among_filtered p c [] among = (among, absurd (cc))
among_filtered p c (n ∷ ns) among =
    elim (cases_Bool (p n)) [
      | inl kept ↦ elim (or_cases (nat_eq c n) (is_among c (filter p ns)) (rw kept at among)) [
        | inl here ↦ (or_left (nat_eq c n) (is_among c ns) here, rw (eqb-true c n here) kept)
        | inr later ↦ let rest = among_filtered p c ns later in (or_right (nat_eq c n) (is_among c ns) rest.0, rest.1)
      ]
      | inr dropped ↦ let rest = among_filtered p c ns (rw dropped at among) in
          (or_right (nat_eq c n) (is_among c ns) rest.0, rest.1)
    ]

-- what is not among a list differs from each of it
all_differ : (n : ℕ) (ns : List ℕ) → is_among n ns ≡ false → AllByRecursion (λ m. nat_eq n m ≡ false) ns
all_differ n [] none = tt
all_differ n (m ∷ ms) none = let parts = or_parts (nat_eq n m) (is_among n ms) none in
    (parts.0, all_differ n ms parts.1)

pub none_twice : IsDistinct nat_eq []
unfolding IsDistinct
none_twice = tt

pub distinct_once : (ns : List ℕ) → IsDistinct nat_eq (distinct ns)
distinct_once [] = none_twice
distinct_once (n ∷ ns) =
    let rest = distinct_once ns in
    elim (cases_Bool (is_among n ns)) [
      | inl again ↦ rw again rest
      | inr new ↦ rw new (IsDistinct-cons nat_eq n (distinct ns)
          (all_differ n (distinct ns) (among_distinct n ns ∙ new)) rest)
    ]

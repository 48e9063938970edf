-- Lists of rungs: which ranks they know, and which of them have a bed.
use Rattle.std.proofs.Common.{ℕ, suc, ◌+◌, ◌-◌, ◌≤◌, ◌<◌, ◌≡◌, Bool, true, false, ◌&&◌, ◌||◌, List, [], ◌∷◌}
use Rattle.std.proofs.Common.{◌++◌}
use Rattle.std.proofs.Common.{length, inl, inr, refl, sym, ◌∙◌, ap, arith, nat_eq, nat_lt}
use Rattle.std.proofs.Common.{unwrap_or, option_map}
use Rattle.std.specs.Prelude.{slice_get}
use Rattle.std.specs.List.{AllByRecursion}
use Rattle.std.proofs.lemmas.Bool.{cases_Bool, false≢true, or_cases, or_parts, or_left, or_right, and_right, eqb-true}
use Rattle.std.proofs.lemmas.Bool.{eq-eqb, false_from_ne_true, lt-ltb}
use Rattle.std.proofs.lemmas.Bool.{le-ltb}
use Rattle.admit_core.specs.Lists.{is_among}
use Rattle.admit_core.proofs.Plain.{or_false, or_true}
use Rattle.admit_core.proofs.Tests.{Ascends}
use Rattle.linked_demand.specs.Rungs.{Rung, housed_in}
use Rattle.linked_demand.specs.Housed.{ranks_of, kept, noted, last_rank}

-- a number among those above another is above it
pub among_above : (n r : ℕ) (ns : List ℕ) → AllByRecursion (λ m. n < m) ns → is_among r ns ≡ true → n < r
among_above n r [] all t = absurd (false≢true t)
among_above n r (m ∷ ms) all t =
    elim (or_cases (nat_eq r m) (is_among r ms) t) [
      | inl here ↦ omega (arith, eqb-true r m here, all.0)
      | inr later ↦ among_above n r ms all.1 later
    ]

-- the first rank is known
first_known : (x : Rung) (xs : List Rung) → is_among x.rank (ranks_of (x ∷ xs)) ≡ true
first_known x xs = or_left (nat_eq x.rank x.rank) (is_among x.rank (ranks_of xs)) (eq-eqb x.rank x.rank refl)

-- a rank that has a bed is known
pub housed_known : (r : ℕ) (xs : List Rung) → is_among r (housed_in xs) ≡ true → is_among r (ranks_of xs) ≡ true
housed_known r [] t = t
housed_known r (x ∷ xs) t =
    elim (cases_Bool x.housed) [
      | inl has ↦ elim (or_cases (nat_eq r x.rank) (is_among r (housed_in xs)) (rw has at t)) [
        | inl here ↦ or_left (nat_eq r x.rank) (is_among r (ranks_of xs)) here
        | inr later ↦ or_right (nat_eq r x.rank) (is_among r (ranks_of xs)) (housed_known r xs later)
      ]
      | inr none ↦ or_right (nat_eq r x.rank) (is_among r (ranks_of xs)) (housed_known r xs (rw none at t))
    ]

above_housed : (n : ℕ) (xs : List Rung) → AllByRecursion (λ m. n < m) (ranks_of xs)
    → AllByRecursion (λ m. n < m) (housed_in xs)
above_housed n [] all = tt
above_housed n (x ∷ xs) all =
    elim (cases_Bool x.housed) [
      | inl has ↦ rw has (all.0, above_housed n xs all.1)
      | inr none ↦ rw none (above_housed n xs all.1)
    ]

-- the ranks that have a bed rise
pub ascends_housed : (xs : List Rung) → Ascends (ranks_of xs) → Ascends (housed_in xs)
ascends_housed [] rises = tt
ascends_housed (x ∷ xs) rises =
    elim (cases_Bool x.housed) [
      | inl has ↦ rw has (above_housed x.rank xs rises.0, ascends_housed xs rises.1)
      | inr none ↦ rw none (ascends_housed xs rises.1)
    ]

module _ (q : ℕ → Bool) where
  above_kept : (n : ℕ) (xs : List Rung) → AllByRecursion (λ m. n < m) (ranks_of xs)
      → AllByRecursion (λ m. n < m) (ranks_of (kept q xs))
  above_kept n [] all = tt
  above_kept n (x ∷ xs) all =
      elim (cases_Bool (q x.rank)) [
        | inl stays ↦ rw stays (all.0, above_kept n xs all.1)
        | inr goes ↦ rw goes (above_kept n xs all.1)
      ]

  ascends_kept : (xs : List Rung) → Ascends (ranks_of xs) → Ascends (ranks_of (kept q xs))
  ascends_kept [] rises = tt
  ascends_kept (x ∷ xs) rises =
      elim (cases_Bool (q x.rank)) [
        | inl stays ↦ rw stays (above_kept x.rank xs rises.0, ascends_kept xs rises.1)
        | inr goes ↦ rw goes (ascends_kept xs rises.1)
      ]

  -- the ranks that are kept rise
  pub rises_kept : (xs : List Rung) → Ascends (0 ∷ ranks_of xs) → Ascends (0 ∷ ranks_of (kept q xs))
  rises_kept xs rises = (above_kept 0 xs rises.0, ascends_kept xs rises.1)

  step_kept : (r n : ℕ) (ns ms : List ℕ) → is_among r ms ≡ (is_among r ns && q r) → q n ≡ true
      → (nat_eq r n || is_among r ms) ≡ ((nat_eq r n || is_among r ns) && q r)
  step_kept r n ns ms rest stays =
      elim (cases_Bool (nat_eq r n)) [
        | inl here ↦ rw here (sym (ap q (eqb-true r n here) ∙ stays))
        | inr other ↦ rw other rest
      ]

  step_left : (r n : ℕ) (ns ms : List ℕ) → is_among r ms ≡ (is_among r ns && q r) → q n ≡ false
      → is_among r ms ≡ ((nat_eq r n || is_among r ns) && q r)
  step_left r n ns ms rest goes =
      elim (cases_Bool (nat_eq r n)) [
        | inl here ↦
            let none : q r ≡ false = ap q (eqb-true r n here) ∙ goes in
            rest ∙ and_right (is_among r ns) (q r) none ∙ sym (and_right (nat_eq r n || is_among r ns) (q r) none)
        | inr other ↦ rw other rest
      ]

  pub ranks_kept : (r : ℕ) (xs : List Rung) → is_among r (ranks_of (kept q xs)) ≡ (is_among r (ranks_of xs) && q r)
  ranks_kept r [] = refl
  ranks_kept r (x ∷ xs) =
      elim (cases_Bool (q x.rank)) [
        | inl stays ↦ rw stays (step_kept r x.rank (ranks_of xs) (ranks_of (kept q xs)) (ranks_kept r xs) stays)
        | inr goes ↦ rw goes (step_left r x.rank (ranks_of xs) (ranks_of (kept q xs)) (ranks_kept r xs) goes)
      ]

  pub housed_kept : (r : ℕ) (xs : List Rung)
      → is_among r (housed_in (kept q xs)) ≡ (is_among r (housed_in xs) && q r)
  housed_kept r [] = refl
  housed_kept r (x ∷ xs) =
      let rest = housed_kept r xs in
      elim (cases_Bool (q x.rank)) [
        | inl stays ↦ elim (cases_Bool x.housed) [
          | inl has ↦ rw (stays, has) (step_kept r x.rank (housed_in xs) (housed_in (kept q xs)) rest stays)
          | inr none ↦ rw (stays, none) rest
        ]
        | inr goes ↦ elim (cases_Bool x.housed) [
          | inl has ↦ rw (goes, has) (step_left r x.rank (housed_in xs) (housed_in (kept q xs)) rest goes)
          | inr none ↦ rw (goes, none) rest
        ]
      ]

  pub few_kept : (xs : List Rung) → length (housed_in (kept q xs)) ≤ length (housed_in xs)
  few_kept [] = omega arith
  few_kept (x ∷ xs) =
      let rest = few_kept xs in
      elim (cases_Bool (q x.rank)) [
        | inl stays ↦ elim (cases_Bool x.housed) [
          | inl has ↦ rw (stays, has) (omega (arith, rest))
          | inr none ↦ rw (stays, none) rest
        ]
        | inr goes ↦ elim (cases_Bool x.housed) [
          | inl has ↦ rw (goes, has) (omega (arith, rest))
          | inr none ↦ rw (goes, none) rest
        ]
      ]

  -- all are kept
  pub kept_all : (xs : List Rung) → ((r : ℕ) → is_among r (ranks_of xs) ≡ true → q r ≡ true) → kept q xs ≡ xs
  kept_all [] each = refl
  kept_all (x ∷ xs) each =
      rw (each x.rank (first_known x xs))
      (ap (λ (ys : List Rung). x ∷ ys)
      (kept_all xs (λ r t. each r (or_right (nat_eq r x.rank) (is_among r (ranks_of xs)) t))))

  pub kept_push : (xs : List Rung) (x : Rung) → q x.rank ≡ false → kept q (xs ++ x ∷ []) ≡ kept q xs
  kept_push [] x goes = rw goes refl
  kept_push (y ∷ xs) x goes =
      elim (cases_Bool (q y.rank)) [
        | inl stays ↦ rw stays (ap (λ (ys : List Rung). y ∷ ys) (kept_push xs x goes))
        | inr left ↦ rw left (kept_push xs x goes)
      ]

-- one rung more
pub housed_push : (xs : List Rung) (x : Rung) → x.housed ≡ true → housed_in (xs ++ x ∷ []) ≡ housed_in xs ++ x.rank ∷ []
housed_push [] x has = rw has refl
housed_push (y ∷ xs) x has =
    elim (cases_Bool y.housed) [
      | inl also ↦ rw also (ap (λ (ns : List ℕ). y.rank ∷ ns) (housed_push xs x has))
      | inr none ↦ rw none (housed_push xs x has)
    ]

pub housed_same : (xs : List Rung) (x : Rung) → x.housed ≡ false → housed_in (xs ++ x ∷ []) ≡ housed_in xs
housed_same [] x has = rw has refl
housed_same (y ∷ xs) x has =
    elim (cases_Bool y.housed) [
      | inl also ↦ rw also (ap (λ (ns : List ℕ). y.rank ∷ ns) (housed_same xs x has))
      | inr none ↦ rw none (housed_same xs x has)
    ]

above_mid : (n : ℕ) (xs : List Rung) (x : Rung) (rest : List Rung)
    → AllByRecursion (λ m. n < m) (ranks_of (xs ++ x ∷ rest)) → n < x.rank
above_mid n [] x rest all = all.0
above_mid n (y ∷ xs) x rest all = above_mid n xs x rest all.1

kept_none : (n m : ℕ) (xs : List Rung) → m ≤ n → AllByRecursion (λ k. n < k) (ranks_of xs)
    → kept (λ r. nat_lt r m) xs ≡ []
kept_none n m [] le all = refl
kept_none n m (x ∷ xs) le all =
    rw (le-ltb x.rank m (omega (arith, le, all.0))) (kept_none n m xs le all.1)

-- the rungs before one are those below it
pub kept_seam : (xs : List Rung) (x : Rung) (rest : List Rung) → Ascends (ranks_of (xs ++ x ∷ rest))
    → xs ≡ kept (λ r. nat_lt r x.rank) (xs ++ x ∷ rest)
kept_seam [] x rest rises =
    rw (le-ltb x.rank x.rank (omega arith)) (sym (kept_none x.rank x.rank rest (omega arith) rises.0))
kept_seam (y ∷ xs) x rest rises =
    rw (lt-ltb y.rank x.rank (above_mid y.rank xs x rest rises.0))
    (ap (λ (ys : List Rung). y ∷ ys) (kept_seam xs x rest rises.1))

pub housed_append : (xs ys : List Rung) → housed_in (xs ++ ys) ≡ housed_in xs ++ housed_in ys
housed_append [] ys = refl
housed_append (x ∷ xs) ys =
    elim (cases_Bool x.housed) [
      | inl has ↦ rw has (ap (λ (ns : List ℕ). x.rank ∷ ns) (housed_append xs ys))
      | inr none ↦ rw none (housed_append xs ys)
    ]

pub last_more : (x : Rung) (xs : List Rung) (n : ℕ) → length xs ≡ suc n → last_rank (x ∷ xs) ≡ last_rank xs
last_more x xs n is =
    let here : length (x ∷ xs) - 1 ≡ suc n = omega (arith, is) in
    let there : length xs - 1 ≡ n = omega (arith, is) in
    ap (λ k. unwrap_or (option_map (λ (y : Rung). y.rank) (slice_get (x ∷ xs) k)) 0) here
    ∙ sym (ap (λ k. unwrap_or (option_map (λ (y : Rung). y.rank) (slice_get xs k)) 0) there)

-- a known rank is at most the last one
pub last_most : (xs : List Rung) (r : ℕ) → Ascends (ranks_of xs) → is_among r (ranks_of xs) ≡ true → r ≤ last_rank xs
last_most [] r rises t = absurd (false≢true t)
last_most (x ∷ []) r rises t =
    elim (or_cases (nat_eq r x.rank) false t) [
      | inl here ↦ omega (arith, eqb-true r x.rank here)
      | inr later ↦ absurd (false≢true later)
    ]
last_most (x ∷ y ∷ ys) r rises t =
    let same : last_rank (x ∷ y ∷ ys) ≡ last_rank (y ∷ ys) = last_more x (y ∷ ys) (length ys) refl in
    let low : x.rank < y.rank = rises.0.0 in
    let high : y.rank ≤ last_rank (y ∷ ys) = last_most (y ∷ ys) y.rank rises.1 (first_known y ys) in
    elim (or_cases (nat_eq r x.rank) (is_among r (ranks_of (y ∷ ys))) t) [
      | inl here ↦ omega (arith, eqb-true r x.rank here, low, high, same)
      | inr later ↦ omega (arith, same, last_most (y ∷ ys) r rises.1 later)
    ]

-- the last one is known
pub last_known : (xs : List Rung) → 0 < last_rank xs → is_among (last_rank xs) (ranks_of xs) ≡ true
last_known [] some = absurd (omega (arith, some))
last_known (x ∷ []) some = first_known x []
last_known (x ∷ y ∷ ys) some =
    let same : last_rank (x ∷ y ∷ ys) ≡ last_rank (y ∷ ys) = last_more x (y ∷ ys) (length ys) refl in
    ap (λ n. is_among n (ranks_of (x ∷ y ∷ ys))) same
    ∙ or_right (nat_eq (last_rank (y ∷ ys)) x.rank) (is_among (last_rank (y ∷ ys)) (ranks_of (y ∷ ys)))
    (last_known (y ∷ ys) (omega (arith, some, same)))

-- a rank that is not known is not noted
pub noted_none : (r : ℕ) (xs : List Rung) → is_among r (ranks_of xs) ≡ false → noted r xs ≡ xs
noted_none r [] none = refl
noted_none r (x ∷ xs) none =
    let parts = or_parts (nat_eq r x.rank) (is_among r (ranks_of xs)) none in
    let same : (x.housed || nat_eq r x.rank) ≡ x.housed =
    ap (λ b. x.housed || b) parts.0 ∙ or_false x.housed in
    ap (λ b. let y : Rung = record x { housed = b } in y ∷ noted r xs) same
    ∙ ap (λ (ys : List Rung). x ∷ ys) (noted_none r xs parts.1)

pub ranks_noted : (r : ℕ) (xs : List Rung) → ranks_of (noted r xs) ≡ ranks_of xs
ranks_noted r [] = refl
ranks_noted r (x ∷ xs) = ap (λ (ns : List ℕ). x.rank ∷ ns) (ranks_noted r xs)

-- a noted rank has a bed
pub housed_noted : (q r : ℕ) (xs : List Rung)
    → is_among q (housed_in (noted r xs)) ≡ (is_among q (housed_in xs) || (nat_eq q r && is_among q (ranks_of xs)))
housed_noted q r [] = sym (and_right (nat_eq q r) false refl)
housed_noted q r (x ∷ xs) =
    let rest = housed_noted q r xs in
    let own = is_among q (housed_in xs) in
    elim (cases_Bool x.housed) [
      | inl has ↦ rw has (elim (cases_Bool (nat_eq q x.rank)) [
        | inl here ↦ rw here refl
        | inr other ↦ rw other rest
      ])
      | inr none ↦ rw none (elim (cases_Bool (nat_eq r x.rank)) [
        | inl noted_here ↦
            let same : nat_eq q r ≡ nat_eq q x.rank = ap (nat_eq q) (eqb-true r x.rank noted_here) in
            rw noted_here (elim (cases_Bool (nat_eq q x.rank)) [
              | inl here ↦ rw (here, same ∙ here) (sym (or_true own))
              | inr other ↦ rw (other, same ∙ other) (rest ∙ ap (λ b. own || (b && is_among q (ranks_of xs)))
                  (same ∙ other))
            ])
        | inr passed ↦ rw passed (elim (cases_Bool (nat_eq q r)) [
          | inl same ↦
              let other : nat_eq q x.rank ≡ false = ap (λ n. nat_eq n x.rank) (eqb-true q r same) ∙ passed in
              rw (same, other) (rest ∙ ap (λ b. own || (b && is_among q (ranks_of xs))) same)
          | inr other ↦ rw other (rest ∙ ap (λ b. own || (b && is_among q (ranks_of xs))) other)
        ])
      ])
    ]

pub least_noted : (r : ℕ) (xs : List Rung) → length (housed_in xs) ≤ length (housed_in (noted r xs))
least_noted r [] = omega arith
least_noted r (x ∷ xs) =
    let rest = least_noted r xs in
    elim (cases_Bool x.housed) [
      | inl has ↦ rw has (omega (arith, rest))
      | inr none ↦ rw none (elim (cases_Bool (nat_eq r x.rank)) [
        | inl here ↦ rw here (omega (arith, rest))
        | inr other ↦ rw other rest
      ])
    ]

-- one rank more at most
pub most_noted : (r : ℕ) (xs : List Rung) → Ascends (ranks_of xs)
    → length (housed_in (noted r xs)) ≤ length (housed_in xs) + 1
most_noted r [] rises = omega arith
most_noted r (x ∷ xs) rises =
    elim (cases_Bool (nat_eq r x.rank)) [
      | inl here ↦
          let none : is_among r (ranks_of xs) ≡ false = false_from_ne_true (is_among r (ranks_of xs))
          (λ t. omega (arith, among_above x.rank r (ranks_of xs) rises.0 t, eqb-true r x.rank here)) in
          let same = ap (λ (ys : List Rung). length (housed_in ys)) (noted_none r xs none) in
          elim (cases_Bool x.housed) [
            | inl has ↦ rw has (omega (arith, same))
            | inr bare ↦ rw (bare, here) (omega (arith, same))
          ]
      | inr other ↦
          let rest = most_noted r xs rises.1 in
          elim (cases_Bool x.housed) [
            | inl has ↦ rw has (omega (arith, rest))
            | inr bare ↦ rw (bare, other) (omega (arith, rest))
          ]
    ]

above_push : (n : ℕ) (xs : List Rung) (x : Rung) → AllByRecursion (λ m. n < m) (ranks_of xs) → n < x.rank
    → AllByRecursion (λ m. n < m) (ranks_of (xs ++ x ∷ []))
above_push n [] x all lt = (lt, tt)
above_push n (y ∷ xs) x all lt = (all.0, above_push n xs x all.1 lt)

ascends_push : (xs : List Rung) (x : Rung) → Ascends (ranks_of xs)
    → ((r : ℕ) → is_among r (ranks_of xs) ≡ true → r < x.rank) → Ascends (ranks_of (xs ++ x ∷ []))
ascends_push [] x rises each = (tt, tt)
ascends_push (y ∷ xs) x rises each = (
  above_push y.rank xs x rises.0 (each y.rank (first_known y xs)),
  ascends_push xs x rises.1 (λ r t. each r (or_right (nat_eq r y.rank) (is_among r (ranks_of xs)) t)),
)

pub rises_push : (xs : List Rung) (x : Rung) → Ascends (0 ∷ ranks_of xs) → last_rank xs < x.rank
    → Ascends (0 ∷ ranks_of (xs ++ x ∷ []))
rises_push xs x rises lt = (
  above_push 0 xs x rises.0 (omega (arith, lt)),
  ascends_push xs x rises.1 (λ r t. omega (arith, lt, last_most xs r rises.1 t)),
)

pub among_push : (r : ℕ) (xs : List Rung) (x : Rung)
    → is_among r (ranks_of (xs ++ x ∷ [])) ≡ (is_among r (ranks_of xs) || nat_eq r x.rank)
among_push r [] x = or_false (nat_eq r x.rank)
among_push r (y ∷ xs) x =
    elim (cases_Bool (nat_eq r y.rank)) [
      | inl here ↦ rw here refl
      | inr other ↦ rw other (among_push r xs x)
    ]

-- The one with the least key of those that pass a test.
use Rattle.std.proofs.Common.{ℕ, zero, suc, ◌≤◌, ◌<◌, ◌≡◌, Bool, true, false, List, [], ◌∷◌, length, inl, inr, refl}
use Rattle.std.proofs.Common.{sym, ◌∙◌, subst, arith, filter, Option, Some, None, get_or}
use Rattle.std.specs.Prelude.{nat_le}
use Rattle.std.proofs.lemmas.Bool.{cases_Bool, false≢true, leb-true, leb-false}
use Rattle.admit_core.specs.Lists.{lesser, least_by}

-- where it stands, and that none that passes has a lesser key
pub record IsLeastOf {X : Type 0} (key : X → ℕ) (test : X → Bool) (xs : List X) (b : X) : Type 0 where
  pub place : ℕ
  pub within : place < length xs
  pub is_there : get_or xs place b ≡ b
  pub passes : test b ≡ true
  pub least : (j : ℕ) (d : X) → j < length xs → test (get_or xs j d) ≡ true → key b ≤ key (get_or xs j d)

module _ {X : Type 0} (key : X → ℕ) (test : X → Bool) where
  -- a first one that does not pass
  later : (x : X) (xs : List X) (b : X) → test x ≡ false → IsLeastOf key test xs b → IsLeastOf key test (x ∷ xs) b
  later x xs b fails is = record {
    place = suc is.place;
    within = omega (arith, is.within);
    is_there = is.is_there;
    passes = is.passes;
    least = λ j d lt t. on j d lt t;
  }
    where
      on : (j : ℕ) (d : X) → j < length (x ∷ xs) → test (get_or (x ∷ xs) j d) ≡ true → key b ≤ key (get_or (x ∷ xs) j d)
      on zero d lt t = absurd (false≢true (sym fails ∙ t))
      on (suc j) d lt t = is.least j d (omega arith) t

  -- a first one that passes, and has a greater key
  behind : (x : X) (xs : List X) (b : X) → key b < key x → IsLeastOf key test xs b → IsLeastOf key test (x ∷ xs) b
  behind x xs b lt is = record {
    place = suc is.place;
    within = omega (arith, is.within);
    is_there = is.is_there;
    passes = is.passes;
    least = on;
  }
    where
      on : (j : ℕ) (d : X) → j < length (x ∷ xs) → test (get_or (x ∷ xs) j d) ≡ true → key b ≤ key (get_or (x ∷ xs) j d)
      on zero d within t = omega (arith, lt)
      on (suc j) d within t = is.least j d (omega arith) t

  -- a first one that passes, and has no greater key than all that pass later
  before : (x : X) (xs : List X) → test x ≡ true → ((j : ℕ) (d : X) → j < length xs
      → test (get_or xs j d) ≡ true → key x ≤ key (get_or xs j d)) → IsLeastOf key test (x ∷ xs) x
  before x xs passes none = record {
    place = zero;
    within = omega arith;
    is_there = refl;
    passes = passes;
    least = on;
  }
    where
      on : (j : ℕ) (d : X) → j < length (x ∷ xs) → test (get_or (x ∷ xs) j d) ≡ true → key x ≤ key (get_or (x ∷ xs) j d)
      on zero d within t = omega arith
      on (suc j) d within t = none j d (omega arith) t

  no_first : (x : X) (xs : List X) → test x ≡ false → ((j : ℕ) (d : X) → j < length xs
      → test (get_or xs j d) ≡ true → ⊥) → (j : ℕ) (d : X) → j < length (x ∷ xs)
      → test (get_or (x ∷ xs) j d) ≡ true → ⊥
  no_first x xs fails rest zero d lt t = false≢true (sym fails ∙ t)
  no_first x xs fails rest (suc j) d lt t = rest j d (omega arith) t

  none_passes : (xs : List X) → least_by key (filter test xs) ≡ None → (j : ℕ) (d : X) → j < length xs
      → test (get_or xs j d) ≡ true → ⊥
  none_passes [] none j d lt t = omega arith
  none_passes (x ∷ xs) none j d lt t =
      elim (cases_Bool (test x)) [
        | inl passes ↦ absurd (cc (rw passes at none))
        | inr fails ↦ no_first x xs fails (none_passes xs (rw fails at none)) j d lt t
      ]

  chosen : (x : X) (xs : List X) (b : X) (o : Option X) → test x ≡ true
      → least_by key (filter test xs) ≡ o
      → ((y : X) → least_by key (filter test xs) ≡ Some y → IsLeastOf key test xs y)
      → lesser key x o ≡ b → IsLeastOf key test (x ∷ xs) b
  chosen x xs b None passes is found same =
      subst (IsLeastOf key test (x ∷ xs)) same (before x xs passes (λ j d lt t. absurd (none_passes xs is j d lt t)))
  chosen x xs b (Some y) passes is found same =
      let rest = found y is in
      elim (cases_Bool (nat_le (key x) (key y))) [
        | inl le ↦
            let here : x ≡ b = rw le at same in
            subst (IsLeastOf key test (x ∷ xs)) here
            (before x xs passes (λ j d lt t. let first = leb-true (key x) (key y) le in
            omega (arith, first, rest.least j d lt t)))
        | inr above ↦
            let here : y ≡ b = rw above at same in
            subst (IsLeastOf key test (x ∷ xs)) here (behind x xs y (leb-false (key x) (key y) above) rest)
      ]

  -- what has the least key of those that pass
  pub filtered_least : (xs : List X) (b : X) → least_by key (filter test xs) ≡ Some b → IsLeastOf key test xs b
  filtered_least [] b some = absurd (cc)
  filtered_least (x ∷ xs) b some =
      elim (cases_Bool (test x)) [
        | inl passes ↦ chosen x xs b (least_by key (filter test xs)) passes refl (filtered_least xs)
            (let e0 = rw passes at some in cc)
        | inr fails ↦ later x xs b fails (filtered_least xs b (rw fails at some))
      ]

  pub filtered_none : (xs : List X) → least_by key (filter test xs) ≡ None → (j : ℕ) (d : X)
      → j < length xs → test (get_or xs j d) ≡ true → ⊥
  filtered_none = none_passes

-- How a scan goes from one row to the next.
use Rattle.std.proofs.Common.{◌≡◌, ℕ, ◌+◌, ◌<◌, ◌≤◌, List, [], ◌∷◌, ◌++◌, length, suc, get_or, take, drop, Some, None}
use Rattle.std.proofs.Common.{refl, ap, ◌∙◌, arith, add-one, drop-cons}
use Rattle.std.proofs.lemmas.List.{length-take-le, take_more}
use Rattle.std.proofs.Math.ListN.{drop_of_length-le}
use Rattle.admit_core.specs.declared.slot.Slot.{Slot}
use Rattle.admit_core.specs.declared.refusal.Reason.{Reason}
use Rattle.admit_core.specs.Faults.{Test, first_reason, first_after}

-- what a row at place i means for the first fault
module _ {R : Type 0} (slot : Slot) (tests : List (Test R)) where
  pub after-row : (before : List R) (row : R) (rows : List R) → first_reason tests before row ≡ None
      → first_after slot tests before (row ∷ rows) ≡ first_after slot tests (before ++ row ∷ []) rows
  unfolding first_after
  after-row before row rows fine = rw fine refl

  pub at-row : (before : List R) (row : R) (rows : List R) (reason : Reason)
      → first_reason tests before row ≡ Some reason
      → first_after slot tests before (row ∷ rows)
      ≡ Some (record { slot = slot; row = length before + 2; reason = reason })
  unfolding first_after
  at-row before row rows reason stands = rw stands refl

  pub at-end : (before : List R) → first_after slot tests before [] ≡ None
  unfolding first_after
  at-end before = refl

  pub passed : (rows : List R) (i : ℕ) (row : R) → i < length rows
      → first_reason tests (take i rows) (get_or rows i row) ≡ None
      → first_after slot tests (take i rows) (drop i rows)
      ≡ first_after slot tests (take (i + 1) rows) (drop (i + 1) rows)
  passed rows i row lt fine =
      rw (drop-cons rows i row lt, take_more rows i row lt, add-one i)
      (after-row (take i rows) (get_or rows i row) (drop (suc i) rows) fine)

  pub found : (rows : List R) (i : ℕ) (row : R) (reason : Reason) → i < length rows
      → first_reason tests (take i rows) (get_or rows i row) ≡ Some reason
      → first_after slot tests (take i rows) (drop i rows) ≡ Some (record { slot = slot; row = i + 2; reason = reason })
  found rows i row reason lt stands =
      rw (drop-cons rows i row lt)
      (at-row (take i rows) (get_or rows i row) (drop (suc i) rows) reason stands
      ∙ ap (λ n. Some (record { slot = slot; row = n + 2; reason = reason })) (length-take-le i rows (omega arith)))

  pub ended : (rows : List R) (i : ℕ) → length rows ≤ i → first_after slot tests (take i rows) (drop i rows) ≡ None
  ended rows i le = rw (drop_of_length-le rows le) (at-end (take i rows))

-- What holds of rows at which no test stands.
use Rattle.std.proofs.Common.{◌≡◌, ℕ, ◌<◌, suc, Bool, true, false, List, ◌∷◌, [], ◌++◌, if◌then◌else◌, length, get_or}
use Rattle.std.proofs.Common.{take, option_map, Some, None, refl, sym, ◌∙◌, arith, true≢false, append_assoc, All}
use Rattle.std.proofs.Common.{AllPairs}
use Prim.Native.Nat.{zero}
use Rattle.std.proofs.lemmas.List.{append-nil, length-take-le, get_or-take}
use Rattle.std.proofs.lemmas.List.Folds.{list_any_at}
use Rattle.std.specs.List.{list_any}
use Rattle.admit_core.proofs.Plain.{mapped_none, none_or}
use Rattle.admit_core.proofs.NoFaults.{Passes, PassesAll}
use Rattle.admit_core.specs.declared.slot.Slot.{Slot}
use Rattle.admit_core.specs.declared.refusal.Reason.{Reason}
use Rattle.admit_core.specs.Faults.{Test, first_row, first_reason, first_after, first_in}
use Rattle.dossier_check.proofs.Firsts.{position-some}

pub first_passes : {R : Type 0} {test : Test R} {tests : List (Test R)} {rows : List R} → PassesAll (test ∷ tests) rows
    → Passes test rows
first_passes {R} {test} {tests} {rows} all =
    record {
      at = λ k d lt. (none_or (test (take k rows) (get_or rows k d))
          (first_reason tests (take k rows) (get_or rows k d)) (all.at k d lt)).0;
    }

pub rest_pass : {R : Type 0} {test : Test R} {tests : List (Test R)} {rows : List R} → PassesAll (test ∷ tests) rows
    → PassesAll tests rows
rest_pass {R} {test} {tests} {rows} all =
    record {
      at = λ k d lt. (none_or (test (take k rows) (get_or rows k d))
          (first_reason tests (take k rows) (get_or rows k d)) (all.at k d lt)).1;
    }

pub second_passes : {R : Type 0} {one two : Test R} {tests : List (Test R)} {rows : List R}
    → PassesAll (one ∷ two ∷ tests) rows → Passes two rows
second_passes all = first_passes (rest_pass all)

pub third_passes : {R : Type 0} {one two three : Test R} {tests : List (Test R)} {rows : List R}
    → PassesAll (one ∷ two ∷ three ∷ tests) rows → Passes three rows
third_passes all = second_passes (rest_pass all)

module _ {R : Type 0} (slot : Slot) (tests : List (Test R)) where
  less : (k : ℕ) (rows : List R) → suc k < suc (length rows) → k < length rows
  less k rows lt = omega arith

  pass_after : (before rows : List R) → first_after slot tests before rows ≡ None
      → (k : ℕ) (d : R) → k < length rows → first_reason tests (before ++ take k rows) (get_or rows k d) ≡ None
  unfolding first_after
  pass_after before [] e k d lt = absurd (omega arith)
  pass_after before (row ∷ rows) e zero d lt =
      let p = none_or _ _ e in rw (append-nil before) (mapped_none _ _ p.0)
  pass_after before (row ∷ rows) e (suc k) d lt =
      rw (sym (append_assoc before (row ∷ []) (take k rows)))
      (pass_after (before ++ row ∷ []) rows (none_or _ _ e).1 k d (less k rows lt))

  -- where a slot has no fault
  pub pass_all : (rows : List R) → first_in slot tests rows ≡ None → PassesAll tests rows
  pass_all rows e = record { at = λ k d lt. pass_after [] rows e k d lt }

none_passes : {X : Type 0} (p : X → Bool) (xs : List X) → first_row p xs ≡ None → list_any p xs ≡ false
none_passes p xs e = by (list_any p xs) refl
  where
    by : (b : Bool) → list_any p xs ≡ b → list_any p xs ≡ false
    by true f = absurd (position-some p xs f e)
    by false f = f

any_at : {X : Type 0} (p : X → Bool) (xs : List X) (j : ℕ) (d : X) → list_any p xs ≡ false → j < length xs
    → p (get_or xs j d) ≡ false
any_at p xs j d e lt = by (p (get_or xs j d)) refl
  where
    by : (b : Bool) → p (get_or xs j d) ≡ b → p (get_or xs j d) ≡ false
    by true f = absurd (true≢false (sym (list_any_at p xs j d lt f) ∙ e))
    by false f = f

module _ {R : Type 0} (same : R → R → Bool) (reason : ℕ → Reason) (rows : List R) where
  apart_at : (j k : ℕ) (d : R) → j < k → k < length rows
      → option_map reason (first_row (same (get_or rows k d)) (take k rows)) ≡ None
      → same (get_or rows k d) (get_or rows j d) ≡ false
  apart_at j k d lt within fine =
      let e : list_any (same (get_or rows k d)) (take k rows) ≡ false =
      none_passes (same (get_or rows k d)) (take k rows) (mapped_none reason _ fine) in
      let f : same (get_or rows k d) (get_or (take k rows) j d) ≡ false =
      any_at (same (get_or rows k d)) (take k rows) j d e (omega (arith, length-take-le k rows (omega arith))) in
      rw (← get_or-take k rows j d lt) f

  -- where no row is the same as an earlier one, two rows differ
  pub apart : Passes (λ before row. option_map reason (first_row (same row) before)) rows
      → AllPairs (λ r row. same row r ≡ false) rows
  apart fine j k d lt within = apart_at j k d lt within (fine.at k d within)

  -- the same where only some rows are compared
  pub apart_when : (when : R → Bool) → Passes (λ before row. if when row then option_map reason
      (first_row (same row) before) else None) rows
      → AllPairs (λ r row. when row ≡ true → same row r ≡ false) rows
  apart_when when fine j k d lt within is = apart_at j k d lt within (rw is at (fine.at k d within))

if_known : (b : Bool) (reason : Reason) → (if b then None else Some reason) ≡ None → b ≡ true
if_known true reason e = refl
if_known false reason e = cc

-- what rows need is there
pub all_known : {R : Type 0} (known : R → Bool) (reason : Reason) (rows : List R)
    → Passes (λ before row. if known row then None else Some reason) rows
    → All (λ row. known row ≡ true) rows
all_known known reason rows fine k row lt = if_known (known (get_or rows k row)) reason (fine.at k row lt)

-- How it is shown that no test stands at rows.
use Rattle.std.proofs.Common.{◌≡◌, ℕ, ◌<◌, suc, Bool, true, false, List, ◌∷◌, [], ◌++◌, if◌then◌else◌, length, get_or}
use Rattle.std.proofs.Common.{take, option_map, Option, Some, None, refl, sym, ◌∙◌, ap, subst, arith, append_assoc, All}
use Rattle.std.proofs.Common.{AllPairs, position}
use Rattle.std.specs.Option.{option_or}
use Rattle.std.proofs.lemmas.List.{append-nil, length-take-le, get_or-take}
use Rattle.std.proofs.lemmas.List.Sums.{position_or_len_is}
use Rattle.admit_core.proofs.Plain.{none_or_none}
use Rattle.admit_core.specs.declared.slot.Slot.{Slot}
use Rattle.admit_core.specs.declared.refusal.Reason.{Reason}
use Rattle.admit_core.specs.declared.refusal.Refusal.{Refusal}
use Rattle.admit_core.specs.Faults.{Test, row_number, first_row, first_reason, first_after, first_in}

-- a test stands at no row
pub record Passes {R : Type 0} (test : Test R) (rows : List R) : Type 0 where
  pub at : (k : ℕ) (d : R) → k < length rows → test (take k rows) (get_or rows k d) ≡ None

-- none of the tests stands at a row
pub record PassesAll {R : Type 0} (tests : List (Test R)) (rows : List R) : Type 0 where
  pub at : (k : ℕ) (d : R) → k < length rows → first_reason tests (take k rows) (get_or rows k d) ≡ None

pub no_tests : {R : Type 0} {rows : List R} → PassesAll [] rows
no_tests = record { at = λ k d lt. refl }

pub and_then : {R : Type 0} {test : Test R} {tests : List (Test R)} {rows : List R} → Passes test rows
    → PassesAll tests rows → PassesAll (test ∷ tests) rows
and_then one rest = record { at = λ k d lt. none_or_none (one.at k d lt) (rest.at k d lt) }

module _ {R : Type 0} (slot : Slot) (tests : List (Test R)) where
  no_refusal : (f : Reason → Refusal) (o : Option Reason) (p : Option Refusal) → o ≡ None → p ≡ None
      → option_or (option_map f o) p ≡ None
  no_refusal f o p e g = ap (λ q. option_or (option_map f q) p) e ∙ g

  none_after : (before rows : List R) → ((k : ℕ) (d : R) → k < length rows
      → first_reason tests (before ++ take k rows) (get_or rows k d) ≡ None)
      → first_after slot tests before rows ≡ None
  unfolding first_after
  none_after before [] fine = refl
  none_after before (row ∷ rows) fine =
      let here : first_reason tests before row ≡ None =
      subst (λ b. first_reason tests b row ≡ None) (append-nil before) (fine 0 row (omega arith)) in
      no_refusal (λ reason. record { slot = slot; row = row_number (length before); reason = reason })
      (first_reason tests before row)
      (first_after slot tests (before ++ row ∷ []) rows) here
      (none_after (before ++ row ∷ []) rows
      (λ k d lt. subst (λ b. first_reason tests b (get_or rows k d) ≡ None)
      (sym (append_assoc before (row ∷ []) (take k rows))) (fine (suc k) d (omega arith))))

  -- then the slot has no fault
  pub none_in : (rows : List R) → PassesAll tests rows → first_in slot tests rows ≡ None
  none_in rows fine = none_after [] rows (λ k d lt. fine.at k d lt)

-- what holds of a row and each one before it
pub before_row : {R : Type 0} (Q : R → R → Type 0) (rows : List R) → AllPairs (λ r row. Q row r) rows → (k : ℕ) (d : R)
    → k < length rows
    → (j : ℕ) → j < length (take k rows) → Q (get_or rows k d) (get_or (take k rows) j d)
before_row Q rows pairs k d lt j j_lt =
    let e : length (take k rows) ≡ k = length-take-le k rows (omega arith) in
    let here : j < k = omega arith in
    subst (λ r. Q (get_or rows k d) r) (sym (get_or-take k rows j d here)) (pairs j k d here lt)

position-none : {R : Type 0} (p : R → Bool) (rows : List R) (d : R)
    → ((j : ℕ) → j < length rows → p (get_or rows j d) ≡ false) → position p rows ≡ None
position-none p rows d none =
    rw (position_or_len_is p rows (length rows) d (omega arith) none (λ lt. absurd (omega arith))) (grind arith)

first_row-none : {R : Type 0} (p : R → Bool) (rows : List R) (d : R)
    → ((j : ℕ) → j < length rows → p (get_or rows j d) ≡ false) → first_row p rows ≡ None
first_row-none p rows d none = ap (option_map row_number) (position-none p rows d none)

-- rows of which no two are the same
pub differ : {R : Type 0} (same : R → R → Bool) (reason : ℕ → Reason) (rows : List R)
    → AllPairs (λ r row. same row r ≡ false) rows
    → Passes (λ before row. option_map reason (first_row (same row) before)) rows
differ same reason rows pairs =
    record {
      at = λ k d lt. ap (option_map reason)
          (first_row-none (same (get_or rows k d)) (take k rows) d
          (before_row (λ row r. same row r ≡ false) rows pairs k d lt));
    }

if_not : (b : Bool) (o : Option Reason) → (b ≡ true → o ≡ None) → (if b then o else None) ≡ None
if_not true o none = none refl
if_not false o none = refl

-- the same where only some rows are compared
pub differ_when : {R : Type 0} (when : R → Bool) (same : R → R → Bool) (reason : ℕ → Reason) (rows : List R)
    → AllPairs (λ r row. when row ≡ true → same row r ≡ false) rows
    → Passes (λ before row. if when row then option_map reason (first_row (same row) before) else None) rows
differ_when when same reason rows pairs =
    record {
      at = λ k d lt. if_not (when (get_or rows k d))
          (option_map reason (first_row (same (get_or rows k d)) (take k rows)))
          (λ is. ap (option_map reason)
          (first_row-none (same (get_or rows k d)) (take k rows) d
          (λ j j_lt. before_row (λ row r. when row ≡ true → same row r ≡ false) rows pairs k d lt j j_lt is)));
    }

if_known : (b : Bool) (reason : Reason) → b ≡ true → (if b then None else Some reason) ≡ None
if_known true reason e = refl
if_known false reason e = cc

-- rows whose needs are there
pub all_known : {R : Type 0} (known : R → Bool) (reason : Reason) (rows : List R) → All (λ row. known row ≡ true) rows
    → Passes (λ before row. if known row then None else Some reason) rows
all_known known reason rows fine = record { at = λ k d lt. if_known (known (get_or rows k d)) reason (fine k d lt) }

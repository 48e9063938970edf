-- Tests that find the same fault, and one that may be left out.
use Rattle.std.proofs.Common.{◌≡◌, ℕ, ◌<◌, suc, Bool, true, false, List, ◌∷◌, [], ◌++◌, if◌then◌else◌, length, get_or}
use Rattle.std.proofs.Common.{take, option_map, Option, None, refl, sym, subst, arith, append_assoc}
use Rattle.std.specs.Option.{option_or}
use Rattle.std.proofs.lemmas.List.{append-nil}
use Rattle.admit_core.proofs.NoFaults.{Passes}
use Rattle.admit_core.specs.declared.slot.Slot.{Slot}
use Rattle.admit_core.specs.declared.refusal.Reason.{Reason}
use Rattle.admit_core.specs.declared.refusal.Refusal.{Refusal}
use Rattle.admit_core.specs.Faults.{Test, row_number, first_reason, first_after, first_in}

module _ {R : Type 0} (slot : Slot) (tests others : List (Test R)) where
  same_refusal : (f : Reason → Refusal) (o q : Option Reason) (p s : Option Refusal) → o ≡ q → p ≡ s
      → option_or (option_map f o) p ≡ option_or (option_map f q) s
  same_refusal f o q p s e g = rw (e, g) refl

  same_after : (before rows : List R)
      → ((k : ℕ) (d : R) → k < length rows → first_reason tests (before ++ take k rows) (get_or rows k d)
      ≡ first_reason others (before ++ take k rows) (get_or rows k d))
      → first_after slot tests before rows ≡ first_after slot others before rows
  unfolding first_after
  same_after before [] same = refl
  same_after before (row ∷ rows) same =
      let here : first_reason tests before row ≡ first_reason others before row =
      subst (λ b. first_reason tests b row ≡ first_reason others b row) (append-nil before)
      (same 0 row (omega arith)) in
      same_refusal (λ reason. record { slot = slot; row = row_number (length before); reason = reason })
      (first_reason tests before row) (first_reason others before row)
      (first_after slot tests (before ++ row ∷ []) rows) (first_after slot others (before ++ row ∷ []) rows) here
      (same_after (before ++ row ∷ []) rows
      (λ k d lt. subst (λ b. first_reason tests b (get_or rows k d) ≡ first_reason others b (get_or rows k d))
      (sym (append_assoc before (row ∷ []) (take k rows))) (same (suc k) d (omega arith))))

  -- tests that give each row the same reason find the same fault
  pub same_in : (rows : List R) → ((k : ℕ) (d : R) → k < length rows → first_reason tests (take k rows)
      (get_or rows k d) ≡ first_reason others (take k rows) (get_or rows k d))
      → first_in slot tests rows ≡ first_in slot others rows
  same_in rows same = same_after [] rows same

-- a test that stands at no row may be left out
pub left_out : {R : Type 0} (test : Test R) (rows : List R) (known : Bool) → (known ≡ true → Passes test rows)
    → (k : ℕ) (d : R) → k < length rows
    → (if known then None else test (take k rows) (get_or rows k d)) ≡ test (take k rows) (get_or rows k d)
left_out test rows false passes k d lt = refl
left_out test rows true passes k d lt = sym ((passes refl).at k d lt)

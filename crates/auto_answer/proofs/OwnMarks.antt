-- What is asked of a candidate's own wishes depends on their marks alone.
use Rattle.std.proofs.Common.{ℕ, zero, suc, ◌<◌, ◌≡◌, Bool, ◌&&◌, List, [], ◌∷◌, length, inl, inr, refl, sym, ◌∙◌, ap}
use Rattle.std.proofs.Common.{arith, nat_lt, filter, zip}
use Rattle.std.specs.Prelude.{◌==◌}
use Rattle.std.specs.List.{list_any}
use Rattle.std.proofs.lemmas.Bool.{cases_Bool, eqb-true}
use Rattle.admit_core.proofs.Plain.{middle_false}
use Rattle.admit_core.specs.declared.dossier.Wish.{Wish}
use Rattle.admit_core.specs.declared.state.Mark.{Mark}
use Rattle.admit_core.specs.DossierRows.{DossierRows}
use Rattle.admit_core.specs.Lists.{least_by}
use Rattle.admit_core.specs.State.{State, is_live}
use Rattle.admit_core.specs.AutoAnswer.{best_live}
use Rattle.day_state.specs.Kept.{mark_in, wish_in, holds_one}
use Rattle.day_state.proofs.Independence.{Agrees}

-- the candidate's wishes have the same marks in both lists
abbrev pub SameOwn : ℕ → List Wish → List Mark → List Mark → Type 0
SameOwn c ws ms ns = (k : ℕ) → k < length ws → (wish_in ws k).candidate ≡ c → mark_in ms k ≡ mark_in ns k

-- the wish is live, of the candidate, and passes a test
abbrev pub holds : (Wish → Bool) → ℕ → Wish × Mark → Bool
holds test c x = is_live x.1 && (x.0.candidate == c) && test x.0

any_own : (test : Wish → Bool) (c : ℕ) (ws : List Wish) (ms ns : List Mark) → length ms ≡ length ws
    → length ns ≡ length ws
    → SameOwn c ws ms ns → list_any (holds test c) (zip ws ms) ≡ list_any (holds test c) (zip ws ns)
any_own test c [] ms ns long long_too same = refl
any_own test c (w ∷ ws) [] ns long long_too same = absurd (omega arith)
any_own test c (w ∷ ws) (m ∷ ms) [] long long_too same = absurd (omega arith)
any_own test c (w ∷ ws) (m ∷ ms) (n ∷ ns) long long_too same =
    let rest = any_own test c ws ms ns (omega arith) (omega arith) (λ k lt own. same (suc k) (omega arith) own) in
    elim (cases_Bool (w.candidate == c)) [
      | inl his ↦
          let here : m ≡ n = same zero (omega arith) (eqb-true w.candidate c his) in
          rw (here, rest) refl
      | inr other ↦ rw (
        middle_false (is_live m) (w.candidate == c) (test w) other,
        middle_false (is_live n)
            (w.candidate == c) (test w) other,
      ) rest
    ]

filter_own : (test : Wish → Bool) (c : ℕ) (ws : List Wish) (ms ns : List Mark) → length ms ≡ length ws
    → length ns ≡ length ws
    → SameOwn c ws ms ns → filter (holds test c) (zip ws ms) ≡ filter (holds test c) (zip ws ns)
filter_own test c [] ms ns long long_too same = refl
filter_own test c (w ∷ ws) [] ns long long_too same = absurd (omega arith)
filter_own test c (w ∷ ws) (m ∷ ms) [] long long_too same = absurd (omega arith)
filter_own test c (w ∷ ws) (m ∷ ms) (n ∷ ns) long long_too same =
    let rest = filter_own test c ws ms ns (omega arith) (omega arith) (λ k lt own. same (suc k) (omega arith) own) in
    elim (cases_Bool (w.candidate == c)) [
      | inl his ↦
          let here : m ≡ n = same zero (omega arith) (eqb-true w.candidate c his) in
          rw (here, rest) refl
      | inr other ↦ rw (
        middle_false (is_live m) (w.candidate == c) (test w) other,
        middle_false (is_live n)
            (w.candidate == c) (test w) other,
      ) rest
    ]

-- whether the candidate is live where a test says
pub own_holds : (test : Wish → Bool) (c : ℕ) (s t : State) → Agrees c s t → holds_one test s c ≡ holds_one test t c
own_holds test c s t a =
    any_own test c s.dossier.wishes s.marks t.marks a.long a.long_too a.same
    ∙ ap (λ (d : DossierRows). list_any (holds test c) (zip d.wishes t.marks)) (sym a.dossier)

-- the best of their live wishes
pub own_best : (c : ℕ) (s t : State) → Agrees c s t → best_live s c ≡ best_live t c
own_best c s t a =
    let test = λ (w : Wish). nat_lt zero w.preference in
    let best = λ (xs : List (Wish × Mark)). least_by (λ (x : Wish × Mark). x.0.preference) xs in
    ap best (filter_own test c s.dossier.wishes s.marks t.marks a.long a.long_too a.same
    ∙ ap (λ (d : DossierRows). filter (holds test c) (zip d.wishes t.marks)) (sym a.dossier))

-- Flags that are set.
use Rattle.std.proofs.Common.{ℕ, ◌<◌, ◌≡◌, Bool, true, false, ◌||◌, List, length, set, get_or, inl, inr, refl, ◌∙◌, ap}
use Rattle.std.proofs.Common.{arith, nat_eq, length-set}
use Rattle.std.proofs.lemmas.List.{get_or-set_same, get_or-set_other}
use Rattle.std.proofs.lemmas.Bool.{cases_Bool, eqb-true, eqb-false}
use Rattle.proposals.specs.Flags.{SetsAlso}

or_false : (a : Bool) → a ≡ (a || false)
or_false true = refl
or_false false = refl

or_true : (a : Bool) → true ≡ (a || true)
or_true true = refl
or_true false = refl

or_again : (a b c : Bool) → ((a || b) || c) ≡ (a || (b || c))
or_again true b c = refl
or_again false b c = refl

pub sets_none : (test : ℕ → Bool) (flags : List Bool) → ((k : ℕ) → k < length flags → test k ≡ false)
    → SetsAlso test flags flags
sets_none test flags none = record {
  as_long = refl;
  each = λ k lt. rw (none k lt) (or_false (get_or flags k false));
}

pub sets_same : (a b : ℕ → Bool) (old new : List Bool) → ((k : ℕ) → k < length old → a k ≡ b k) → SetsAlso a old new
    → SetsAlso b old new
sets_same a b old new same sets = record {
  as_long = sets.as_long;
  each = λ k lt. sets.each k lt ∙ ap (λ t. get_or old k false || t) (same k lt);
}

pub sets_then : (a b c : ℕ → Bool) (old now new : List Bool) → SetsAlso a old now → SetsAlso b now new
    → ((k : ℕ) → k < length old → (a k || b k) ≡ c k) → SetsAlso c old new
sets_then a b c old now new first second both = record {
  as_long = second.as_long ∙ first.as_long;
  each = λ k lt.
      second.each k (omega (arith, first.as_long))
      ∙ ap (λ t. t || b k) (first.each k lt)
      ∙ or_again (get_or old k false) (a k) (b k)
      ∙ ap (λ t. get_or old k false || t) (both k lt);
}

pub sets_one : (flags : List Bool) (place : ℕ) → place < length flags
    → SetsAlso (λ k. nat_eq k place) flags (set flags place true)
sets_one flags place within = record {
  as_long = length-set flags place true;
  each = λ k lt. elim (cases_Bool (nat_eq k place)) [
    | inl here ↦ rw (here, eqb-true k place here)
        (get_or-set_same flags place true false within ∙ or_true (get_or flags place false))
    | inr other ↦ rw other (get_or-set_other flags place k true false (eqb-false k place other)
        ∙ or_false (get_or flags k false))
  ];
}

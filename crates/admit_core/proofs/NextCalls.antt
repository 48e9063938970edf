-- The next call of a ranking: who it is, and who remains after it.
use Rattle.std.proofs.Common.{ℕ, ◌≡◌, Bool, true, false, not, ◌&&◌, ◌||◌, List, [], ◌∷◌, ◌++◌, map, inl, inr, refl, sym}
use Rattle.std.proofs.Common.{◌∙◌, ap, filter, Option, Some, None, nat_eq}
use Rattle.std.specs.Prelude.{option_map}
use Rattle.std.specs.List.{find, list_any}
use Rattle.std.specs.List.Sorted.{IsStrictlyIncreasing}
use Rattle.std.proofs.lemmas.Bool.{and_parts, or_left, or_right, cases_Bool, false≢true}
use Rattle.admit_core.specs.declared.ranking.Ranked.{Ranked}
use Rattle.admit_core.specs.declared.ranking.RankGroup.{RankGroup}
use Rattle.admit_core.specs.declared.ranking.Bound.{Bound}
use Rattle.admit_core.specs.Lists.{is_among}
use Rattle.admit_core.specs.CallOrder.{remaining, scholar_rate_binds, resident_rate_binds, bound_of, bound_after}
use Rattle.admit_core.specs.CallOrder.{may_be_called, next_after}
use Rattle.admit_core.proofs.LeastFirst.{next_is_first}
use Rattle.admit_core.proofs.Remaining.{among_push}
use Rattle.admit_core.proofs.Plain.{mapped_none}

-- where nothing is found, nothing passes
pub find_none : {X : Type 0} (test : X → Bool) (xs : List X) → find test xs ≡ None → list_any test xs ≡ false
find_none test [] e = refl
find_none test (x ∷ xs) e =
    elim (cases_Bool (test x)) [
      | inl passes ↦ let found = rw passes at e in (cc)
      | inr fails ↦ rw fails (find_none test xs (rw fails at e))
    ]

-- what is found passes
pub find_passes : {X : Type 0} (test : X → Bool) (xs : List X) (y : X) → find test xs ≡ Some y → test y ≡ true
find_passes test [] y e = absurd (cc)
find_passes test (x ∷ xs) y e =
    elim (cases_Bool (test x)) [
      | inl passes ↦ let same : x ≡ y = let found = rw passes at e in (cc) in rw (← same) passes
      | inr fails ↦ find_passes test xs y (rw fails at e)
    ]

-- what is found is one of the list
pub find_any : {X : Type 0} (test q : X → Bool) (xs : List X) (y : X) → find test xs ≡ Some y → q y ≡ true
    → list_any q xs ≡ true
find_any test q [] y e t = absurd (cc)
find_any test q (x ∷ xs) y e t =
    elim (cases_Bool (test x)) [
      | inl passes ↦ let same : x ≡ y = let found = rw passes at e in (cc) in or_left (q x) (list_any q xs) (rw same t)
      | inr fails ↦ or_right (q x) (list_any q xs) (find_any test q xs y (rw fails at e) t)
    ]

find_all : {X : Type 0} (xs : List X) → find (λ x. true) xs ≡ None → xs ≡ []
find_all [] e = refl
find_all (x ∷ xs) e = absurd (cc)

-- under each bound someone may be called while anyone remains
nobody : (rs : List Ranked) (s t both : Bool) → (s ≡ true → list_any (λ r. r.scholar) rs ≡ true)
    → (t ≡ true → list_any (λ r. r.resident) rs ≡ true)
    → list_any (λ r. r.scholar && r.resident) rs ≡ both → find (may_be_called (bound_of s t both)) rs ≡ None → rs ≡ []
nobody rs false false both scholars residents is e = find_all rs e
nobody rs true false both scholars residents is e =
    absurd (false≢true (sym (find_none (λ r. r.scholar) rs e) ∙ scholars refl))
nobody rs false true both scholars residents is e =
    absurd (false≢true (sym (find_none (λ r. r.resident) rs e) ∙ residents refl))
nobody rs true true true scholars residents is e =
    absurd (false≢true (sym (find_none (λ r. r.scholar && r.resident) rs e) ∙ is))
nobody rs true true false scholars residents is e =
    absurd (false≢true (sym (find_none (λ r. r.scholar) rs e) ∙ scholars refl))

-- where there is no next one, nobody remains
pub next_none : (g : RankGroup) (before : List ℕ) → IsStrictlyIncreasing (map (λ (r : Ranked). r.rank) g.list)
    → next_after g before ≡ None → remaining g before ≡ []
next_none g before rising e =
    let rs = remaining g before in
    let found = find (may_be_called (bound_after g before)) rs in
    let none = mapped_none (λ (r : Ranked). (r.candidate, bound_after g before)) found
    (sym (next_is_first g before rising) ∙ e) in
    nobody rs (scholar_rate_binds g before) (resident_rate_binds g before)
    (list_any (λ (r : Ranked). r.scholar && r.resident) rs)
    (λ binds. (and_parts _ _ binds).0) (λ binds. (and_parts _ _ binds).0) refl none

-- the next one, by the ranking's row
pub record IsCalled (g : RankGroup) (before : List ℕ) (c : ℕ) (b : Bound) (r : Ranked) : Type 0 where
  pub bound : bound_after g before ≡ b
  pub first : find (may_be_called b) (remaining g before) ≡ Some r
  pub candidate : r.candidate ≡ c

abbrev call_of : Bound → Ranked → ℕ × Bound
call_of bound r = (r.candidate, bound)

-- what a mapped option holds comes of what the option holds
pub mapped_some : {X Y : Type 0} (f : X → Y) (o : Option X) (y : Y) → option_map f o ≡ Some y
    → (x : X) × (o ≡ Some x) × (f x ≡ y)
mapped_some f None y e = absurd (cc)
mapped_some f (Some x) y e = (x, refl, (cc))

pub next_some : (g : RankGroup) (before : List ℕ) (c : ℕ) (b : Bound)
    → IsStrictlyIncreasing (map (λ (r : Ranked). r.rank) g.list) → next_after g before ≡ Some (c, b)
    → (r : Ranked) × IsCalled g before c b r
next_some g before c b rising e =
    let bound = bound_after g before in
    let (r, found, is) = mapped_some (call_of bound) (find (may_be_called bound) (remaining g before)) (c, b)
    (sym (next_is_first g before rising) ∙ e) in
    let under = ap (λ (x : ℕ × Bound). x.1) is in (
      r,
      record {
        bound = under;
        first = ap (λ now. find (may_be_called now) (remaining g before)) (sym under) ∙ found;
        candidate = ap (λ (x : ℕ × Bound). x.0) is;
      },
    )

filter_twice : {X : Type 0} (p q both : X → Bool) → ((x : X) → both x ≡ (p x && q x)) → (xs : List X)
    → filter both xs ≡ filter q (filter p xs)
filter_twice p q both h [] = refl
filter_twice p q both h (x ∷ xs) =
    let later = filter_twice p q both h xs in
    elim (cases_Bool (p x)) [
      | inl passes ↦
          elim (cases_Bool (q x)) [
            | inl stays ↦ rw (h, passes, stays) (ap (λ ys. x ∷ ys) later)
            | inr goes ↦ rw (h, passes, goes) later
          ]
      | inr fails ↦ rw (h, fails) later
    ]

not_either : (a b : Bool) → not (a || b) ≡ (not a && not b)
not_either true b = refl
not_either false b = refl

-- each call takes those with its id from those who remain
pub remaining_push : (g : RankGroup) (before : List ℕ) (c : ℕ)
    → remaining g (before ++ c ∷ []) ≡ filter (λ r. not (nat_eq r.candidate c)) (remaining g before)
remaining_push g before c =
    filter_twice (λ r. not (is_among r.candidate before)) (λ r. not (nat_eq r.candidate c))
    (λ r. not (is_among r.candidate (before ++ c ∷ [])))
    (λ r. rw among_push (not_either (is_among r.candidate before) (nat_eq r.candidate c)))
    g.list

filter_every : {X : Type 0} (test : X → Bool) → ((x : X) → test x ≡ true) → (xs : List X) → filter test xs ≡ xs
filter_every test h [] = refl
filter_every test h (x ∷ xs) = rw h (ap (λ ys. x ∷ ys) (filter_every test h xs))

-- at first all remain
pub remaining_first : (g : RankGroup) → remaining g [] ≡ g.list
remaining_first g = filter_every (λ r. not (is_among r.candidate [])) (λ r. refl) g.list

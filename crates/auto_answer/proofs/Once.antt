-- Each candidate once: what is summed over the candidates of a list.
use Rattle.std.proofs.Common.{ℕ, ◌+◌, ◌≤◌, ◌≡◌, true, false, cond, List, [], ◌∷◌, map, length, inl, inr, refl, sym, ◌∙◌}
use Rattle.std.proofs.Common.{ap, arith, nat_eq, sum, sum_by, count_by}
use Rattle.std.proofs.lemmas.Bool.{cases_Bool, cases_eq, eqb-true, eq-eqb, ne_eqb, or_parts}
use Rattle.std.proofs.lemmas.List.Sums.{sum_by-cons, sum-map, sum_by-le-sum_by}
use Rattle.admit_core.proofs.Plain.{zero_plus}
use Rattle.admit_core.specs.Lists.{is_among, distinct}

-- what is summed over the candidates from a place on: nothing is added at one who comes again
pub total_again : (f : ℕ → ℕ) (c : ℕ) (cs : List ℕ) → is_among c cs ≡ true
    → sum (map f (distinct (c ∷ cs))) ≡ sum (map f (distinct cs))
total_again f c cs again = rw again refl

pub total_new : (f : ℕ → ℕ) (c : ℕ) (cs : List ℕ) → is_among c cs ≡ false
    → sum (map f (distinct (c ∷ cs))) ≡ f c + sum (map f (distinct cs))
total_new f c cs new = rw new (sum_by-cons (λ (x : ℕ). x) (f c) (map f (distinct cs)))

-- how often a number stands in a list
times : ℕ → List ℕ → ℕ
times c cs = count_by (nat_eq c) cs

times-nil : (c : ℕ) → times c [] ≡ 0
unfolding times
times-nil c = refl

times-is : (c : ℕ) (cs : List ℕ) → count_by (nat_eq c) cs ≡ times c cs
unfolding times
times-is c cs = refl

one_time : (c n : ℕ) (ns : List ℕ) → nat_eq c n ≡ true → times c (n ∷ ns) ≡ 1 + times c ns
unfolding times
one_time c n ns e = sum_by-cons (λ x. cond (nat_eq c x) 1 0) n ns ∙ ap (λ b. cond b 1 0 + count_by (nat_eq c) ns) e

no_time : (c n : ℕ) (ns : List ℕ) → nat_eq c n ≡ false → times c (n ∷ ns) ≡ times c ns
unfolding times
no_time c n ns e = sum_by-cons (λ x. cond (nat_eq c x) 1 0) n ns ∙ ap (λ b. cond b 1 0 + count_by (nat_eq c) ns) e
    ∙ zero_plus (count_by (nat_eq c) ns)

none_distinct : (c : ℕ) (ns : List ℕ) → is_among c ns ≡ false → times c (distinct ns) ≡ 0
none_distinct c [] none = times-nil c
none_distinct c (n ∷ ns) none =
    let parts = or_parts (nat_eq c n) (is_among c ns) none in
    elim (cases_Bool (is_among n ns)) [
      | inl again ↦ rw again (none_distinct c ns parts.1)
      | inr new ↦ rw new (no_time c n (distinct ns) parts.0 ∙ none_distinct c ns parts.1)
    ]

-- in a list of different numbers none stands twice
at_most_once : (c : ℕ) (ns : List ℕ) → times c (distinct ns) ≤ 1
at_most_once c [] = omega (arith, times-nil c)
at_most_once c (n ∷ ns) =
    elim (cases_Bool (is_among n ns)) [
      | inl again ↦ rw again (at_most_once c ns)
      | inr new ↦ rw new (elim (cases_Bool (nat_eq c n)) [
        | inl here ↦ let none = none_distinct c ns (rw (eqb-true c n here) new) in
            omega (arith, one_time c n (distinct ns) here, none)
        | inr other ↦ omega (arith, no_time c n (distinct ns) other, at_most_once c ns)
      ])
    ]

split_stands : (x : ℕ) (cs ds : List ℕ) → sum_by (λ c. times c (x ∷ cs)) ds ≡ times x ds + sum_by (λ c. times c cs) ds
split_stands x cs [] = omega (arith, times-nil x)
split_stands x cs (d ∷ ds) =
    let rest = split_stands x cs ds in
    let left = sum_by-cons (λ c. times c (x ∷ cs)) d ds in
    let right = sum_by-cons (λ c. times c cs) d ds in
    elim (cases_eq x d) [
      | inl same ↦ let here = one_time d x cs (eq-eqb d x (sym same)) in
          let there = one_time x d ds (eq-eqb x d same) in omega (arith, left, right, rest, here, there)
      | inr differ ↦ let here = no_time d x cs (ne_eqb d x (λ e. differ (sym e))) in
          let there = no_time x d ds (ne_eqb x d differ) in omega (arith, left, right, rest, here, there)
    ]

nothing : (ds : List ℕ) → sum_by (λ c. times c []) ds ≡ 0
nothing [] = refl
nothing (d ∷ ds) = omega (arith, sum_by-cons (λ c. times c []) d ds, times-nil d, nothing ds)

-- over different numbers, how often each stands in a list is together at most the list's length
stands_at_most : (cs ns : List ℕ) → sum_by (λ c. times c cs) (distinct ns) ≤ length cs
stands_at_most [] ns = omega (arith, nothing (distinct ns))
stands_at_most (x ∷ cs) ns = omega (arith, split_stands x cs (distinct ns), stands_at_most cs ns, at_most_once x ns)

-- what counts at most each candidate's own wishes is at most the number of all
pub total_at_most : (f : ℕ → ℕ) (cs : List ℕ) → ((c : ℕ) → f c ≤ count_by (nat_eq c) cs)
    → sum (map f (distinct cs)) ≤ length cs
total_at_most f cs few =
    omega (
      arith,
      sum-map f (distinct cs),
      sum_by-le-sum_by f (λ c. times c cs) (distinct cs) (λ c. omega (arith, few c, times-is c cs)),
      stands_at_most cs cs,
    )

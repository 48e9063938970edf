-- A candidate frees no more seats, and no more beds, than they have wishes.
use Rattle.std.proofs.Common.{ℕ, zero, suc, ◌+◌, ◌≤◌, ◌<◌, ◌≡◌, Bool, true, false, not, cond, ◌&&◌, ◌||◌, List, [], ◌∷◌}
use Rattle.std.proofs.Common.{map, length, inl, inr, refl, sym, ◌∙◌, ap, arith, nat_eq, count_by, zip, Option, Some}
use Rattle.std.proofs.Common.{None}
use Rattle.std.specs.Prelude.{◌==◌}
use Rattle.std.specs.List.{list_any, range_with_len}
use Rattle.std.proofs.lemmas.Bool.{cases_Bool, cases_eq, eqb-true, eq-eqb, ne_eqb, and_parts}
use Rattle.std.proofs.lemmas.List.Sums.{sum_by-cons, sum_by-le-sum_by}
use Rattle.admit_core.proofs.Plain.{middle_false}
use Rattle.admit_core.specs.declared.dossier.Wish.{Wish}
use Rattle.admit_core.specs.declared.state.Mark.{Mark}
use Rattle.admit_core.specs.State.{State, entries, is_live, is_school, has_school, holds_seat, holds_bed}
use Rattle.admit_core.specs.AutoAnswer.{seats_freed, beds_freed}
use Rattle.admit_core.specs.DossierRows.{DossierRows}

-- the candidates of the wishes, by place
abbrev pub wishers : DossierRows → List ℕ
wishers d = map (λ w. w.candidate) d.wishes

abbrev one : Bool → ℕ
one b = cond b 1 0

count-cons : {X : Type 0} (p : X → Bool) (x : X) (xs : List X) → count_by p (x ∷ xs) ≡ one (p x) + count_by p xs
count-cons p x xs = sum_by-cons (λ y. cond (p y) 1 0) x xs

count_fewer : {X : Type 0} (p q : X → Bool) → ((x : X) → one (p x) ≤ one (q x)) → (xs : List X)
    → count_by p xs ≤ count_by q xs
count_fewer p q fewer xs = sum_by-le-sum_by (λ x. cond (p x) 1 0) (λ x. cond (q x) 1 0) xs fewer

one_and : (a b : Bool) → one (a && b) ≤ one a
one_and true true = omega arith
one_and true false = omega arith
one_and false b = omega arith

one_or : (a b : Bool) → one (a || b) ≤ one a + one b
one_or true b = omega arith
one_or false b = omega arith

-- a test that one number at most passes
abbrev IsOfOne : (ℕ → Bool) → Type 0
IsOfOne q = (j k : ℕ) → q j ≡ true → q k ≡ true → j ≡ k

none_from : (q : ℕ → Bool) (j a n : ℕ) → IsOfOne q → q j ≡ true → j < a → count_by q (range_with_len a n) ≡ 0
none_from q j a zero single here lt = refl
none_from q j a (suc n) single here lt =
    let rest = none_from q j (a + 1) n single here (omega arith) in
    elim (cases_Bool (q a)) [
      | inl again ↦ let same = single j a here again in absurd (omega arith)
      | inr other ↦ count-cons q a (range_with_len (a + 1) n) ∙ rw (other, rest) refl
    ]

one_of_range : (q : ℕ → Bool) (a n : ℕ) → IsOfOne q → count_by q (range_with_len a n) ≤ 1
one_of_range q a zero single = omega arith
one_of_range q a (suc n) single =
    let cons = count-cons q a (range_with_len (a + 1) n) in
    elim (cases_Bool (q a)) [
      | inl here ↦ let rest = none_from q a (a + 1) n single here (omega arith) in let first = ap one here in
          omega (arith, cons, first, rest)
      | inr other ↦ let first = ap one other in omega (arith, cons, first, one_of_range q (a + 1) n single)
    ]

count_or : (p q : ℕ → Bool) (ks : List ℕ) → count_by (λ k. p k || q k) ks ≤ count_by p ks + count_by q ks
count_or p q [] = omega arith
count_or p q (k ∷ ks) =
    omega (
      arith,
      count-cons (λ k. p k || q k) k ks,
      count-cons p k ks,
      count-cons q k ks,
      one_or (p k)
          (q k),
      count_or p q ks,
    )

pub count_none : (q : ℕ → Bool) → ((k : ℕ) → q k ≡ false) → (ks : List ℕ) → count_by q ks ≡ 0
count_none q none [] = refl
count_none q none (k ∷ ks) = let first = ap one (none k) in
    omega (arith, count-cons q k ks, first, count_none q none ks)

-- where each entry hits one number at most, no more numbers are hit than there are entries of the kind that hits
few_hit : {X : Type 0} (hits : X → ℕ → Bool) (kind : X → Bool) (n : ℕ)
    → ((x : X) → IsOfOne (hits x)) → ((x : X) (k : ℕ) → kind x ≡ false → hits x k ≡ false)
    → (xs : List X) → count_by (λ k. list_any (λ x. hits x k) xs) (range_with_len 0 n) ≤ count_by kind xs
few_hit hits kind n single of_kind [] = omega (arith, count_none (λ k. false) (λ k. refl) (range_with_len 0 n))
few_hit hits kind n single of_kind (x ∷ xs) =
    let ks = range_with_len 0 n in
    let both = count_or (hits x) (λ k. list_any (λ y. hits y k) xs) ks in
    let rest = few_hit hits kind n single of_kind xs in
    let cons = count-cons kind x xs in
    elim (cases_Bool (kind x)) [
      | inl of ↦ let first = ap one of in let here = one_of_range (hits x) 0 n (single x) in
          omega (arith, both, rest, cons, first, here)
      | inr not_of ↦ let first = ap one not_of in let here = count_none (hits x) (λ k. of_kind x k not_of) ks in
          omega (arith, both, rest, cons, first, here)
    ]

-- the own wishes among the entries
own_entries : (c : ℕ) (ws : List Wish) (ms : List Mark)
    → count_by (λ (x : Wish × Mark). x.0.candidate == c) (zip ws ms) ≤ count_by (nat_eq c)
    (map (λ (w : Wish). w.candidate) ws)
own_entries c [] ms = omega arith
own_entries c (w ∷ ws) [] = omega arith
own_entries c (w ∷ ws) (m ∷ ms) =
    let cons = count-cons (λ (x : Wish × Mark). x.0.candidate == c) (w, m) (zip ws ms) in
    let cons_too = count-cons (nat_eq c) w.candidate (map (λ (w : Wish). w.candidate) ws) in
    let rest = own_entries c ws ms in
    elim (cases_eq c w.candidate) [
      | inl same ↦
          let here = ap one (eq-eqb c w.candidate same) in
          let there = ap one (eq-eqb w.candidate c (sym same)) in
          omega (arith, cons, cons_too, rest, here, there)
      | inr differ ↦
          let here = ap one (ne_eqb c w.candidate differ) in
          let there = ap one (ne_eqb w.candidate c (λ e. differ (sym e))) in
          omega (arith, cons, cons_too, rest, here, there)
    ]

abbrev hits_seat : ℕ → Wish × Mark → ℕ → Bool
hits_seat c x p = is_live x.1 && (x.0.candidate == c) && (x.0.programme == p)

abbrev hits_bed : ℕ → Wish × Mark → ℕ → Bool
hits_bed c x h = is_live x.1 && (x.0.candidate == c) && has_school x.0 h

one_programme : (c : ℕ) (x : Wish × Mark) → IsOfOne (hits_seat c x)
one_programme c x j k a b =
    let first = and_parts (is_live x.1 && (x.0.candidate == c)) (x.0.programme == j) a in
    let second = and_parts (is_live x.1 && (x.0.candidate == c)) (x.0.programme == k) b in
    sym (eqb-true x.0.programme j first.1) ∙ eqb-true x.0.programme k second.1

same_school : (school : Option ℕ) (j k : ℕ) → is_school school j ≡ true → is_school school k ≡ true → j ≡ k
same_school None j k a b = absurd (cc)
same_school (Some g) j k a b = sym (eqb-true g j a) ∙ eqb-true g k b

one_school : (c : ℕ) (x : Wish × Mark) → IsOfOne (hits_bed c x)
one_school c x j k a b =
    let first = and_parts (is_live x.1 && (x.0.candidate == c)) (has_school x.0 j) a in
    let second = and_parts (is_live x.1 && (x.0.candidate == c)) (has_school x.0 k) b in
    same_school x.0.school j k first.1 second.1

-- THE BOUND, for seats and for beds
pub few_seats : (old new : State) (c : ℕ) → seats_freed old new c ≤ count_by (nat_eq c) (wishers old.dossier)
few_seats old new c =
    let n = length old.dossier.programmes in
    let ks = range_with_len 0 n in
    let fewer = count_fewer (λ p. holds_seat old c p && not (holds_seat new c p)) (holds_seat old c)
    (λ p. one_and (holds_seat old c p) (not (holds_seat new c p))) ks in
    let hit = few_hit (hits_seat c) (λ (x : Wish × Mark). x.0.candidate == c) n (one_programme c)
    (λ x k e. middle_false (is_live x.1) (x.0.candidate == c) (x.0.programme == k) e) (entries old) in
    omega (arith, fewer, hit, own_entries c old.dossier.wishes old.marks)

pub few_beds : (old new : State) (c : ℕ) → beds_freed old new c ≤ count_by (nat_eq c) (wishers old.dossier)
few_beds old new c =
    let n = length old.dossier.schools in
    let ks = range_with_len 0 n in
    let fewer = count_fewer (λ h. holds_bed old c h && not (holds_bed new c h)) (holds_bed old c)
    (λ h. one_and (holds_bed old c h) (not (holds_bed new c h))) ks in
    let hit = few_hit (hits_bed c) (λ (x : Wish × Mark). x.0.candidate == c) n (one_school c)
    (λ x k e. middle_false (is_live x.1) (x.0.candidate == c) (has_school x.0 k) e) (entries old) in
    omega (arith, fewer, hit, own_entries c old.dossier.wishes old.marks)

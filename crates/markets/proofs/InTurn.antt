-- The numbers of a list, each once, in the order in which they come first.
use Rattle.std.proofs.Common.{ℕ, ◌+◌, ◌≤◌, ◌<◌, ◌≡◌, true, false, List, [], ◌∷◌, ◌++◌, map, length, take, get_or, fold}
use Rattle.std.proofs.Common.{inl, inr, ◌∙◌, ap, arith, nat_eq}
use Rattle.std.specs.Prelude.{if◌then◌else◌}
use Rattle.std.specs.List.{IsDistinct}
use Rattle.std.proofs.lemmas.Bool.{cases_Bool, or_cases, or_left, or_right, eqb-true, false≢true}
use Rattle.std.proofs.lemmas.Cmp.{nat_eq_equiv}
use Rattle.std.proofs.lemmas.List.{length-append, length-map, map-append, take_more}
use Rattle.std.proofs.lemmas.List.Folds.{list_any-append}
use Rattle.std.proofs.lemmas.List.Sums.{fold-append}
use Rattle.std.proofs.lemmas.Map.Keys.{IsDistinct-push}
use Rattle.admit_core.specs.Lists.{is_among}
use Rattle.admit_core.specs.declared.dossier.Wish.{Wish}
use Rattle.markets.specs.Dossiers.{in_turn, named}

-- one number more
abbrev pub noted : List ℕ → ℕ → List ℕ
noted seen n = if is_among n seen then seen else seen ++ n ∷ []

pub named_more : (ws : List Wish) (i : ℕ) (d : Wish) → i < length ws
    → named (take (i + 1) ws) ≡ noted (named (take i ws)) (get_or ws i d).candidate
named_more ws i d lt =
    ap named (take_more ws i d lt) ∙ ap in_turn (map-append (λ w. w.candidate) (take i ws) (get_or ws i d ∷ []))
    ∙ fold-append noted [] (map (λ w. w.candidate) (take i ws)) ((get_or ws i d).candidate ∷ [])

-- none stands twice
apart : (ns seen : List ℕ) → IsDistinct nat_eq seen → IsDistinct nat_eq (fold noted seen ns)
apart [] seen is = is
apart (n ∷ ns) seen is =
    apart ns (noted seen n)
    (elim (cases_Bool (is_among n seen)) [
      | inl has ↦ rw has is
      | inr lacks ↦ rw lacks (IsDistinct-push nat_eq_equiv seen n is lacks)
    ])

none_twice : IsDistinct nat_eq []
unfolding IsDistinct
none_twice = tt

pub in_turn_apart : (ns : List ℕ) → IsDistinct nat_eq (in_turn ns)
in_turn_apart ns = apart ns [] none_twice

-- each is among them
noted_keeps : (c n : ℕ) (seen : List ℕ) → is_among c seen ≡ true → is_among c (noted seen n) ≡ true
noted_keeps c n seen t =
    elim (cases_Bool (is_among n seen)) [
      | inl has ↦ rw has t
      | inr lacks ↦ rw lacks (list_any-append (nat_eq c) seen (n ∷ [])
          ∙ or_left (is_among c seen) (is_among c (n ∷ [])) t)
    ]

noted_has : (c n : ℕ) (seen : List ℕ) → nat_eq c n ≡ true → is_among c (noted seen n) ≡ true
noted_has c n seen same =
    elim (cases_Bool (is_among n seen)) [
      | inl has ↦ rw has (ap (λ k. is_among k seen) (eqb-true c n same) ∙ has)
      | inr lacks ↦ rw lacks (list_any-append (nat_eq c) seen (n ∷ [])
          ∙ or_right (is_among c seen) (is_among c (n ∷ [])) (or_left (nat_eq c n) false same))
    ]

keeps : (c : ℕ) (ns seen : List ℕ) → is_among c seen ≡ true → is_among c (fold noted seen ns) ≡ true
keeps c [] seen t = t
keeps c (n ∷ ns) seen t = keeps c ns (noted seen n) (noted_keeps c n seen t)

has : (c : ℕ) (ns seen : List ℕ) → is_among c ns ≡ true → is_among c (fold noted seen ns) ≡ true
has c [] seen t = absurd (false≢true t)
has c (n ∷ ns) seen t =
    elim (or_cases (nat_eq c n) (is_among c ns) t) [
      | inl here ↦ keeps c ns (noted seen n) (noted_has c n seen here)
      | inr later ↦ has c ns (noted seen n) later
    ]

pub in_turn_has : (c : ℕ) (ns : List ℕ) → is_among c ns ≡ true → is_among c (in_turn ns) ≡ true
in_turn_has c ns t = has c ns [] t

-- they are no more
noted_length : (n : ℕ) (seen : List ℕ) → length (noted seen n) ≤ length seen + 1
noted_length n seen =
    elim (cases_Bool (is_among n seen)) [
      | inl has ↦ rw has (omega arith)
      | inr lacks ↦ rw lacks (omega (arith, length-append seen (n ∷ [])))
    ]

no_more : (ns seen : List ℕ) → length (fold noted seen ns) ≤ length seen + length ns
no_more [] seen = omega arith
no_more (n ∷ ns) seen = omega (arith, no_more ns (noted seen n), noted_length n seen)

pub named_length : (ws : List Wish) → length (named ws) ≤ length ws
named_length ws = omega (arith, no_more (map (λ w. w.candidate) ws) [], length-map ws (λ w. w.candidate))

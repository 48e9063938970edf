-- Who blocks a matching, found by walks.
use Rattle.std.proofs.Common.{ℕ, zero, suc, ◌+◌, ◌≤◌, ◌<◌, ◌≡◌, Bool, true, false, List, [], ◌∷◌, length, get_or, inl}
use Rattle.std.proofs.Common.{inr, refl, sym, ◌∙◌, ap, subst, arith}
use Rattle.std.specs.Prelude.{Option, Some, None, find}
use Rattle.std.specs.List.{before_first}
use Rattle.std.specs.Option.{is_some}
use Rattle.std.proofs.lemmas.Bool.{cases_eq, cases_lt, false≢true, false_from_ne_true}
use Rattle.std.proofs.lemmas.List.{get_or_past}
use Rattle.admit_core.specs.Lists.{is_among}
use Rattle.admit_core.proofs.NextCalls.{find_none}
use Rattle.markets.specs.Markets.{MarketRows, list_of}
use Rattle.markets.specs.Matchings.{place_of, is_at, preferred, prefers, would_take, block_of, IsMatching, IsStable}
use Rattle.markets.proofs.Firsts.{any_of, before_yes, before_no}

-- a walk along a list up to the first that stops it
walk_stops : (t u : ℕ → Bool) (xs : List ℕ) (k : ℕ) → k < length xs → ((j : ℕ) → j < k → u (get_or xs j 0) ≡ false)
    → ((j : ℕ) → j < k → t (get_or xs j 0) ≡ false)
    → u (get_or xs k 0) ≡ true → find t (before_first u xs) ≡ None
walk_stops t u [] k lt on fails stop = absurd (omega (arith, lt))
walk_stops t u (x ∷ xs) zero lt on fails stop = rw (before_yes u x xs stop) refl
walk_stops t u (x ∷ xs) (suc k) lt on fails stop =
    let first : t x ≡ false = fails 0 (omega arith) in
    rw (before_no u x xs (on 0 (omega arith)), first)
    (walk_stops t u xs k (omega (arith, lt)) (λ j l. on (suc j) (omega (arith, l)))
    (λ j l. fails (suc j) (omega (arith, l))) stop)

walk_finds : (t u : ℕ → Bool) (xs : List ℕ) (k : ℕ) → k < length xs → ((j : ℕ) → j ≤ k → u (get_or xs j 0) ≡ false)
    → ((j : ℕ) → j < k → t (get_or xs j 0) ≡ false)
    → t (get_or xs k 0) ≡ true → find t (before_first u xs) ≡ Some (get_or xs k 0)
walk_finds t u [] k lt on fails passes = absurd (omega (arith, lt))
walk_finds t u (x ∷ xs) zero lt on fails passes = rw (before_no u x xs (on 0 (omega arith)), passes) refl
walk_finds t u (x ∷ xs) (suc k) lt on fails passes =
    let first : t x ≡ false = fails 0 (omega arith) in
    rw (before_no u x xs (on 0 (omega arith)), first)
    (walk_finds t u xs k (omega (arith, lt)) (λ j l. on (suc j) (omega (arith, l)))
    (λ j l. fails (suc j) (omega (arith, l))) passes)

walk_ends : (t u : ℕ → Bool) (xs : List ℕ) → ((j : ℕ) → j < length xs → u (get_or xs j 0) ≡ false)
    → ((j : ℕ) → j < length xs → t (get_or xs j 0) ≡ false)
    → find t (before_first u xs) ≡ None
walk_ends t u [] on fails = refl
walk_ends t u (x ∷ xs) on fails =
    let first : t x ≡ false = fails 0 (omega arith) in
    rw (before_no u x xs (on 0 (omega arith)), first)
    (walk_ends t u xs (λ j l. on (suc j) (omega (arith, l))) (λ j l. fails (suc j) (omega (arith, l))))

-- the first k programmes of a list are no place of the candidate, and would not take them
pub record ArePassed (m : MarketRows) (places : List (Option ℕ)) (x : ℕ) (place : Option ℕ) (list : List ℕ) (k : ℕ) :
    Type 0 where
  pub elsewhere : (j : ℕ) → j < k → is_at (get_or list j 0) place ≡ false
  pub full : (j : ℕ) → j < k → would_take m places (get_or list j 0) x ≡ false

pub passed_none : (m : MarketRows) (places : List (Option ℕ)) (x : ℕ) (place : Option ℕ) (list : List ℕ)
    → ArePassed m places x place list 0
passed_none m places x place list = record {
  elsewhere = λ j l. absurd (omega (arith, l));
  full = λ j l. absurd (omega (arith, l));
}

pub passed_more : (m : MarketRows) (places : List (Option ℕ)) (x : ℕ) (place : Option ℕ) (list : List ℕ) (k : ℕ)
    → is_at (get_or list k 0) place ≡ false
    → would_take m places (get_or list k 0) x ≡ false → ArePassed m places x place list k
    → ArePassed m places x place list (k + 1)
passed_more m places x place list k away full so =
    record {
      elsewhere = λ j l. elim (cases_eq j k) [
        | inl here ↦ ap (λ i. is_at (get_or list i 0) place) here
            ∙ away
        | inr other ↦ so.elsewhere j (omega (arith, l, other))
      ];
      full = λ j l. elim (cases_eq j k) [
        | inl here ↦ ap (λ i. would_take m places (get_or list i 0) x) here
            ∙ full
        | inr other ↦ so.full j (omega (arith, l, other))
      ];
    }

-- the walk with the candidate's own list and place
own_walk : (m : MarketRows) (places : List (Option ℕ)) (x : ℕ) (place answer : Option ℕ) (list : List ℕ)
    → list ≡ list_of m x
    → place ≡ place_of places x
    → find (λ p. would_take m places p x) (before_first (λ p. is_at p place) list) ≡ answer
    → answer ≡ block_of m places x
own_walk m places x place answer list list_is place_is e =
    let P : List ℕ → Type 0 = λ xs. find (λ p. would_take m places p x) (before_first (λ p. is_at p place) xs)
    ≡ answer in
    let Q : Option ℕ → Type 0 = λ o. find (λ p. would_take m places p x) (before_first (λ p. is_at p o) (list_of m x))
    ≡ answer in
    sym (subst Q place_is (subst P list_is e))

pub block_stops : (m : MarketRows) (places : List (Option ℕ)) (x : ℕ) (place : Option ℕ) (list : List ℕ) (k : ℕ)
    → list ≡ list_of m x
    → place ≡ place_of places x → k < length list
    → is_at (get_or list k 0) place ≡ true → ArePassed m places x place list k → None ≡ block_of m places x
block_stops m places x place list k list_is place_is lt here so =
    own_walk m places x place None list list_is place_is
    (walk_stops (λ p. would_take m places p x) (λ p. is_at p place) list k lt so.elsewhere so.full here)

pub block_found : (m : MarketRows) (places : List (Option ℕ)) (x : ℕ) (place : Option ℕ) (list : List ℕ) (k : ℕ)
    → list ≡ list_of m x
    → place ≡ place_of places x → k < length list
    → is_at (get_or list k 0) place ≡ false → would_take m places (get_or list k 0) x ≡ true
    → ArePassed m places x place list k
    → Some (get_or list k 0) ≡ block_of m places x
block_found m places x place list k list_is place_is lt away takes so =
    own_walk m places x place (Some (get_or list k 0)) list list_is place_is
    (walk_finds (λ p. would_take m places p x) (λ p. is_at p place) list k lt
    (λ j l. elim (cases_eq j k) [
      | inl here ↦ ap (λ i. is_at (get_or list i 0) place) here
          ∙ away
      | inr other ↦ so.elsewhere j (omega (arith, l, other))
    ]) so.full takes)

pub block_ends : (m : MarketRows) (places : List (Option ℕ)) (x : ℕ) (place : Option ℕ) (list : List ℕ) (k : ℕ)
    → list ≡ list_of m x
    → place ≡ place_of places x → length list ≤ k
    → ArePassed m places x place list k → None ≡ block_of m places x
block_ends m places x place list k list_is place_is past so =
    own_walk m places x place None list list_is place_is
    (walk_ends (λ p. would_take m places p x) (λ p. is_at p place) list (λ j l. so.elsewhere j (omega (arith, l, past)))
    (λ j l. so.full j (omega (arith, l, past))))

no_some : (o : Option ℕ) → is_some o ≡ false → o ≡ None
no_some None e = refl
no_some (Some p) e = absurd (false≢true (sym e))

-- where nobody blocks, the matching is stable
pub stable_from : (m : MarketRows) (places : List (Option ℕ)) → IsMatching m places
    → ((x : ℕ) → 0 ≤ x → x < length m.lists → is_some (block_of m places x) ≡ false) → IsStable m places
stable_from m places matching none =
    record {
      matching = matching;
      no_block = λ x p t.
          elim (cases_lt x (length m.lists)) [
            | inl lt ↦
                let nobody : block_of m places x ≡ None = no_some (block_of m places x) (none x (omega arith) lt) in
                false_from_ne_true (would_take m places p x)
                (λ takes. false≢true (sym (find_none (λ q. would_take m places q x) (preferred m places x) nobody)
                ∙ any_of (λ q. would_take m places q x) p (preferred m places x) t takes))
            | inr past ↦
                let empty : prefers m places x p ≡ false = ap
                (λ (xs : List ℕ). is_among p (before_first (λ q. is_at q (place_of places x)) xs))
                (get_or_past m.lists x [] past) in
                absurd (false≢true (sym empty ∙ t))
          ];
    }

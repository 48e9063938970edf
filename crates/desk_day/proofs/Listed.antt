-- A loop that lists what passes a test.
use Rattle.std.proofs.Common.{ℕ, ◌+◌, ◌≤◌, ◌<◌, ◌≡◌, Bool, true, false, cond, List, [], ◌∷◌, ◌++◌, map, length, take}
use Rattle.std.proofs.Common.{get_or, inl, inr, refl, sym, ◌∙◌, ap, arith, filter}
use Rattle.std.proofs.lemmas.Bool.{cases_Bool}
use Rattle.std.proofs.lemmas.List.{append-nil, map-append, take_more, take_all}
use Rattle.std.specs.List.{range_with_len}
use Rattle.std.proofs.lemmas.List.FromFn.{map-range_with_len_more}

filter-append : {X : Type 0} (p : X → Bool) (xs ys : List X) → filter p (xs ++ ys) ≡ filter p xs ++ filter p ys
filter-append p [] ys = refl
filter-append p (x ∷ xs) ys =
    elim (cases_Bool (p x)) [
      | inl passes ↦ rw passes (ap (λ l. x ∷ l) (filter-append p xs ys))
      | inr fails ↦ rw fails (filter-append p xs ys)
    ]

-- what passes of the first i items, each as g gives it
abbrev pub listed : {X Y : Type 0} → (X → Y) → (X → Bool) → List X → ℕ → List Y
listed g p xs i = map g (filter p (take i xs))

pub listed_some : {X Y : Type 0} (g : X → Y) (p : X → Bool) (xs : List X) (i : ℕ) (d : X) (now : List Y)
    → now ≡ listed g p xs i
    → i < length xs → p (get_or xs i d) ≡ true
    → now ++ g (get_or xs i d) ∷ [] ≡ listed g p xs (i + 1)
listed_some g p xs i d now so_far lt passes =
    let x = get_or xs i d in
    rw so_far (sym (ap (λ l. map g (filter p l)) (take_more xs i d lt)
    ∙ ap (map g) (filter-append p (take i xs) (x ∷ []))
    ∙ map-append g (filter p (take i xs)) (filter p (x ∷ []))
    ∙ ap (λ b. map g (filter p (take i xs)) ++ map g (cond b (x ∷ []) [])) passes))

pub listed_none : {X Y : Type 0} (g : X → Y) (p : X → Bool) (xs : List X) (i : ℕ) (d : X) (now : List Y)
    → now ≡ listed g p xs i
    → i < length xs → p (get_or xs i d) ≡ false
    → now ≡ listed g p xs (i + 1)
listed_none g p xs i d now so_far lt fails =
    let x = get_or xs i d in
    so_far ∙ sym (ap (λ l. map g (filter p l)) (take_more xs i d lt)
    ∙ ap (map g) (filter-append p (take i xs) (x ∷ []))
    ∙ map-append g (filter p (take i xs)) (filter p (x ∷ []))
    ∙ ap (λ b. map g (filter p (take i xs)) ++ map g (cond b (x ∷ []) [])) fails
    ∙ append-nil (map g (filter p (take i xs))))

pub listed_all : {X Y : Type 0} (g : X → Y) (p : X → Bool) (xs : List X) (i : ℕ) → length xs ≤ i
    → listed g p xs i ≡ map g (filter p xs)
listed_all g p xs i le = ap (λ l. map g (filter p l)) (take_all i xs le)

-- a number for each place
pub made_more : (f : ℕ → ℕ) (n : ℕ) (now : List ℕ) → now ≡ map f (range_with_len 0 n)
    → now ++ f n ∷ [] ≡ map f (range_with_len 0 (n + 1))
made_more f n now so_far = rw so_far (sym (map-range_with_len_more f 0 n n (omega arith)))

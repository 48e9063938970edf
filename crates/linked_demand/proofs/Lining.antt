-- A candidate's claim in a programme, and their place in its line.
use Rattle.std.proofs.Common.{ℕ, zero, suc, ◌+◌, ◌<◌, ◌≡◌, Bool, true, false, ◌&&◌, List, [], ◌∷◌, map, length, take}
use Rattle.std.proofs.Common.{get_or, inl, inr, refl, sym, ◌∙◌, ap, arith, nat_eq, nat_lt, nat_le, filter, Option, Some}
use Rattle.std.proofs.Common.{unwrap_or}
use Rattle.std.specs.Prelude.{slice_get, All, ◌==◌}
use Rattle.std.specs.List.{list_any, enumerate_from, range_with_len, IsDistinct, AllByRecursion}
use Rattle.std.proofs.lemmas.Bool.{cases_Bool, cases_lt, false≢true, eq-eqb, ne_eqb, eqb-false, lt-ltb, le-ltb, le-leb}
use Rattle.std.proofs.lemmas.Bool.{lt-leb}
use Rattle.std.proofs.lemmas.List.FromFn.{fill_by_all}
use Rattle.std.proofs.lemmas.List.Elements.{All-from_recursion}
use Rattle.std.proofs.lemmas.Option.{slice_get_within, unwrap_or-slice_get}
use Rattle.admit_core.proofs.Plain.{nat_eq_sym, filter_same}
use Rattle.admit_core.specs.declared.dossier.Wish.{Wish}
use Rattle.admit_core.specs.DossierRows.{DossierRows, candidate_of}
use Rattle.admit_core.specs.Lists.{is_among}
use Rattle.admit_core.specs.OwnWishes.{own_places}
use Rattle.day_state.specs.Kept.{wish_in}
use Rattle.day_state.proofs.Places.{candidate_in}
use Rattle.linked_demand.specs.Links.{IsPlaceOf, claim_of}
use Rattle.linked_demand.specs.Opens.{applies_in}
use Rattle.linked_demand.specs.Seats.{applies_at}
use Rattle.linked_demand.proofs.Closing.{places_below}

pub wish_in_is : (ws : List Wish) (i : ℕ) (w : Wish) → slice_get ws i ≡ Some w → wish_in ws i ≡ w
wish_in_is ws i w at = ap (λ (o : Option Wish). unwrap_or o (wish_in [] 0)) at

-- the wishes by place
pub wishes_by_place : (ws : List Wish) → ws ≡ map (wish_in ws) (range_with_len 0 (length ws))
wishes_by_place ws = fill_by_all (wish_in ws) ws (length ws) (wish_in [] 0) refl
    (λ k lt. sym (unwrap_or-slice_get ws k (wish_in [] 0)))

-- the places of those who pass, counted from the first place or taken from a range
pub numbered : {X : Type 0} (t : X → Bool) (f : ℕ → X) (n a : ℕ)
    → map (λ (x : ℕ × X). x.0)
    (filter (λ (x : ℕ × X). t x.1) (enumerate_from a (map f (range_with_len a n)))) ≡ filter
    (λ k. t (f k)) (range_with_len a n)
numbered t f zero a = refl
numbered t f (suc n) a =
    let later = numbered t f n (a + 1) in
    elim (cases_Bool (t (f a))) [
      | inl passes ↦ rw passes (ap (λ (ks : List ℕ). a ∷ ks) later)
      | inr fails ↦ rw fails later
    ]

pub filter_twice : {X : Type 0} (p q : X → Bool) (xs : List X) → filter p (filter q xs) ≡ filter (λ x. q x && p x) xs
filter_twice p q [] = refl
filter_twice {X} p q (x ∷ xs) =
    let later = filter_twice p q xs in
    elim (cases_Bool (q x)) [
      | inl kept ↦ rw kept (elim (cases_Bool (p x)) [
        | inl passes ↦
            rw passes (ap (λ (ys : List X). x ∷ ys) later)
        | inr fails ↦ rw fails later
      ])
      | inr dropped ↦ rw dropped later
    ]

-- a candidate's claim is taken from their own wishes
pub claim_own : (d : DossierRows) (p c : ℕ) → filter (applies_at d p) (own_places d c) ≡ claim_of d p c
claim_own d p c =
    let n = length d.wishes in
    let t = λ (w : Wish). (nat_eq w.candidate c) && (nat_eq w.programme p) in
    filter_twice (applies_at d p) (λ k. candidate_of d k == c) (range_with_len 0 n)
    ∙ filter_same (λ k. (candidate_of d k == c) && applies_at d p k) (λ k. t (wish_in d.wishes k))
    (λ k. rw (candidate_in d.wishes k) refl) (range_with_len 0 n)
    ∙ sym (numbered t (wish_in d.wishes) n 0)
    ∙ ap (λ (ws : List Wish). map (λ (x : ℕ × Wish). x.0)
    (filter (λ (x : ℕ × Wish). t x.1) (enumerate_from 0 ws))) (sym (wishes_by_place d.wishes))

none_below : {X : Type 0} (t : X → Bool) (es : List X) (a k : ℕ) → k < a
    → is_among k (map (λ (x : ℕ × X). x.0) (filter (λ (x : ℕ × X). t x.1) (enumerate_from a es))) ≡ false
none_below t [] a k lt = refl
none_below t (e ∷ es) a k lt =
    let later = none_below t es (a + 1) k (omega arith) in
    elim (cases_Bool (t e)) [
      | inl passes ↦ rw (passes, ne_eqb k a (λ same. omega (arith, lt, same))) later
      | inr fails ↦ rw fails later
    ]

-- a place is among those of a test where what stands there passes
pub among_numbered : {X : Type 0} (t : X → Bool) (es : List X) (a i k : ℕ) (e : X) → slice_get es i ≡ Some e → k ≡ a + i
    → is_among k (map (λ (x : ℕ × X). x.0) (filter (λ (x : ℕ × X). t x.1) (enumerate_from a es))) ≡ t e
among_numbered t [] a i k e at is = absurd (omega (arith, slice_get_within [] i e at))
among_numbered t (x ∷ es) a zero k e at is =
    let same : t x ≡ t e = ap (λ (o : Option _). t (unwrap_or o x)) at in
    elim (cases_Bool (t x)) [
      | inl passes ↦ rw (passes, eq-eqb k a (omega (arith, is))) (sym passes ∙ same)
      | inr fails ↦ rw fails (none_below t es (a + 1) k (omega (arith, is)) ∙ sym fails ∙ same)
    ]
among_numbered t (x ∷ es) a (suc i) k e at is =
    let later = among_numbered t es (a + 1) i k e at (omega (arith, is)) in
    elim (cases_Bool (t x)) [
      | inl passes ↦ rw (passes, ne_eqb k a (λ same. omega (arith, is, same))) later
      | inr fails ↦ rw fails later
    ]

-- a wish is in the claim of its candidate in its programme, and in no other
pub among_claim : (d : DossierRows) (p c i : ℕ) (w : Wish) → slice_get d.wishes i ≡ Some w
    → is_among i (claim_of d p c) ≡ (nat_eq w.candidate c && nat_eq w.programme p)
among_claim d p c i w at = among_numbered (λ (v : Wish). (nat_eq v.candidate c) && (nat_eq v.programme p))
    d.wishes 0 i i w at (omega arith)

pub among_some : (k : ℕ) (ks : List ℕ) → is_among k ks ≡ true → nat_lt 0 (length ks) ≡ true
among_some k [] t = absurd (false≢true t)
among_some k (x ∷ ks) t = lt-ltb 0 (length (x ∷ ks)) (omega arith)

any_numbered : {X : Type 0} (t : X → Bool) (es : List X) (a : ℕ)
    → list_any t es ≡ nat_lt 0 (length (map (λ (x : ℕ × X). x.0) (filter (λ (x : ℕ × X). t x.1) (enumerate_from a es))))
any_numbered t [] a = refl
any_numbered t (e ∷ es) a =
    let later = any_numbered t es (a + 1) in
    let ks = map (λ (x : ℕ × _). x.0) (filter (λ (x : ℕ × _). t x.1) (enumerate_from (a + 1) es)) in
    elim (cases_Bool (t e)) [
      | inl passes ↦ rw passes (sym (lt-ltb 0 (length (a ∷ ks)) (omega arith)))
      | inr fails ↦ rw fails later
    ]

-- a candidate has a wish in a programme where their claim has one
pub applies_claim : (d : DossierRows) (p c : ℕ) → applies_in d p c ≡ nat_lt 0 (length (claim_of d p c))
applies_claim d p c = any_numbered (λ (w : Wish). (nat_eq w.candidate c) && (nat_eq w.programme p)) d.wishes 0

pub all_get : (P : ℕ → Type 0) (ys : List ℕ) → AllByRecursion P ys → (j : ℕ) → j < length ys → P (get_or ys j 0)
all_get P [] all j lt = absurd (omega arith)
all_get P (y ∷ ys) all zero lt = all.0
all_get P (y ∷ ys) all (suc j) lt = all_get P ys all.1 j (omega arith)

all_at : (c : ℕ) (ys : List ℕ) → AllByRecursion (λ y. nat_eq c y ≡ false) ys → (j : ℕ) → j < length ys
    → nat_eq c (get_or ys j 0) ≡ false
all_at c ys all j lt = all_get (λ y. nat_eq c y ≡ false) ys all j lt

once_first : (c x : ℕ) (ys : List ℕ) → AllByRecursion (λ y. nat_eq c y ≡ false) ys → (j : ℕ)
    → j < length (x ∷ ys) → nat_eq j 0 ≡ false → nat_eq c (get_or (x ∷ ys) j 0) ≡ false
once_first c x ys all zero lt ne = absurd (false≢true (sym ne))
once_first c x ys all (suc j) lt ne = all_at c ys all j (omega arith)

once_later : (c x k : ℕ) (ys : List ℕ) → nat_eq c x ≡ false → IsPlaceOf c ys k → (j : ℕ)
    → j < length (x ∷ ys) → nat_eq j (suc k) ≡ false → nat_eq c (get_or (x ∷ ys) j 0) ≡ false
once_later c x k ys not_x at zero lt ne = not_x
once_later c x k ys not_x at (suc j) lt ne =
    at.once j (omega arith) (ne_eqb j k (λ e. eqb-false (suc j) (suc k) ne (ap suc e)))

first_place : (c x : ℕ) (ys : List ℕ) → x ≡ c → AllByRecursion (λ y. nat_eq c y ≡ false) ys → IsPlaceOf c (x ∷ ys) 0
first_place c x ys is all = record { within = omega arith; here = is; once = once_first c x ys all }

next_place : (c x k : ℕ) (ys : List ℕ) → nat_eq c x ≡ false → IsPlaceOf c ys k → IsPlaceOf c (x ∷ ys) (suc k)
next_place c x k ys not_x at = record {
  within = omega (arith, at.within);
  here = at.here;
  once = once_later c x k ys not_x at;
}

-- in a list where none stands twice each stands at their place, and nowhere else
pub place_at : (xs : List ℕ) (i : ℕ) → IsDistinct nat_eq xs → i < length xs → IsPlaceOf (get_or xs i 0) xs i
unfolding IsDistinct
place_at [] i apart lt = absurd (omega arith)
place_at (x ∷ xs) zero apart lt = first_place x x xs refl apart.0
place_at (x ∷ xs) (suc i) apart lt =
    let c = get_or xs i 0 in
    let not_x : nat_eq c x ≡ false = nat_eq_sym c x ∙ all_at x xs apart.0 i (omega arith) in
    next_place c x i xs not_x (place_at xs i apart.1 (omega arith))

-- and one isn't among those before them
pub fresh : (xs : List ℕ) (i : ℕ) → IsDistinct nat_eq xs → i < length xs → is_among (get_or xs i 0) (take i xs) ≡ false
unfolding IsDistinct
fresh [] i apart lt = absurd (omega arith)
fresh (x ∷ xs) zero apart lt = refl
fresh (x ∷ xs) (suc i) apart lt =
    let not_x : nat_eq (get_or xs i 0) x ≡ false = nat_eq_sym (get_or xs i 0) x ∙ all_at x xs apart.0 i (omega arith) in
    rw not_x (fresh xs i apart.1 (omega arith))

pub le_next : (i limit : ℕ) → nat_le (i + 1) limit ≡ nat_lt i limit
le_next i limit =
    elim (cases_lt i limit) [
      | inl lt ↦ le-leb (i + 1) limit (omega (arith, lt)) ∙ sym (lt-ltb i limit lt)
      | inr le ↦ lt-leb (i + 1) limit (omega (arith, le)) ∙ sym (le-ltb i limit le)
    ]

-- a claim's wishes are places of wishes
pub claim_within : (d : DossierRows) (p c n : ℕ) → n ≡ length d.wishes → All (λ v. v < n) (claim_of d p c)
claim_within d p c n n_is =
    All-from_recursion (λ v. v < n) (claim_of d p c)
    (places_below (λ (x : ℕ × Wish). (nat_eq x.1.candidate c) && (nat_eq x.1.programme p)) d.wishes 0 n
    (omega (arith, n_is)))

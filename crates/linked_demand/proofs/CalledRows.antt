-- What the walks along the call orders of the groups deal to each programme: its wishes in call order.
use Rattle.std.proofs.Common.{ℕ, zero, suc, ◌+◌, ◌≤◌, ◌<◌, ◌≡◌, Bool, true, false, ◌&&◌, List, [], ◌∷◌, ◌++◌, map}
use Rattle.std.proofs.Common.{length, take, get_or, inl, inr, refl, sym, ◌∙◌, ap, arith, nat_eq, nat_lt, filter, Some}
use Rattle.std.proofs.Common.{subst}
use Rattle.std.specs.Prelude.{All, ◌==◌, Option, option_map, slice_get, unwrap_or}
use Rattle.std.proofs.lemmas.Option.{slice_get-get_or}
use Rattle.std.specs.List.{before_first, flat_map, range_with_len, IsDistinct}
use Rattle.std.proofs.lemmas.Bool.{and_parts, cases_Bool, cases_eq, eqb-true, eq-eqb, false≢true, lt-ltb, ne_eqb}
use Rattle.std.proofs.lemmas.List.{append-nil, flat_map_more, get_or-map, length-take-le, take_more}
use Rattle.std.proofs.lemmas.List.Elements.{filter-append}
use Rattle.std.proofs.lemmas.List.Folds.{Any-from_list_any, list_any_at}
use Rattle.admit_core.proofs.Plain.{and_false, any-filter, filter_none, filter_same}
use Rattle.admit_core.specs.declared.dossier.Programme.{Programme}
use Rattle.admit_core.specs.Validity.{IsValid}
use Rattle.admit_core.specs.declared.ranking.CallOrder.{CallOrder}
use Rattle.admit_core.specs.DossierRows.{DossierRows, candidate_of, group_of}
use Rattle.admit_core.specs.Lists.{is_among}
use Rattle.admit_core.specs.OwnWishes.{own_places}
use Rattle.day_state.specs.Kept.{wish_in}
use Rattle.day_state.proofs.Ordering.{range_more}
use Rattle.day_state.proofs.Places.{candidate_in}
use Rattle.proposals.proofs.Front.{front_same}
use Rattle.linked_demand.specs.Called.{before_at, called_all, called_by, called_for, group_claim, is_of_group, order_at}
use Rattle.linked_demand.specs.declared.calling.CalledWish.{CalledWish}
use Rattle.linked_demand.specs.CalledWishes.{called_wish_at}
use Rattle.linked_demand.specs.Links.{claim_of}
use Rattle.linked_demand.specs.Opens.{applies_in}
use Rattle.linked_demand.specs.Seats.{applies_at}
use Rattle.linked_demand.proofs.Lining.{applies_claim, claim_own, filter_twice, fresh}

filter_flat : {A : Type 0} (q : ℕ → Bool) (f : A → List ℕ) (xs : List A)
    → filter q (flat_map f xs) ≡ flat_map (λ x. filter q (f x)) xs
filter_flat q f [] = refl
filter_flat q f (x ∷ xs) = filter-append q (f x) (flat_map f xs) ∙ ap (λ (l : List ℕ). filter q (f x) ++ l)
    (filter_flat q f xs)

pub flat_same : (f g : ℕ → List ℕ) → ((x : ℕ) → f x ≡ g x) → (xs : List ℕ) → flat_map f xs ≡ flat_map g xs
flat_same f g same [] = refl
flat_same f g same (x ∷ xs) = rw (same x) (ap (λ (l : List ℕ). g x ++ l) (flat_same f g same xs))

pub flat_none : (f : ℕ → List ℕ) → ((x : ℕ) → f x ≡ []) → (xs : List ℕ) → flat_map f xs ≡ []
flat_none f none [] = refl
flat_none f none (x ∷ xs) = rw (none x) (flat_none f none xs)

none_after : (f : ℕ → List ℕ) (a n : ℕ) → ((h : ℕ) → a ≤ h → f h ≡ []) → flat_map f (range_with_len a n) ≡ []
none_after f a zero none = refl
none_after f a (suc n) none = rw (none a (omega arith)) (none_after f (a + 1) n (λ h le. none h (omega arith)))

-- where only one number of a range is mapped to anything
only_one : (f : ℕ → List ℕ) (g a n : ℕ) → a ≤ g → g < a + n → ((h : ℕ) → (h ≡ g → ⊥) → f h ≡ [])
    → flat_map f (range_with_len a n) ≡ f g
only_one f g a zero le lt others = absurd (omega arith)
only_one f g a (suc n) le lt others =
    elim (cases_eq a g) [
      | inl same ↦
          ap (λ (l : List ℕ). f a ++ l)
          (none_after f (a + 1) n (λ h h_le. others h (λ e. omega (arith, e, h_le, same))))
          ∙ append-nil (f a) ∙ ap f same
      | inr other ↦ rw (others a other) (only_one f g (a + 1) n (omega (arith, le, other)) (omega arith) others)
    ]

skip_empty : (f : ℕ → List ℕ) (q : ℕ → Bool) → ((x : ℕ) → q x ≡ false → f x ≡ []) → (xs : List ℕ)
    → flat_map f xs ≡ flat_map f (filter q xs)
skip_empty f q empty [] = refl
skip_empty f q empty (x ∷ xs) =
    elim (cases_Bool (q x)) [
      | inl kept ↦ rw kept (ap (λ (l : List ℕ). f x ++ l) (skip_empty f q empty xs))
      | inr dropped ↦ rw (dropped, empty x dropped) (skip_empty f q empty xs)
    ]

none_long : (ks : List ℕ) → nat_lt 0 (length ks) ≡ false → ks ≡ []
none_long [] t = refl
none_long (k ∷ ks) t = absurd (false≢true (sym t ∙ lt-ltb 0 (length (k ∷ ks)) (omega arith)))

-- what a programme has of a candidate's wishes for the programmes of a group
in_group : (d : DossierRows) (p g k : ℕ) → group_of d p ≡ g → (is_of_group d g k && applies_at d p k) ≡ applies_at d p k
in_group d p g k is =
    elim (cases_Bool (applies_at d p k)) [
      | inl own ↦
          let q = (wish_in d.wishes k).programme in
          rw (own, eq-eqb (group_of d q) g (ap (group_of d) (eqb-true q p own) ∙ is)) refl
      | inr other ↦ rw (other, and_false (is_of_group d g k)) refl
    ]

out_of_group : (d : DossierRows) (p g k : ℕ) → (g ≡ group_of d p → ⊥) → (is_of_group d g k && applies_at d p k) ≡ false
out_of_group d p g k differs =
    elim (cases_Bool (applies_at d p k)) [
      | inl own ↦
          let q = (wish_in d.wishes k).programme in
          rw (ne_eqb (group_of d q) g (λ e. differs (sym e ∙ ap (group_of d) (eqb-true q p own)))) refl
      | inr other ↦ rw (other, and_false (is_of_group d g k)) refl
    ]

claim_in : (d : DossierRows) (p c : ℕ) → filter (applies_at d p) (group_claim d (group_of d p) c) ≡ claim_of d p c
claim_in d p c =
    let g = group_of d p in
    filter_twice (applies_at d p) (is_of_group d g) (own_places d c)
    ∙ filter_same (λ k. is_of_group d g k && applies_at d p k) (applies_at d p) (λ k. in_group d p g k refl)
    (own_places d c)
    ∙ claim_own d p c

claim_out : (d : DossierRows) (p g c : ℕ) → (g ≡ group_of d p → ⊥) → filter (applies_at d p) (group_claim d g c) ≡ []
claim_out d p g c differs =
    filter_twice (applies_at d p) (is_of_group d g) (own_places d c)
    ∙ filter_none (λ k. is_of_group d g k && applies_at d p k) (own_places d c)
    (λ j e lt. out_of_group d p g (get_or (own_places d c) j e) differs)

-- THE ROW of a programme
pub row_called : (d : DossierRows) (orders : List CallOrder) (n p : ℕ) → group_of d p < n
    → filter (applies_at d p) (called_all d orders n) ≡ called_for d orders p
row_called d orders n p lt =
    let g = group_of d p in
    let order = order_at orders g in
    let q = applies_at d p in
    filter_flat q (called_by d orders) (range_with_len 0 n)
    ∙ only_one (λ h. filter q (called_by d orders h)) g 0 n (omega arith) (omega (arith, lt))
    (λ h differs. filter_flat q (group_claim d h) (order_at orders h)
    ∙ flat_none (λ c. filter q (group_claim d h c)) (λ c. claim_out d p h c differs) (order_at orders h))
    ∙ filter_flat q (group_claim d g) order
    ∙ flat_same (λ c. filter q (group_claim d g c)) (claim_of d p) (λ c. claim_in d p c) order
    ∙ skip_empty (claim_of d p) (applies_in d p)
    (λ c t. none_long (claim_of d p c) (sym (applies_claim d p c) ∙ t)) order

-- what is kept of wishes that are called shows them, and how many stand before each
pub shown_places : (d : DossierRows) (orders : List CallOrder) (ks : List ℕ)
    → map (λ (x : CalledWish). x.wish) (map (called_wish_at d orders) ks) ≡ ks
shown_places d orders [] = refl
shown_places d orders (k ∷ ks) = ap (λ (l : List ℕ). k ∷ l) (shown_places d orders ks)

pub shown_before : (d : DossierRows) (orders : List CallOrder) (ks : List ℕ)
    → map (λ (x : CalledWish). x.before) (map (called_wish_at d orders) ks) ≡ map (before_at d orders) ks
shown_before d orders [] = refl
shown_before d orders (k ∷ ks) = ap (λ (l : List ℕ). before_at d orders k ∷ l) (shown_before d orders ks)

-- what a filter leaves passes its test
pub kept_by : (q : ℕ → Bool) (k : ℕ) (xs : List ℕ) → is_among k (filter q xs) ≡ true → q k ≡ true
kept_by q k xs among =
    let found = sym (any-filter (nat_eq k) q xs) ∙ among in
    let (i, x, within, at, passes) = Any-from_list_any (λ x. q x && nat_eq k x) xs found in
    let parts = and_parts (q x) (nat_eq k x) passes in
    ap q (eqb-true k x parts.1) ∙ parts.0

pub kept_by_both : (q p : ℕ → Bool) (k : ℕ) (xs : List ℕ) → is_among k (filter q (filter p xs)) ≡ true
    → (p k ≡ true) × (q k ≡ true)
kept_by_both q p k xs among =
    and_parts (p k) (q k) (kept_by (λ x. p x && q x) k xs (ap (is_among k) (sym (filter_twice q p xs)) ∙ among))

pub among_itself : (ks : List ℕ) (j : ℕ) → j < length ks → is_among (get_or ks j 0) ks ≡ true
among_itself ks j lt = list_any_at (nat_eq (get_or ks j 0)) ks j 0 lt (eq-eqb (get_or ks j 0) (get_or ks j 0) refl)

-- who stands before one at a place of a call order
before_there : (order : List ℕ) (i : ℕ) → IsDistinct nat_eq order → i < length order
    → length (before_first (nat_eq (get_or order i 0)) order) ≡ i
before_there order i apart lt =
    ap length (front_same (get_or order i 0) order i lt refl (fresh order i apart lt))
    ∙ length-take-le i order (omega (arith, lt))

pub before_here : (d : DossierRows) (orders : List CallOrder) (g i before : ℕ) (order claim : List ℕ)
    → order ≡ order_at orders g
    → IsDistinct nat_eq (order_at orders g) → i < length order → before ≡ i → claim ≡ group_claim d g (get_or order i 0)
    → All (λ k. before_at d orders k ≡ before) claim
before_here d orders g i before order claim order_is apart lt before_is claim_is j e within =
    let c = get_or order i 0 in
    let k = get_or claim j e in
    let kept = kept_by_both (is_of_group d g) (λ n. candidate_of d n == c) k (range_with_len 0 (length d.wishes))
    (ap (is_among k) (sym claim_is) ∙ list_any_at (nat_eq k) claim j e within (eq-eqb k k refl)) in
    let w = wish_in d.wishes k in
    let candidate : w.candidate ≡ c = sym (candidate_in d.wishes k) ∙ eqb-true (candidate_of d k) c kept.0 in
    let group : group_of d w.programme ≡ g = eqb-true (group_of d w.programme) g kept.1 in
    let P = λ (o : List ℕ). IsDistinct nat_eq o in
    ap (λ n. length (before_first (nat_eq n) (order_at orders (group_of d w.programme)))) candidate
    ∙ ap (λ h. length (before_first (nat_eq c) (order_at orders h))) group
    ∙ ap (λ (o : List ℕ). length (before_first (nat_eq c) o)) (sym order_is)
    ∙ before_there order i (subst P (sym order_is) apart) lt
    ∙ sym before_is

-- one more who is called, and one more group
pub called_more : (f : ℕ → List ℕ) (xs : List ℕ) (i : ℕ) (claim : List ℕ) → i < length xs → claim ≡ f (get_or xs i 0)
    → flat_map f (take (i + 1) xs) ≡ flat_map f (take i xs) ++ claim
called_more f xs i claim lt is =
    ap (flat_map f) (take_more xs i 0 lt) ∙ sym (flat_map_more f [] (take i xs) (get_or xs i 0))
    ∙ ap (λ (l : List ℕ). flat_map f (take i xs) ++ l) (sym is)

pub groups_more : (f : ℕ → List ℕ) (n : ℕ)
    → flat_map f (range_with_len 0 (n + 1)) ≡ flat_map f (range_with_len 0 n) ++ f n
groups_more f n = ap (flat_map f) (range_more 0 n n (omega arith)) ∙ sym (flat_map_more f [] (range_with_len 0 n) n)

-- the call order that is read is that of the group
pub order_read : (orders read : List CallOrder) (g : ℕ) (o : CallOrder) (list : List ℕ) → read ≡ orders
    → g < length orders
    → o ≡ get_or read g o → list ≡ o.list → list ≡ order_at orders g
order_read orders read g o list read_is lt o_is list_is =
    let at : slice_get orders g ≡ Some o =
    slice_get-get_or orders g o lt ∙ ap (λ (x : CallOrder). Some x) (sym
    (o_is ∙ ap (λ (l : List CallOrder). get_or l g o) read_is)) in
    list_is ∙ sym (ap (λ (p : Option CallOrder). unwrap_or (option_map (λ q. q.list) p) []) at)

-- the group of a programme is there
pub group_in : (d : DossierRows) → IsValid d → (p : ℕ) → p < length d.programmes → group_of d p < length d.groups
group_in d valid p lt =
    let none : Programme = record { id = 0; group = 0; seats = 0; limit = 0 } in
    let read : group_of d p ≡ (get_or d.programmes p none).group =
    get_or-map (λ (q : Programme). q.group) d.programmes p none 0 lt in
    let P = λ (n : ℕ). n < length d.groups in
    subst P (sym read) (valid.programmes p none lt).group

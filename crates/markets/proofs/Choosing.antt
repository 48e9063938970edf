-- What candidates wish for, laid into their rows and put in order.
use Prim.Native.Nat.{zero}
use Rattle.std.proofs.Common.{ℕ, suc, ◌≡◌, ◌<◌, false, nat_eq, nat_le, List, [], ◌∷◌, ◌++◌, map, length, get_or}
use Rattle.std.proofs.Common.{inl, inr, refl, sym, ap, ◌∙◌, arith}
use Rattle.std.proofs.Math.ListN.{set}
use Rattle.std.specs.List.{list_any, IsDistinct}
use Rattle.std.proofs.lemmas.Bool.{cases_Bool}
use Rattle.std.proofs.lemmas.List.{map-append, map-set, get_or-map, length-map}
use Rattle.std.proofs.lemmas.Simd.{map-map}
use Rattle.admit_core.specs.Lists.{put_by, sorted_by}
use Rattle.admit_core.proofs.FirstPlaces.{IsAt}
use Rattle.admit_core.specs.declared.dossier.Wish.{Wish}
use Rattle.markets.specs.Choices.{choice_of, own_choices}
use Rattle.markets.specs.Dossiers.{by_preference, own}
use Rattle.markets.proofs.Owning.{lay, lay_none}

at_within : (g : ℕ) (ks : List ℕ) (i : ℕ) → IsAt g ks i → i < length ks
at_within g [] i at = absurd at
at_within g (k ∷ ks) zero at = omega arith
at_within g (k ∷ ks) (suc i) at = omega (arith, at_within g ks i at.1)

-- the candidate gets what the wish is for, and no other row changes
pub choice_laid : (rows : List Wish) (row : Wish) (ks : List ℕ) (i : ℕ) → IsDistinct nat_eq ks → IsAt row.candidate ks i
    → set (map (own_choices rows) ks) i (get_or (map (own_choices rows) ks) i [] ++ choice_of row ∷ [])
    ≡ map (own_choices (rows ++ row ∷ [])) ks
choice_laid rows row ks i apart at =
    let chosen : List Wish → List _ = map choice_of in
    let owned : List (List Wish) = map (own rows) ks in
    let i_in : i < length owned = omega (arith, at_within row.candidate ks i at, length-map ks (own rows)) in
    ap (λ xs. set xs i (get_or xs i [] ++ choice_of row ∷ [])) (sym (map-map chosen (own rows) ks))
    ∙ ap (λ x. set (map chosen owned) i (x ++ choice_of row ∷ [])) (get_or-map chosen owned i [] [] i_in)
    ∙ ap (set (map chosen owned) i) (sym (map-append choice_of (get_or owned i []) (row ∷ [])))
    ∙ sym (map-set chosen owned i (get_or owned i [] ++ row ∷ []))
    ∙ ap (map chosen) (lay rows row ks i apart at)
    ∙ map-map chosen (own (rows ++ row ∷ [])) ks

pub choice_lay_none : (rows : List Wish) (row : Wish) (ks : List ℕ) → list_any (nat_eq row.candidate) ks ≡ false
    → map (own_choices rows) ks ≡ map (own_choices (rows ++ row ∷ [])) ks
choice_lay_none rows row ks h =
    sym (map-map (map choice_of) (own rows) ks) ∙ ap (map (map choice_of)) (lay_none rows row ks h)
    ∙ map-map (map choice_of) (own (rows ++ row ∷ [])) ks

-- what is made of items is in order as they are
put_map : {X Y : Type 0} (f : X → Y) (key : Y → ℕ) (x : X) (ys : List X)
    → put_by key (f x) (map f ys) ≡ map f (put_by (λ y. key (f y)) x ys)
put_map f key x [] = refl
put_map f key x (y ∷ ys) =
    elim (cases_Bool (nat_le (key (f x)) (key (f y)))) [
      | inl here ↦ rw here refl
      | inr later ↦ rw later (ap (λ zs. f y ∷ zs) (put_map f key x ys))
    ]

sorted_map : {X Y : Type 0} (f : X → Y) (key : Y → ℕ) (xs : List X)
    → sorted_by key (map f xs) ≡ map f (sorted_by (λ x. key (f x)) xs)
sorted_map f key [] = refl
sorted_map f key (x ∷ xs) =
    ap (put_by key (f x)) (sorted_map f key xs) ∙ put_map f key x (sorted_by (λ y. key (f y)) xs)

pub preferred : (ws : List Wish)
    → map (λ x. x.programme) (sorted_by (λ x. x.preference) (map choice_of ws)) ≡ by_preference ws
preferred ws =
    ap (map (λ x. x.programme)) (sorted_map choice_of (λ x. x.preference) ws)
    ∙ map-map (λ x. x.programme) choice_of (sorted_by (λ w. w.preference) ws)

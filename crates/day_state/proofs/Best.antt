-- The best live wish, found along a candidate's own wishes.
use Rattle.std.proofs.Common.{ℕ, ◌<◌, ◌≡◌, Bool, true, false, cond, ◌&&◌, List, [], ◌∷◌, map, length, inl, inr, refl}
use Rattle.std.proofs.Common.{sym, ◌∙◌, ap, arith, filter, Option, Some, None}
use Rattle.std.specs.Prelude.{◌==◌, ◌⊎◌, nat_le, nat_lt, min, fold, option_map, if◌then◌else◌}
use Rattle.std.specs.List.{range_with_len}
use Rattle.std.proofs.lemmas.Bool.{cases_Bool, and_parts, leb-true, leb-false, ltb-true}
use Rattle.admit_core.specs.declared.dossier.Wish.{Wish}
use Rattle.admit_core.specs.declared.state.Mark.{Mark}
use Rattle.admit_core.specs.DossierRows.{candidate_of}
use Rattle.admit_core.specs.Lists.{lesser, least_by}
use Rattle.admit_core.specs.OwnWishes.{own_places}
use Rattle.admit_core.specs.State.{State, entries, is_live}
use Rattle.admit_core.specs.AutoAnswer.{best_live}
use Rattle.day_state.specs.Kept.{mark_in, wish_in}
use Rattle.day_state.specs.Best.{better, live_preference, best_among}
use Rattle.day_state.proofs.Places.{candidate_in, entry_in, entries_by_place}

better_assoc : (a b c : Option ℕ) → better (better a b) c ≡ better a (better b c)
better_assoc None b c = refl
better_assoc (Some n) None c = refl
better_assoc (Some n) (Some m) None = refl
better_assoc (Some n) (Some m) (Some k) = let e : min (min n m) k ≡ min n (min m k) = omega arith in
    ap (λ (x : ℕ). Some x) e

better_none : (a : Option ℕ) → better a None ≡ a
better_none None = refl
better_none (Some n) = refl

-- the best, from the last place to the first
best_of : (ℕ → Option ℕ) → List ℕ → Option ℕ
best_of g [] = None
best_of g (k ∷ ks) = better (g k) (best_of g ks)

fold_best : (g : ℕ → Option ℕ) (a : Option ℕ) (ks : List ℕ)
    → fold (λ best k. better best (g k)) a ks ≡ better a (best_of g ks)
unfolding best_of
fold_best g a [] = sym (better_none a)
fold_best g a (k ∷ ks) = fold_best g (better a (g k)) ks ∙ better_assoc a (g k) (best_of g ks)

lesser_preference : (e : Wish × Mark) (o : Option (Wish × Mark))
    → option_map (λ (x : Wish × Mark). x.0.preference) (Some (lesser (λ (x : Wish × Mark). x.0.preference) e o))
    ≡ better (Some e.0.preference) (option_map (λ (x : Wish × Mark). x.0.preference) o)
lesser_preference e None = refl
lesser_preference e (Some y) =
    let m = e.0.preference in
    let n = y.0.preference in
    elim (cases_Bool (nat_le m n)) [
      | inl le ↦ let least : m ≡ min m n = omega (arith, leb-true m n le) in rw le (ap (λ (x : ℕ). Some x) least)
      | inr above ↦ let least : n ≡ min m n = omega (arith, leb-false m n above) in
          rw above (ap (λ (x : ℕ). Some x) least)
    ]

best_step : (own live ranked : Bool) (e : Wish × Mark) (g : ℕ → Option ℕ) (k : ℕ) (ks : List ℕ)
    (es : List (Wish × Mark))
    → g k ≡ (if live && ranked then Some e.0.preference else None)
    → best_of g ks ≡ option_map (λ (x : Wish × Mark). x.0.preference)
    (least_by (λ (x : Wish × Mark). x.0.preference) es)
    → best_of g (cond own (k ∷ ks) ks) ≡ option_map (λ (x : Wish × Mark). x.0.preference)
    (least_by (λ (x : Wish × Mark). x.0.preference) (cond ((live && own) && ranked) (e ∷ es) es))
unfolding best_of
best_step true true true e g k ks es is rest =
    rw is (ap (better (Some e.0.preference)) rest
    ∙ sym (lesser_preference e (least_by (λ (x : Wish × Mark). x.0.preference) es)))
best_step true true false e g k ks es is rest = rw is rest
best_step true false ranked e g k ks es is rest = rw is rest
best_step false true ranked e g k ks es is rest = rest
best_step false false ranked e g k ks es is rest = rest

best_filtered : (s : State) (c : ℕ) (ks : List ℕ)
    → best_of (live_preference s.dossier.wishes s.marks) (filter (λ k. candidate_of s.dossier k == c) ks)
    ≡ option_map (λ (x : Wish × Mark). x.0.preference)
    (least_by (λ (x : Wish × Mark). x.0.preference)
    (filter (λ (x : Wish × Mark). is_live x.1 && (x.0.candidate == c) && nat_lt 0 x.0.preference)
    (map (entry_in s) ks)))
unfolding best_of
best_filtered s c [] = refl
best_filtered s c (k ∷ ks) =
    let w = wish_in s.dossier.wishes k in
    let m = mark_in s.marks k in
    let own = filter (λ k. candidate_of s.dossier k == c) ks in
    let es = filter (λ (x : Wish × Mark). is_live x.1 && (x.0.candidate == c) && nat_lt 0 x.0.preference)
    (map (entry_in s) ks) in
    rw (candidate_in s.dossier.wishes k)
    (best_step (w.candidate == c) (is_live m) (nat_lt 0 w.preference) (w, m)
    (live_preference s.dossier.wishes s.marks) k own es refl (best_filtered s c ks))

-- along a candidate's own wishes, the best live one is found
pub best_own : (s : State) (c : ℕ) → length s.marks ≡ length s.dossier.wishes
    → best_among s.dossier.wishes s.marks (own_places s.dossier c) ≡ option_map (λ x. x.0.preference) (best_live s c)
best_own s c long =
    fold_best (live_preference s.dossier.wishes s.marks) None (own_places s.dossier c)
    ∙ best_filtered s c (range_with_len 0 (length s.dossier.wishes))
    ∙ rw (entries_by_place s long) refl

lesser_one : {X : Type 0} (key : X → ℕ) (y : X) (o : Option X) (x : X) → Some (lesser key y o) ≡ Some x
    → (y ≡ x) ⊎ (o ≡ Some x)
lesser_one key y None x e = inl (cc)
lesser_one key y (Some z) x e =
    elim (cases_Bool (nat_le (key y) (key z))) [
      | inl le ↦ let f : Some y ≡ Some x = rw le at e in inl (cc)
      | inr above ↦ let f : Some z ≡ Some x = rw above at e in inr f
    ]

least_passes : {X : Type 0} (q : X → Bool) (key : X → ℕ) (ys : List X) (x : X) → least_by key (filter q ys) ≡ Some x
    → q x ≡ true
least_passes q key [] x e = absurd (cc)
least_passes q key (y ∷ ys) x e =
    elim (cases_Bool (q y)) [
      | inl passes ↦ elim (lesser_one key y (least_by key (filter q ys)) x (rw passes at e)) [
        | inl same ↦ rw (← same) passes
        | inr later ↦ least_passes q key ys x later
      ]
      | inr fails ↦ least_passes q key ys x (rw fails at e)
    ]

-- the best live wish is ranked
pub best_ranked : (s : State) (c : ℕ) (x : Wish × Mark) → best_live s c ≡ Some x → 0 < x.0.preference
best_ranked s c x is =
    let passes = least_passes (λ (y : Wish × Mark). is_live y.1 && (y.0.candidate == c) && nat_lt 0 y.0.preference)
    (λ (y : Wish × Mark). y.0.preference) (entries s) x is in
    ltb-true 0 x.0.preference (and_parts (is_live x.1 && (x.0.candidate == c)) (nat_lt 0 x.0.preference) passes).1

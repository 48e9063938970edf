-- Wishes laid into the rows of their candidates.
use Rattle.std.proofs.Common.{◌≡◌, ℕ, suc, Bool, true, false, nat_eq, List, [], ◌∷◌, ◌++◌, map, get_or, refl, sym, ap}
use Rattle.std.proofs.Common.{◌∙◌, true≢false}
use Prim.Native.Nat.{zero}
use Rattle.std.proofs.Math.ListN.{set}
use Rattle.std.specs.List.{list_any, IsDistinct}
use Rattle.admit_core.proofs.Plain.{nat_eq_sym}
use Rattle.admit_core.proofs.FirstPlaces.{none_after, IsAt}
use Rattle.admit_core.specs.declared.dossier.Wish.{Wish}
use Rattle.markets.specs.Dossiers.{own}

-- a wish more is in the row of its candidate, and in no other
in_own : (rows : List Wish) (row : Wish) (k : ℕ) → nat_eq k row.candidate ≡ true
    → own (rows ++ row ∷ []) k ≡ own rows k ++ row ∷ []
in_own [] row k e = rw e refl
in_own (r ∷ rows) row k e = by (nat_eq k r.candidate) refl (in_own rows row k e)
  where
    by : (b : Bool) → nat_eq k r.candidate ≡ b → own (rows ++ row ∷ []) k ≡ own rows k ++ row ∷ []
        → own (r ∷ (rows ++ row ∷ [])) k ≡ own (r ∷ rows) k ++ row ∷ []
    by true f ih = rw f (ap (λ l. r ∷ l) ih)
    by false f ih = rw f ih

in_other : (rows : List Wish) (row : Wish) (k : ℕ) → nat_eq k row.candidate ≡ false
    → own (rows ++ row ∷ []) k ≡ own rows k
in_other [] row k e = rw e refl
in_other (r ∷ rows) row k e = by (nat_eq k r.candidate) refl (in_other rows row k e)
  where
    by : (b : Bool) → nat_eq k r.candidate ≡ b → own (rows ++ row ∷ []) k ≡ own rows k
        → own (r ∷ (rows ++ row ∷ [])) k ≡ own (r ∷ rows) k
    by true f ih = rw f (ap (λ l. r ∷ l) ih)
    by false f ih = rw f ih

-- where no key is the candidate
in_none : (rows : List Wish) (row : Wish) (ks : List ℕ) → list_any (nat_eq row.candidate) ks ≡ false
    → map (own (rows ++ row ∷ [])) ks ≡ map (own rows) ks
in_none rows row [] h = refl
in_none rows row (k ∷ ks) h = by (nat_eq row.candidate k) refl (in_none rows row ks)
  where
    by : (b : Bool) → nat_eq row.candidate k ≡ b
        → (list_any (nat_eq row.candidate) ks ≡ false → map (own (rows ++ row ∷ [])) ks ≡ map (own rows) ks)
        → map (own (rows ++ row ∷ [])) (k ∷ ks) ≡ map (own rows) (k ∷ ks)
    by true f ih = absurd (true≢false (sym (rw f at (sym h))))
    by false f ih = let g : list_any (nat_eq row.candidate) ks ≡ false = rw f at h in rw
        (in_other rows row k (nat_eq_sym k row.candidate ∙ f), ih g) refl

-- the candidate gets the wish, and no other row changes
pub lay : (rows : List Wish) (row : Wish) (ks : List ℕ) (i : ℕ) → IsDistinct nat_eq ks → IsAt row.candidate ks i
    → set (map (own rows) ks) i (get_or (map (own rows) ks) i [] ++ row ∷ []) ≡ map (own (rows ++ row ∷ [])) ks
unfolding IsDistinct
lay rows row [] i apart at = absurd at
lay rows row (k ∷ ks) zero apart at =
    rw (
      in_own rows row k (nat_eq_sym k row.candidate ∙ at),
      in_none rows row ks
          (none_after row.candidate k ks at apart.0),
    ) refl
lay rows row (k ∷ ks) (suc i) apart (not_here, there) =
    rw (in_other rows row k (nat_eq_sym k row.candidate ∙ not_here))
    (ap (λ l. own rows k ∷ l) (lay rows row ks i apart.1 there))

pub lay_none : (rows : List Wish) (row : Wish) (ks : List ℕ) → list_any (nat_eq row.candidate) ks ≡ false
    → map (own rows) ks ≡ map (own (rows ++ row ∷ [])) ks
lay_none rows row ks h = sym (in_none rows row ks h)

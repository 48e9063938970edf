-- Rows laid into the lists of their groups.
use Rattle.std.proofs.Common.{◌≡◌, ℕ, suc, Bool, true, false, nat_eq, List, [], ◌∷◌, ◌++◌, map, get_or, refl, sym, ap}
use Rattle.std.proofs.Common.{◌∙◌, true≢false}
use Prim.Native.Nat.{zero}
use Rattle.std.proofs.Math.ListN.{set}
use Rattle.std.specs.List.{list_any, IsDistinct}
use Rattle.admit_core.proofs.Plain.{nat_eq_sym}
use Rattle.admit_core.proofs.FirstPlaces.{none_after, IsAt}
use Rattle.admit_core.specs.declared.tables.RankRow.{RankRow}
use Rattle.admit_core.specs.Standing.{ranked_in, ranked_row}

-- a row more is in the list of its group, and in no other
in_own : (rows : List RankRow) (row : RankRow) (k : ℕ) → nat_eq k row.group ≡ true
    → ranked_in (rows ++ row ∷ []) k ≡ ranked_in rows k ++ ranked_row row ∷ []
in_own [] row k e = rw e refl
in_own (r ∷ rows) row k e = by (nat_eq k r.group) refl (in_own rows row k e)
  where
    by : (b : Bool) → nat_eq k r.group ≡ b → ranked_in (rows ++ row ∷ []) k ≡ ranked_in rows k ++ ranked_row row ∷ []
        → ranked_in (r ∷ (rows ++ row ∷ [])) k ≡ ranked_in (r ∷ rows) k ++ ranked_row row ∷ []
    by true f ih = rw f (ap (λ l. ranked_row r ∷ l) ih)
    by false f ih = rw f ih

in_other : (rows : List RankRow) (row : RankRow) (k : ℕ) → nat_eq k row.group ≡ false
    → ranked_in (rows ++ row ∷ []) k ≡ ranked_in rows k
in_other [] row k e = rw e refl
in_other (r ∷ rows) row k e = by (nat_eq k r.group) refl (in_other rows row k e)
  where
    by : (b : Bool) → nat_eq k r.group ≡ b → ranked_in (rows ++ row ∷ []) k ≡ ranked_in rows k
        → ranked_in (r ∷ (rows ++ row ∷ [])) k ≡ ranked_in (r ∷ rows) k
    by true f ih = rw f (ap (λ l. ranked_row r ∷ l) ih)
    by false f ih = rw f ih

-- where no key is the row's group
in_none : (rows : List RankRow) (row : RankRow) (ks : List ℕ) → list_any (nat_eq row.group) ks ≡ false
    → map (ranked_in (rows ++ row ∷ [])) ks ≡ map (ranked_in rows) ks
in_none rows row [] h = refl
in_none rows row (k ∷ ks) h = by (nat_eq row.group k) refl (in_none rows row ks)
  where
    by : (b : Bool) → nat_eq row.group k ≡ b
        → (list_any (nat_eq row.group) ks ≡ false → map (ranked_in (rows ++ row ∷ [])) ks ≡ map (ranked_in rows) ks)
        → map (ranked_in (rows ++ row ∷ [])) (k ∷ ks) ≡ map (ranked_in rows) (k ∷ ks)
    by true f ih = absurd (true≢false (sym (rw f at (sym h))))
    by false f ih = let g : list_any (nat_eq row.group) ks ≡ false = rw f at h in
        rw (in_other rows row k (nat_eq_sym k row.group ∙ f), ih g) refl

-- the row's group gets the row, and no other list changes
pub lay : (rows : List RankRow) (row : RankRow) (ks : List ℕ) (i : ℕ) → IsDistinct nat_eq ks → IsAt row.group ks i
    → set (map (ranked_in rows) ks) i (get_or (map (ranked_in rows) ks) i [] ++ ranked_row row ∷ [])
    ≡ map (ranked_in (rows ++ row ∷ [])) ks
unfolding IsDistinct
lay rows row [] i apart at = absurd at
lay rows row (k ∷ ks) zero apart at =
    rw (in_own rows row k (nat_eq_sym k row.group ∙ at), in_none rows row ks (none_after row.group k ks at apart.0))
    refl
lay rows row (k ∷ ks) (suc i) apart (not_here, there) =
    rw (in_other rows row k (nat_eq_sym k row.group ∙ not_here))
    (ap (λ l. ranked_in rows k ∷ l) (lay rows row ks i apart.1 there))

pub lay_none : (rows : List RankRow) (row : RankRow) (ks : List ℕ) → list_any (nat_eq row.group) ks ≡ false
    → map (ranked_in rows) ks ≡ map (ranked_in (rows ++ row ∷ [])) ks
lay_none rows row ks h = sym (in_none rows row ks h)

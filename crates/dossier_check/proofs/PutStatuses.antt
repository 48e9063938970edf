-- Statuses put at the places of their wishes, the last row first.
use Rattle.std.proofs.Common.{◌≡◌, ℕ, ◌+◌, ◌-◌, ◌<◌, ◌≤◌, suc, Bool, true, false, nat_eq, List, [], ◌∷◌, length, get_or}
use Rattle.std.proofs.Common.{map, drop, replicate, refl, sym, ap, ◌∙◌, true≢false, arith, drop-cons}
use Prim.Native.Nat.{zero}
use Rattle.std.proofs.Math.ListN.{set, drop_of_length-le}
use Rattle.std.specs.List.{list_any, IsDistinct}
use Rattle.admit_core.proofs.Plain.{nat_eq_sym}
use Rattle.admit_core.proofs.FirstPlaces.{none_after, IsAt}
use Rattle.admit_core.specs.declared.state.Status.TheVariants.{Waiting}
use Rattle.admit_core.specs.declared.tables.StateRow.{StateRow}
use Rattle.admit_core.specs.declared.tables.WishRow.{WishRow}
use Rattle.dossier_check.specs.Statuses.{status_in}

module _ (row : StateRow) (rows : List StateRow) where
  own : (w : WishRow) → nat_eq row.wish w.id ≡ true → status_in (row ∷ rows) w ≡ row.status
  own w e = rw (nat_eq_sym w.id row.wish ∙ e) refl

  other : (w : WishRow) → nat_eq row.wish w.id ≡ false → status_in (row ∷ rows) w ≡ status_in rows w
  other w e = rw (nat_eq_sym w.id row.wish ∙ e) refl

  -- a row that names none of the wishes
  pub put_none : (ws : List WishRow) → list_any (nat_eq row.wish) (map (λ w. w.id) ws) ≡ false
      → map (status_in rows) ws ≡ map (status_in (row ∷ rows)) ws
  put_none [] none = refl
  put_none (w ∷ ws) none = by (nat_eq row.wish w.id) refl (put_none ws)
    where
      by : (b : Bool) → nat_eq row.wish w.id ≡ b
          → (list_any (nat_eq row.wish) (map (λ v. v.id) ws) ≡ false
          → map (status_in rows) ws ≡ map (status_in (row ∷ rows)) ws)
          → map (status_in rows) (w ∷ ws) ≡ map (status_in (row ∷ rows)) (w ∷ ws)
      by true e rest = absurd (true≢false (sym (rw e at (sym none))))
      by false e rest =
          let none_left : list_any (nat_eq row.wish) (map (λ v. v.id) ws) ≡ false = rw e at none in
          rw (other w e, rest none_left) refl

  -- a row of the wish at a place
  pub put_own : (ws : List WishRow) (i : ℕ) → IsDistinct nat_eq (map (λ w. w.id) ws)
      → IsAt row.wish (map (λ w. w.id) ws) i
      → set (map (status_in rows) ws) i row.status ≡ map (status_in (row ∷ rows)) ws
  unfolding IsDistinct
  put_own [] i apart at = absurd at
  put_own (w ∷ ws) zero apart at =
      rw (own w at, put_none ws (none_after row.wish w.id (map (λ v. v.id) ws) at apart.0)) refl
  put_own (w ∷ ws) (suc i) apart (not_here, there) =
      rw (other w not_here) (ap (λ l. status_in rows w ∷ l) (put_own ws i apart.1 there))

-- the row before those that were put
pub row_before : (rows : List StateRow) (after : ℕ) (d : StateRow) → after < length rows
    → get_or rows (length rows - 1 - after) d ∷ drop (length rows - after) rows ≡ drop (length rows - (after + 1)) rows
row_before rows after d lt =
    let place : length rows - 1 - after ≡ length rows - (after + 1) = omega arith in
    let next : suc (length rows - (after + 1)) ≡ length rows - after = omega arith in
    rw (place, ← next) (sym (drop-cons rows (length rows - (after + 1)) d (omega arith)))

-- before any row is put, and after all are
waiting : (ws : List WishRow) → replicate (length ws) Waiting ≡ map (status_in []) ws
waiting [] = refl
waiting (w ∷ ws) = ap (λ l. Waiting ∷ l) (waiting ws)

pub none_put : (rows : List StateRow) (ws : List WishRow)
    → replicate (length ws) Waiting ≡ map (status_in (drop (length rows - 0) rows)) ws
none_put rows ws =
    let le : length rows ≤ length rows - 0 = omega arith in rw (drop_of_length-le rows le) (waiting ws)

pub all_put : (rows : List StateRow) (after : ℕ) → length rows ≤ after → drop (length rows - after) rows ≡ rows
all_put rows after le =
    let none : length rows - after ≡ 0 = omega arith in rw none refl

-- What wishes are of, in order.
use Rattle.std.proofs.Common.{◌≡◌, ℕ, ◌<◌, Bool, true, false, nat_eq, List, map, length, get_or, Option, Some, None}
use Rattle.std.proofs.Common.{unwrap_or, Ordering, refl, sym, ◌∙◌, subst, arith, true≢false, AllPairs}
use Rattle.std.specs.Cmp.{IsTotalOrder}
use Rattle.std.specs.List.{IsDistinct, IsAllAdjacentAnswer}
use Rattle.std.specs.List.Sorted.{IsPermutation}
use Rattle.std.specs.Ordering.{nat_cmp, is_lt, eq_by_cmp, ordering_then}
use Rattle.std.proofs.lemmas.Bool.{false≢true}
use Rattle.std.proofs.lemmas.Cmp.{nat_cmp_total, on_total, then_total, tied_itself}
use Rattle.std.proofs.lemmas.List.{get_or-map}
use Rattle.std.proofs.lemmas.Map.Keys.{apart_from_distinct}
use Rattle.admit_core.specs.declared.tables.WishRow.{WishRow}
use Rattle.admit_core.specs.Relations.{same_wish, same_school}
use Rattle.dossier_check.specs.Wished.{wished}
use Rattle.dossier_check.proofs.InOrder.{apart_in_order}
use Rattle.dossier_check.proofs.Firsts.{length-map-here}
use Rattle.dossier_check.proofs.Places.{nat_eq_sound}

-- by candidate, then by programme, then by school
abbrev pub wished_cmp : ℕ × ℕ × ℕ → ℕ × ℕ × ℕ → Ordering
wished_cmp x y = ordering_then (nat_cmp x.0 y.0) (ordering_then (nat_cmp x.1 y.1) (nat_cmp x.2 y.2))

wished_total : IsTotalOrder wished_cmp
wished_total = then_total (on_total (λ (x : ℕ × ℕ × ℕ). x.0) nat_cmp_total)
    (then_total (on_total (λ (x : ℕ × ℕ × ℕ). x.1) nat_cmp_total) (on_total (λ (x : ℕ × ℕ × ℕ). x.2) nat_cmp_total))

same_schools : (h k : Option ℕ) → same_school h k ≡ true → unwrap_or k 0 ≡ unwrap_or h 0
same_schools None None e = refl
same_schools (Some h) (Some k) e = sym (nat_eq_sound h k e)
same_schools None (Some k) e = absurd (false≢true e)
same_schools (Some h) None e = absurd (false≢true e)

triple : (a b c x y z : ℕ) → a ≡ x → b ≡ y → c ≡ z → eq_by_cmp wished_cmp (a, b, c) (x, y, z) ≡ true
triple a b c x y z e f g = rw (e, f, g, tied_itself wished_total (x, y, z)) refl

-- rows of the same wish are of the same
same_keys : (row r : WishRow) → same_wish row r ≡ true → eq_by_cmp wished_cmp (wished r) (wished row) ≡ true
same_keys row r e = by (nat_eq row.candidate r.candidate) refl (nat_eq row.programme r.programme) refl
  where
    by : (a : Bool) → nat_eq row.candidate r.candidate ≡ a → (b : Bool) → nat_eq row.programme r.programme ≡ b
        → eq_by_cmp wished_cmp (wished r) (wished row) ≡ true
    by true ea true eb =
        triple r.candidate r.programme (unwrap_or r.school 0) row.candidate row.programme (unwrap_or row.school 0)
        (sym (nat_eq_sound row.candidate r.candidate ea)) (sym (nat_eq_sound row.programme r.programme eb))
        (same_schools row.school r.school (rw (ea, eb) at e))
    by true ea false eb = absurd (false≢true (rw (ea, eb) at e))
    by false ea b eb = absurd (false≢true (rw ea at e))

not_same : (row r : WishRow) → eq_by_cmp wished_cmp (wished r) (wished row) ≡ false → same_wish row r ≡ false
not_same row r apart = by (same_wish row r) refl
  where
    by : (b : Bool) → same_wish row r ≡ b → same_wish row r ≡ false
    by true e = absurd (true≢false (sym (same_keys row r e) ∙ apart))
    by false e = e

apart_rows : (rows : List WishRow) → IsDistinct (eq_by_cmp wished_cmp) (map wished rows)
    → AllPairs (λ r row. same_wish row r ≡ false) rows
apart_rows rows apart i j d lt within =
    let there : j < length (map wished rows) = omega (arith, length-map-here wished rows) in
    let differ : eq_by_cmp wished_cmp (get_or (map wished rows) i (wished d)) (get_or (map wished rows) j (wished d))
    ≡ false =
    apart_from_distinct (eq_by_cmp wished_cmp) (map wished rows) i j (wished d) apart lt there in
    not_same (get_or rows j d) (get_or rows i d)
    (rw (
      get_or-map wished rows i d (wished d) (omega arith),
      get_or-map wished rows j d
          (wished d) within,
    ) at differ)

pub no_wish_twice : (rows : List WishRow) (keys ordered : List (ℕ × ℕ × ℕ)) (r : Bool) → keys ≡ map wished rows
    → IsPermutation keys ordered
    → IsAllAdjacentAnswer (λ x y b. b ≡ is_lt (wished_cmp x y)) ordered r → r ≡ true
    → AllPairs (λ r row. same_wish row r ≡ false) rows
no_wish_twice rows keys ordered r made moved answer e =
    let apart : IsDistinct (eq_by_cmp wished_cmp) keys =
    apart_in_order wished_total (0, 0, 0) keys ordered r moved answer e in
    apart_rows rows (subst (IsDistinct (eq_by_cmp wished_cmp)) made apart)

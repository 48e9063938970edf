-- Preferences in order.
use Rattle.std.proofs.Common.{◌≡◌, ℕ, Bool, true, false, ◌&&◌, nat_eq, nat_lt, List, map, filter, get_or, Ordering}
use Rattle.std.proofs.Common.{refl, sym, ap, ◌∙◌, subst, true≢false, AllPairs}
use Rattle.std.specs.Cmp.{IsTotalOrder}
use Rattle.std.specs.List.{IsDistinct, IsAllAdjacentAnswer}
use Rattle.std.specs.List.Sorted.{IsPermutation}
use Rattle.std.specs.Ordering.{nat_cmp, is_lt, eq_by_cmp, ordering_then}
use Rattle.std.proofs.lemmas.Cmp.{nat_cmp_total, on_total, then_total, tied_itself}
use Rattle.admit_core.specs.declared.tables.WishRow.{WishRow}
use Rattle.dossier_check.specs.Wished.{has_preference, preferred}
use Rattle.dossier_check.proofs.DealtRows.{filtered_apart}
use Rattle.dossier_check.proofs.InOrder.{apart_in_order}
use Rattle.dossier_check.proofs.Places.{nat_eq_sound}

-- by candidate, then by preference
abbrev pub preferred_cmp : ℕ × ℕ → ℕ × ℕ → Ordering
preferred_cmp x y = ordering_then (nat_cmp x.0 y.0) (nat_cmp x.1 y.1)

preferred_total : IsTotalOrder preferred_cmp
preferred_total = then_total (on_total (λ (x : ℕ × ℕ). x.0) nat_cmp_total) (on_total (λ (x : ℕ × ℕ). x.1) nat_cmp_total)

pair : (a b x y : ℕ) → a ≡ x → b ≡ y → eq_by_cmp preferred_cmp (a, b) (x, y) ≡ true
pair a b x y e f = rw (e, f, tied_itself preferred_total (x, y)) refl

-- two wishes with a preference that are not of the same do not have the same
not_taken : (r row : WishRow) → (has_preference r ≡ true → has_preference row ≡ true
    → eq_by_cmp preferred_cmp (preferred r) (preferred row) ≡ false)
    → has_preference row ≡ true → (nat_eq row.candidate r.candidate && nat_eq row.preference r.preference) ≡ false
not_taken r row apart has = by (nat_eq row.candidate r.candidate) refl (nat_eq row.preference r.preference) refl
  where
    by : (a : Bool) → nat_eq row.candidate r.candidate ≡ a → (b : Bool) → nat_eq row.preference r.preference ≡ b
        → (nat_eq row.candidate r.candidate && nat_eq row.preference r.preference) ≡ false
    by false ea b eb = rw ea refl
    by true ea false eb = rw (ea, eb) refl
    by true ea true eb =
        let candidate : r.candidate ≡ row.candidate = sym (nat_eq_sound row.candidate r.candidate ea) in
        let preference : r.preference ≡ row.preference = sym (nat_eq_sound row.preference r.preference eb) in
        let other : has_preference r ≡ true = ap (nat_lt 0) preference ∙ has in
        absurd (true≢false (sym (pair r.candidate r.preference row.candidate row.preference candidate preference)
        ∙ apart other has))

pub no_preference_twice : (rows : List WishRow) (keys ordered : List (ℕ × ℕ)) (r : Bool)
    → keys ≡ map preferred (filter has_preference rows) → IsPermutation keys ordered
    → IsAllAdjacentAnswer (λ x y b. b ≡ is_lt (preferred_cmp x y)) ordered r → r ≡ true
    → AllPairs (λ w row. has_preference row ≡ true
    → (nat_eq row.candidate w.candidate && nat_eq row.preference w.preference) ≡ false) rows
no_preference_twice rows keys ordered r made moved answer e i j d lt within =
    let eq = eq_by_cmp preferred_cmp in
    let apart : IsDistinct eq (map preferred (filter has_preference rows)) =
    subst (IsDistinct eq) made (apart_in_order preferred_total (0, 0) keys ordered r moved answer e) in
    not_taken (get_or rows i d) (get_or rows j d)
    (filtered_apart has_preference eq preferred rows apart i j d lt within)

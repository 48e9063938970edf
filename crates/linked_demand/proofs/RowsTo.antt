-- The rows of the schools, by how many of their boarders come into question.
use Rattle.std.proofs.Common.{ℕ, zero, suc, ◌+◌, ◌<◌, ◌≡◌, List, [], ◌∷◌, ◌++◌, length, take, inl, inr, refl, ap, sym}
use Rattle.std.proofs.Common.{◌∙◌, arith, get_or, Option, Some, subst, unwrap_or, Vec}
use Rattle.std.specs.Prelude.{slice_get, slice_index}
use Rattle.std.specs.declared.alloc.Global.{Global}
use Rattle.std.proofs.Math.ListN.{set}
use Rattle.std.proofs.lemmas.Bool.{cases_eq}
use Rattle.std.proofs.lemmas.List.{get_or_append_left, length-append}
use Rattle.std.proofs.lemmas.Option.{slice_get_within}
use Rattle.admit_core.specs.State.{State}
use Rattle.linked_demand.specs.declared.rows.RowWish.{RowWish}
use Rattle.linked_demand.specs.Rows.{row_in, rows_to, AreEnds, AreEndsAt, IsEnd}

pub length_rows : (s : State) (boarders : List (Vec RowWish Global)) (ends : List ℕ)
    → length ends ≡ length boarders → length (rows_to s boarders ends) ≡ length boarders
length_rows s [] ends long = refl
length_rows s (own ∷ boarders) [] long = absurd (omega (arith, long))
length_rows s (own ∷ boarders) (end ∷ ends) long = ap suc (length_rows s boarders ends (omega (arith, long)))

-- the row of a school
pub row_there : (s : State) (boarders : List (Vec RowWish Global)) (ends : List ℕ)
    → length ends ≡ length boarders → (h : ℕ) (own : Vec RowWish Global) → slice_get boarders h ≡ Some own
    → slice_get (rows_to s boarders ends) h ≡ Some (row_in s (take (slice_index ends h) own.items))
row_there s [] ends long h own at = absurd (omega (arith, slice_get_within {A = Vec RowWish Global} [] h own at))
row_there s (own ∷ boarders) [] long h other at = absurd (omega (arith, long))
row_there s (own ∷ boarders) (end ∷ ends) long zero other at =
    ap (λ (o : Option (Vec RowWish Global)). Some (row_in s (take end (unwrap_or o own).items))) at
row_there s (own ∷ boarders) (end ∷ ends) long (suc h) other at =
    row_there s boarders ends (omega (arith, long)) h other at

pub row_back : (s : State) (boarders : List (Vec RowWish Global)) (ends : List ℕ)
    → length ends ≡ length boarders → (h : ℕ) (row : List RowWish) → slice_get (rows_to s boarders ends) h ≡ Some row
    → (own : Vec RowWish Global) × (slice_get boarders h ≡ Some own)
    × (row ≡ row_in s (take (slice_index ends h) own.items))
row_back s [] ends long h row at = absurd (omega (arith, slice_get_within {A = List RowWish} [] h row at))
row_back s (own ∷ boarders) [] long h row at = absurd (omega (arith, long))
row_back s (own ∷ boarders) (end ∷ ends) long zero row at =
    (own, refl, sym (ap (λ (o : Option (List RowWish)). unwrap_or o row) at))
row_back s (own ∷ boarders) (end ∷ ends) long (suc h) row at =
    row_back s boarders ends (omega (arith, long)) h row at

-- where fewer of one school come into question
pub rows_cut : (s : State) (boarders : List (Vec RowWish Global)) (ends : List ℕ)
    → length ends ≡ length boarders → (h end : ℕ) (own : Vec RowWish Global) → slice_get boarders h ≡ Some own
    → set (rows_to s boarders ends) h (row_in s (take end own.items)) ≡ rows_to s boarders (set ends h end)
rows_cut s [] ends long h end own at = absurd (omega (arith, slice_get_within {A = Vec RowWish Global} [] h own at))
rows_cut s (own ∷ boarders) [] long h end other at = absurd (omega (arith, long))
rows_cut s (own ∷ boarders) (was ∷ ends) long zero end other at =
    ap (λ (o : Option (Vec RowWish Global)). row_in s (take end (unwrap_or o own).items) ∷ rows_to s boarders ends)
    (sym at)
rows_cut s (own ∷ boarders) (was ∷ ends) long (suc h) end other at =
    ap (λ (rows : List (List RowWish)). row_in s (take was own.items) ∷ rows)
    (rows_cut s boarders ends (omega (arith, long)) h end other at)

-- the ends of the first schools are known
pub record AreEndsTo (bars : List ℕ) (boarders : List (Vec RowWish Global)) (n : ℕ) (ends : List ℕ) : Type 0 where
  pub so_many : length ends ≡ n
  pub each : (h : ℕ) (own : Vec RowWish Global) → h < n → slice_get boarders h ≡ Some own
      → IsEnd (slice_index bars h) own.items (slice_index ends h)

pub ends_none : (bars : List ℕ) (boarders : List (Vec RowWish Global)) (ends : List ℕ) → ends ≡ []
    → AreEndsTo bars boarders 0 ends
ends_none bars boarders ends none = record {
  so_many = ap (λ (xs : List ℕ). length xs) none;
  each = λ h own lt at. absurd (omega (arith, lt));
}

pub ends_more : (bars : List ℕ) (boarders : List (Vec RowWish Global)) (n : ℕ) (ends new : List ℕ) (end : ℕ)
    (own : Vec RowWish Global) → AreEndsTo bars boarders n ends → slice_get boarders n ≡ Some own
    → new ≡ ends ++ end ∷ [] → IsEnd (slice_index bars n) own.items end → AreEndsTo bars boarders (n + 1) new
ends_more bars boarders n ends new end own to at new_is is = rw new_is (record {
  so_many = length-append ends (end ∷ []) ∙ (let e : length ends + 1 ≡ n + 1 = omega (arith, to.so_many) in e);
  each = λ h other lt there. elim (cases_eq h n) [
    | inl here ↦
        let P = λ (j : ℕ). slice_get boarders j ≡ Some other in
        let same : own ≡ other =
        ap (λ (o : Option (Vec RowWish Global)). unwrap_or o own) (sym at ∙ subst P here there) in
        let Q = λ (v : Vec RowWish Global). IsEnd (slice_index bars n) v.items end in
        let R = λ (m : ℕ). IsEnd (slice_index bars n) other.items m in
        let S = λ (j : ℕ). IsEnd (slice_index bars j) other.items (slice_index (ends ++ end ∷ []) j) in
        let last : slice_index (ends ++ end ∷ []) n ≡ end =
        ap (λ (j : ℕ). slice_index (ends ++ end ∷ []) j) (sym to.so_many) ∙ last_read ends end in
        subst S (sym here) (subst R (sym last) (subst Q same is))
    | inr differ ↦
        let less : h < n = omega (arith, lt, differ) in
        let P = λ (m : ℕ). IsEnd (slice_index bars h) other.items m in
        subst P (sym (get_or_append_left ends (end ∷ []) 0 h (omega (arith, less, to.so_many))))
        (to.each h other less there)
  ];
})
  where
    last_read : (ys : List ℕ) (y : ℕ) → get_or (ys ++ y ∷ []) (length ys) 0 ≡ y
    last_read [] y = refl
    last_read (z ∷ ys) y = last_read ys y

pub ends_all : (bars : List ℕ) (boarders : List (Vec RowWish Global)) (n : ℕ) (ends : List ℕ) → n ≡ length boarders
    → AreEndsTo bars boarders n ends → AreEndsAt bars boarders ends
ends_all bars boarders n ends is to = record {
  one_each = to.so_many ∙ is;
  each = λ h own at. to.each h own (omega (arith, is, slice_get_within boarders h own at)) at;
}

pub ends_within : (bars : List ℕ) (boarders : List (Vec RowWish Global)) (ends : List ℕ)
    → AreEndsAt bars boarders ends → AreEnds boarders ends
ends_within bars boarders ends are = record {
  one_each = are.one_each;
  within = λ h own at. (are.each h own at).within;
}

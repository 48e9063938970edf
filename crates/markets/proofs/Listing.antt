-- Rows that are filled list by list.
use Rattle.std.proofs.Common.{ℕ, ◌+◌, ◌≤◌, ◌<◌, ◌≡◌, Bool, true, false, cond, ◌||◌, List, [], ◌∷◌, ◌++◌, map, length}
use Rattle.std.proofs.Common.{take, get_or, inl, inr, refl, sym, ◌∙◌, ap, subst, arith, nat_eq, filter, Some, Vec}
use Rattle.std.specs.Prelude.{slice_get, if◌then◌else◌}
use Rattle.std.specs.List.{range_with_len}
use Rattle.std.specs.declared.alloc.Global.{Global}
use Rattle.std.proofs.Math.ListN.{set}
use Rattle.std.proofs.lemmas.Bool.{cases_eq, eq-eqb, ne_eqb, or_left, or_right}
use Rattle.std.proofs.lemmas.List.{length-set, length-append, append-nil, take_more, take_all, map-id}
use Rattle.std.proofs.lemmas.List.Folds.{list_any-append}
use Rattle.std.proofs.lemmas.List.FromFn.{filter_of_map_range_with_len_more}
use Rattle.std.proofs.lemmas.Option.{slice_get_within, slice_get_read}
use Rattle.admit_core.specs.Lists.{is_among}
use Rattle.linked_demand.proofs.CalledRows.{among_itself}
use Rattle.markets.specs.Markets.{is_list_below}
use Rattle.markets.specs.Listers.{AreListers, ArePutIn, naming}
use Rattle.markets.proofs.BelowCount.{list_below, not_before, last_differs}
use Rattle.admit_core.proofs.Plain.{get_set_here, get_set_other, get_push}

-- empty rows, and one more
pub listers_none : AreListers [] 0 0 []
listers_none = record {
  one_each = refl;
  each = λ p row at. absurd (omega (arith, slice_get_within {A = Vec ℕ Global} [] p row at));
}

pub empty_more : (n : ℕ) (rows : List (Vec ℕ Global)) (row : Vec ℕ Global) → AreListers [] n 0 rows → row.items ≡ []
    → AreListers [] (n + 1) 0 (rows ++ row ∷ [])
empty_more n rows row are none =
    record {
      one_each = omega (arith, length-append rows (row ∷ []), are.one_each);
      each = λ p other at. elim (get_push rows row other p at) [
        | inl before ↦ are.each p other before
        | inr last ↦ ap (λ (v : Vec ℕ Global). v.items) (sym last) ∙ none
      ];
    }

-- empty rows are those of no list, whichever they are
pub listers_start : (lists : List (List ℕ)) (n : ℕ) (rows : List (Vec ℕ Global)) → AreListers [] n 0 rows
    → AreListers lists n 0 rows
listers_start lists n rows are = record { one_each = are.one_each; each = are.each }

-- nothing is put in, and one more number of the list
pub put_none : {A : Type 0} (item : ℕ → A) (rows : List (Vec A Global)) → ArePutIn (λ p. is_among p []) item rows rows
put_none {A} item rows = record { as_many = refl; each = λ p row at. (row, at, sym (append-nil row.items)) }

pub put_more : {A : Type 0} (item : ℕ → A) (xs : List ℕ) (k : ℕ) (old rows : List (Vec A Global))
    (before after : Vec A Global)
    → is_list_below (length old) xs ≡ true → k < length xs
    → before ≡ get_or rows (get_or xs k 0) before → after.items ≡ before.items ++ item (get_or xs k 0) ∷ []
    → ArePutIn (λ p. is_among p (take k xs)) item old rows
    → ArePutIn (λ p. is_among p (take (k + 1) xs)) item old (set rows (get_or xs k 0) after)
put_more {A} item xs k old rows before after is_list lt read pushed are =
    let g : ℕ = get_or xs k 0 in
    let g_lt : g < length rows =
    omega (arith, list_below (length old) xs g is_list (among_itself xs k lt), are.as_many) in
    let front : List ℕ = take k xs in
    let absent : is_among g front ≡ false = not_before (length old) xs k is_list lt in
    let grown : (p : ℕ) → is_among p (take (k + 1) xs) ≡ (is_among p front || (nat_eq p g || false)) =
    λ p. ap (is_among p) (take_more xs k 0 lt) ∙ list_any-append (nat_eq p) front (g ∷ []) in
    record {
      as_many = length-set rows g after ∙ are.as_many;
      each = λ p row at. elim (cases_eq p g) [
        | inl here ↦
            let is : after ≡ row = get_set_here rows g after row (rw here at at) in
            let found : slice_get rows g ≡ Some before = slice_get_read rows (length rows) g before refl g_lt read in
            let (first, first_at, items) = are.each g before found in
            let none : before.items ≡ first.items = items ∙ ap (λ b. first.items ++ (if b then item g ∷ [] else []))
            absent
            ∙ append-nil first.items in
            let among : is_among p (take (k + 1) xs) ≡ true = grown p
            ∙ or_right (is_among p front) (nat_eq p g || false) (or_left (nat_eq p g) false (eq-eqb p g here)) in
            let there : slice_get old p ≡ Some first = ap (slice_get old) here ∙ first_at in
            let are_items : row.items ≡ first.items ++ (if is_among p (take (k + 1) xs) then item p ∷ [] else []) =
            ap (λ (v : Vec A Global). v.items) (sym is) ∙ pushed ∙ ap (λ (ys : List A). ys ++ item g ∷ []) none
            ∙ ap (λ q. first.items ++ item q ∷ []) (sym here)
            ∙ ap (λ b. first.items ++ (if b then item p ∷ [] else [])) (sym among) in
            (first, there, are_items)
        | inr other ↦
            let (first, first_at, items) = are.each p row (get_set_other rows g p after row other at) in
            let same : is_among p (take (k + 1) xs) ≡ is_among p front = grown p
            ∙ last_differs (is_among p front) (nat_eq p g) (ne_eqb p g other) in
            let are_items : row.items ≡ first.items ++ (if is_among p (take (k + 1) xs) then item p ∷ [] else []) =
            items ∙ ap (λ b. first.items ++ (if b then item p ∷ [] else [])) (sym same) in
            (first, first_at, are_items)
      ];
    }

-- the whole list
pub put_whole : {A : Type 0} (item : ℕ → A) (xs : List ℕ) (k : ℕ) (old rows : List (Vec A Global)) → length xs ≤ k
    → ArePutIn (λ p. is_among p (take k xs)) item old rows → ArePutIn (λ p. is_among p xs) item old rows
put_whole {A} item xs k old rows past are =
    let P : List ℕ → Type 0 = λ ys. ArePutIn (λ p. is_among p ys) item old rows in
    subst P (take_all k xs past) are

pub naming_more : (lists : List (List ℕ)) (p k : ℕ)
    → naming lists p (k + 1) ≡ naming lists p k ++ cond (is_among p (get_or lists k [])) (k ∷ []) []
naming_more lists p k =
    let t : ℕ → Bool = λ x. is_among p (get_or lists x []) in
    let more : filter t (map (λ x. x) (range_with_len 0 (k + 1)))
    ≡ filter t (map (λ x. x) (range_with_len 0 k)) ++ cond (t k) (k ∷ []) [] =
    filter_of_map_range_with_len_more t (λ x. x) 0 k k (omega arith) in
    rw (map-id (range_with_len 0 (k + 1)), map-id (range_with_len 0 k)) at more

-- one more list
pub listers_more : (lists : List (List ℕ)) (n k : ℕ) (rows new : List (Vec ℕ Global)) → AreListers lists n k rows
    → ArePutIn (λ p. is_among p (get_or lists k [])) (λ p. k) rows new → AreListers lists n (k + 1) new
listers_more lists n k rows new are put =
    record {
      one_each = put.as_many ∙ are.one_each;
      each = λ p row at.
          let (before, found, items) = put.each p row at in
          items ∙ ap (λ (ys : List ℕ). ys ++ (if is_among p (get_or lists k []) then k ∷ [] else []))
          (are.each p before found)
          ∙ sym (naming_more lists p k);
    }

-- the row of a number
pub row_is : (lists : List (List ℕ)) (n k p : ℕ) (rows : List (Vec ℕ Global)) (row : Vec ℕ Global)
    → AreListers lists n k rows → p < n
    → row ≡ get_or rows p row → row.items ≡ naming lists p k
row_is lists n k p rows row are lt read = are.each p row
    (slice_get_read rows (length rows) p row refl (omega (arith, lt, are.one_each)) read)

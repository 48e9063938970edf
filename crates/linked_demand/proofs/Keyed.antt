-- Rows that are filled place by place.
use Rattle.std.proofs.Common.{ℕ, ◌+◌, ◌<◌, ◌≡◌, Bool, List, [], ◌∷◌, ◌++◌, map, length, take, get_or, inl, inr}
use Rattle.std.proofs.Common.{refl, sym, ◌∙◌, ap, arith, nat_eq, filter, Some, Vec, subst}
use Rattle.std.specs.Prelude.{slice_get, if◌then◌else◌}
use Rattle.std.specs.declared.alloc.Global.{Global}
use Rattle.std.proofs.Math.ListN.{set}
use Rattle.std.proofs.lemmas.Bool.{cases_Bool, cases_eq, eq-eqb, ne_eqb}
use Rattle.std.proofs.lemmas.List.{length-set, length-append}
use Rattle.std.proofs.lemmas.Option.{slice_get_within, slice_get_read, unwrap_or-slice_get}
use Rattle.admit_core.proofs.Plain.{get_set_here, get_set_other, get_push}
use Rattle.admit_core.specs.declared.dossier.Wish.{Wish}
use Rattle.admit_core.specs.DossierRows.{DossierRows}
use Rattle.admit_core.specs.Validity.{IsValid}
use Rattle.day_state.specs.Kept.{wish_in}
use Rattle.proposals.proofs.Picking.{picked, passed_over}
use Rattle.linked_demand.specs.Keyed.{AreEmpty, IsPutIn, AreRowsOf}
use Rattle.linked_demand.proofs.Keeping.{add_none}

pub empty_none : (X : Type 0) → AreEmpty {X = X} 0 []
empty_none X = record {
  as_many = refl;
  each = λ h row at. absurd
      (omega (arith, slice_get_within {A = Vec X Global} [] h row at));
}

pub empty_more : {X : Type 0} (n : ℕ) (rows : List (Vec X Global)) (row : Vec X Global) → AreEmpty n rows
    → row.items ≡ [] → AreEmpty (n + 1) (rows ++ row ∷ [])
empty_more {X} n rows row are none = record {
  as_many = omega (arith, length-append rows (row ∷ []), are.as_many);
  each = λ h other at. elim (get_push rows row other h at) [
    | inl before ↦ are.each h other before
    | inr last ↦ ap (λ (v : Vec X Global). v.items) (sym last) ∙ none
  ];
}

-- an item at the end of one row
pub put_somewhere : {X : Type 0} (g : ℕ) (x : X) (rows : List (Vec X Global)) (before after : Vec X Global)
    → g < length rows → before ≡ get_or rows g before
    → after.items ≡ before.items ++ x ∷ [] → IsPutIn (λ h. nat_eq g h) x rows (set rows g after)
put_somewhere {X} g x rows before after lt read pushed = record {
  as_many = length-set rows g after;
  each = λ h row at. elim (cases_eq h g) [
    | inl here ↦
        let is : after ≡ row = get_set_here rows g after row (rw here at at) in
        let found : slice_get rows h ≡ Some before =
        rw here (slice_get_read rows (length rows) g before refl lt read) in
        let items : row.items ≡ before.items ++ (if nat_eq g h then x ∷ [] else []) =
        rw (eq-eqb g h (sym here)) (ap (λ (v : Vec X Global). v.items) (sym is) ∙ pushed) in
        (before, found, items)
    | inr other ↦
        let items : row.items ≡ row.items ++ (if nat_eq g h then x ∷ [] else []) =
        rw (ne_eqb g h (λ e. other (sym e))) (add_none row.items) in
        (row, get_set_other rows g h after row other at, items)
  ];
}

-- rows of no place, and of one more
pub rows_none : {X : Type 0} (item : ℕ → X) (belongs : ℕ → ℕ → Bool) (n : ℕ) (rows : List (Vec X Global))
    → AreEmpty n rows → AreRowsOf item belongs n [] rows
rows_none item belongs n rows none = record { one_each = none.as_many; each = none.each }

pub rows_more : {X : Type 0} (item : ℕ → X) (belongs : ℕ → ℕ → Bool) (n : ℕ) (places : List ℕ) (i : ℕ)
    (here : ℕ → Bool) (x : X) (rows new : List (Vec X Global)) → i < length places
    → ((h : ℕ) → here h ≡ belongs h (get_or places i 0)) → x ≡ item (get_or places i 0)
    → AreRowsOf item belongs n (take i places) rows → IsPutIn here x rows new
    → AreRowsOf item belongs n (take (i + 1) places) new
rows_more {X} item belongs n places i here x rows new lt here_is x_is are put = record {
  one_each = put.as_many ∙ are.one_each;
  each = λ h row at.
      let (before, found, is) = put.each h row at in
      is
      ∙ ap (λ (ys : List X). ys ++ (if here h then x ∷ [] else [])) (are.each h before found)
      ∙ elim (cases_Bool (belongs h (get_or places i 0))) [
        | inl passes ↦
            ap (λ b. map item (filter (belongs h) (take i places)) ++ (if b then x ∷ [] else [])) (here_is h ∙ passes)
            ∙ ap (λ (y : X). map item (filter (belongs h) (take i places)) ++ y ∷ []) x_is
            ∙ sym (picked (belongs h) item places i lt passes)
        | inr fails ↦
            ap (λ b. map item (filter (belongs h) (take i places)) ++ (if b then x ∷ [] else [])) (here_is h ∙ fails)
            ∙ sym (add_none (map item (filter (belongs h) (take i places))))
            ∙ sym (passed_over (belongs h) item places i lt fails)
      ];
}

-- the programme of a wish stands in its dossier
pub programme_at : (d : DossierRows) → IsValid d → (k : ℕ) → k < length d.wishes → (w : Wish)
    → w ≡ wish_in d.wishes k → w.programme < length d.programmes
programme_at d valid k lt w is =
    let none = wish_in [] 0 in
    let P = λ (v : Wish). v.programme < length d.programmes in
    subst P (sym (is ∙ unwrap_or-slice_get d.wishes k none)) (valid.wishes k none lt).programme

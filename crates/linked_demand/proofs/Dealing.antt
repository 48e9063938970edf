-- Items that are put at the end of rows, those of one place after another.
use Rattle.std.proofs.Common.{ℕ, ◌+◌, ◌≤◌, ◌<◌, ◌≡◌, Bool, List, [], ◌∷◌, ◌++◌, map, length, take, get_or, inl, inr}
use Rattle.std.proofs.Common.{refl, sym, ◌∙◌, ap, arith, filter, Some, Vec, subst}
use Rattle.std.specs.Prelude.{if◌then◌else◌}
use Rattle.std.specs.declared.alloc.Global.{Global}
use Rattle.std.proofs.Math.ListN.{set}
use Rattle.std.proofs.lemmas.Bool.{cases_Bool}
use Rattle.std.proofs.lemmas.List.{append_assoc, length-set, map-append, take_all}
use Rattle.std.proofs.lemmas.List.Elements.{filter-append}
use Rattle.std.proofs.lemmas.Option.{slice_get-get_or, slice_get_within}
use Rattle.admit_core.proofs.Plain.{get_set_other}
use Rattle.proposals.proofs.Picking.{picked, passed_over}
use Rattle.linked_demand.specs.Called.{AreRowsFrom}
use Rattle.linked_demand.specs.Keyed.{AreEmpty, ArePutIn, IsPutIn}
use Rattle.linked_demand.proofs.Keeping.{add_none}

pub puts_none : {X : Type 0} (item : ℕ → X) (belongs : ℕ → ℕ → Bool) (rows : List (Vec X Global))
    → ArePutIn item belongs [] rows rows
puts_none item belongs rows = record { as_many = refl; each = λ h row at. (row, at, add_none row.items) }

pub puts_more : {X : Type 0} (item : ℕ → X) (belongs : ℕ → ℕ → Bool) (places : List ℕ) (i : ℕ) (here : ℕ → Bool) (x : X)
    (old now new : List (Vec X Global)) → i < length places → ((h : ℕ) → here h ≡ belongs h (get_or places i 0))
    → x ≡ item (get_or places i 0) → ArePutIn item belongs (take i places) old now → IsPutIn here x now new
    → ArePutIn item belongs (take (i + 1) places) old new
puts_more {X} item belongs places i here x old now new lt here_is x_is so_far put = record {
  as_many = put.as_many ∙ so_far.as_many;
  each = λ h row at.
      let (mid, found, is) = put.each h row at in
      let (before, start, was) = so_far.each h mid found in
      let front = map item (filter (belongs h) (take i places)) in (
        before,
        start,
        is ∙ ap (λ (ys : List X). ys ++ (if here h then x ∷ [] else [])) was
            ∙ elim (cases_Bool (belongs h (get_or places i 0))) [
              | inl passes ↦
                  ap (λ b. (before.items ++ front) ++ (if b then x ∷ [] else [])) (here_is h ∙ passes)
                  ∙ append_assoc before.items front (x ∷ [])
                  ∙ ap (λ (y : X). before.items ++ (front ++ y ∷ [])) x_is
                  ∙ ap (λ (ys : List X). before.items ++ ys) (sym (picked (belongs h) item places i lt passes))
              | inr fails ↦
                  ap (λ b. (before.items ++ front) ++ (if b then x ∷ [] else [])) (here_is h ∙ fails)
                  ∙ sym (add_none (before.items ++ front))
                  ∙ ap (λ (ys : List X). before.items ++ ys) (sym (passed_over (belongs h) item places i lt fails))
            ],
      );
}

pub puts_all : {X : Type 0} (item : ℕ → X) (belongs : ℕ → ℕ → Bool) (places : List ℕ) (i : ℕ)
    (old new : List (Vec X Global))
    → length places ≤ i → ArePutIn item belongs (take i places) old new → ArePutIn item belongs places old new
puts_all item belongs places i old new le are =
    let P = λ (ks : List ℕ). ArePutIn item belongs ks old new in
    subst P (take_all i places le) are

-- those of some places, and then those of others
pub puts_on : {X : Type 0} (item : ℕ → X) (belongs : ℕ → ℕ → Bool) (xs ys zs : List ℕ)
    (old mid new : List (Vec X Global))
    → zs ≡ xs ++ ys → ArePutIn item belongs xs old mid → ArePutIn item belongs ys mid new
    → ArePutIn item belongs zs old new
puts_on {X} item belongs xs ys zs old mid new zs_is first second = record {
  as_many = second.as_many ∙ first.as_many;
  each = λ h row at.
      let (now, found, is) = second.each h row at in
      let (before, start, was) = first.each h now found in
      let of = λ (ks : List ℕ). map item (filter (belongs h) ks) in (
        before,
        start,
        is ∙ ap (λ (l : List X). l ++ of ys) was
            ∙ append_assoc before.items (of xs) (of ys)
            ∙ ap (λ (l : List X). before.items ++ l)
            (sym (ap of zs_is ∙ ap (map item) (filter-append (belongs h) xs ys)
            ∙ map-append item (filter (belongs h) xs) (filter (belongs h) ys))),
      );
}

-- into rows that were empty
pub puts_begun : {X : Type 0} (item : ℕ → X) (belongs : ℕ → ℕ → Bool) (places : List ℕ) (n : ℕ) (f : ℕ → List X)
    (old new : List (Vec X Global)) → AreEmpty n old → ArePutIn item belongs places old new
    → ((p : ℕ) → p < n → map item (filter (belongs p) places) ≡ f p) → AreRowsFrom 0 n f new
puts_begun {X} item belongs places n f old new empty are is = record {
  one_each = are.as_many ∙ empty.as_many;
  each = λ p row le at.
      let (before, found, row_is) = are.each p row at in
      let lt : p < n = omega (arith, slice_get_within {A = Vec X Global} new p row at, are.as_many, empty.as_many) in
      row_is ∙ ap (λ (l : List X). l ++ map item (filter (belongs p) places)) (empty.each p before found) ∙ is p lt;
}

-- the row that is taken out for a number is as the function says, and the later ones are left
pub row_taken : {X : Type 0} (n count : ℕ) (f : ℕ → List X) (rows : List (Vec X Global)) (row d : Vec X Global)
    → n < count → row ≡ get_or rows n d → AreRowsFrom n count f rows → row.items ≡ f n
row_taken n count f rows row d lt is are =
    are.each n row (omega arith) (slice_get-get_or rows n d (omega (arith, lt, are.one_each)) ∙ ap Some (sym is))

pub rows_later : {X : Type 0} (n count : ℕ) (f : ℕ → List X) (rows : List (Vec X Global)) (row : Vec X Global)
    → AreRowsFrom n count f rows → AreRowsFrom (n + 1) count f (set rows n row)
rows_later n count f rows row are = record {
  one_each = length-set rows n row ∙ are.one_each;
  each = λ p other le at. are.each p other (omega arith) (get_set_other rows n p row other
      (λ e. omega (arith, le, e)) at);
}

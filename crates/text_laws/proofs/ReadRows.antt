-- Rows that are written by their fields are read, under a header, as what each row's fields say.
use Rattle.std.proofs.Common.{ℕ, ◌+◌, ◌≤◌, ◌≡◌, false, List, [], ◌∷◌, ◌++◌, length, map, nat_le, Ok, refl, ◌∙◌, ap}
use Rattle.std.proofs.Common.{arith, eq-eqb}
use Rattle.std.specs.Prelude.{◌==◌, flat_map, true}
use Rattle.std.specs.List.{AllByRecursion}
use Rattle.std.proofs.lemmas.Bool.Decides.{nat_tests}
use Rattle.csv.specs.Reading.{default_config, records, strip_bom}
use Rattle.csv.specs.Writing.{default_writer, read_back, row_text}
use Rattle.csv.proofs.RoundTrip.{rows_text}
use Rattle.dossier_csv.specs.Layout.{Layout}
use Rattle.dossier_csv.specs.Shape.{row_of, rows_from, shape, table_of}
use Rattle.text_laws.proofs.WrittenRows.{all_records}

module _ {A X : Type 0} (fields : X → List (List ℕ)) where
  pub rows_read : (layout : Layout A) (width n : ℕ) (made : X → A) (xs : List X)
      → n + length xs ≤ 16000002
      → AllByRecursion (λ x. (length (fields x) ≡ width) × (layout.row (fields x) ≡ Ok (made x))) xs
      → rows_from layout width n (map fields xs) ≡ Ok (map made xs)
  unfolding rows_from
  rows_read layout width n made [] few all = refl
  rows_read layout width n made (x ∷ xs) few all =
      let within : nat_le 16000002 n ≡ false = grind (arith, nat_tests, few) in
      let wide : (length (fields x) == width) ≡ true = eq-eqb (length (fields x)) width all.0.0 in
      let this : row_of layout width n (fields x) ≡ Ok (made x) = rw (within, wide) all.0.1 in
      rw (this, rows_read layout width (n + 1) made xs (omega (arith, few)) all.1) refl

module _ {X : Type 0} (fields : X → List (List ℕ)) where
  pub rows_written : (written : X → List ℕ) (xs : List X)
      → AllByRecursion (λ x. written x ≡ row_text default_writer (fields x)) xs
      → flat_map written xs ≡ rows_text (map fields xs)
  unfolding rows_text
  rows_written written [] all = refl
  rows_written written (x ∷ xs) all = λ i. all.0 i ++ rows_written written xs all.1 i

  read_as_they_are : (xs : List X) → ((x : X) → read_back (fields x) ≡ fields x)
      → map read_back (map fields xs) ≡ map fields xs
  read_as_they_are [] same = refl
  read_as_they_are (x ∷ xs) same = λ i. same x i ∷ read_as_they_are xs same i

  -- a slot's text, by its header and its rows
  pub slot_read : {A : Type 0} (layout : Layout A) (header : List (List ℕ)) (made : X → A) (xs : List X)
      (text : List ℕ) → strip_bom text ≡ text → text ≡ rows_text (header ∷ map fields xs)
      → read_back header ≡ header → ((x : X) → read_back (fields x) ≡ fields x)
      → table_of layout (header ∷ map fields xs) ≡ rows_from layout (length header) 2 (map fields xs)
      → rows_from layout (length header) 2 (map fields xs) ≡ Ok (map made xs)
      → shape layout text ≡ Ok (map made xs)
  slot_read layout header made xs text no_mark is whole each under rows =
      ap (λ (t : List ℕ). table_of layout (records default_config t)) (no_mark ∙ is)
      ∙ ap (table_of layout) (all_records (header ∷ map fields xs) ∙ (λ i. whole i ∷ read_as_they_are xs each i))
      ∙ under ∙ rows

-- A slot's text is read as its rows, where its fields are plain and each row is read from them.
use Rattle.std.proofs.Common.{◌≤◌, ◌≡◌, List, [], ◌∷◌, ◌++◌, length, map, Ok, ◌∙◌, ap, arith}
use Rattle.std.specs.Prelude.{All}
use Rattle.std.specs.List.{AllByRecursion}
use Rattle.std.proofs.lemmas.List.{map-id}
use Rattle.std.proofs.lemmas.List.Elements.{recursion_from_All}
use Rattle.csv.specs.Reading.{strip_bom}
use Rattle.csv.specs.Writing.{default_writer, read_back, row_text}
use Rattle.csv.proofs.RoundTrip.{rows_text}
use Rattle.dossier_csv.specs.Layout.{Layout}
use Rattle.dossier_csv.specs.Shape.{rows_from, shape, table_of}
use Rattle.report.specs.Words.{row}
use Rattle.text_laws.proofs.ReadRows.{rows_read, rows_written, slot_read}
use Rattle.slot_text.specs.Texts.{Written, table_text}

-- what is asked of each row: how it is written, and that it is read from its fields
pub record IsReadRow {A : Type 0} (layout : Layout A) (w : Written A) (x : A) : Type 0 where
  pub line : row (w.fields x) ≡ row_text default_writer (w.fields x)
  pub wide : length (w.fields x) ≡ length w.header
  pub read : layout.row (w.fields x) ≡ Ok x

-- what is asked of the header
pub record IsReadHeader {A : Type 0} (layout : Layout A) (w : Written A) : Type 0 where
  pub line : row w.header ≡ row_text default_writer w.header
  pub back : read_back w.header ≡ w.header
  pub fields : (x : A) → read_back (w.fields x) ≡ w.fields x
  pub no_mark : (rows : List A) → strip_bom (table_text w rows) ≡ table_text w rows
  pub known : (rows : List A) → table_of layout (w.header ∷ map w.fields rows)
      ≡ rows_from layout (length w.header) 2 (map w.fields rows)

module _ {A : Type 0} (layout : Layout A) (w : Written A) (P : A → Type 0) (head : IsReadHeader layout w)
    (each : (x : A) → P x → IsReadRow layout w x) where
  lines_of : (rows : List A) → AllByRecursion P rows
      → AllByRecursion (λ x. row (w.fields x) ≡ row_text default_writer (w.fields x)) rows
  lines_of [] all = tt
  lines_of (x ∷ xs) all = ((each x all.0).line, lines_of xs all.1)

  reads_of : (rows : List A) → AllByRecursion P rows
      → AllByRecursion (λ x. (length (w.fields x) ≡ length w.header) × (layout.row (w.fields x) ≡ Ok x)) rows
  reads_of [] all = tt
  reads_of (x ∷ xs) all = (((each x all.0).wide, (each x all.0).read), reads_of xs all.1)

  text_is : (rows : List A) → AllByRecursion P rows → table_text w rows ≡ rows_text (w.header ∷ map w.fields rows)
  unfolding rows_text
  text_is rows all =
      λ i. head.line i ++ rows_written w.fields (λ x. row (w.fields x)) rows (lines_of rows all) i

  pub table_read : (rows : List A) → length rows ≤ 16000000 → All P rows → shape layout (table_text w rows) ≡ Ok rows
  table_read rows few all =
      let each_row = recursion_from_All P rows all in
      slot_read w.fields layout w.header (λ x. x) rows (table_text w rows) (head.no_mark rows) (text_is rows each_row)
      head.back head.fields (head.known rows)
      (rows_read w.fields layout (length w.header) 2 (λ x. x) rows (omega (arith, few)) (reads_of rows each_row))
      ∙ ap (λ (l : List A). Ok l) (map-id rows)

use Rattle.std.proofs.Common.{◌≡◌, ◌+◌, ◌-◌, ℕ, List, Some, Bor, vec_len}
use Rattle.admit_core.specs.Ranges.{AreRows}
use Rattle.dossier_csv.specs.Rest.{HasLeft}
use Rattle.dossier_csv.specs.Shape.{rows_from}
use Rattle.dossier_csv.proofs.Tables.{put_before}
use Rattle.dossier_csv.proofs.table.read_rows.Given as goal

abbrev pub invariant-rows : goal.invariant-rows
invariant-rows g l = record {
  whole : (all : List (List (List ℕ))) → HasLeft (λ (text : Bor (List ℕ)). Some text.now) l.fn.reader all
      → (left : List (List (List ℕ))) × HasLeft (λ (text : Bor (List ℕ)). Some text.now) l.reader left
      × (rows_from g.T.TableRow.layout l.width 2 all
      ≡ put_before l.rows.items (rows_from g.T.TableRow.layout l.width (vec_len l.rows + 2) left));
  ranges : AreRows g.T.TableRow.in_range l.rows.items;
}

abbrev pub decreases-rows : goal.decreases-rows
decreases-rows g l = 16000000 - vec_len l.rows

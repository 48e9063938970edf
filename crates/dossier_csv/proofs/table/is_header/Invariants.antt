use Rattle.std.proofs.Common.{◌≡◌, drop, map}
use Rattle.std.specs.List.{list_any}
use Rattle.csv.specs.Records.{fields_of}
use Rattle.dossier_csv.specs.Shape.{same_texts}
use Rattle.dossier_csv.proofs.Headers.{texts}
use Rattle.dossier_csv.proofs.table.is_header.Given as goal

abbrev pub invariant-loop-names : goal.invariant-loop-names
invariant-loop-names g l = list_any (same_texts (fields_of l.row)) g.T.TableRow.layout.headers
    ≡ list_any (same_texts (fields_of l.row)) (map (λ names. texts names.now) (drop l.names-index l.names-items))

use Rattle.std.proofs.Common.{◌≡◌, map, drop, length}
use Rattle.csv.specs.Records.{fields_of}
use Rattle.dossier_csv.specs.Shape.{same_texts}
use Rattle.dossier_csv.proofs.table.has_names.Given as goal

abbrev pub invariant-loop-index : goal.invariant-loop-index
invariant-loop-index l = (length (fields_of l.row) ≡ length l.names)
    × (same_texts (fields_of l.row) (map (λ name. name.now) l.names)
    ≡ same_texts (drop l.index (fields_of l.row)) (map (λ name. name.now) (drop l.index l.names)))

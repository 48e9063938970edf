-- The lines of blocks.
use Rattle.std.specs.Prelude.{ℕ, List, [], ◌∷◌, ◌++◌, Option, Some, None, codes, flat_map, length}
use Rattle.std.specs.Fmt.{decimal}
use Rattle.admit_core.specs.DossierRows.{DossierRows}
use Rattle.report.specs.Ids.{wish_id}
use Rattle.report.specs.Words.{line}
use Rattle.envy.specs.declared.blocks.Block.{Block}

-- who is envied, where somebody is
abbrev pub envied_words : Option ℕ → List (List ℕ)
envied_words None = []
envied_words (Some candidate) = codes "envies" ∷ decimal candidate ∷ []

-- a block, with its wish's id and the seats left
abbrev pub block_line : DossierRows → Block → List ℕ
block_line d block =
    line (codes "block" ∷ decimal (wish_id d block.wish) ∷ codes "left" ∷ decimal block.left
    ∷ envied_words block.envied)

-- a line for each block, and last their number
abbrev pub envy_text : DossierRows → List Block → List ℕ
envy_text d blocks =
    flat_map (block_line d) blocks ++ line (codes "blocks" ∷ decimal (length blocks) ∷ [])

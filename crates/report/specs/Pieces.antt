-- What a line is made of.
use Rattle.std.specs.Prelude.{ℕ, List, [], ◌∷◌, flat_map}
use Rattle.std.specs.Fmt.{decimal}
use Rattle.admit_core.specs.Lines.{status_word}
use Rattle.report.specs.declared.piece.Piece.{Piece}
use Rattle.report.specs.declared.piece.Piece.TheVariants.{Text, Number, Count, Word, Space, End}

abbrev pub piece_text : Piece → List ℕ
piece_text (Text text) = text.now
piece_text (Number number) = decimal number
piece_text (Count count) = decimal count
piece_text (Word status) = status_word status
piece_text Space = 32 ∷ []
piece_text End = 10 ∷ []

-- one piece after another
abbrev pub all_text : List Piece → List ℕ
all_text pieces = flat_map piece_text pieces

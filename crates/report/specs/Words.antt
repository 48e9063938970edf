-- Lines of words.
use Rattle.std.specs.Prelude.{ℕ, List, [], ◌∷◌, ◌++◌}

-- the further words of a line, each after the byte that parts them, and the line feed
abbrev pub further : ℕ → List (List ℕ) → List ℕ
further byte [] = 10 ∷ []
further byte (word ∷ words) = byte ∷ word ++ further byte words

-- a line of words that a byte parts
abbrev pub parted_by : ℕ → List (List ℕ) → List ℕ
parted_by byte [] = 10 ∷ []
parted_by byte (word ∷ words) = word ++ further byte words

-- a line of words, parted by spaces
abbrev pub line : List (List ℕ) → List ℕ
line words = parted_by 32 words

-- a row of a slot: fields, parted by commas
abbrev pub row : List (List ℕ) → List ℕ
row fields = parted_by 44 fields

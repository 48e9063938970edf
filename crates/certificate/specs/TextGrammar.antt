-- The grammar of chains, beside the first fault that is found where a text is not in it.
use Rattle.std.specs.Prelude.{◌≡◌, ◌↔◌, ℕ, ◌+◌, ◌≤◌, List, [], ◌∷◌, ◌++◌, Some, Ok, flat_map, length, map, ⊤}
use Rattle.std.specs.List.{enumerate_from}
use Rattle.admit_core.specs.declared.chain.Chain.{Chain}
use Rattle.admit_core.specs.declared.chain.DayChain.{DayChain}
use Rattle.admit_core.specs.declared.chain.PassChain.{PassChain}
use Rattle.certificate.specs.Grammar.{line_of, parts, read}
use Rattle.certificate.specs.declared.line.Line.{Line}
use Rattle.certificate.specs.declared.line.Line.TheVariants.{Day, End, Fall, Pass}

-- a pass is its line, with its number, and then its falls
abbrev pub pass_lines : ℕ × PassChain → List Line
pass_lines (k, pass) = Pass k ∷ map Fall pass.falls

-- a day is its line, with its number, and then its passes, numbered from 1
abbrev pub day_lines : ℕ × DayChain → List Line
day_lines (n, day) = Day n ∷ flat_map pass_lines (enumerate_from 1 day.passes)

-- a chain is its days, numbered from 1, and then the last line
abbrev pub lines_of : Chain → List Line
lines_of chain = flat_map day_lines (enumerate_from 1 chain.days) ++ End ∷ []

-- these texts write these lines, the first of them at a row
abbrev pub WriteLines : ℕ → List (List ℕ) → List Line → Type 0
WriteLines row [] [] = ⊤
WriteLines row [] (line ∷ lines) = ⊥
WriteLines row (text ∷ texts) [] = ⊥
WriteLines row (text ∷ texts) (line ∷ lines) =
    (line_of row (parts 32 text) ≡ Some line) × WriteLines (row + 1) texts lines

-- passes that stand from a row to the row after the last of them
abbrev pub StandFrom : ℕ → List PassChain → ℕ → Type 0
StandFrom row [] end = end ≡ row
StandFrom row (pass ∷ passes) end =
    (pass.row ≡ row) × (pass.next_row ≡ row + 1 + length pass.falls)
    × StandFrom pass.next_row passes end

-- days that stand from a row on
abbrev pub FollowFrom : ℕ → List DayChain → Type 0
FollowFrom row [] = ⊤
FollowFrom row (day ∷ days) =
    StandFrom (row + 1) day.passes day.next_row × FollowFrom day.next_row days

-- a text writes a chain: each of its lines ends with a line feed, the last one too; the chain tells
-- the rows at which they stand; and its days are at most 366
pub record Writes (bytes : List ℕ) (chain : Chain) : Type 0 where
  pub texts : List (List ℕ)
  pub ended : parts 10 bytes ≡ texts ++ [] ∷ []
  pub lines : WriteLines 1 texts (lines_of chain)
  pub rows : FollowFrom 1 chain.days
  pub few : length chain.days ≤ 366

-- a text is read as a chain exactly where it writes it; so it has a first fault exactly where it
-- writes none
abbrev pub ReadsWhatIsWritten : Type 0
ReadsWhatIsWritten = (bytes : List ℕ) (chain : Chain) → (read bytes ≡ Ok chain) ↔ Writes bytes chain

-- The text of a chain: its lines, and what they say from a row on, or the first fault.
use Rattle.std.specs.Prelude.{ℕ, ◌+◌, ◌&&◌, Bool, true, false, List, [], ◌∷◌, Option, Some, None, Result, Ok, Err}
use Rattle.std.specs.Prelude.{nat_le, nat_eq, ◌==◌, codes, option_map, if◌then◌else◌}
use Rattle.std.specs.Prelude.{option_and_then}
use Rattle.std.specs.Cmp.Lexicographic.{pointwise}
use Rattle.std.specs.List.{slice_split}
use Rattle.dossier_csv.specs.Columns as Columns
use Rattle.admit_core.specs.declared.chain.FallLine.{FallLine}
use Rattle.admit_core.specs.declared.chain.PassChain.{PassChain}
use Rattle.admit_core.specs.declared.chain.DayChain.{DayChain}
use Rattle.admit_core.specs.declared.chain.Chain.{Chain}
use Rattle.admit_core.specs.declared.chain.ChainFault.{ChainFault}
use Rattle.admit_core.specs.declared.chain.ChainReason.{ChainReason}
use Rattle.admit_core.specs.declared.chain.ChainReason.TheVariants.{NotLine, WrongNumber, NoEnd, AfterEnd}
use Rattle.certificate.specs.declared.line.Line.{Line}
use Rattle.certificate.specs.declared.line.Line.TheVariants.{Day, Pass, Fall, End}
use Rattle.certificate.specs.declared.line.Kind.{Kind}
use Rattle.certificate.specs.declared.line.Kind.TheVariants as kinds

-- what stands between the bytes that part a text
abbrev pub parts : ℕ → List ℕ → List (List ℕ)
parts byte bytes = slice_split (λ b. b == byte) bytes

-- whether a word is this one
abbrev pub is_word : List ℕ → List ℕ → Bool
is_word word other = pointwise nat_eq word other

-- the number that a word of 1 to 10 digits writes, where it is at most the greatest of 32 bits
abbrev pub small : ℕ → Option ℕ
small n = if nat_le n 4294967295 then Some n else None

abbrev pub number : List ℕ → Option ℕ
number word = option_and_then small (Columns.number_of word)

-- the numbers of words, where each is one
abbrev pub in_front : Option ℕ → Option (List ℕ) → Option (List ℕ)
in_front None others = None
in_front (Some n) others = option_map (λ ns. n ∷ ns) others

abbrev pub numbers : List (List ℕ) → Option (List ℕ)
numbers [] = Some []
numbers (word ∷ words) = in_front (number word) (numbers words)

-- the only number of a list
abbrev pub only : List ℕ → Option ℕ
only [] = None
only (n ∷ []) = Some n
only (n ∷ m ∷ ns) = None

-- a fall names a school, the bar before and after, and at least one wish
abbrev pub fall_at : ℕ → List ℕ → Option FallLine
fall_at row (school ∷ from ∷ to ∷ wish ∷ wishes) =
    Some (record { row = row; school = school; from = from; to = to; wishes = wish ∷ wishes })
fall_at row _ = None

-- the line of a word and numbers
abbrev pub line_with : ℕ → List ℕ → List ℕ → Option Line
line_with row word ns =
    if is_word word (codes "day") then option_map Day (only ns)
    else if is_word word (codes "pass") then option_map Pass (only ns)
    else if is_word word (codes "fall") then option_map Fall (fall_at row ns)
    else None

-- the line that words write
abbrev pub line_of : ℕ → List (List ℕ) → Option Line
line_of row [] = None
line_of row (word ∷ []) = if is_word word (codes "end") then Some End else None
line_of row (word ∷ next ∷ words) = option_and_then (line_with row word) (numbers (next ∷ words))

-- what a line is, without what a fall names
abbrev pub kind_of : Line → Kind
kind_of (Day n) = kinds.Day n
kind_of (Pass k) = kinds.Pass k
kind_of (Fall f) = kinds.Fall
kind_of End = kinds.End

-- why a line may not stand after so many day lines, and so many pass lines of the last day
abbrev pub misplaced_at : ℕ → ℕ → Kind → Option ChainReason
misplaced_at days passes (kinds.Day n) =
    if nat_eq n (days + 1) && nat_le n 366 then None else Some WrongNumber
misplaced_at days passes (kinds.Pass k) = if nat_eq days 0 then Some NotLine
    else if nat_eq k (passes + 1) then None else Some WrongNumber
misplaced_at days passes kinds.Fall = if nat_eq passes 0 then Some NotLine else None
misplaced_at days passes kinds.End = None

abbrev pub misplaced : ℕ → ℕ → Option Line → Option ChainReason
misplaced days passes None = Some NotLine
misplaced days passes (Some line) = misplaced_at days passes (kind_of line)

-- how many day lines there are with a line, and how many pass lines of the last day: each that may
-- stand tells its own number
abbrev pub days_by : ℕ → Kind → ℕ
days_by days (kinds.Day n) = n
days_by days _ = days

abbrev pub passes_by : ℕ → Kind → ℕ
passes_by passes (kinds.Day n) = 0
passes_by passes (kinds.Pass k) = k
passes_by passes _ = passes

abbrev pub days_after : ℕ → Option Line → ℕ
days_after days None = days
days_after days (Some line) = days_by days (kind_of line)

abbrev pub passes_after : ℕ → Option Line → ℕ
passes_after passes None = passes
passes_after passes (Some line) = passes_by passes (kind_of line)

-- what lines say: further falls of the pass that is open before them, with the row that ends it;
-- further passes of the day that is open, with the row that ends it; and further days
pub record Said : Type 0 where
  pub falls : List FallLine
  pub pass_end : ℕ
  pub passes : List PassChain
  pub day_end : ℕ
  pub days : List DayChain

-- nothing more is said from this row on
abbrev pub nothing : ℕ → Said
nothing row = record { falls = []; pass_end = row; passes = []; day_end = row; days = [] }

-- what a line at this row says, and those after it
abbrev pub with_line : ℕ → Line → Said → Said
with_line row (Day n) said =
    record (nothing row) {
      days = record { passes = said.passes; next_row = said.day_end } ∷ said.days;
    }
with_line row (Pass k) said =
    record said {
      falls = [];
      pass_end = row;
      passes = record { row = row; falls = said.falls; next_row = said.pass_end } ∷ said.passes;
    }
with_line row (Fall fall) said = record said { falls = fall ∷ said.falls }
with_line row End said = said

abbrev pub fault_at : ℕ → ChainReason → ChainFault
fault_at row reason = record { row = row; reason = reason }

-- after the `end` line at this row no byte follows
abbrev pub end_at : ℕ → List (List ℕ) → Result Said ChainFault
end_at row ([] ∷ []) = Ok (nothing row)
end_at row _ = Err (fault_at (row + 1) AfterEnd)

-- a text that ended before an `end` line: with the line before, or within one
abbrev pub unended_at : List ℕ → ChainReason
unended_at [] = NoEnd
unended_at (byte ∷ bytes) = NotLine

-- a line that may stand, and what the others say
abbrev pub said_with : ℕ → Option Line → Option ChainReason → Result Said ChainFault
    → Result Said ChainFault
said_with row line (Some reason) others = Err (fault_at row reason)
said_with row None None others = others
said_with row (Some line) None (Err fault) = Err fault
said_with row (Some line) None (Ok said) = Ok (with_line row line said)

abbrev pub is_end_kind : Kind → Bool
is_end_kind kinds.End = true
is_end_kind _ = false

abbrev pub is_end : Option Line → Bool
is_end None = false
is_end (Some line) = is_end_kind (kind_of line)

-- what the lines from a row on say, each ended by a line feed, after so many day lines and so many
-- pass lines of the last day; or the first fault
unfoldable pub said_from : ℕ → ℕ → ℕ → List (List ℕ) → Result Said ChainFault
said_from days passes row [] = Err (fault_at row NoEnd)
said_from days passes row (last ∷ []) = Err (fault_at row (unended_at last))
said_from days passes row (text ∷ next ∷ others) =
    let line = line_of row (parts 32 text) in
    if is_end line then end_at row (next ∷ others)
    else said_with row line (misplaced days passes line)
    (said_from (days_after days line) (passes_after passes line) (row + 1) (next ∷ others))

-- the chain that a text writes, or its first fault
abbrev pub chain_of : Result Said ChainFault → Result Chain ChainFault
chain_of (Err fault) = Err fault
chain_of (Ok said) = Ok (record { days = said.days })

abbrev pub read : List ℕ → Result Chain ChainFault
read bytes = chain_of (said_from 0 0 1 (parts 10 bytes))

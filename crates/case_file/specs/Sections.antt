-- What a file of cases is: its sections, by its lines.
use Rattle.std.specs.Prelude.{◌≡◌, ◌≢◌, ◌⊎◌, ◌++◌, ◌∷◌, ◌==◌, ◌||◌, [], ℕ, Bool, List, Option, None, Some, codes, drop}
use Rattle.std.specs.Prelude.{if◌then◌else◌, length, nat_eq, slice_index, string_bytes}
use Rattle.std.specs.Borrow.{Bor}
use Rattle.std.specs.List.{after_first, before_first, starts_with}
use Rattle.std.specs.Str.Pattern.{FindsText}
use Rattle.std.specs.Str.Replace.{ReplacesMatches}
use Rattle.case_file.specs.declared.reading.Section.{Section}

-- the first line of a section, its first word, the others, and the text below it
pub record Seen : Type 0 where
  pub line : List ℕ
  pub name : List ℕ
  pub words : List ℕ
  pub text : List ℕ

abbrev pub seen : Section → Seen
seen section = record {
  line = section.line.now;
  name = section.name.now;
  words = section.words.now;
  text = string_bytes section.text;
}

abbrev pub byte_order_mark : List ℕ
byte_order_mark = 239 ∷ 187 ∷ 191 ∷ []

-- a text has another one in place of each mark, from left to right
abbrev pub IsReplaced : List ℕ → List ℕ → List ℕ → List ℕ → Type 0
IsReplaced mark other before after =
    (m : Bor (List ℕ)) × (m.now ≡ mark) × (n : ℕ)
    × ReplacesMatches (λ (x : Bor (List ℕ)). FindsText x.now) (λ x y. y.now ≡ x.now) other n m before after

-- a line with its line feed; one that ends with `{cut}` has neither
abbrev pub IsEnded : List ℕ → List ℕ → Type 0
IsEnded line added =
    (line ≡ added ++ codes "{cut}")
    ⊎ (((front : List ℕ) → line ≢ front ++ codes "{cut}") × (added ≡ line ++ codes "\n"))

abbrev pub AddsEnded : List ℕ → List ℕ → List ℕ → Type 0
AddsEnded line before after = (added : List ℕ) × IsEnded line added × (after ≡ before ++ added)

-- what a line adds to its section's text: first what its marks stand for is put in their place
pub record AddsLine (line before after : List ℕ) : Type 0 where
  pub marked : List ℕ
  pub returned : List ℕ
  pub is_marked : IsReplaced (codes "{bom}") byte_order_mark line marked
  pub is_returned : IsReplaced (codes "{cr}") (codes "\r") marked returned
  pub adds : AddsEnded returned before after

-- the section that a line begins: its name stands before the first space
abbrev pub is_space : ℕ → Bool
is_space byte = byte == 32

abbrev pub section_of : List ℕ → Seen
section_of line = record {
  line = line;
  name = before_first is_space line;
  words = after_first is_space line;
  text = [];
}

-- a line of a section's text stands behind a bar and a space
abbrev pub behind_bar : List ℕ → Option (List ℕ)
behind_bar line = if starts_with nat_eq line (codes "| ") then Some (drop 2 line) else None

-- an empty line, and one that begins with `#`, is no part of a section
abbrev pub is_remark : List ℕ → Bool
is_remark line = (length line == 0) || (slice_index line 0 == 35)

-- what a line makes of the sections before it that is no line of a text
abbrev pub after_other : List ℕ → List Seen → List Seen
after_other line before = if is_remark line then before else before ++ section_of line ∷ []

-- a line is added to the text of the last section
pub record IsInLast (text : List ℕ) (before after : List Seen) : Type 0 where
  pub front : List Seen
  pub last : Seen
  pub longer : List ℕ
  pub was : before ≡ front ++ last ∷ []
  pub adds : AddsLine text last.text longer
  pub is : after ≡ front ++ (record last { text = longer }) ∷ []

-- what a line makes of the sections before it, by its text behind a bar; where there is no section,
-- it begins one
abbrev pub TakesBehind : Option (List ℕ) → List ℕ → List Seen → List Seen → Type 0
TakesBehind None line before after = after ≡ after_other line before
TakesBehind (Some text) line before after =
    ((before ≡ []) × (after ≡ after_other line before)) ⊎ IsInLast text before after

abbrev pub TakesLine : List ℕ → List Seen → List Seen → Type 0
TakesLine line = TakesBehind (behind_bar line) line

-- what lines make of the sections before them, one after another
abbrev pub TakesLines : List (List ℕ) → List Seen → List Seen → Type 0
TakesLines [] before after = after ≡ before
TakesLines (line ∷ lines) before after =
    (next : List Seen) × TakesLine line before next × TakesLines lines next after

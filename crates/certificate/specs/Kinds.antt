-- What a line is, without what a fall names.
use Rattle.std.specs.Prelude.{ℕ, List, Option, Some, None, codes, length, nat_le, option_map}
use Rattle.std.specs.Prelude.{if◌then◌else◌, option_and_then}
use Rattle.certificate.specs.Grammar.{is_word, only}
use Rattle.certificate.specs.declared.line.Kind.{Kind}
use Rattle.certificate.specs.declared.line.Kind.TheVariants.{Day, Pass, Fall}

-- a fall has at least four numbers
abbrev pub fall_kind : Option (List ℕ) → Option Kind
fall_kind None = None
fall_kind (Some ns) = if nat_le 4 (length ns) then Some Fall else None

-- what a word and the numbers behind it write
abbrev pub kind_with : List ℕ → Option (List ℕ) → Option Kind
kind_with word ns =
    if is_word word (codes "day") then option_map Day (option_and_then only ns)
    else if is_word word (codes "pass") then option_map Pass (option_and_then only ns)
    else if is_word word (codes "fall") then fall_kind ns
    else None

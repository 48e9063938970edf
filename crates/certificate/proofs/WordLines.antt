-- Lines of words that hold no space and no line feed are cut into these words again.
use Rattle.std.proofs.Common.{◌≡◌, ℕ, ◌<◌, ◌≤◌, ◌^◌, true, false, cond, ◌&&◌, List, [], ◌∷◌, ◌++◌, length, map, All}
use Rattle.std.proofs.Common.{Option, Some, None, refl, sym, ap, ◌∙◌, arith, append_assoc, append-nil, nat_le, nat_lt}
use Rattle.std.specs.Prelude.{◌==◌, option_and_then}
use Rattle.std.specs.Char.{digit_value, is_ascii_digit}
use Rattle.std.specs.Fmt.{decimal}
use Rattle.std.specs.List.{list_all}
use Rattle.std.specs.Str.Parse.{AllDigits, digits_value}
use Rattle.std.proofs.lemmas.Bool.{and_from, le-leb, lt-ltb}
use Rattle.std.proofs.lemmas.Bool.Decides.{nat_tests}
use Rattle.std.proofs.lemmas.Fmt.{decimal_is_IsNumeral, decimal_nonempty, length-decimal-le}
use Rattle.std.proofs.lemmas.List.Elements.{All-append, All-cons, All-head, All-nil, All-tail}
use Rattle.std.proofs.lemmas.List.Splits.{slice_split_at, slice_split_none}
use Rattle.std.proofs.lemmas.Str.Parse.{digit_from_value}
use Rattle.report.specs.Words.{further, line}
use Rattle.certificate.specs.Grammar.{in_front, number, numbers, parts, small}

-- each byte of a word is greater than a space
abbrev pub IsWord : List ℕ → Type 0
IsWord [] = Unit {0}
IsWord (b ∷ bs) = (32 < b) × IsWord bs

abbrev pub AreWords : List (List ℕ) → Type 0
AreWords [] = Unit {0}
AreWords (w ∷ ws) = IsWord w × AreWords ws

-- the words of a line without its line feed: those behind the first, and all
abbrev tail_of : List (List ℕ) → List ℕ
tail_of [] = []
tail_of (w ∷ ws) = 32 ∷ (w ++ tail_of ws)

abbrev pub body_of : List ℕ → List (List ℕ) → List ℕ
body_of w ws = w ++ tail_of ws

tail_ends : (ws : List (List ℕ)) → further 32 ws ≡ tail_of ws ++ 10 ∷ []
tail_ends [] = refl
tail_ends (w ∷ ws) = ap (λ (bs : List ℕ). 32 ∷ (w ++ bs)) (tail_ends ws)
    ∙ ap (λ (bs : List ℕ). 32 ∷ bs) (sym (append_assoc w (tail_of ws) (10 ∷ [])))

not_byte : (byte b : ℕ) → byte ≤ 32 → 32 < b → (b == byte) ≡ false
not_byte byte b low high = grind (arith, nat_tests)

word_fails : (byte : ℕ) (w : List ℕ) → byte ≤ 32 → IsWord w → All (λ (b : ℕ). (b == byte) ≡ false) w
word_fails byte [] low is = All-nil (λ (b : ℕ). (b == byte) ≡ false)
word_fails byte (b ∷ bs) low is = All-cons (λ (b : ℕ). (b == byte) ≡ false) b bs (not_byte byte b low is.0)
    (word_fails byte bs low is.1)

tail_fails : (ws : List (List ℕ)) → AreWords ws → All (λ (b : ℕ). (b == 10) ≡ false) (tail_of ws)
tail_fails [] are = All-nil (λ (b : ℕ). (b == 10) ≡ false)
tail_fails (w ∷ ws) are =
    All-cons (λ (b : ℕ). (b == 10) ≡ false) 32 (w ++ tail_of ws) refl
    (All-append (λ (b : ℕ). (b == 10) ≡ false) w (tail_of ws) (word_fails 10 w (omega arith) are.0)
    (tail_fails ws are.1))

-- a line is cut off at its line feed
pub line_cut : (w : List ℕ) (ws : List (List ℕ)) (rest : List ℕ) → AreWords (w ∷ ws)
    → parts 10 (line (w ∷ ws) ++ rest) ≡ body_of w ws ∷ parts 10 rest
line_cut w ws rest are =
    ap (λ (bs : List ℕ). parts 10 ((w ++ bs) ++ rest)) (tail_ends ws)
    ∙ ap (λ (bs : List ℕ). parts 10 (bs ++ rest)) (sym (append_assoc w (tail_of ws) (10 ∷ [])))
    ∙ ap (parts 10) (append_assoc (w ++ tail_of ws) (10 ∷ []) rest)
    ∙ slice_split_at (λ (b : ℕ). b == 10) (w ++ tail_of ws) 10 rest
    (All-append (λ (b : ℕ). (b == 10) ≡ false) w (tail_of ws) (word_fails 10 w (omega arith) are.0)
    (tail_fails ws are.1)) refl

-- its words are parted by the spaces
pub words_cut : (w : List ℕ) (ws : List (List ℕ)) → AreWords (w ∷ ws) → parts 32 (body_of w ws) ≡ w ∷ ws
words_cut w [] are = ap (parts 32) (append-nil w) ∙ slice_split_none (λ (b : ℕ). b == 32) w
    (word_fails 32 w (omega arith) are.0)
words_cut w (next ∷ ws) are =
    slice_split_at (λ (b : ℕ). b == 32) w 32 (body_of next ws) (word_fails 32 w (omega arith) are.0) refl
    ∙ ap (λ (ps : List (List ℕ)). w ∷ ps) (words_cut next ws are.1)

digit_in : (b : ℕ) → digit_value b < 10 → (32 < b) × (is_ascii_digit b ≡ true)
digit_in b is =
    let range = digit_from_value b is in
    let low : 48 ≤ b = range.0 in
    let high : b ≤ 57 = range.1 in
    (omega arith, and_from (nat_le 48 b) (nat_le b 57) (le-leb 48 b low) (le-leb b 57 high))

digits_word : (ds : List ℕ) → AllDigits 10 ds → IsWord ds
digits_word [] are = tt
digits_word (b ∷ bs) are = ((digit_in b are.0).0, digits_word bs are.1)

digits_pass : (ds : List ℕ) → AllDigits 10 ds → list_all is_ascii_digit ds ≡ true
digits_pass [] are = refl
digits_pass (b ∷ bs) are = and_from (is_ascii_digit b) (list_all is_ascii_digit bs) (digit_in b are.0).1
    (digits_pass bs are.1)

all_digits : (n : ℕ) → n ≤ 4294967295 → AllDigits 10 (decimal n)
all_digits n few = let big : n < 2 ^ 64 = omega arith in (decimal_is_IsNumeral n big).0.1

pub number_word : (n : ℕ) → n ≤ 4294967295 → IsWord (decimal n)
number_word n few = digits_word (decimal n) (all_digits n few)

small_some : (n : ℕ) → n ≤ 4294967295 → small n ≡ Some n
small_some n few = ap (λ b. cond b (Some n) None) (le-leb n 4294967295 few)

-- a number that is written is read as this number
pub number_read : (n : ℕ) → n ≤ 4294967295 → number (decimal n) ≡ Some n
number_read n few =
    let big : n < 2 ^ 64 = omega arith in
    let some = lt-ltb 0 (length (decimal n)) (decimal_nonempty n big) in
    let short = le-leb (length (decimal n)) 10 (length-decimal-le 10 n (omega arith) (omega arith) big) in
    let digits = digits_pass (decimal n) (all_digits n few) in
    let fits = and_from (nat_lt 0 (length (decimal n)) && nat_le (length (decimal n)) 10)
    (list_all is_ascii_digit (decimal n)) (and_from (nat_lt 0 (length (decimal n)))
    (nat_le (length (decimal n)) 10) some short) digits in
    ap (λ b. option_and_then small (cond b (Some (digits_value 10 (decimal n))) None)) fits
    ∙ ap small (decimal_is_IsNumeral n big).1 ∙ small_some n few

pub numbers_words : (ns : List ℕ) → All (λ n. n ≤ 4294967295) ns → AreWords (map decimal ns)
numbers_words [] few = tt
numbers_words (n ∷ ns) few = (
  number_word n (All-head (λ (k : ℕ). k ≤ 4294967295) n ns few),
  numbers_words ns
      (All-tail (λ (k : ℕ). k ≤ 4294967295) n ns few),
)

pub numbers_read : (ns : List ℕ) → All (λ n. n ≤ 4294967295) ns → numbers (map decimal ns) ≡ Some ns
numbers_read [] few = refl
numbers_read (n ∷ ns) few =
    ap (λ (o : Option ℕ). in_front o (numbers (map decimal ns)))
    (number_read n (All-head (λ (k : ℕ). k ≤ 4294967295) n ns few))
    ∙ ap (in_front (Some n)) (numbers_read ns (All-tail (λ (k : ℕ). k ≤ 4294967295) n ns few))

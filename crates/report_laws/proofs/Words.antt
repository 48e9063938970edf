-- Lines of words, and rows of fields, can be taken apart again.
use Rattle.std.proofs.Common.{◌≡◌, ℕ, ◌<◌, ◌≤◌, ◌^◌, List, [], ◌∷◌, ◌++◌, map, All, refl, sym, ◌∙◌, arith, append_assoc}
use Rattle.std.specs.Fmt.{decimal}
use Rattle.std.specs.Str.Parse.{AllDigits}
use Rattle.std.proofs.lemmas.Fmt.{decimal_injective, decimal_is_IsNumeral}
use Rattle.std.proofs.lemmas.List.Elements.{All-head, All-tail}
use Rattle.std.proofs.lemmas.Str.Parse.{digit_from_value}
use Rattle.report.specs.Words.{further, line, parted_by}
use Rattle.report_laws.specs.Told.{IsSmall}

-- what a list begins with, and what follows
pub cons_told : {X : Type 0} {x y : X} {xs ys : List X} → x ∷ xs ≡ y ∷ ys → (x ≡ y) × (xs ≡ ys)
cons_told e = (cc, cc)

pub longer : {X : Type 0} (x y : X) (xs ys : List X) → x ≡ y → xs ≡ ys → x ∷ xs ≡ y ∷ ys
longer x y xs ys e f = cc

-- each byte is greater than a comma, so it ends before a space, a comma and a line feed
abbrev pub IsToken : List ℕ → Type 0
IsToken [] = Unit {0}
IsToken (b ∷ bs) = (44 < b) × IsToken bs

abbrev pub AreTokens : List (List ℕ) → Type 0
AreTokens [] = Unit {0}
AreTokens (w ∷ ws) = IsToken w × AreTokens ws

-- no word goes on with these bytes
abbrev EndsToken : List ℕ → Type 0
EndsToken [] = ⊥
EndsToken (b ∷ bs) = b ≤ 44

-- a word ends where its bytes do
word_told : (w v r q : List ℕ) → IsToken w → IsToken v → EndsToken r → EndsToken q → w ++ r ≡ v ++ q → (w ≡ v) × (r ≡ q)
word_told [] [] r q is are ends end e = (refl, e)
word_told [] (y ∷ ys) [] q is are ends end e = absurd ends
word_told [] (y ∷ ys) (b ∷ bs) q is are ends end e =
    let same : b ≡ y = (cons_told e).0 in
    let high : 44 < y = are.0 in
    absurd (omega arith)
word_told (x ∷ xs) [] r [] is are ends end e = absurd end
word_told (x ∷ xs) [] r (b ∷ bs) is are ends end e =
    let same : x ≡ b = (cons_told e).0 in
    let high : 44 < x = is.0 in
    absurd (omega arith)
word_told (x ∷ xs) (y ∷ ys) r q is are ends end e =
    let rest = word_told xs ys r q is.1 are.1 ends end (cons_told e).1 in
    (longer x y xs ys (cons_told e).0 rest.0, rest.1)

further_ends : (byte : ℕ) (ws : List (List ℕ)) (r : List ℕ) → byte ≤ 44 → EndsToken (further byte ws ++ r)
further_ends byte [] r low = omega arith
further_ends byte (w ∷ ws) r low = low

further_told : (byte : ℕ) (ws vs : List (List ℕ)) (r q : List ℕ) → byte ≤ 44 → 10 < byte → AreTokens ws → AreTokens vs
    → further byte ws ++ r ≡ further byte vs ++ q → (ws ≡ vs) × (r ≡ q)
further_told byte [] [] r q low high is are e = (refl, (cons_told e).1)
further_told byte [] (v ∷ vs) r q low high is are e =
    let same : 10 ≡ byte = (cons_told e).0 in
    absurd (omega arith)
further_told byte (w ∷ ws) [] r q low high is are e =
    let same : byte ≡ 10 = (cons_told e).0 in
    absurd (omega arith)
further_told byte (w ∷ ws) (v ∷ vs) r q low high is are e =
    let opened : w ++ (further byte ws ++ r) ≡ v ++ (further byte vs ++ q) =
    sym (append_assoc w (further byte ws) r)
    ∙ (cons_told e).1
    ∙ append_assoc v (further byte vs) q in
    let first = word_told w v (further byte ws ++ r) (further byte vs ++ q) is.0 are.0
    (further_ends byte ws r low) (further_ends byte vs q low) opened in
    let rest = further_told byte ws vs r q low high is.1 are.1 first.1 in
    (longer w v ws vs first.0 rest.0, rest.1)

-- the words of a line, and what follows it
pub parted_told : (byte : ℕ) (w v : List ℕ) (ws vs : List (List ℕ)) (r q : List ℕ) → byte ≤ 44 → 10 < byte
    → AreTokens (w ∷ ws) → AreTokens (v ∷ vs) → parted_by byte (w ∷ ws) ++ r ≡ parted_by byte (v ∷ vs) ++ q
    → (w ∷ ws ≡ v ∷ vs) × (r ≡ q)
parted_told byte w v ws vs r q low high is are e =
    let opened : w ++ (further byte ws ++ r) ≡ v ++ (further byte vs ++ q) =
    sym (append_assoc w (further byte ws) r) ∙ e ∙ append_assoc v (further byte vs) q in
    let first = word_told w v (further byte ws ++ r) (further byte vs ++ q) is.0 are.0
    (further_ends byte ws r low) (further_ends byte vs q low) opened in
    let rest = further_told byte ws vs r q low high is.1 are.1 first.1 in
    (longer w v ws vs first.0 rest.0, rest.1)

-- those behind the first, where two lines begin with one word
pub line_told : (w : List ℕ) (ws vs : List (List ℕ)) (r q : List ℕ) → IsToken w → AreTokens ws → AreTokens vs
    → line (w ∷ ws) ++ r ≡ line (w ∷ vs) ++ q → (ws ≡ vs) × (r ≡ q)
line_told w ws vs r q word is are e =
    let told = parted_told 32 w w ws vs r q (omega arith) (omega arith) (word, is) (word, are) e in
    ((cons_told told.0).1, told.1)

-- ---- numbers
digits_word : (ds : List ℕ) → AllDigits 10 ds → IsToken ds
digits_word [] are = tt
digits_word (b ∷ bs) are =
    let range = digit_from_value b are.0 in
    let low : 48 ≤ b = range.0 in
    (omega arith, digits_word bs are.1)

pub number_word : (n : ℕ) → IsSmall n → IsToken (decimal n)
number_word n small =
    let big : n < 2 ^ 64 = omega arith in
    digits_word (decimal n) (decimal_is_IsNumeral n big).0.1

pub number_told : (m n : ℕ) → IsSmall m → IsSmall n → decimal m ≡ decimal n → m ≡ n
number_told m n small few e =
    let big : m < 2 ^ 64 = omega arith in
    let great : n < 2 ^ 64 = omega arith in
    decimal_injective m n big great e

pub numbers_words : (ns : List ℕ) → All IsSmall ns → AreTokens (map decimal ns)
numbers_words [] small = tt
numbers_words (n ∷ ns) small = (
  number_word n (All-head IsSmall n ns small),
  numbers_words ns
      (All-tail IsSmall n ns small),
)

pub numbers_told : (ms ns : List ℕ) → All IsSmall ms → All IsSmall ns → map decimal ms ≡ map decimal ns → ms ≡ ns
numbers_told [] [] small few e = refl
numbers_told [] (n ∷ ns) small few e = absurd (cc)
numbers_told (m ∷ ms) [] small few e = absurd (cc)
numbers_told (m ∷ ms) (n ∷ ns) small few e =
    longer m n ms ns
    (number_told m n (All-head IsSmall m ms small) (All-head IsSmall n ns few) (cons_told e).0)
    (numbers_told ms ns (All-tail IsSmall m ms small) (All-tail IsSmall n ns few) (cons_told e).1)

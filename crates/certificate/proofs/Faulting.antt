-- The first fault of a text, line by line, without what its falls name.
use Rattle.std.proofs.Common.{◌≡◌, ℕ, ◌+◌, ◌<◌, Bool, true, false, cond, List, [], ◌∷◌, length, Option, Some}
use Rattle.std.proofs.Common.{None, Result, Ok, Err, refl, sym, ap, ◌∙◌, arith, zero-add}
use Rattle.std.specs.Prelude.{codes, option_and_then, option_map}
use Rattle.std.proofs.lemmas.Bool.{le-leb}
use Rattle.admit_core.specs.declared.chain.ChainFault.{ChainFault}
use Rattle.admit_core.specs.declared.chain.ChainReason.{ChainReason}
use Rattle.admit_core.specs.declared.chain.ChainReason.TheVariants.{NotLine}
use Rattle.certificate.specs.declared.line.Kind.{Kind}
use Rattle.certificate.specs.declared.line.Kind.TheVariants as kinds
use Rattle.certificate.specs.declared.line.Line.{Line}
use Rattle.certificate.specs.declared.line.Line.TheVariants.{Day, Pass, Fall}
use Rattle.certificate.specs.Faults.{fault_in}
use Rattle.certificate.specs.Grammar.{chain_of, days_by, end_at, fall_at, fault_at, in_front}
use Rattle.certificate.specs.Grammar.{is_end_kind, is_word, kind_of, line_of, misplaced_at, number}
use Rattle.certificate.specs.Grammar.{numbers, only, parts, passes_by, Said, said_from, said_with, unended_at}
use Rattle.certificate.specs.Kinds.{fall_kind, kind_with}
use Rattle.certificate.proofs.Saying.{said_by}

-- so many numbers in front, and then those of the others
abbrev pub counted : ℕ → Option (List ℕ) → Option ℕ
counted n others = option_map (λ ns. n + length ns) others

pub none_counted : (others : Option (List ℕ)) → option_map (λ ns. length ns) others ≡ counted 0 others
none_counted None = refl
none_counted (Some ns) = ap Some (sym (zero-add (length ns)))

one_more : (count n : ℕ) (others : Option (List ℕ))
    → counted count (in_front (Some n) others) ≡ counted (count + 1) others
one_more count n None = refl
one_more count n (Some ns) = let e : count + length (n ∷ ns) ≡ count + 1 + length ns = omega arith in ap Some e

module _ (whole : Option ℕ) (count : ℕ) (word : List ℕ) (words all : List (List ℕ)) (first : all ≡ word ∷ words)
    (e : whole ≡ counted count (numbers all)) where
  by_word : (n : Option ℕ) → n ≡ number word → whole ≡ counted count (in_front n (numbers words))
  by_word n is = e ∙ ap (λ ws. counted count (numbers ws)) first
      ∙ ap (λ x. counted count (in_front x (numbers words))) (sym is)

  -- a word more, where it writes a number, and one that writes none
  pub word_counted : (n : ℕ) → Some n ≡ number word → whole ≡ counted (count + 1) (numbers words)
  word_counted n is = by_word (Some n) is ∙ one_more count n (numbers words)

  pub no_number : None ≡ number word → None ≡ whole
  no_number is = sym (by_word None is)

  pub last_counted : (n : ℕ) → words ≡ [] → Some n ≡ number word → Some (count + 1) ≡ whole
  last_counted n last is =
      let e : count + 1 + length {A = ℕ} [] ≡ count + 1 = omega arith in
      sym (word_counted n is ∙ ap (λ ws. counted (count + 1) (numbers ws)) last ∙ ap Some e)

-- two words have no only number
not_only : (first second : Option ℕ) (others : Option (List ℕ))
    → None ≡ option_and_then only (in_front first (in_front second others))
not_only None second others = refl
not_only (Some n) None others = refl
not_only (Some n) (Some m) None = refl
not_only (Some n) (Some m) (Some ns) = refl

pub none_only : (word : List ℕ) (words all : List (List ℕ)) → all ≡ word ∷ words → 0 < length words
    → None ≡ option_and_then only (numbers all)
none_only word [] all first some = absurd (omega arith)
none_only word (next ∷ words) all first some =
    not_only (number word) (number next) (numbers words) ∙ ap (λ ws. option_and_then only (numbers ws)) (sym first)

-- a fall has at least four numbers
kind_of_fall : (row : ℕ) (ns : List ℕ) → fall_kind (Some ns) ≡ option_map kind_of (option_map Fall (fall_at row ns))
kind_of_fall row [] = refl
kind_of_fall row (a ∷ []) = refl
kind_of_fall row (a ∷ b ∷ []) = refl
kind_of_fall row (a ∷ b ∷ c ∷ []) = refl
kind_of_fall row (a ∷ b ∷ c ∷ d ∷ ns) =
    ap (λ m. cond m (Some kinds.Fall) None) (le-leb 4 (length (a ∷ b ∷ c ∷ d ∷ ns)) (omega arith))

kind_of_day : (n : Option ℕ) → option_map kinds.Day n ≡ option_map kind_of (option_map Day n)
kind_of_day None = refl
kind_of_day (Some n) = refl

kind_of_pass : (n : Option ℕ) → option_map kinds.Pass n ≡ option_map kind_of (option_map Pass n)
kind_of_pass None = refl
kind_of_pass (Some n) = refl

-- what a word and numbers write, by what the word is
by_tests : (row : ℕ) (a b c : Bool) (ns : Option (List ℕ))
    → cond a (option_map kinds.Day (option_and_then only ns))
    (cond b (option_map kinds.Pass (option_and_then only ns)) (cond c (fall_kind ns) None))
    ≡ option_map kind_of (option_and_then (λ (ns : List ℕ). cond a (option_map Day (only ns))
    (cond b (option_map Pass (only ns)) (cond c (option_map Fall (fall_at row ns)) None))) ns)
by_tests row true b c None = refl
by_tests row true b c (Some ns) = kind_of_day (only ns)
by_tests row false true c None = refl
by_tests row false true c (Some ns) = kind_of_pass (only ns)
by_tests row false false true None = refl
by_tests row false false true (Some ns) = kind_of_fall row ns
by_tests row false false false None = refl
by_tests row false false false (Some ns) = refl

pub kind_of_words : (row : ℕ) (word : List ℕ) (words all : List (List ℕ)) → all ≡ word ∷ words → 0 < length words
    → kind_with word (numbers words) ≡ option_map kind_of (line_of row all)
kind_of_words row word [] all first some = absurd (omega arith)
kind_of_words row word (next ∷ words) all first some =
    by_tests row (is_word word (codes "day")) (is_word word (codes "pass")) (is_word word (codes "fall"))
    (numbers (next ∷ words))
    ∙ ap (λ ws. option_map kind_of (line_of row ws)) (sym first)

-- a line of this kind
line_known : (line : Option Line) (kind : Kind) → Some kind ≡ option_map kind_of line
    → (l : Line) × (line ≡ Some l) × (kind_of l ≡ kind)
line_known None kind e = absurd (cc)
line_known (Some l) kind e = (l, refl, cc)

no_line : (line : Option Line) → None ≡ option_map kind_of line → line ≡ None
no_line None e = refl
no_line (Some l) e = absurd (cc)

pub fault_of_chain : (said : Result Said ChainFault) → fault_in (chain_of said) ≡ fault_in said
fault_of_chain (Err fault) = refl
fault_of_chain (Ok said) = refl

fault_behind : (row : ℕ) (l : Line) (others : Result Said ChainFault)
    → fault_in (said_with row (Some l) None others) ≡ fault_in others
fault_behind row l (Err fault) = refl
fault_behind row l (Ok said) = refl

module _ (day pass row : ℕ) (text after : List ℕ) (all : List (List ℕ)) (whole : Option ChainFault)
    (first : all ≡ text ∷ parts 10 after) (e : whole ≡ fault_in (said_from day pass row all)) where
  pub fault_not_line : None ≡ option_map kind_of (line_of row (parts 32 text)) → whole ≡ Some (fault_at row NotLine)
  fault_not_line none = e ∙ ap fault_in (said_by day pass row text after all None first
      (sym (no_line (line_of row (parts 32 text)) none)))

  module _ (kind : Kind) (is : Some kind ≡ option_map kind_of (line_of row (parts 32 text))) where
    by_kind : (l : Line) → line_of row (parts 32 text) ≡ Some l → kind_of l ≡ kind
        → whole ≡ fault_in (cond (is_end_kind kind) (end_at row (parts 10 after))
        (said_with row (Some l) (misplaced_at day pass kind)
        (said_from (days_by day kind) (passes_by pass kind) (row + 1) (parts 10 after))))
    by_kind l known same =
        e ∙ ap fault_in (said_by day pass row text after all (Some l) first (sym known))
        ∙ ap (λ k. fault_in (cond (is_end_kind k) (end_at row (parts 10 after))
        (said_with row (Some l) (misplaced_at day pass k)
        (said_from (days_by day k) (passes_by pass k) (row + 1) (parts 10 after))))) same

    pub fault_at_end : is_end_kind kind ≡ true → whole ≡ fault_in (end_at row (parts 10 after))
    fault_at_end ends =
        let (l, known, same) = line_known (line_of row (parts 32 text)) kind is in
        by_kind l known same
        ∙ ap (λ b. fault_in (cond b (end_at row (parts 10 after))
        (said_with row (Some l) (misplaced_at day pass kind)
        (said_from (days_by day kind) (passes_by pass kind) (row + 1) (parts 10 after))))) ends

    by_place : is_end_kind kind ≡ false → (why : Option ChainReason) → why ≡ misplaced_at day pass kind
        → (l : Line) × (whole ≡ fault_in (said_with row (Some l) why
        (said_from (days_by day kind) (passes_by pass kind) (row + 1) (parts 10 after))))
    by_place ends why placed =
        let (l, known, same) = line_known (line_of row (parts 32 text)) kind is in (
          l,
          by_kind l known same
              ∙ ap (λ b. fault_in (cond b (end_at row (parts 10 after))
              (said_with row (Some l) (misplaced_at day pass kind)
              (said_from (days_by day kind) (passes_by pass kind) (row + 1) (parts 10 after))))) ends
              ∙ ap (λ w. fault_in (said_with row (Some l) w
              (said_from (days_by day kind) (passes_by pass kind) (row + 1) (parts 10 after)))) (sym placed),
        )

    pub fault_misplaced : (reason : ChainReason) → is_end_kind kind ≡ false
        → Some reason ≡ misplaced_at day pass kind → whole ≡ Some (fault_at row reason)
    fault_misplaced reason ends placed = (by_place ends (Some reason) placed).1

    pub fault_further : is_end_kind kind ≡ false → None ≡ misplaced_at day pass kind
        → whole ≡ fault_in (said_from (days_by day kind) (passes_by pass kind) (row + 1) (parts 10 after))
    fault_further ends placed =
        let (l, so) = by_place ends None placed in
        so ∙ fault_behind row l (said_from (days_by day kind) (passes_by pass kind) (row + 1) (parts 10 after))

-- the text ends before an `end` line
pub fault_unended : (day pass row : ℕ) (rest : List ℕ) (all : List (List ℕ)) (whole : Option ChainFault)
    → all ≡ rest ∷ [] → whole ≡ fault_in (said_from day pass row all) → whole ≡ Some (fault_at row (unended_at rest))
unfolding said_from
fault_unended day pass row rest all whole last e =
    e ∙ ap (λ ps. fault_in (said_from day pass row ps)) last

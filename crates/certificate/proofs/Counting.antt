-- The days and passes that lines say are no more than their numbers.
use Rattle.std.proofs.Common.{◌≡◌, ℕ, ◌+◌, ◌<◌, ◌≤◌, ◌^◌, Bool, true, false, cond, ◌&&◌, List, [], ◌∷◌, length, Option}
use Rattle.std.proofs.Common.{Some, None, Result, Ok, Err, IfOk, All, refl, ap, ◌∙◌, subst, arith, inl, inr, nat_le}
use Rattle.std.proofs.Common.{nat_eq}
use Rattle.std.specs.Prelude.{option_and_then, option_map, codes}
use Rattle.std.proofs.lemmas.Bool.{cases_Bool, eqb-true, leb-true}
use Rattle.std.proofs.lemmas.List.Elements.{All-cons, All-nil}
use Rattle.admit_core.specs.declared.chain.Chain.{Chain}
use Rattle.admit_core.specs.declared.chain.ChainFault.{ChainFault}
use Rattle.admit_core.specs.declared.chain.ChainReason.TheVariants.{NotLine, WrongNumber}
use Rattle.admit_core.specs.declared.chain.DayChain.{DayChain}
use Rattle.admit_core.specs.declared.chain.FallLine.{FallLine}
use Rattle.dossier_csv.specs.Columns as Columns
use Rattle.certificate.specs.declared.line.Line.{Line}
use Rattle.certificate.specs.declared.line.Line.TheVariants.{Day, Pass, Fall, End}
use Rattle.certificate.specs.declared.refusal.ChainRefusal.{ChainRefusal}
use Rattle.certificate.specs.Counted.{IsCounted}
use Rattle.certificate.specs.Grammar.{parts, small, number, in_front, numbers, only, is_word, fall_at, line_of}
use Rattle.certificate.specs.Grammar.{line_with, misplaced, days_after, passes_after, Said, nothing, end_at, said_with}
use Rattle.certificate.specs.Grammar.{said_from, is_end, read, chain_of}
use Rattle.certificate.specs.Open.{Answers}

-- a pass is numbered by 32 bits
abbrev IsSmall : Option Line → Type 0
IsSmall None = Unit {0}
IsSmall (Some (Day n)) = Unit {0}
IsSmall (Some (Pass k)) = k ≤ 4294967295
IsSmall (Some (Fall fall)) = Unit {0}
IsSmall (Some End) = Unit {0}

small_is : (o : Option ℕ) (n : ℕ) → option_and_then small o ≡ Some n → n ≤ 4294967295
small_is None n e = absurd (cc)
small_is (Some m) n e =
    elim (cases_Bool (nat_le m 4294967295)) [
      | inl fits ↦ let is : Some m ≡ Some n = rw fits at e in let same : m ≡ n = cc in
          omega (arith, leb-true m 4294967295 fits)
      | inr past ↦ let is : None ≡ Some n = rw past at e in absurd (cc)
    ]

-- the only number of words is that of the only word
only_first : (first : Option ℕ) (others : Option (List ℕ)) (ns : List ℕ) (n : ℕ)
    → in_front first others ≡ Some ns → only ns ≡ Some n → first ≡ Some n
only_first None others ns n e is = absurd (cc)
only_first (Some m) None ns n e is = absurd (cc)
only_first (Some m) (Some []) ns n e is = let same : m ∷ [] ≡ ns = cc in ap only same ∙ is
only_first (Some m) (Some (k ∷ ks)) ns n e is = let same : m ∷ k ∷ ks ≡ ns =
    cc in let none : None ≡ Some n = ap only same ∙ is in absurd (cc)

line_small : (a b c : Bool) (o : Option ℕ) (f : Option FallLine) → ((n : ℕ) → o ≡ Some n → n ≤ 4294967295)
    → IsSmall (cond a (option_map Day o) (cond b (option_map Pass o) (cond c (option_map Fall f) None)))
line_small true b c None f each = tt
line_small true b c (Some n) f each = tt
line_small false true c None f each = tt
line_small false true c (Some n) f each = each n refl
line_small false false true o None each = tt
line_small false false true o (Some fall) each = tt
line_small false false false o f each = tt

numbers_small : (row : ℕ) (word next : List ℕ) (words : List (List ℕ)) (read : Option (List ℕ))
    → numbers (next ∷ words) ≡ read → IsSmall (option_and_then (line_with row word) read)
numbers_small row word next words None e = tt
numbers_small row word next words (Some ns) e =
    line_small (is_word word (codes "day")) (is_word word (codes "pass")) (is_word word (codes "fall")) (only ns)
    (fall_at row ns)
    (λ n is. small_is (Columns.number_of next) n (only_first (number next) (numbers words) ns n e is))

end_small : (b : Bool) → IsSmall (cond b (Some End) None)
end_small true = tt
end_small false = tt

all_small : (row : ℕ) (words : List (List ℕ)) → IsSmall (line_of row words)
all_small row [] = tt
all_small row (word ∷ []) = end_small (is_word word (codes "end"))
all_small row (word ∷ next ∷ words) = numbers_small row word next words (numbers (next ∷ words)) refl

-- what is said has no more days and passes than numbers are left
record Counts (day pass : ℕ) (said : Said) : Type 0 where
  passes : length said.passes + pass ≤ 4294967295
  days : length said.days + day ≤ 366
  each : All (λ (d : DayChain). length d.passes < 2 ^ 32) said.days

abbrev CountsFrom : ℕ → ℕ → Result Said ChainFault → Type 0
CountsFrom day pass said = IfOk said (Counts day pass)

says_nothing : (day pass row : ℕ) → day ≤ 366 → pass ≤ 4294967295 → Counts day pass (nothing row)
says_nothing day pass row few small_pass = record {
  passes = omega arith;
  days = omega arith;
  each = All-nil (λ (d : DayChain). length d.passes < 2 ^ 32);
}

end_counts : (day pass row : ℕ) (others : List (List ℕ)) → day ≤ 366 → pass ≤ 4294967295
    → CountsFrom day pass (end_at row others)
end_counts day pass row [] few small_pass = tt
end_counts day pass row ([] ∷ []) few small_pass = says_nothing day pass row few small_pass
end_counts day pass row ([] ∷ next ∷ others) few small_pass = tt
end_counts day pass row ((byte ∷ bytes) ∷ others) few small_pass = tt

-- a day line with the next number, and a pass line
day_counts : (follows few : Bool) (day pass row n : ℕ) (said : Result Said ChainFault)
    → pass ≤ 4294967295 → nat_eq n (day + 1) ≡ follows → nat_le n 366 ≡ few
    → (n ≤ 366 → CountsFrom n 0 said)
    → CountsFrom day pass
    (said_with row (Some (Day n)) (cond (follows && few) None (Some WrongNumber)) said)
day_counts true true day pass row n (Err fault) small_pass e f counts = tt
day_counts true true day pass row n (Ok said) small_pass e f counts =
    let next : n ≡ day + 1 = eqb-true n (day + 1) e in
    let fits : n ≤ 366 = leb-true n 366 f in
    let c : Counts n 0 said = counts fits in
    record {
      passes = omega arith;
      days = let d = c.days in omega arith;
      each = All-cons (λ (d : DayChain). length d.passes < 2 ^ 32)
          (record { passes = said.passes; next_row = said.day_end }) said.days
          (let p = c.passes in omega arith) c.each;
    }
day_counts true false day pass row n said small_pass e f counts = tt
day_counts false few day pass row n said small_pass e f counts = tt

pass_counts : (none follows : Bool) (day pass row k : ℕ) (said : Result Said ChainFault) → day ≤ 366
    → nat_eq k (pass + 1) ≡ follows → k ≤ 4294967295
    → (k ≤ 4294967295 → CountsFrom day k said)
    → CountsFrom day pass (said_with row (Some (Pass k))
    (cond none (Some NotLine) (cond follows None (Some WrongNumber))) said)
pass_counts true follows day pass row k said few e fits counts = tt
pass_counts false false day pass row k said few e fits counts = tt
pass_counts false true day pass row k (Err fault) few e fits counts = tt
pass_counts false true day pass row k (Ok said) few e fits counts =
    let next : k ≡ pass + 1 = eqb-true k (pass + 1) e in
    let c : Counts day k said = counts fits in
    record { passes = let p = c.passes in omega arith; days = c.days; each = c.each }

fall_counts : (none : Bool) (day pass row : ℕ) (fall : FallLine) (said : Result Said ChainFault)
    → CountsFrom day pass said
    → CountsFrom day pass (said_with row (Some (Fall fall)) (cond none (Some NotLine) None) said)
fall_counts true day pass row fall said counts = tt
fall_counts false day pass row fall (Err fault) counts = tt
fall_counts false day pass row fall (Ok said) counts =
    record { passes = counts.passes; days = counts.days; each = counts.each }

line_counts : (line : Option Line) (day pass row : ℕ) (others : List (List ℕ))
    (said : Result Said ChainFault) → day ≤ 366 → pass ≤ 4294967295 → IsSmall line
    → (days_after day line ≤ 366 → passes_after pass line ≤ 4294967295
    → CountsFrom (days_after day line) (passes_after pass line) said)
    → CountsFrom day pass (cond (is_end line) (end_at row others) (said_with row line (misplaced day pass line) said))
line_counts None day pass row others said few small_pass fits counts = tt
line_counts (Some (Day n)) day pass row others said few small_pass fits counts =
    day_counts (nat_eq n (day + 1)) (nat_le n 366) day pass row n said small_pass refl refl
    (λ within. counts within (omega arith))
line_counts (Some (Pass k)) day pass row others said few small_pass fits counts =
    pass_counts (nat_eq day 0) (nat_eq k (pass + 1)) day pass row k said few refl fits (λ within. counts few within)
line_counts (Some (Fall fall)) day pass row others said few small_pass fits counts =
    fall_counts (nat_eq pass 0) day pass row fall said (counts few small_pass)
line_counts (Some End) day pass row others said few small_pass fits counts =
    end_counts day pass row others few small_pass

lines_count : (day pass row : ℕ) (texts : List (List ℕ)) → day ≤ 366 → pass ≤ 4294967295
    → CountsFrom day pass (said_from day pass row texts)
unfolding said_from
lines_count day pass row [] few small_pass = tt
lines_count day pass row (last ∷ []) few small_pass = tt
lines_count day pass row (text ∷ next ∷ others) few small_pass =
    let line = line_of row (parts 32 text) in
    line_counts line day pass row (next ∷ others)
    (said_from (days_after day line) (passes_after pass line) (row + 1) (next ∷ others)) few
    small_pass (all_small row (parts 32 text))
    (λ few_after small_after. lines_count (days_after day line) (passes_after pass line) (row + 1)
    (next ∷ others) few_after small_after)

chain_counts : (said : Result Said ChainFault) → CountsFrom 0 0 said → IfOk (chain_of said) IsCounted
chain_counts (Err fault) counts = tt
chain_counts (Ok said) counts = record { days = let d = counts.days in omega arith; passes = counts.each }

counted_where : (expected : Result Chain ChainFault) (chain : Chain) → IfOk expected IsCounted → expected ≡ Ok chain
    → IsCounted chain
counted_where expected chain counted is = subst (λ (r : Result Chain ChainFault). IfOk r IsCounted) is counted

-- a chain that is read is counted
pub read_counted : (bytes : List ℕ) (result : Result Chain ChainRefusal)
    → Answers (λ (chain : Chain). chain) result (read bytes) → IfOk result IsCounted
read_counted bytes (Err e) answers = tt
read_counted bytes (Ok chain) answers =
    counted_where (read bytes) chain (chain_counts (said_from 0 0 1 (parts 10 bytes))
    (lines_count 0 0 1 (parts 10 bytes) (omega arith) (omega arith))) answers

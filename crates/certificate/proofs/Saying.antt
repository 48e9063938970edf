-- What lines say, line by line.
use Rattle.std.proofs.Common.{◌≡◌, ℕ, suc, zero, ◌+◌, ◌<◌, Bool, true, false, cond, List, [], ◌∷◌, ◌++◌, length, Option}
use Rattle.std.proofs.Common.{Some, None, Result, Ok, Err, refl, sym, ap, ◌∙◌, arith, append_assoc, append-nil}
use Rattle.std.specs.Prelude.{◌==◌, nat_eq, nat_le, ◌&&◌, option_and_then}
use Rattle.std.specs.List.{onto_first}
use Rattle.std.proofs.lemmas.Bool.Decides.{nat_tests}
use Rattle.std.proofs.lemmas.List.Splits.{length-slice_split}
use Rattle.admit_core.specs.declared.chain.PassChain.{PassChain}
use Rattle.admit_core.specs.declared.chain.DayChain.{DayChain}
use Rattle.admit_core.specs.declared.chain.Chain.{Chain}
use Rattle.admit_core.specs.declared.chain.ChainFault.{ChainFault}
use Rattle.admit_core.specs.declared.chain.ChainReason.{ChainReason}
use Rattle.admit_core.specs.declared.chain.ChainReason.TheVariants.{NotLine, WrongNumber, AfterEnd}
use Rattle.certificate.specs.declared.line.Line.{Line}
use Rattle.certificate.specs.declared.line.Line.TheVariants.{Day, Pass, Fall, End}
use Rattle.certificate.specs.Grammar.{parts, numbers, line_of, line_with, misplaced, days_after, passes_after, Said}
use Rattle.certificate.specs.Grammar.{nothing, with_line, fault_at, end_at, unended_at, said_with, said_from, is_end}
use Rattle.certificate.specs.Grammar.{chain_of}
use Rattle.certificate.specs.Open.{Open, passes_until, days_until, opened, passes_with, days_with, chain_with}

abbrev pub empty : Open
empty = record { days = []; day = 0; passes = []; pass = 0; row = 0; falls = [] }

-- nothing is open at first
pub starts : (said : Result Said ChainFault) → chain_of said ≡ chain_with empty said
starts (Err fault) = refl
starts (Ok said) = refl

pub some_parts : (byte : ℕ) (text : List ℕ) → 0 < length (parts byte text)
some_parts byte text = omega (arith, length-slice_split (λ (b : ℕ). b == byte) text)

-- what the first of the lines says, where others follow
said_first : (day pass row : ℕ) (text : List ℕ) (others : List (List ℕ)) → 0 < length others
    → said_from day pass row (text ∷ others)
    ≡ cond (is_end (line_of row (parts 32 text))) (end_at row others)
    (said_with row (line_of row (parts 32 text)) (misplaced day pass (line_of row (parts 32 text)))
    (said_from (days_after day (line_of row (parts 32 text))) (passes_after pass (line_of row (parts 32 text)))
    (row + 1) others))
unfolding said_from
said_first day pass row text [] h = absurd (omega arith)
said_first day pass row text (next ∷ others) h = refl

-- the same, where the line is known
pub said_by : (day pass row : ℕ) (text after : List ℕ) (all : List (List ℕ)) (line : Option Line)
    → all ≡ text ∷ parts 10 after → line ≡ line_of row (parts 32 text)
    → said_from day pass row all
    ≡ cond (is_end line) (end_at row (parts 10 after)) (said_with row line (misplaced day pass line)
    (said_from (days_after day line) (passes_after pass line) (row + 1) (parts 10 after)))
said_by day pass row text after all line first is =
    ap (said_from day pass row) first ∙ said_first day pass row text (parts 10 after) (some_parts 10 after)
    ∙ ap (λ (l : Option Line).
    cond (is_end l) (end_at row (parts 10 after)) (said_with row l (misplaced day pass l)
    (said_from (days_after day l) (passes_after pass l) (row + 1) (parts 10 after)))) (sym is)

pub not_line : (o : Open) (row : ℕ) (text after : List ℕ) (all : List (List ℕ))
    (whole : Result Chain ChainFault) → all ≡ text ∷ parts 10 after → None ≡ line_of row (parts 32 text)
    → whole ≡ chain_with o (said_from o.day o.pass row all) → whole ≡ Err (fault_at row NotLine)
not_line o row text after all whole first is e =
    e ∙ ap (chain_with o) (said_by o.day o.pass row text after all None first is)

pub has_ended : (o : Open) (row : ℕ) (text after : List ℕ) (all : List (List ℕ)) (line : Line)
    (whole : Result Chain ChainFault) → all ≡ text ∷ parts 10 after
    → Some line ≡ line_of row (parts 32 text)
    → is_end (Some line) ≡ true → whole ≡ chain_with o (said_from o.day o.pass row all)
    → whole ≡ chain_with o (end_at row (parts 10 after))
has_ended o row text after all line whole first is ends e =
    e ∙ ap (chain_with o) (said_by o.day o.pass row text after all (Some line) first is
    ∙ ap (λ b. cond b (end_at row (parts 10 after))
    (said_with row (Some line) (misplaced o.day o.pass (Some line))
    (said_from (days_after o.day (Some line)) (passes_after o.pass (Some line)) (row + 1)
    (parts 10 after)))) ends)

goes_by : (o : Open) (row : ℕ) (text after : List ℕ) (all : List (List ℕ)) (line : Line)
    (why : Option ChainReason) (whole : Result Chain ChainFault) → all ≡ text ∷ parts 10 after
    → Some line ≡ line_of row (parts 32 text)
    → is_end (Some line) ≡ false → why ≡ misplaced o.day o.pass (Some line)
    → whole ≡ chain_with o (said_from o.day o.pass row all)
    → whole ≡ chain_with o (said_with row (Some line) why (said_from (days_after o.day (Some line))
    (passes_after o.pass (Some line)) (row + 1) (parts 10 after)))
goes_by o row text after all line why whole first is ends placed e =
    let rest = said_from (days_after o.day (Some line)) (passes_after o.pass (Some line)) (row + 1) (parts 10 after) in
    e ∙ ap (chain_with o) (said_by o.day o.pass row text after all (Some line) first is
    ∙ ap (λ b. cond b (end_at row (parts 10 after))
    (said_with row (Some line) (misplaced o.day o.pass (Some line)) rest)) ends
    ∙ ap (λ w. said_with row (Some line) w rest) (sym placed))

pub is_misplaced : (o : Open) (row : ℕ) (text after : List ℕ) (all : List (List ℕ)) (line : Line)
    (reason : ChainReason) (whole : Result Chain ChainFault) → all ≡ text ∷ parts 10 after
    → Some line ≡ line_of row (parts 32 text)
    → is_end (Some line) ≡ false → Some reason ≡ misplaced o.day o.pass (Some line)
    → whole ≡ chain_with o (said_from o.day o.pass row all) → whole ≡ Err (fault_at row reason)
is_misplaced o row text after all line reason whole first is ends placed e =
    goes_by o row text after all line (Some reason) whole first is ends placed e

-- an item more, behind one that may stand at the end
joins : {A : Type 0} (xs : List A) (b : Bool) (x : A) (ys : List A)
    → xs ++ cond b ys (x ∷ ys) ≡ (xs ++ cond b [] (x ∷ [])) ++ ys
joins xs true x ys = ap (λ l. l ++ ys) (sym (append-nil xs))
joins xs false x ys = sym (append_assoc xs (x ∷ []) ys)

-- what is open ends with nothing more
ends_passes : (o : Open) (row : ℕ) → passes_with o (nothing row) ≡ passes_until row o
ends_passes o row = ap (λ (fs : List _). o.passes ++ cond (nat_eq o.pass 0) []
    (record { row = o.row; falls = fs; next_row = row } ∷ [])) (append-nil o.falls)

pub ends_days : (o : Open) (row : ℕ) → days_with o (nothing row) ≡ days_until row o
ends_days o row = ap (λ (ps : List PassChain). o.days
    ++ cond (nat_eq o.day 0) [] (record { passes = ps; next_row = row } ∷ [])) (ends_passes o row)

some_suc : (n : ℕ) → nat_eq (suc n) 0 ≡ false
some_suc n = grind (arith, nat_tests)

no_follower : (m : ℕ) → nat_eq 0 (m + 1) ≡ false
no_follower m = grind (arith, nat_tests)

-- a number that follows another is not 0
follows : (n m k : ℕ) → cond (nat_eq n (m + 1) && nat_le n k) None (Some WrongNumber) ≡ None → nat_eq n 0 ≡ false
follows zero m k e = let apart = rw (no_follower m) at e in cc
follows (suc n) m k e = some_suc n

day_opened : (o : Open) (row n : ℕ) (said : Said) → nat_eq n 0 ≡ false
    → days_with o (with_line row (Day n) said) ≡ days_with (opened row (Day n) o) said
day_opened o row n said some =
    let day : DayChain = record { passes = said.passes; next_row = said.day_end } in
    let ended : DayChain = record { passes = passes_until row o; next_row = row } in
    ap (λ (ps : List PassChain). o.days ++ cond (nat_eq o.day 0) (day ∷ said.days)
    (record { passes = ps; next_row = row } ∷ day ∷ said.days)) (ends_passes o row)
    ∙ joins o.days (nat_eq o.day 0) ended (day ∷ said.days)
    ∙ ap (λ b. days_until row o ++ cond b said.days (day ∷ said.days)) (sym some)

pass_opened : (o : Open) (row k : ℕ) (said : Said) → nat_eq k 0 ≡ false
    → passes_with o (with_line row (Pass k) said) ≡ passes_with (opened row (Pass k) o) said
pass_opened o row k said some =
    let pass : PassChain = record { row = row; falls = said.falls; next_row = said.pass_end } in
    let ended : PassChain = record { row = o.row; falls = o.falls; next_row = row } in
    ap (λ (fs : List _). o.passes
    ++ cond (nat_eq o.pass 0) (pass ∷ said.passes)
    (record { row = o.row; falls = fs; next_row = row } ∷ pass ∷ said.passes))
    (append-nil o.falls)
    ∙ joins o.passes (nat_eq o.pass 0) ended (pass ∷ said.passes)
    ∙ ap (λ b. passes_until row o ++ cond b said.passes (pass ∷ said.passes)) (sym some)

-- the pass line's number is one more, and a day is open
numbered : (b : Bool) (k pass : ℕ) → cond b (Some NotLine) (cond (nat_eq k (pass + 1)) None (Some WrongNumber)) ≡ None
    → nat_eq k 0 ≡ false
numbered true k pass e = cc
numbered false zero pass e = let apart = rw (no_follower pass) at e in cc
numbered false (suc k) pass e = some_suc k

-- a line that may stand is read into what is open
line_opened : (o : Open) (row : ℕ) (line : Line) (said : Said) → is_end (Some line) ≡ false
    → None ≡ misplaced o.day o.pass (Some line)
    → days_with o (with_line row line said) ≡ days_with (opened row line o) said
line_opened o row (Day n) said ends placed = day_opened o row n said (follows n o.day 366 (sym placed))
line_opened o row (Pass k) said ends placed =
    ap (λ (ps : List PassChain). o.days
    ++ cond (nat_eq o.day 0) said.days (record { passes = ps; next_row = said.day_end }
    ∷ said.days)) (pass_opened o row k said (numbered (nat_eq o.day 0) k o.pass (sym placed)))
line_opened o row (Fall fall) said ends placed =
    ap (λ (fs : List _). o.days
    ++ cond (nat_eq o.day 0) said.days
    (record {
      passes = o.passes
          ++ cond (nat_eq o.pass 0) said.passes
          (record { row = o.row; falls = fs; next_row = said.pass_end } ∷ said.passes);
      next_row = said.day_end;
    } ∷ said.days)) (sym (append_assoc o.falls (fall ∷ []) said.falls))
line_opened o row End said ends placed = cc

said_opened : (o : Open) (row : ℕ) (line : Line) (others : Result Said ChainFault)
    → is_end (Some line) ≡ false → None ≡ misplaced o.day o.pass (Some line)
    → chain_with o (said_with row (Some line) None others) ≡ chain_with (opened row line o) others
said_opened o row line (Err fault) ends placed = refl
said_opened o row line (Ok said) ends placed =
    ap (λ (ds : List DayChain). Ok (record { days = ds })) (line_opened o row line said ends placed)

numbers_opened : (o : Open) (row : ℕ) (line : Line) → is_end (Some line) ≡ false
    → (days_after o.day (Some line) ≡ (opened row line o).day)
    × (passes_after o.pass (Some line) ≡ (opened row line o).pass)
numbers_opened o row (Day n) ends = (refl, refl)
numbers_opened o row (Pass k) ends = (refl, refl)
numbers_opened o row (Fall fall) ends = (refl, refl)
numbers_opened o row End ends = (refl, refl)

pub goes_on : (o new : Open) (row : ℕ) (text after : List ℕ) (all : List (List ℕ)) (line : Line)
    (whole : Result Chain ChainFault) → all ≡ text ∷ parts 10 after
    → Some line ≡ line_of row (parts 32 text)
    → is_end (Some line) ≡ false → None ≡ misplaced o.day o.pass (Some line)
    → new ≡ opened row line o → whole ≡ chain_with o (said_from o.day o.pass row all)
    → whole ≡ chain_with new (said_from new.day new.pass (row + 1) (parts 10 after))
goes_on o new row text after all line whole first is ends placed opens e =
    let same = numbers_opened o row line ends in
    goes_by o row text after all line None whole first is ends placed e
    ∙ said_opened o row line _ ends placed
    ∙ ap (λ d.
    chain_with (opened row line o) (said_from d (passes_after o.pass (Some line)) (row + 1) (parts 10 after)))
    same.0
    ∙ ap (λ p. chain_with (opened row line o) (said_from (opened row line o).day p (row + 1) (parts 10 after))) same.1
    ∙ ap (λ (x : Open). chain_with x (said_from x.day x.pass (row + 1) (parts 10 after))) (sym opens)

-- the text ends before an `end` line
pub is_unended : (o : Open) (row : ℕ) (rest : List ℕ) (all : List (List ℕ)) (whole : Result Chain ChainFault)
    → all ≡ rest ∷ []
    → whole ≡ chain_with o (said_from o.day o.pass row all) → whole ≡ Err (fault_at row (unended_at rest))
unfolding said_from
is_unended o row rest all whole first e = e ∙ ap (λ ps. chain_with o (said_from o.day o.pass row ps)) first

-- a byte after the `end` line
follow_by : (row byte : ℕ) (b : Bool) (ps : List (List ℕ)) → 0 < length ps
    → end_at row (cond b ([] ∷ ps) (onto_first byte ps)) ≡ Err (fault_at (row + 1) AfterEnd)
follow_by row byte b [] h = absurd (omega arith)
follow_by row byte true (p ∷ ps) h = refl
follow_by row byte false (p ∷ ps) h = refl

pub bytes_follow : (row : ℕ) (after : List ℕ) → 0 < length after
    → end_at row (parts 10 after) ≡ Err (fault_at (row + 1) AfterEnd)
bytes_follow row [] h = absurd (omega arith)
bytes_follow row (byte ∷ bytes) h = follow_by row byte (byte == 10) (parts 10 bytes) (some_parts 10 bytes)

-- the line of a word and the numbers behind it
pub line_numbers : (row : ℕ) (word ns : List ℕ) (words all : List (List ℕ)) → all ≡ word ∷ words
    → 0 < length words → Some ns ≡ numbers words → line_with row word ns ≡ line_of row all
line_numbers row word ns [] all first some is = absurd (omega arith)
line_numbers row word ns (next ∷ words) all first some is =
    sym (ap (line_of row) first ∙ ap (option_and_then (line_with row word)) (sym is))

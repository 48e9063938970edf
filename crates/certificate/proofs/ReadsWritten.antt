-- A text is read as a chain exactly where it writes it.
use Rattle.std.proofs.Common.{◌≡◌, ◌∙◌, ℕ, ◌+◌, ◌≤◌, false, List, [], ◌∷◌, ◌++◌, Option, Some, None, Result, Ok, Err}
use Rattle.std.proofs.Common.{ap, append_assoc, arith, inl, inr, length, map, nat_eq, nat_le, refl, subst, sym}
use Rattle.std.specs.Prelude.{◌&&◌, flat_map, if◌then◌else◌}
use Rattle.std.specs.List.{enumerate_from}
use Rattle.std.proofs.lemmas.Bool.{and_parts, cases_Bool, eq-eqb, eqb-true, false≢true, le-leb, leb-true}
use Rattle.admit_core.specs.declared.chain.Chain.{Chain}
use Rattle.admit_core.specs.declared.chain.ChainFault.{ChainFault}
use Rattle.admit_core.specs.declared.chain.DayChain.{DayChain}
use Rattle.admit_core.specs.declared.chain.FallLine.{FallLine}
use Rattle.admit_core.specs.declared.chain.PassChain.{PassChain}
use Rattle.certificate.specs.Grammar.{Said, chain_of, days_after, end_at, is_end, line_of, misplaced, nothing, parts}
use Rattle.certificate.specs.Grammar.{passes_after, said_from, said_with, with_line}
use Rattle.certificate.specs.declared.line.Line.{Line}
use Rattle.certificate.specs.declared.line.Line.TheVariants.{Day, End, Fall, Pass}
use Rattle.certificate.specs.TextGrammar.{FollowFrom, ReadsWhatIsWritten, StandFrom, WriteLines, day_lines, pass_lines}

-- the lines from within a chain on: falls of an open pass, passes of an open day, and days
abbrev further_lines : ℕ → ℕ → List FallLine → List PassChain → List DayChain → List Line
further_lines day pass falls passes days =
    map Fall falls
    ++ (flat_map pass_lines (enumerate_from (pass + 1) passes)
    ++ (flat_map day_lines (enumerate_from (day + 1) days) ++ End ∷ []))

-- what is said stands from a row on, after day and pass lines of these numbers
record StandsAfter (day pass row : ℕ) (said : Said) : Type 0 where
  pub falls_end : said.pass_end ≡ row + length said.falls
  pub passes_end : StandFrom said.pass_end said.passes said.day_end
  pub days_from : FollowFrom said.day_end said.days
  pub few : day + length said.days ≤ 366
  pub no_pass : pass ≡ 0 → said.falls ≡ []
  pub no_day : day ≡ 0 → said.passes ≡ []

-- ---- what is read was written
record SaidSo (day pass row : ℕ) (texts : List (List ℕ)) (said : Said) : Type 0 where
  pub front : List (List ℕ)
  pub ended : texts ≡ front ++ [] ∷ []
  pub lines : WriteLines row front (further_lines day pass said.falls said.passes said.days)
  pub stand : StandsAfter day pass row said

with_told : (row : ℕ) (line : Line) (rest : Result Said ChainFault) (said : Said)
    → said_with row (Some line) None rest ≡ Ok said
    → (later : Said) × (rest ≡ Ok later) × (with_line row line later ≡ said)
with_told row line (Ok later) said e = (later, refl, cc)
with_told row line (Err fault) said e = absurd (cc)

module _ (text : List ℕ) (others : List (List ℕ)) (day pass row : ℕ) where
  so_end : (said : Said) → line_of row (parts 32 text) ≡ Some End → day ≤ 366 → others ≡ [] ∷ []
      → nothing row ≡ said → SaidSo day pass row (text ∷ others) said
  so_end said is le last same =
      subst (SaidSo day pass row (text ∷ others)) same (record {
        front = text ∷ [];
        ended = ap (λ (xs : List (List ℕ)). text ∷ xs) last;
        lines = (is, tt);
        stand = record {
          falls_end = omega arith;
          passes_end = refl;
          days_from = tt;
          few = omega (arith, le);
          no_pass = λ z. refl;
          no_day = λ z. refl;
        };
      })

  so_day : (n : ℕ) (later : Said) → line_of row (parts 32 text) ≡ Some (Day n) → n ≡ day + 1
      → SaidSo n 0 (row + 1) others later → SaidSo day pass row (text ∷ others) (with_line row (Day n) later)
  so_day n later is next so =
      let none : later.falls ≡ [] = so.stand.no_pass refl in
      let passes : List Line = flat_map pass_lines (enumerate_from 1 later.passes) in
      let days_after : ℕ → List Line = λ k. flat_map day_lines (enumerate_from (k + 1) later.days) in
      let lines = ap (λ (falls : List FallLine). map Fall falls ++ (passes ++ (days_after n ++ End ∷ []))) none
      ∙ ap (λ (k : ℕ). passes ++ (days_after k ++ End ∷ [])) next
      ∙ sym (append_assoc passes (days_after (day + 1)) (End ∷ [])) in
      let at : later.pass_end ≡ row + 1 = omega (arith, so.stand.falls_end, ap length none) in
      record {
        front = text ∷ so.front;
        ended = ap (λ (xs : List (List ℕ)). text ∷ xs) so.ended;
        lines = (is ∙ ap (λ (k : ℕ). Some (Day k)) next, subst (WriteLines (row + 1) so.front) lines so.lines);
        stand = record {
          falls_end = omega arith;
          passes_end = refl;
          days_from = (
            subst (λ (r : ℕ). StandFrom r later.passes later.day_end) at so.stand.passes_end,
            so.stand.days_from,
          );
          few = omega (arith, so.stand.few, next);
          no_pass = λ z. refl;
          no_day = λ z. refl;
        };
      }

  so_pass : (k : ℕ) (later : Said) → line_of row (parts 32 text) ≡ Some (Pass k) → k ≡ pass + 1 → (day ≡ 0 → ⊥)
      → SaidSo day k (row + 1) others later → SaidSo day pass row (text ∷ others) (with_line row (Pass k) later)
  so_pass k later is next in_day so =
      let falls : List Line = map Fall later.falls in
      let passes_after : ℕ → List Line = λ j. flat_map pass_lines (enumerate_from (j + 1) later.passes) in
      let rest : List Line = flat_map day_lines (enumerate_from (day + 1) later.days) ++ End ∷ [] in
      let lines = ap (λ (j : ℕ). falls ++ (passes_after j ++ rest)) next
      ∙ sym (append_assoc falls (passes_after (pass + 1)) rest) in
      record {
        front = text ∷ so.front;
        ended = ap (λ (xs : List (List ℕ)). text ∷ xs) so.ended;
        lines = (is ∙ ap (λ (j : ℕ). Some (Pass j)) next, subst (WriteLines (row + 1) so.front) lines so.lines);
        stand = record {
          falls_end = omega arith;
          passes_end = (refl, so.stand.falls_end, so.stand.passes_end);
          days_from = so.stand.days_from;
          few = so.stand.few;
          no_pass = λ z. refl;
          no_day = λ z. absurd (in_day z);
        };
      }

  so_fall : (fall : FallLine) (later : Said) → line_of row (parts 32 text) ≡ Some (Fall fall) → (pass ≡ 0 → ⊥)
      → SaidSo day pass (row + 1) others later
      → SaidSo day pass row (text ∷ others) (with_line row (Fall fall) later)
  so_fall fall later is in_pass so =
      record {
        front = text ∷ so.front;
        ended = ap (λ (xs : List (List ℕ)). text ∷ xs) so.ended;
        lines = (is, so.lines);
        stand = record {
          falls_end = omega (arith, so.stand.falls_end);
          passes_end = so.stand.passes_end;
          days_from = so.stand.days_from;
          few = so.stand.few;
          no_pass = λ z. absurd (in_pass z);
          no_day = so.stand.no_day;
        };
      }

-- nothing follows the last line
at_end : (row : ℕ) (others : List (List ℕ)) (said : Said) → end_at row others ≡ Ok said
    → (others ≡ [] ∷ []) × (nothing row ≡ said)
at_end row [] said e = absurd (cc)
at_end row ([] ∷ []) said e = (refl, cc)
at_end row ([] ∷ (text ∷ texts)) said e = absurd (cc)
at_end row ((byte ∷ bytes) ∷ texts) said e = absurd (cc)

-- what a line and those after it say
step : (text : List ℕ) (others : List (List ℕ)) (day pass row : ℕ) (said : Said) (line : Option Line)
    → line_of row (parts 32 text) ≡ line
    → ((later : Said) → days_after day line ≤ 366
    → said_from (days_after day line) (passes_after pass line) (row + 1) others ≡ Ok later
    → SaidSo (days_after day line) (passes_after pass line) (row + 1) others later)
    → day ≤ 366
    → (if is_end line then end_at row others
    else said_with row line (misplaced day pass line)
    (said_from (days_after day line) (passes_after pass line) (row + 1) others)) ≡ Ok said
    → SaidSo day pass row (text ∷ others) said
step text others day pass row said None is later le e = absurd (cc)
step text others day pass row said (Some End) is later le e =
    let last = at_end row others said e in
    so_end text others day pass row said is le last.0 last.1
step text others day pass row said (Some (Day n)) is later le e =
    elim (cases_Bool (nat_eq n (day + 1) && nat_le n 366)) [
      | inl placed ↦
          let parts_of = and_parts (nat_eq n (day + 1)) (nat_le n 366) placed in
          let told = with_told row (Day n) (said_from n 0 (row + 1) others) said (rw placed at e) in
          let rest = later told.0 (leb-true n 366 parts_of.1) told.1 in
          subst (SaidSo day pass row (text ∷ others)) told.2
          (so_day text others day pass row n told.0 is (eqb-true n (day + 1) parts_of.0) rest)
      | inr misplaced_day ↦ absurd (let none = rw misplaced_day at e in cc)
    ]
step text others day pass row said (Some (Pass k)) is later le e =
    elim (cases_Bool (nat_eq day 0)) [
      | inl no_day ↦ absurd (let none = rw no_day at e in cc)
      | inr in_day ↦
          let of_day = rw in_day at e in
          elim (cases_Bool (nat_eq k (pass + 1))) [
            | inl placed ↦
                let told = with_told row (Pass k) (said_from day k (row + 1) others) said (rw placed at of_day) in
                let rest = later told.0 le told.1 in
                subst (SaidSo day pass row (text ∷ others)) told.2
                (so_pass text others day pass row k told.0 is (eqb-true k (pass + 1) placed)
                (λ z. false≢true (sym in_day ∙ eq-eqb day 0 z)) rest)
            | inr wrong ↦ absurd (let none = rw wrong at of_day in cc)
          ]
    ]
step text others day pass row said (Some (Fall fall)) is later le e =
    elim (cases_Bool (nat_eq pass 0)) [
      | inl no_pass ↦ absurd (let none = rw no_pass at e in cc)
      | inr in_pass ↦
          let told = with_told row (Fall fall) (said_from day pass (row + 1) others) said (rw in_pass at e) in
          let rest = later told.0 le told.1 in
          subst (SaidSo day pass row (text ∷ others)) told.2
          (so_fall text others day pass row fall told.0 is
          (λ z. false≢true (sym in_pass ∙ eq-eqb pass 0 z)) rest)
    ]

said_so : (texts : List (List ℕ)) (day pass row : ℕ) (said : Said) → day ≤ 366
    → said_from day pass row texts ≡ Ok said → SaidSo day pass row texts said
unfolding said_from
said_so [] day pass row said le e = absurd (cc)
said_so (last ∷ []) day pass row said le e = absurd (cc)
said_so (text ∷ next ∷ others) day pass row said le e =
    step text (next ∷ others) day pass row said (line_of row (parts 32 text)) refl
    (λ later le_later is.
    said_so (next ∷ others) (days_after day (line_of row (parts 32 text)))
    (passes_after pass (line_of row (parts 32 text))) (row + 1) later le_later is) le e

-- ---- what is written is read
said_step : (day pass row : ℕ) (text next : List ℕ) (others : List (List ℕ)) (line : Line) (later : Said)
    → line_of row (parts 32 text) ≡ Some line → is_end (Some line) ≡ false
    → misplaced day pass (Some line) ≡ None
    → said_from (days_after day (Some line)) (passes_after pass (Some line)) (row + 1) (next ∷ others) ≡ Ok later
    → said_from day pass row (text ∷ next ∷ others) ≡ Ok (with_line row line later)
unfolding said_from
said_step day pass row text next others line later is goes_on placed rest = rw (is, goes_on, placed, rest) refl

more : (day pass row : ℕ) (text : List ℕ) (front : List (List ℕ)) (line : Line) (later : Said)
    → line_of row (parts 32 text) ≡ Some line → is_end (Some line) ≡ false
    → misplaced day pass (Some line) ≡ None
    → said_from (days_after day (Some line)) (passes_after pass (Some line)) (row + 1) (front ++ [] ∷ []) ≡ Ok later
    → said_from day pass row (text ∷ (front ++ [] ∷ [])) ≡ Ok (with_line row line later)
more day pass row text [] line later is goes_on placed rest =
    said_step day pass row text [] [] line later is goes_on placed rest
more day pass row text (next ∷ front) line later is goes_on placed rest =
    said_step day pass row text next (front ++ [] ∷ []) line later is goes_on placed rest

not_zero : (n : ℕ) → (n ≡ 0 → ⊥) → nat_eq n 0 ≡ false
not_zero n never = elim (cases_Bool (nat_eq n 0)) [ inl is ↦ absurd (never (eqb-true n 0 is)) | inr apart ↦ apart ]

last_read : (day pass row : ℕ) (text : List ℕ) → line_of row (parts 32 text) ≡ Some End
    → said_from day pass row (text ∷ [] ∷ []) ≡ Ok (nothing row)
unfolding said_from
last_read day pass row text is = rw is refl

written_read : (front : List (List ℕ)) (day pass row : ℕ) (falls : List FallLine) (pass_end : ℕ)
    (passes : List PassChain) (day_end : ℕ) (days : List DayChain)
    → WriteLines row front (further_lines day pass falls passes days)
    → StandsAfter day pass row
    (record { falls = falls; pass_end = pass_end; passes = passes; day_end = day_end; days = days })
    → said_from day pass row (front ++ [] ∷ [])
    ≡ Ok (record { falls = falls; pass_end = pass_end; passes = passes; day_end = day_end; days = days })
written_read [] day pass row (fall ∷ falls) pass_end passes day_end days are stand = absurd are
written_read [] day pass row [] pass_end (p ∷ passes) day_end days are stand = absurd are
written_read [] day pass row [] pass_end [] day_end (d ∷ days) are stand = absurd are
written_read [] day pass row [] pass_end [] day_end [] are stand = absurd are
written_read (text ∷ front) day pass row (fall ∷ falls) pass_end passes day_end days are stand =
    let in_pass : pass ≡ 0 → ⊥ = λ z. let none = stand.no_pass z in cc in
    more day pass row text front (Fall fall) _ are.0 refl (rw (not_zero pass in_pass) refl)
    (written_read front day pass (row + 1) falls pass_end passes day_end days are.1 (record {
      falls_end = omega (arith, stand.falls_end);
      passes_end = stand.passes_end;
      days_from = stand.days_from;
      few = stand.few;
      no_pass = λ z. absurd (in_pass z);
      no_day = stand.no_day;
    }))
written_read (text ∷ front) day pass row [] pass_end (p ∷ passes) day_end days are stand =
    let in_day : day ≡ 0 → ⊥ = λ z. let none = stand.no_day z in cc in
    let here : row ≡ pass_end = omega (arith, stand.falls_end) in
    let own : row ≡ p.row = omega (arith, here, stand.passes_end.0) in
    let after : p.next_row ≡ row + 1 + length p.falls = omega (arith, here, stand.passes_end.1) in
    let lines = append_assoc (map Fall p.falls)
    (flat_map pass_lines (enumerate_from (pass + 1 + 1) passes))
    (flat_map day_lines (enumerate_from (day + 1) days) ++ End ∷ []) in
    more day pass row text front (Pass (pass + 1)) _ are.0 refl
    (rw (not_zero day in_day, eq-eqb (pass + 1) (pass + 1) refl) refl)
    (written_read front day (pass + 1) (row + 1) p.falls p.next_row passes day_end days
    (subst (WriteLines (row + 1) front) lines are.1) (record {
      falls_end = after;
      passes_end = stand.passes_end.2;
      days_from = stand.days_from;
      few = stand.few;
      no_pass = λ z. absurd (omega (arith, z));
      no_day = λ z. absurd (in_day z);
    }))
    ∙ (λ i.
    Ok (record {
      falls = [];
      pass_end = here i;
      passes = record { row = own i; falls = p.falls; next_row = p.next_row } ∷ passes;
      day_end = day_end;
      days = days;
    }))
written_read (text ∷ front) day pass row [] pass_end [] day_end (d ∷ days) are stand =
    let here : row ≡ pass_end = omega (arith, stand.falls_end) in
    let there : row ≡ day_end = omega (arith, here, stand.passes_end) in
    let lines = append_assoc (flat_map pass_lines (enumerate_from 1 d.passes))
    (flat_map day_lines (enumerate_from (day + 1 + 1) days)) (End ∷ []) in
    let le : day + 1 ≤ 366 = omega (arith, stand.few) in
    more day pass row text front (Day (day + 1)) _ are.0 refl
    (rw (eq-eqb (day + 1) (day + 1) refl, le-leb (day + 1) 366 le) refl)
    (written_read front (day + 1) 0 (row + 1) [] (row + 1) d.passes d.next_row days
    (subst (WriteLines (row + 1) front) lines are.1) (record {
      falls_end = omega arith;
      passes_end = subst (λ (r : ℕ). StandFrom (r + 1) d.passes d.next_row) (sym there) stand.days_from.0;
      days_from = stand.days_from.1;
      few = omega (arith, stand.few);
      no_pass = λ z. refl;
      no_day = λ z. absurd (omega (arith, z));
    }))
    ∙ (λ i. Ok (record { falls = []; pass_end = here i; passes = []; day_end = there i; days = d ∷ days }))
written_read (text ∷ []) day pass row [] pass_end [] day_end [] are stand =
    let here : row ≡ pass_end = omega (arith, stand.falls_end) in
    let there : row ≡ day_end = omega (arith, here, stand.passes_end) in
    last_read day pass row text are.0
    ∙ (λ i. Ok (record { falls = []; pass_end = here i; passes = []; day_end = there i; days = [] }))
written_read (text ∷ next ∷ front) day pass row [] pass_end [] day_end [] are stand = absurd are.1

-- ---- both ways
abbrev days_in : Result Chain ChainFault → List DayChain
days_in (Ok chain) = chain.days
days_in (Err fault) = []

said_in : (chain : Chain) (r : Result Said ChainFault) → chain_of r ≡ Ok chain
    → (said : Said) × (r ≡ Ok said) × (said.days ≡ chain.days)
said_in chain (Ok said) e = (said, refl, ap days_in e)
said_in chain (Err fault) e = absurd (cc)

pub reads_what_is_written : ReadsWhatIsWritten
reads_what_is_written bytes chain = (
  λ e.
      let found = said_in chain (said_from 0 0 1 (parts 10 bytes)) e in
      let said : Said = found.0 in
      let so = said_so (parts 10 bytes) 0 0 1 said (omega arith) found.1 in
      let no_falls : said.falls ≡ [] = so.stand.no_pass refl in
      let no_passes : said.passes ≡ [] = so.stand.no_day refl in
      let lines = ap (λ (falls : List FallLine). further_lines 0 0 falls said.passes said.days) no_falls
      ∙ ap (λ (passes : List PassChain). further_lines 0 0 [] passes said.days) no_passes
      ∙ ap (further_lines 0 0 [] []) found.2 in
      let end : said.day_end ≡ said.pass_end =
      subst (λ (passes : List PassChain). StandFrom said.pass_end passes said.day_end) no_passes so.stand.passes_end in
      let at : said.day_end ≡ 1 = omega (arith, end, so.stand.falls_end, ap length no_falls) in
      record {
        texts = so.front;
        ended = so.ended;
        lines = subst (WriteLines 1 so.front) lines so.lines;
        rows = subst (FollowFrom 1) found.2 (subst (λ (r : ℕ). FollowFrom r said.days) at so.stand.days_from);
        few = omega (arith, so.stand.few, ap length found.2);
      },
  λ writes.
      ap (λ (texts : List (List ℕ)). chain_of (said_from 0 0 1 texts)) writes.ended
      ∙ ap chain_of (written_read writes.texts 0 0 1 [] 1 [] 1 chain.days writes.lines (record {
        falls_end = omega arith;
        passes_end = refl;
        days_from = writes.rows;
        few = omega (arith, writes.few);
        no_pass = λ z. refl;
        no_day = λ z. refl;
      })),
)

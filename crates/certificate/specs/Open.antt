-- What has been read of a chain, with a day and a pass that may still go on.
use Rattle.std.specs.Prelude.{◌≡◌, ℕ, List, [], ◌∷◌, ◌++◌, Result, Ok, Err, nat_eq, if◌then◌else◌}
use Rattle.admit_core.specs.declared.chain.FallLine.{FallLine}
use Rattle.admit_core.specs.declared.chain.PassChain.{PassChain}
use Rattle.admit_core.specs.declared.chain.DayChain.{DayChain}
use Rattle.admit_core.specs.declared.chain.ChainFault.{ChainFault}
use Rattle.admit_core.specs.declared.chain.Chain.{Chain}
use Rattle.certificate.specs.Grammar.{Said}
use Rattle.certificate.specs.declared.line.Line.{Line}
use Rattle.certificate.specs.declared.line.Line.TheVariants.{Day, Pass, Fall, End}
use Rattle.certificate.specs.declared.refusal.ChainRefusal.{ChainRefusal}
use Rattle.certificate.specs.declared.refusal.ChainRefusal.TheVariants as refused

-- the days and the passes of the last one that have ended, and how many of each have begun; the row
-- and the falls of the pass that is open
pub record Open : Type 0 where
  pub days : List DayChain
  pub day : ℕ
  pub passes : List PassChain
  pub pass : ℕ
  pub row : ℕ
  pub falls : List FallLine

-- the passes of the open day and the days, where the line at this row ends both
abbrev pub passes_until : ℕ → Open → List PassChain
passes_until row o = o.passes ++ (if nat_eq o.pass 0 then []
    else record { row = o.row; falls = o.falls; next_row = row } ∷ [])

abbrev pub days_until : ℕ → Open → List DayChain
days_until row o = o.days ++ (if nat_eq o.day 0 then []
    else record { passes = passes_until row o; next_row = row } ∷ [])

-- the same with the line at this row
abbrev pub opened : ℕ → Line → Open → Open
opened row (Day n) o =
    record { days = days_until row o; day = n; passes = []; pass = 0; row = row; falls = [] }
opened row (Pass k) o = record o { passes = passes_until row o; pass = k; row = row; falls = [] }
opened row (Fall fall) o = record o { falls = o.falls ++ fall ∷ [] }
opened row End o = o

-- what has been read, with what the further lines say
abbrev pub passes_with : Open → Said → List PassChain
passes_with o said =
    o.passes ++ (if nat_eq o.pass 0 then said.passes
    else record { row = o.row; falls = o.falls ++ said.falls; next_row = said.pass_end }
    ∷ said.passes)

abbrev pub days_with : Open → Said → List DayChain
days_with o said = o.days ++ (if nat_eq o.day 0 then said.days
    else record { passes = passes_with o said; next_row = said.day_end } ∷ said.days)

abbrev pub chain_with : Open → Result Said ChainFault → Result Chain ChainFault
chain_with o (Err fault) = Err fault
chain_with o (Ok said) = Ok (record { days = days_with o said })

-- what a reader answers is this, unless memory runs out
abbrev pub Refuses : {Y : Type 0} → ChainRefusal → Result Y ChainFault → Type 0
Refuses refused.OutOfMemory expected = Unit {0}
Refuses (refused.Fault fault) expected = expected ≡ Err fault

abbrev pub Answers : {X Y : Type 0} → (X → Y) → Result X ChainRefusal → Result Y ChainFault → Type 0
Answers view (Ok x) expected = expected ≡ Ok (view x)
Answers view (Err e) expected = Refuses e expected

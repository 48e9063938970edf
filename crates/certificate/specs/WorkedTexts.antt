-- Texts of chains, and what is no chain.
use Rattle.std.specs.Prelude.{◌≡◌, ℕ, List, [], ◌∷◌, codes, Ok, Err}
use Rattle.admit_core.specs.declared.chain.Chain.{Chain}
use Rattle.admit_core.specs.declared.chain.DayChain.{DayChain}
use Rattle.admit_core.specs.declared.chain.ChainReason.{ChainReason}
use Rattle.admit_core.specs.declared.chain.ChainReason.TheVariants.{NotLine, WrongNumber, NoEnd, AfterEnd}
use Rattle.admit_core.specs.WorkedChains.{line, pass_lines, day_lines}
use Rattle.certificate.specs.Grammar.{fault_at, read}

abbrev pub chain_of_days : List DayChain → Chain
chain_of_days days = record { days = days }

-- the rows are counted from 1, and each pass and day tells the row after it; leading zeros are
-- allowed
abbrev pub TextsOfChains : Type 0
TextsOfChains =
    (read (codes "end\n") ≡ Ok (chain_of_days []))
    × (read (codes "day 1\nend\n") ≡ Ok (chain_of_days (day_lines [] 2 ∷ [])))
    × (read (codes "day 1\npass 1\nfall 5 10 2 1 3\nend\n") ≡ Ok
    (chain_of_days (day_lines (pass_lines 2 (line 3 5 10 2 (1 ∷ 3 ∷ []) ∷ []) 4 ∷ []) 4 ∷ [])))
    × (read (codes "day 01\npass 1\npass 2\nfall 5 4294967295 0 1\nday 2\npass 1\nend\n")
    ≡ Ok (chain_of_days (
    day_lines (pass_lines 2 [] 3 ∷ pass_lines 3 (line 4 5 4294967295 0 (1 ∷ []) ∷ []) 5 ∷ []) 5
    ∷ day_lines (pass_lines 6 [] 7 ∷ []) 7
    ∷ [])))

abbrev pub IsNoChain : List ℕ → ℕ → ChainReason → Type 0
IsNoChain text row reason = read text ≡ Err (fault_at row reason)

-- numbers that are not the next, lines out of their place
abbrev pub LinesOutOfPlace : Type 0
LinesOutOfPlace =
    IsNoChain (codes "day 2\nend\n") 1 WrongNumber
    × IsNoChain (codes "day 0\nend\n") 1 WrongNumber
    × IsNoChain (codes "pass 1\nend\n") 1 NotLine
    × IsNoChain (codes "pass 2\nend\n") 1 NotLine
    × IsNoChain (codes "day 1\npass 2\nend\n") 2 WrongNumber
    × IsNoChain (codes "day 1\nfall 5 10 2 1\nend\n") 2 NotLine
    × IsNoChain (codes "day 1\npass 1\nfall 5 10 2 1 3\nday 3\npass 1\nend\n") 4 WrongNumber
    × IsNoChain (codes "day 1\npass 1\nday 2\nfall 5 10 2 1\nend\n") 4 NotLine

-- lines of none of the four forms
abbrev pub NoLines : Type 0
NoLines =
    IsNoChain (codes "day 1  \nend\n") 1 NotLine
    × IsNoChain (codes "day  1\nend\n") 1 NotLine
    × IsNoChain (codes "day 1\npass 1\nfall 5 4294967296 2 1 3\nend\n") 3 NotLine
    × IsNoChain (codes "day 1\npass 1\nfall 5 00000000010 2 1\nend\n") 3 NotLine
    × IsNoChain (codes "day 1\npass 1\nfall 5 10 2\nend\n") 3 NotLine
    × IsNoChain (codes "day 1\r\nend\n") 1 NotLine
    × IsNoChain (0 ∷ codes "end\n") 1 NotLine
    × IsNoChain (codes "\nend\n") 1 NotLine
    × IsNoChain (codes "end \n") 1 NotLine

-- texts that end too early or too late
abbrev pub NoEnds : Type 0
NoEnds =
    IsNoChain [] 1 NoEnd
    × IsNoChain (codes "day 1\npass 1\nfall 5 10 2 1 3\n") 4 NoEnd
    × IsNoChain (codes "day 1\npass 1\nfall 5 10 2 1 3") 3 NotLine
    × IsNoChain (codes "end") 1 NotLine
    × IsNoChain (codes "day 1\npass 1\nend\nx") 4 AfterEnd
    × IsNoChain (codes "end\n\n") 2 AfterEnd

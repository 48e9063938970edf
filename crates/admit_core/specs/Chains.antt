-- Which chains are valid: the falls of a day, written down so that a reader can test them without
-- making them.
use Rattle.std.specs.Prelude.{ℕ, ◌+◌, Bool, not, ◌&&◌, List, [], ◌∷◌, map, length, Option, Some, None, option_map, find}
use Rattle.std.specs.Prelude.{zip, nat_eq, ◌==◌, slice_set, if◌then◌else◌, IsTrue, ⊤}
use Rattle.std.specs.List.{list_any, list_all, range_with_len}
use Rattle.std.specs.Option.{option_or}
use Rattle.admit_core.specs.declared.chain.FallLine.{FallLine}
use Rattle.admit_core.specs.declared.chain.PassChain.{PassChain}
use Rattle.admit_core.specs.declared.chain.DayChain.{DayChain}
use Rattle.admit_core.specs.declared.chain.CheckReason.{CheckReason}
use Rattle.admit_core.specs.declared.chain.CheckReason.TheVariants.{NotOver, WrongWishes, WrongBar, StillOver}
use Rattle.admit_core.specs.declared.chain.CheckReason.TheVariants.{PassMissing, PassExtra}
use Rattle.admit_core.specs.declared.ranking.CallOrder.{CallOrder}
use Rattle.admit_core.specs.declared.records.Fall.{Fall}
use Rattle.admit_core.specs.declared.state.Stamp.{Stamp}
use Rattle.admit_core.specs.State.{State, entries}
use Rattle.admit_core.specs.Standing.{place_of}
use Rattle.admit_core.specs.Proposals.{demands_bed}
use Rattle.admit_core.specs.Falls.{FallingSystem, is_overfilled, is_settled, ranks_up_to_over, fall_of}
use Rattle.admit_core.specs.Boarding.{boarding}
use Rattle.admit_core.specs.Days.{closing, freed_after, frees_nothing, GoesOn}

-- the place of the school that a line names; past the end where no school has the id
abbrev pub school_of_line : State → FallLine → ℕ
school_of_line s line = place_of (map (λ h. h.id) s.dossier.schools) line.school

-- the wish with this id demands a bed of the school at this rank
abbrev pub shows_rank : State → List CallOrder → List ℕ → ℕ → ℕ → ℕ → Bool
shows_rank s orders bars h r id =
    list_any (λ (w, m). nat_eq id w.id && demands_bed s orders bars h w m
    && nat_eq r w.board_rank) (entries s)

-- the named wishes show the ranks, each its own, in their order
abbrev pub shows_ranks : State → List CallOrder → List ℕ → ℕ → List ℕ → List ℕ → Bool
shows_ranks s orders bars h ranks ids =
    nat_eq (length ids) (length ranks)
    && list_all (λ (r, id). shows_rank s orders bars h r id) (zip ranks ids)

-- the line tells the bar before the fall and after it
abbrev pub tells_bars : FallLine → Fall → Bool
tells_bars line fall = (line.from == fall.from) && (line.to == fall.to)

-- a valid line at these bars: its school is overfilled, its wishes show the ranks of the fall, and
-- it tells both bars
pub record IsFallLine (s : State) (orders : List CallOrder) (ceilings bars : List ℕ)
    (line : FallLine) : Type 0 where
  pub over : IsTrue (is_overfilled (boarding s orders ceilings) bars (school_of_line s line))
  pub names : IsTrue (shows_ranks s orders bars (school_of_line s line)
      (ranks_up_to_over (boarding s orders ceilings) bars (school_of_line s line)) line.wishes)
  pub tells : IsTrue (tells_bars line
      (fall_of (boarding s orders ceilings) bars (school_of_line s line)))

-- the bars after a line, and after many
abbrev pub lowered : State → List ℕ → FallLine → List ℕ
lowered s bars line = slice_set bars (school_of_line s line) line.to

abbrev pub bars_by : State → List ℕ → List FallLine → List ℕ
bars_by s bars [] = bars
bars_by s bars (line ∷ lines) = bars_by s (lowered s bars line) lines

-- each line is valid at the bars that those before it leave
abbrev pub AreFallLines : State → List CallOrder → List ℕ → List ℕ → List FallLine → Type 0
AreFallLines s orders ceilings bars [] = ⊤
AreFallLines s orders ceilings bars (line ∷ lines) =
    IsFallLine s orders ceilings bars line
    × AreFallLines s orders ceilings (lowered s bars line) lines

-- a valid pass: its lines lead from the ceilings to bars that overfill no school
pub record IsPassChain (s : State) (orders : List CallOrder) (ceilings : List ℕ)
    (pass : PassChain) : Type 0 where
  pub lines : AreFallLines s orders ceilings ceilings pass.falls
  pub settled : IsTrue (is_settled (boarding s orders ceilings) (bars_by s ceilings pass.falls))

-- the state after a pass, and what its automatic answers freed
abbrev pub closing_by : State → List CallOrder → List ℕ → Stamp → PassChain → State
closing_by s orders ceilings stamp pass = closing s orders (bars_by s ceilings pass.falls) stamp

abbrev pub frees_nothing_by : State → List CallOrder → List ℕ → Stamp → PassChain → Bool
frees_nothing_by s orders ceilings stamp pass =
    frees_nothing (freed_after s orders (bars_by s ceilings pass.falls) stamp)

-- valid passes of a day, at least one, from the opening s on and numbered from k, and the evening
-- that the last of them leaves
abbrev pub ArePassChains : List CallOrder → List ℕ → ℕ → ℕ → State → List PassChain → State → Type 0
ArePassChains orders ceilings day k s [] evening = ⊥
ArePassChains orders ceilings day k s (pass ∷ rest) evening =
    let stamp : Stamp = record { day = day; pass = k } in
    let after = closing_by s orders ceilings stamp pass in
    GoesOn (IsPassChain s orders ceilings pass) (frees_nothing_by s orders ceilings stamp pass)
    rest after evening
    (ArePassChains orders ceilings day (k + 1) after rest evening)

-- a valid day, from its morning to its evening
abbrev pub IsDayChain : List CallOrder → List ℕ → ℕ → State → DayChain → State → Type 0
IsDayChain orders ceilings day morning chain evening =
    ArePassChains orders ceilings day 1 morning chain.passes evening

-- why a line is not valid: the first of the three that does not hold
abbrev pub line_fault : State → List CallOrder → List ℕ → List ℕ → FallLine → Option CheckReason
line_fault s orders ceilings bars line =
    let sys = boarding s orders ceilings in
    let h = school_of_line s line in
    if not (is_overfilled sys bars h) then Some NotOver
    else if not (shows_ranks s orders bars h (ranks_up_to_over sys bars h) line.wishes)
    then Some WrongWishes
    else if not (tells_bars line (fall_of sys bars h)) then Some WrongBar
    else None

-- the row and the reason of the first line that is not valid
abbrev pub lines_fault : State → List CallOrder → List ℕ → List ℕ → List FallLine
    → Option (ℕ × CheckReason)
lines_fault s orders ceilings bars [] = None
lines_fault s orders ceilings bars (line ∷ lines) =
    option_or (option_map (λ reason. (line.row, reason)) (line_fault s orders ceilings bars line))
    (lines_fault s orders ceilings (lowered s bars line) lines)

-- the overfilled school of least place
abbrev pub first_overfilled : FallingSystem → List ℕ → Option ℕ
first_overfilled sys bars = find (is_overfilled sys bars) (range_with_len 0 (length sys.ceilings))

-- the first fault of a pass; a school that is still overfilled is told at the row after it
abbrev pub pass_fault : State → List CallOrder → List ℕ → PassChain → Option (ℕ × CheckReason)
pass_fault s orders ceilings pass =
    option_or (lines_fault s orders ceilings ceilings pass.falls)
    (option_map (λ h. (pass.next_row, StillOver h))
    (first_overfilled (boarding s orders ceilings) (bars_by s ceilings pass.falls)))

-- no pass may follow one whose automatic answers freed nothing
abbrev pub extra_pass : List PassChain → Option (ℕ × CheckReason)
extra_pass [] = None
extra_pass (pass ∷ rest) = Some (pass.row, PassExtra)

-- the first fault of passes from the opening s on, numbered from k; end is the row after the day
abbrev pub passes_fault : List CallOrder → List ℕ → ℕ → ℕ → ℕ → State → List PassChain
    → Option (ℕ × CheckReason)
passes_fault orders ceilings day end k s [] = Some (end, PassMissing)
passes_fault orders ceilings day end k s (pass ∷ rest) =
    let stamp : Stamp = record { day = day; pass = k } in
    option_or (pass_fault s orders ceilings pass)
    (if frees_nothing_by s orders ceilings stamp pass
    then extra_pass rest
    else passes_fault orders ceilings day end (k + 1)
    (closing_by s orders ceilings stamp pass) rest)

-- the first fault of a day's chain
abbrev pub day_fault : List CallOrder → List ℕ → ℕ → State → DayChain → Option (ℕ × CheckReason)
day_fault orders ceilings day morning chain =
    passes_fault orders ceilings day chain.next_row 1 morning chain.passes

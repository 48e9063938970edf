-- Worked chains, one of each fault; worked wishes that block; and worked numbers of beds.
use Rattle.std.specs.Prelude.{◌≡◌, ℕ, List, [], ◌∷◌, Option, Some, None, map, if◌then◌else◌}
use Rattle.admit_core.specs.declared.chain.FallLine.{FallLine}
use Rattle.admit_core.specs.declared.chain.PassChain.{PassChain}
use Rattle.admit_core.specs.declared.chain.DayChain.{DayChain}
use Rattle.admit_core.specs.declared.chain.CheckReason.{CheckReason}
use Rattle.admit_core.specs.declared.chain.CheckReason.TheVariants.{NotOver, WrongWishes, WrongBar, StillOver}
use Rattle.admit_core.specs.declared.chain.CheckReason.TheVariants.{PassMissing, PassExtra}
use Rattle.admit_core.specs.declared.state.Status.{Status}
use Rattle.admit_core.specs.declared.state.Status.TheVariants.{Waiting, Offered, Accepted, Refused, AutoRefused}
use Rattle.admit_core.specs.declared.ranking.Bound.TheVariants.{Free}
use Rattle.admit_core.specs.Lists.{is_among}
use Rattle.admit_core.specs.State.{State, seats_left}
use Rattle.admit_core.specs.Chains.{IsDayChain, day_fault}
use Rattle.admit_core.specs.Blocking.{blocking, last_envied}
use Rattle.admit_core.specs.LeastBeds.{IsLeastBeds}
use Rattle.admit_core.specs.WorkedRows.{programme, school, wish, boarder, rows, state, order, marked, greatest_bar}
use Rattle.admit_core.specs.WorkedRows.{greatest_bar_orders, greatest_bar_evening, one_bed_orders, two_offers}
use Rattle.admit_core.specs.WorkedRows.{two_orders}
use Rattle.admit_core.specs.WorkedDays.{two_candidates, edges, edge_orders}
use Rattle.admit_core.specs.Days.{first_evening}

abbrev pub line : ℕ → ℕ → ℕ → ℕ → List ℕ → FallLine
line row h from to wishes = record { row = row; school = h; from = from; to = to; wishes = wishes }

abbrev pub pass_lines : ℕ → List FallLine → ℕ → PassChain
pass_lines row falls next = record { row = row; falls = falls; next_row = next }

abbrev pub day_lines : List PassChain → ℕ → DayChain
day_lines passes next = record { passes = passes; next_row = next }

-- a day of one pass, whose own line is row 2
abbrev pub one_pass : List FallLine → ℕ → DayChain
one_pass falls next = day_lines (pass_lines 2 falls next ∷ []) next

-- the first fault of a first day of three wishes that want the one bed
abbrev pub fault_of : DayChain → Option (ℕ × CheckReason)
fault_of chain = day_fault greatest_bar_orders (10 ∷ []) 1 greatest_bar chain

abbrev pub true_line : FallLine
true_line = line 3 5 10 2 (1 ∷ 3 ∷ [])

-- the true chain has no fault, and leads to the evening of the rule
abbrev pub ValidChain : Type 0
ValidChain =
    (fault_of (one_pass (true_line ∷ []) 4) ≡ None)
    × IsDayChain greatest_bar_orders (10 ∷ []) 1 greatest_bar (one_pass (true_line ∷ []) 4) greatest_bar_evening

-- a chain of each fault
abbrev pub ChainFaults : Type 0
ChainFaults =
    (fault_of (one_pass (line 3 9 10 2 (1 ∷ []) ∷ []) 4) ≡ Some (3, NotOver))
    × (fault_of (one_pass (true_line ∷ line 4 5 2 1 (1 ∷ []) ∷ []) 5) ≡ Some (4, NotOver))
    × (fault_of (one_pass (line 3 5 10 2 (1 ∷ 2 ∷ []) ∷ []) 4) ≡ Some (3, WrongWishes))
    × (fault_of (one_pass (line 3 5 10 2 (3 ∷ 1 ∷ []) ∷ []) 4) ≡ Some (3, WrongWishes))
    × (fault_of (one_pass (line 3 5 10 2 (1 ∷ []) ∷ []) 4) ≡ Some (3, WrongWishes))
    × (fault_of (one_pass (line 3 5 10 2 (1 ∷ 9 ∷ []) ∷ []) 4) ≡ Some (3, WrongWishes))
    × (fault_of (one_pass (line 3 5 9 2 (1 ∷ 9 ∷ []) ∷ []) 4) ≡ Some (3, WrongWishes))
    × (fault_of (one_pass (line 3 5 10 1 (1 ∷ 3 ∷ []) ∷ []) 4) ≡ Some (3, WrongBar))
    × (fault_of (one_pass (line 3 5 9 2 (1 ∷ 3 ∷ []) ∷ []) 4) ≡ Some (3, WrongBar))
    × (fault_of (one_pass [] 3) ≡ Some (3, StillOver 0))
    × (fault_of (day_lines [] 2) ≡ Some (2, PassMissing))
    × (fault_of (day_lines (pass_lines 2 (true_line ∷ []) 4 ∷ pass_lines 4 [] 5 ∷ []) 5) ≡ Some (4, PassExtra))

-- where the automatic answers free a seat a second pass is wanted
abbrev pub TwoPasses : Type 0
TwoPasses =
    (day_fault two_orders [] 1 two_offers (one_pass [] 3) ≡ Some (3, PassMissing))
    × (day_fault two_orders [] 1 two_offers (day_lines (pass_lines 2 [] 3 ∷ pass_lines 3 [] 4 ∷ []) 4) ≡ None)

-- of a candidate's proposed wishes with the school any one may be named
abbrev pub no_bed : State
no_bed =
    state (rows (programme 10 0 1 ∷ programme 20 0 1 ∷ []) (school 5 0 3 ∷ [])
    (boarder 1 31 0 0 1 0 ∷ boarder 2 31 1 0 1 0 ∷ []) (Waiting ∷ Waiting ∷ []))

abbrev pub AnyName : Type 0
AnyName =
    (day_fault one_bed_orders (3 ∷ []) 1 no_bed (one_pass (line 3 5 3 0 (1 ∷ []) ∷ []) 4) ≡ None)
    × (day_fault one_bed_orders (3 ∷ []) 1 no_bed (one_pass (line 3 5 3 0 (2 ∷ []) ∷ []) 4) ≡ None)

-- a wish blocks by envy, and by a vacant seat
abbrev pub one_seat_ranked : Status → Status → State
one_seat_ranked first second = state (rows (programme 10 0 1 ∷ []) [] (wish 1 11 0 1 ∷ wish 2 12 0 0 ∷ [])
    (first ∷ second ∷ []))

abbrev pub Envies : Type 0
Envies =
    let s = one_seat_ranked Waiting Accepted in
    (blocking s two_candidates ≡ 0 ∷ []) × (seats_left s 0 ≡ 0)
    × (last_envied s two_candidates (wish 1 11 0 1) ≡ Some 12)

-- of three, the one who waits envies the other two, the last of them last where they come first, and nobody where they
-- come last
abbrev pub two_hold : List ℕ → State
two_hold waiting =
    state (rows (programme 10 0 2 ∷ []) [] (map (λ c. wish c c 0 1) (11 ∷ 12 ∷ 13 ∷ []))
    (map (λ c. if is_among c waiting then Waiting else Accepted) (11 ∷ 12 ∷ 13 ∷ [])))

abbrev pub LastOfTwo : Type 0
LastOfTwo =
    let orders = order (11 ∷ 12 ∷ 13 ∷ []) (Free ∷ Free ∷ Free ∷ []) ∷ [] in
    (last_envied (two_hold (11 ∷ [])) orders (wish 11 11 0 1) ≡ Some 13)
    × (last_envied (two_hold (12 ∷ [])) orders (wish 12 12 0 1) ≡ Some 13)
    × (last_envied (two_hold (13 ∷ [])) orders (wish 13 13 0 1) ≡ None)
    × (blocking (two_hold (12 ∷ [])) orders ≡ 1 ∷ [])
    × (blocking (two_hold (13 ∷ [])) orders ≡ [])

abbrev pub SeatIsVacant : Type 0
SeatIsVacant =
    let s = one_seat_ranked AutoRefused Refused in
    (blocking s two_candidates ≡ 0 ∷ []) × (seats_left s 0 ≡ 1) × (last_envied s two_candidates (wish 1 11 0 1) ≡ None)

-- the second holds the seat, and the first waits with a wish of this preference and school
abbrev pub first_unlike : ℕ → Option ℕ → State
first_unlike preference school_place =
    state (rows (programme 10 0 1 ∷ []) (school 5 9 9 ∷ [])
    (record (boarder 1 11 0 0 1 preference) { school = school_place } ∷ wish 2 12 0 0 ∷ [])
    (Waiting ∷ Accepted ∷ []))

-- a wish that its candidate refused, and one that is live, block nothing; nor does one behind a live wish that they
-- prefer, one that is
-- not ranked, or one with a school
abbrev pub NoneBlocks : Type 0
NoneBlocks =
    (blocking (one_seat_ranked Refused Accepted) two_candidates ≡ [])
    × (blocking (one_seat_ranked Accepted Waiting) two_candidates ≡ [])
    × (blocking (record two_offers { marks = marked AutoRefused 1 1 ∷ marked Accepted 1 1 ∷ marked Offered 1 2 ∷ [] })
    two_orders ≡ [])
    × (blocking (first_unlike 0 None) two_candidates ≡ [])
    × (blocking (first_unlike 1 (Some 0)) two_candidates ≡ [])
    × (blocking (first_unlike 1 None) two_candidates ≡ 0 ∷ [])

-- two beds are the least that keep the bar at its ceiling where one bed is demanded by two; a school without beds needs
-- one; and one whose
-- ceiling bars all who want it needs none
abbrev pub BedsNeeded : Type 0
BedsNeeded =
    IsLeastBeds greatest_bar greatest_bar_orders (10 ∷ []) 0 2
    × IsLeastBeds (first_evening edges) edge_orders (4 ∷ 0 ∷ 2000000000 ∷ []) 0 1
    × IsLeastBeds (first_evening edges) edge_orders (4 ∷ 0 ∷ 2000000000 ∷ []) 1 0

-- Which wishes are open, as a list of flags, and what the rules say by it. A fall closes one wish
-- after another; between two of them no bars belong to the flags.
use Rattle.std.specs.Prelude.{ℕ, Bool, not, ◌&&◌, ◌||◌, List, length, map, nat_lt, ◌==◌, filter, zip, count_by}
use Rattle.std.specs.Prelude.{slice_index_or, false}
use Rattle.std.specs.List.{list_any, range_with_len}
use Rattle.admit_core.specs.declared.dossier.Wish.{Wish}
use Rattle.admit_core.specs.declared.state.Mark.{Mark}
use Rattle.admit_core.specs.declared.ranking.CallOrder.{CallOrder}
use Rattle.admit_core.specs.DossierRows.{DossierRows}
use Rattle.admit_core.specs.State.{State, entries, is_waiting, holds_seat, holds_bed, has_school, seats_left}
use Rattle.admit_core.specs.Proposals.{is_open, order_of, before, needs_no_seat}
use Rattle.day_state.specs.Kept.{has_seat_there}
use Rattle.linked_demand.specs.Line.{LineRow}

-- the open wishes under bars
abbrev pub opens_of : State → List ℕ → List Bool
opens_of s bars = map (λ (w, m). is_open s bars w m) (entries s)

-- the entries with their flags
abbrev pub flagged : State → List Bool → List ((Wish × Mark) × Bool)
flagged s opens = zip (entries s) opens

-- an open wish of the candidate in the programme
abbrev pub is_flagged_in : ℕ → ℕ → (Wish × Mark) × Bool → Bool
is_flagged_in p c x = x.1 && (x.0.0.candidate == c) && (x.0.0.programme == p)

-- a candidate wants a seat
abbrev pub wants_by : State → List Bool → ℕ → ℕ → Bool
wants_by s opens p c = list_any (is_flagged_in p c) (flagged s opens) && not (holds_seat s c p)

-- the wish at a place is open by its flag, and its candidate is not live in its programme
abbrev pub wanting_at : State → List Bool → ℕ → Bool
wanting_at s opens k = slice_index_or opens k false && not (has_seat_there s k)

-- the candidate of the wish at a place is called by the limit of its programme, by a flag, or is
-- live there
abbrev pub exempt_at : State → List Bool → ℕ → Bool
exempt_at s limited k = slice_index_or limited k false || has_seat_there s k

-- for each wish
abbrev pub all_exempt : State → List Bool → List Bool
all_exempt s limited = map (exempt_at s limited) (range_with_len 0 (length s.dossier.wishes))

-- how many before the wish's candidate want a seat
abbrev pub ahead_by : State → List CallOrder → List Bool → Wish → ℕ
ahead_by s orders opens w = count_by (wants_by s opens w.programme) (before s orders w)

-- a wish that is open by its flag is proposed
abbrev pub is_proposed_by : State → List CallOrder → List Bool → Wish → Mark → Bool → Bool
is_proposed_by s orders opens w m flag =
    (is_waiting m && flag)
    && (needs_no_seat s orders w || nat_lt (ahead_by s orders opens w) (seats_left s w.programme))

-- a candidate has a wish in a programme
abbrev pub applies_in : DossierRows → ℕ → ℕ → Bool
applies_in d p c = list_any (λ w. (w.candidate == c) && (w.programme == p)) d.wishes

-- those who have a wish in a programme, in call order
abbrev pub line_of : DossierRows → List CallOrder → ℕ → List ℕ
line_of d orders p = filter (applies_in d p) (order_of d orders p)

-- of them those who want a seat are set, and the seats that are left are the quota
abbrev pub seat_row : State → List CallOrder → List Bool → ℕ → LineRow
seat_row s orders opens p =
    record { flags = map (wants_by s opens p) (line_of s.dossier orders p); quota = seats_left s p }

-- a wish with the school whose candidate has no bed there ranks behind a number
abbrev pub is_past : State → ℕ → ℕ → Wish → Bool
is_past s h to w = has_school w h && (not (holds_bed s w.candidate h) && nat_lt to w.board_rank)

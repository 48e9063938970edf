-- The rows of a state, by the statuses alone.
use Rattle.std.proofs.Common.{◌≡◌, List, [], ◌∷◌, map, zip, None, refl, ap}
use Rattle.admit_core.specs.declared.state.Status.{Status}
use Rattle.admit_core.specs.declared.state.Mark.{Mark}
use Rattle.admit_core.specs.declared.tables.StateRow.{StateRow}
use Rattle.admit_core.specs.declared.tables.WishRow.{WishRow}
use Rattle.day_state.specs.Marks.{statuses_of}
use Rattle.next_morning.specs.Morning.{state_row}

abbrev pub row_by : WishRow × Status → StateRow
row_by x = record { wish = x.0.id; status = x.1; since = None }

pub rows_by : (ws : List WishRow) (ms : List Mark)
    → map row_by (zip ws (statuses_of ms)) ≡ map state_row (zip ws ms)
rows_by [] ms = refl
rows_by (w ∷ ws) [] = refl
rows_by (w ∷ ws) (m ∷ ms) = ap (λ (rows : List StateRow). row_by (w, m.status) ∷ rows) (rows_by ws ms)

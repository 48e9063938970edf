-- Statuses by some of the rows of a state.
use Rattle.std.specs.Prelude.{List, find, nat_eq, option_map, unwrap_or}
use Rattle.admit_core.specs.declared.state.Status.{Status}
use Rattle.admit_core.specs.declared.state.Status.TheVariants.{Waiting}
use Rattle.admit_core.specs.declared.tables.StateRow.{StateRow}
use Rattle.admit_core.specs.declared.tables.WishRow.{WishRow}

-- the status of a wish by these rows; one that none of them names waits
abbrev pub status_in : List StateRow → WishRow → Status
status_in rows w =
    unwrap_or (option_map (λ s. s.status) (find (λ s. nat_eq w.id s.wish) rows)) Waiting

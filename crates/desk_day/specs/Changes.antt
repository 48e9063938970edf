-- What the automatic answers after a pass changed, seen from the pass's opening.
use Rattle.std.specs.Prelude.{ℕ, Bool, not, ◌&&◌, List, map, filter, length, zip, ◌==◌}
use Rattle.std.specs.List.{enumerate_from, range_with_len}
use Rattle.admit_core.specs.declared.state.Status.{Status}
use Rattle.admit_core.specs.declared.state.Change.{Change}
use Rattle.admit_core.specs.DossierRows.{DossierRows, candidate_of}
use Rattle.admit_core.specs.Lists.{is_among}
use Rattle.admit_core.specs.State.{State, status_number}
use Rattle.admit_core.specs.Lapses.{is_offered}

-- offers lead to offered, and only automatic answers lead elsewhere
abbrev pub is_answered_change : Status → Status → Bool
is_answered_change opening closing =
    not (status_number opening == status_number closing) && not (is_offered closing)

abbrev pub answered_changes : State → State → List Change
answered_changes opening closing =
    map (λ x. record { wish = x.0; status = x.1.1.status })
    (filter (λ x. is_answered_change x.1.0.status x.1.1.status)
    (enumerate_from 0 (zip opening.marks closing.marks)))

-- the places of all wishes of the candidates of these wishes, ascending
abbrev pub wishes_beside : DossierRows → List ℕ → List ℕ
wishes_beside d places =
    let candidates = map (candidate_of d) places in
    filter (λ k. is_among (candidate_of d k) candidates) (range_with_len 0 (length d.wishes))

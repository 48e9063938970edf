-- The wishes of one candidate, and the rule that at most one of them is accepted.
use Rattle.std.specs.Prelude.{◌≡◌, ℕ, List, length, filter, ◌==◌, AllPairs}
use Rattle.std.specs.List.{range_with_len}
use Rattle.admit_core.specs.declared.dossier.Wish.{Wish}
use Rattle.admit_core.specs.declared.state.Status.TheVariants.{Accepted}
use Rattle.admit_core.specs.declared.state.Mark.{Mark}
use Rattle.admit_core.specs.DossierRows.{DossierRows, candidate_of}
use Rattle.admit_core.specs.State.{State, entries}

-- the places of a candidate's wishes, ascending
abbrev pub own_places : DossierRows → ℕ → List ℕ
own_places d c = filter (λ place. candidate_of d place == c) (range_with_len 0 (length d.wishes))

-- two wishes of one candidate are not both accepted
abbrev pub AcceptsOne : Wish × Mark → Wish × Mark → Type 0
AcceptsOne v w = v.0.candidate ≡ w.0.candidate → v.1.status ≡ Accepted → w.1.status ≡ Accepted → ⊥

-- at most one wish of each candidate is accepted
abbrev pub IsOneAccepted : State → Type 0
IsOneAccepted s = AllPairs AcceptsOne (entries s)

-- Worked faults of tables.
use Rattle.std.specs.Prelude.{◌≡◌, ℕ, true, false, List, [], ◌∷◌, Option, Some, None, map}
use Rattle.admit_core.specs.declared.slot.Slot.TheVariants as S
use Rattle.admit_core.specs.declared.refusal.Reason.TheVariants.{Repeat, Unknown, RankTaken, Unranked, NoBoardingRank}
use Rattle.admit_core.specs.declared.refusal.Reason.TheVariants.{PreferenceMixed, PreferenceTaken, TwoAccepted}
use Rattle.admit_core.specs.declared.refusal.Reason.TheVariants.{DayFalls}
use Rattle.admit_core.specs.declared.state.Status.TheVariants.{Accepted}
use Rattle.admit_core.specs.declared.dossier.AnswerKind.TheVariants.{Accept, Quit}
use Rattle.admit_core.specs.declared.tables.GroupRow.{GroupRow}
use Rattle.admit_core.specs.declared.tables.ProgrammeRow.{ProgrammeRow}
use Rattle.admit_core.specs.declared.tables.SchoolRow.{SchoolRow}
use Rattle.admit_core.specs.declared.tables.RankRow.{RankRow}
use Rattle.admit_core.specs.declared.tables.BoardRow.{BoardRow}
use Rattle.admit_core.specs.declared.tables.WishRow.{WishRow}
use Rattle.admit_core.specs.declared.tables.StateRow.{StateRow}
use Rattle.admit_core.specs.declared.tables.Tables.{Tables}
use Rattle.admit_core.specs.Relations.{first_fault}
use Rattle.admit_core.specs.Standing.{dossier_of}

abbrev pub group : ℕ → GroupRow
group id = record { id = id; scholar_pct = 10; resident_pct = 20 }

abbrev pub programme : ℕ → ℕ → ProgrammeRow
programme id g = record { id = id; group = g; seats = 3; limit = 0 }

abbrev pub ranked : ℕ → ℕ → ℕ → RankRow
ranked g c r = record { group = g; candidate = c; rank = r; scholar = true; resident = false }

abbrev pub school : ℕ → SchoolRow
school id = record { id = id; beds = 1; ceiling = 9 }

abbrev pub boarded : ℕ → ℕ → ℕ → BoardRow
boarded h c r = record { school = h; candidate = c; rank = r }

abbrev pub wish : ℕ → ℕ → ℕ → Option ℕ → ℕ → WishRow
wish id c p h n = record { id = id; candidate = c; programme = p; school = h; preference = n }

abbrev pub tables : List RankRow → List WishRow → List StateRow → Tables
tables rankings wishes state = record {
  groups = group 5 ∷ group 7 ∷ [];
  programmes = programme 1 5 ∷ programme 2 7 ∷ [];
  schools = school 3 ∷ [];
  rankings = rankings;
  boarding = boarded 3 100 1 ∷ [];
  wishes = wishes;
  state = state;
  ceilings = [];
  answers = [];
}

abbrev pub fine : List RankRow
fine = ranked 5 100 1 ∷ ranked 7 100 1 ∷ ranked 5 200 2 ∷ []

-- a repeated pair, an unknown group and a taken rank, with their rows
abbrev pub RankingFaults : Type 0
RankingFaults =
    (first_fault (tables (ranked 5 100 1 ∷ ranked 7 100 1 ∷ ranked 5 100 2 ∷ []) [] [])
    ≡ Some (record { slot = S.Rankings; row = 4; reason = Repeat 2 }))
    × (first_fault (tables (ranked 5 100 1 ∷ ranked 6 100 1 ∷ []) [] [])
    ≡ Some (record { slot = S.Rankings; row = 3; reason = Unknown 1 }))
    × (first_fault (tables (ranked 5 100 1 ∷ ranked 7 100 1 ∷ ranked 7 200 1 ∷ []) [] [])
    ≡ Some (record { slot = S.Rankings; row = 4; reason = RankTaken 3 }))

abbrev pub WishFaults : Type 0
WishFaults =
    (first_fault (tables fine (wish 1 100 1 None 0 ∷ wish 2 100 1 None 0 ∷ []) [])
    ≡ Some (record { slot = S.Wishes; row = 3; reason = Repeat 2 }))
    × (first_fault (tables fine (wish 1 100 1 None 0 ∷ wish 2 100 9 None 0 ∷ []) [])
    ≡ Some (record { slot = S.Wishes; row = 3; reason = Unknown 3 }))
    × (first_fault (tables fine (wish 1 100 1 (Some 9) 0 ∷ []) [])
    ≡ Some (record { slot = S.Wishes; row = 2; reason = Unknown 4 }))
    × (first_fault (tables fine (wish 1 200 2 None 0 ∷ []) [])
    ≡ Some (record { slot = S.Wishes; row = 2; reason = Unranked }))
    × (first_fault (tables fine (wish 1 200 1 (Some 3) 0 ∷ []) [])
    ≡ Some (record { slot = S.Wishes; row = 2; reason = NoBoardingRank }))
    × (first_fault (tables fine (wish 1 200 1 None 0 ∷ wish 2 100 1 None 2 ∷ wish 3 100 2 None 0 ∷ []) [])
    ≡ Some (record { slot = S.Wishes; row = 4; reason = PreferenceMixed 3 }))
    × (first_fault (tables fine (wish 1 200 1 None 2 ∷ wish 2 100 1 None 2 ∷ wish 3 100 2 None 2 ∷ []) [])
    ≡ Some (record { slot = S.Wishes; row = 4; reason = PreferenceTaken 3 }))
    × (first_fault (tables fine (wish 1 200 1 None 2 ∷ wish 2 100 1 None 2 ∷ wish 3 100 2 (Some 3) 1 ∷ []) []) ≡ None)

abbrev pub StateFaults : Type 0
StateFaults =
    (first_fault (tables fine (wish 1 200 1 None 2 ∷ wish 2 100 1 None 2 ∷ wish 3 100 2 None 1 ∷ [])
    (record { wish = 3; status = Accepted; since = None } ∷ record { wish = 1; status = Accepted; since = None }
    ∷ record { wish = 2; status = Accepted; since = None } ∷ []))
    ≡ Some (record { slot = S.State; row = 4; reason = TwoAccepted 2 }))
    × (first_fault (tables fine (wish 1 200 1 None 2 ∷ [])
    (record { wish = 1; status = Accepted; since = None } ∷ record { wish = 1; status = Accepted; since = None }
    ∷ []))
    ≡ Some (record { slot = S.State; row = 3; reason = Repeat 2 }))
    × (first_fault (tables fine (wish 1 200 1 None 2 ∷ [])
    (record { wish = 200; status = Accepted; since = None } ∷ []))
    ≡ Some (record { slot = S.State; row = 2; reason = Unknown 1 }))

abbrev pub StandingRows : Type 0
StandingRows =
    (map (λ g. map (λ r. r.candidate) g.list)
    (dossier_of (tables (ranked 5 100 9 ∷ ranked 7 100 1 ∷ ranked 5 200 2 ∷ []) [] [])).groups
    ≡ ((200 ∷ 100 ∷ []) ∷ (100 ∷ []) ∷ []))
    × (map {B = ℕ × ℕ} (λ w. (w.programme, w.board_rank))
    (dossier_of (tables fine (wish 1 200 1 None 2 ∷ wish 3 100 2 (Some 3) 1 ∷ []) [])).wishes
    ≡ ((0, 0) ∷ (1, 1) ∷ []))

abbrev pub good : Tables
good = tables fine (wish 1 100 1 None 0 ∷ wish 2 100 2 (Some 3) 0 ∷ []) []

-- faults of the other slots
abbrev pub OtherFaults : Type 0
OtherFaults =
    (first_fault good ≡ None)
    × (first_fault (record good { programmes = programme 1 5 ∷ programme 2 8 ∷ [] })
    ≡ Some (record { slot = S.Programmes; row = 3; reason = Unknown 2 }))
    × (first_fault (record good { boarding = boarded 3 100 1 ∷ boarded 3 200 1 ∷ [] })
    ≡ Some (record { slot = S.Boarding; row = 3; reason = RankTaken 2 }))
    × (first_fault (record good {
      ceilings = record { day = 4; school = 3; ceiling = 1 }
          ∷ record { day = 2; school = 3; ceiling = 1 } ∷ [];
    })
    ≡ Some (record { slot = S.Ceilings; row = 3; reason = DayFalls }))
    × (first_fault (record good {
      answers = record { day = 1; kind = Accept; target = 2 }
          ∷ record { day = 1; kind = Quit; target = 2 } ∷ [];
    })
    ≡ Some (record { slot = S.Answers; row = 3; reason = Unknown 3 }))
    × (first_fault (record good {
      answers = record { day = 1; kind = Accept; target = 9 } ∷ [];
      groups = group 5 ∷ group 7 ∷ group 5 ∷ [];
    }) ≡ Some (record { slot = S.Groups; row = 4; reason = Repeat 2 }))

-- States that are alike in all that a pass reads.
use Rattle.std.specs.Prelude.{◌≡◌, List, [], map}
use Rattle.admit_core.specs.declared.dossier.Answer.{Answer}
use Rattle.admit_core.specs.declared.dossier.School.{School}
use Rattle.admit_core.specs.Days.{first_mark}
use Rattle.admit_core.specs.DossierRows.{DossierRows}
use Rattle.admit_core.specs.State.{State}

-- a school without its ceiling
abbrev pub without_ceiling : School → School
without_ceiling h = record h { ceiling = 0 }

-- a dossier without what changes from day to day: ceilings, statuses and answers
abbrev pub lasting : DossierRows → DossierRows
lasting d =
    record d {
      schools = map without_ceiling d.schools;
      statuses = [];
      ceilings = [];
      answers = [];
    }

-- such a dossier with the statuses of a state, each with the stamp of what comes in
abbrev pub unstamped : State → State
unstamped s =
    record {
      dossier = lasting s.dossier;
      marks = map (λ m. first_mark m.status) s.marks;
    }

-- two states of such a dossier have equal statuses, whatever their stamps are
abbrev pub HaveEqualStatuses : State → State → Type 0
HaveEqualStatuses s t = unstamped s ≡ unstamped t

-- answers without their day
abbrev pub undated : List Answer → List Answer
undated answers = map (λ (a : Answer). record a { day = 0 }) answers

-- Whose wishes the lapse and the answers of a day may change.
use Rattle.std.specs.Prelude.{ℕ, List, [], ◌∷◌, ◌++◌, map, take}
use Rattle.std.specs.List.{flat_map}
use Rattle.admit_core.specs.declared.dossier.Answer.{Answer}
use Rattle.admit_core.specs.declared.dossier.AnswerKind.{AnswerKind}
use Rattle.admit_core.specs.declared.dossier.AnswerKind.TheVariants.{Accept, Refuse, Withdraw, Quit}
use Rattle.admit_core.specs.declared.records.Lapse.{Lapse}
use Rattle.admit_core.specs.Days.{answers_of}
use Rattle.admit_core.specs.DossierRows.{DossierRows}
use Rattle.admit_core.specs.OwnWishes.{own_places}

-- a wish of the candidate whose answer it is: the one that it names, or the first that they have
abbrev pub wishes_of_kind : DossierRows → AnswerKind → ℕ → List ℕ
wishes_of_kind d Accept target = target ∷ []
wishes_of_kind d Refuse target = target ∷ []
wishes_of_kind d Withdraw target = target ∷ []
wishes_of_kind d Quit target = take 1 (own_places d target)

abbrev pub wishes_of_answer : DossierRows → Answer → List ℕ
wishes_of_answer d a = wishes_of_kind d a.kind a.target

-- wishes of all whose offers lapse, and of all who answer on the day
abbrev pub touched : DossierRows → List Lapse → ℕ → List ℕ
touched d lapsed day = map (λ l. l.wish) lapsed ++ flat_map (wishes_of_answer d) (answers_of d day)

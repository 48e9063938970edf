-- The line that explains a wish.
use Rattle.std.specs.Prelude.{ℕ, ◌<◌, ◌==◌, List, [], ◌∷◌, codes, length, if◌then◌else◌}
use Rattle.std.specs.Fmt.{decimal}
use Rattle.admit_core.specs.DossierRows.{DossierRows}
use Rattle.admit_core.specs.Lines.{status_word}
use Rattle.admit_core.specs.declared.explanation.BarCause.{BarCause}
use Rattle.admit_core.specs.declared.explanation.BarCause.TheVariants.{Ceiling, Full}
use Rattle.admit_core.specs.declared.explanation.Explanation.{Explanation}
use Rattle.admit_core.specs.declared.explanation.Explanation.TheVariants.{Gone, Live, Barred, NoSeat}
use Rattle.admit_core.specs.declared.state.Stamp.{Stamp}
use Rattle.report.specs.Ids.{school_id, wish_id}
use Rattle.report.specs.Words.{line}

-- the place of a school that is named is one of the dossier
abbrev pub NamesSchool : DossierRows → Explanation → Type 0
NamesSchool d (Gone status stamp) = Unit {0}
NamesSchool d (Live status stamp) = Unit {0}
NamesSchool d (Barred school rank bar cause) = school < length d.schools
NamesSchool d (NoSeat ahead left position limit) = Unit {0}

abbrev pub stamp_words : Stamp → List (List ℕ)
stamp_words stamp = codes "day" ∷ decimal stamp.day ∷ codes "pass" ∷ decimal stamp.pass ∷ []

abbrev pub cause_words : BarCause → List (List ℕ)
cause_words Ceiling = codes "ceiling" ∷ []
cause_words (Full beds) = codes "full" ∷ decimal beds ∷ []

-- the position and the call limit, where the programme has one
abbrev pub limit_words : ℕ → ℕ → List (List ℕ)
limit_words position limit =
    if limit == 0 then []
    else (codes "position" ∷ decimal position ∷ codes "limit" ∷ decimal limit ∷ [])

abbrev pub explanation_words : DossierRows → Explanation → List (List ℕ)
explanation_words d (Gone status stamp) = codes "gone" ∷ status_word status ∷ stamp_words stamp
explanation_words d (Live status stamp) = codes "live" ∷ status_word status ∷ stamp_words stamp
explanation_words d (Barred school rank bar cause) =
    codes "barred" ∷ codes "school" ∷ decimal (school_id d school) ∷ codes "rank" ∷ decimal rank
    ∷ codes "bar" ∷ decimal bar ∷ cause_words cause
explanation_words d (NoSeat ahead left position limit) =
    codes "noseat" ∷ codes "ahead" ∷ decimal ahead ∷ codes "left" ∷ decimal left
    ∷ limit_words position limit

abbrev pub explain_text : DossierRows → ℕ → Explanation → List ℕ
explain_text d wish explanation =
    line (codes "wish" ∷ decimal (wish_id d wish) ∷ explanation_words d explanation)

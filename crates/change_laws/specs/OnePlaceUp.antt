-- Without boarding: what one place up in a programme's own call order does to one's offers there.
use Rattle.std.specs.Prelude.{◌≡◌, ℕ, All, Bool, IsTrue, List, None, Option, Some, length, slice_get}
use Rattle.std.specs.List.{list_any}
use Rattle.admit_core.specs.declared.dossier.Wish.{Wish}
use Rattle.admit_core.specs.declared.ranking.CallOrder.{CallOrder}
use Rattle.admit_core.specs.declared.records.DayRecord.{DayRecord}
use Rattle.admit_core.specs.declared.records.Terms.{Terms}
use Rattle.admit_core.specs.Days.{Days}
use Rattle.admit_core.specs.Lapses.{AreTermsFor}
use Rattle.admit_core.specs.Lists.{is_among}
use Rattle.admit_core.specs.State.{State}
use Rattle.admit_core.specs.Validity.{IsValid}
use Rattle.fairness.specs.Exchanges.{IsMovedUp}

-- a pass of the day offers the wish at this place
abbrev pub is_offered_on : ℕ → DayRecord → Bool
is_offered_on place day = list_any (λ pass. is_among place pass.pass.offers) day.passes

abbrev pub is_ever_offered : ℕ → List DayRecord → Bool
is_ever_offered place days = list_any (is_offered_on place) days

-- what is offered within some days is offered within as many where the wish's candidate stands one
-- place earlier
abbrev pub OnePlaceUpKeepsEachOffer : Type 0
OnePlaceUpKeepsEachOffer =
    (terms : Option Terms) (orders moved : List CallOrder) (d : ℕ) (old : State)
    (days others : List DayRecord) (new other : State) (place : ℕ) (w : Wish)
    → IsValid old.dossier
    → All (λ v. v.school ≡ None) old.dossier.wishes
    → length old.marks ≡ length old.dossier.wishes
    → AreTermsFor old.dossier terms
    → slice_get old.dossier.wishes place ≡ Some w
    → IsMovedUp old.dossier orders moved w.programme w.candidate
    → length others ≡ length days
    → Days terms orders d old days new
    → Days terms moved d old others other
    → IsTrue (is_ever_offered place days)
    → IsTrue (is_ever_offered place others)

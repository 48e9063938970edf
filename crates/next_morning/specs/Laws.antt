-- What the tables of the next morning stand for, and what a run over them is.
use Rattle.std.specs.Prelude.{◌≡◌, ℕ, List, None, Option, length, nat_eq}
use Rattle.std.specs.List.{IsDistinct}
use Rattle.admit_core.specs.declared.ranking.CallOrder.{CallOrder}
use Rattle.admit_core.specs.declared.records.DayRecord.{DayRecord}
use Rattle.admit_core.specs.declared.records.Terms.{Terms}
use Rattle.admit_core.specs.declared.tables.Tables.{Tables}
use Rattle.admit_core.specs.Days.{Days, first_evening}
use Rattle.admit_core.specs.Lapses.{AreTermsFor}
use Rattle.admit_core.specs.OwnWishes.{IsOneAccepted}
use Rattle.admit_core.specs.Ranges.{AreTables}
use Rattle.admit_core.specs.Relations.{first_fault, wish_ids}
use Rattle.admit_core.specs.Standing.{dossier_of}
use Rattle.admit_core.specs.State.{State}
use Rattle.admit_core.specs.Validity.{IsValid}
use Rattle.cut_laws.specs.Cut.{AreTheRest, cut_at, terms_at}
use Rattle.next_morning.specs.Morning.{tables_after}

-- a state of the dossier that tables stand for: each wish has a mark, and an id of its own
pub record IsEveningOf (t : Tables) (evening : State) : Type 0 where
  pub dossier : evening.dossier ≡ dossier_of t
  pub marks : length evening.marks ≡ length evening.dossier.wishes
  pub ids : IsDistinct nat_eq (wish_ids t)

-- a check accepts the tables: their rows are in the ranges of their columns, and no relation
-- between them fails
pub record IsAccepted (t : Tables) : Type 0 where
  pub ranges : AreTables t
  pub faultless : first_fault t ≡ None

-- the tables stand for the dossier of the campaign that is cut in that evening
abbrev pub TablesAreOfTheCut : Type 0
TablesAreOfTheCut =
    (a : ℕ) (t : Tables) (evening : State)
    → IsEveningOf t evening
    → dossier_of (tables_after a t evening) ≡ cut_at a evening

-- that is a valid one, where the dossier was one and each candidate has one accepted wish at most
abbrev pub TablesAreValid : Type 0
TablesAreValid =
    (a : ℕ) (t : Tables) (evening : State)
    → IsEveningOf t evening
    → IsValid evening.dossier
    → IsOneAccepted evening
    → IsValid (dossier_of (tables_after a t evening))

-- and from tables that a check accepts they are tables that it accepts
abbrev pub TablesAreAccepted : Type 0
TablesAreAccepted =
    (a : ℕ) (t : Tables) (evening : State)
    → IsEveningOf t evening
    → AreTables t
    → first_fault t ≡ None
    → IsOneAccepted evening
    → AreTables (tables_after a t evening) × (first_fault (tables_after a t evening) ≡ None)

-- whatever days are run over the tables, they are the rest of the campaign
abbrev pub RunsAreTheRest : Type 0
RunsAreTheRest =
    (a : ℕ) (t : Tables) (evening : State) (terms : Option Terms) (orders : List CallOrder)
    (days : List DayRecord) (other : State)
    → IsEveningOf t evening
    → AreTermsFor evening.dossier terms
    → Days (terms_at a terms evening) orders 1
    (first_evening (dossier_of (tables_after a t evening))) days other
    → AreTheRest terms orders a evening days other

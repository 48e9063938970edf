-- What a candidate keeps who gives no answer.
use Rattle.std.specs.Prelude.{◌≡◌, ◌∷◌, ◌&&◌, ◌⊎◌, ◌==◌, ℕ, All, AllPairs, Bool, IsSome, IsTrue, List, Option, []}
use Rattle.std.specs.Prelude.{nat_le, nat_lt}
use Rattle.std.specs.List.{AllZip, list_any}
use Rattle.admit_core.specs.declared.ranking.CallOrder.{CallOrder}
use Rattle.admit_core.specs.declared.records.DayRecord.{DayRecord}
use Rattle.admit_core.specs.declared.records.Terms.{Terms}
use Rattle.admit_core.specs.declared.state.Mark.{Mark}
use Rattle.admit_core.specs.declared.state.Status.TheVariants.{Accepted, Lapsed, Offered}
use Rattle.admit_core.specs.Answers.{own}
use Rattle.admit_core.specs.Days.{Days, answers_of}
use Rattle.admit_core.specs.DossierRows.{DossierRows}
use Rattle.admit_core.specs.Lapses.{AreTermsFor}
use Rattle.admit_core.specs.Relations.{is_accepted}
use Rattle.admit_core.specs.State.{State, entries}
use Rattle.campaign_laws.specs.Moments.{moments}

-- on none of these days does an answer speak of the candidate or of their wishes
abbrev pub GivesNoAnswer : State → ℕ → List DayRecord → Type 0
GivesNoAnswer old c days = All (λ day. own old c (answers_of old.dossier day.day) ≡ []) days

-- the candidate ranks none of their wishes: they answer in person
abbrev pub AnswersThemself : DossierRows → ℕ → Type 0
AnswersThemself d c = All (λ w. w.candidate ≡ c → w.preference ≡ 0) d.wishes

-- what is accepted stays as it is, stamp and all; an offer stays as it is, or lapses where offers
-- end with their deadline
pub record IsKept (terms : Option Terms) (m n : Mark) : Type 0 where
  pub accepted : m.status ≡ Accepted → n ≡ m
  pub offered : m.status ≡ Offered → (n ≡ m) ⊎ (IsSome terms × (n.status ≡ Lapsed))

-- so each wish of the candidate
abbrev pub KeepsOwn : Option Terms → ℕ → State → State → Type 0
KeepsOwn terms c earlier later =
    AllZip (λ e f. e.0.candidate ≡ c → IsKept terms e.1 f.1) (entries earlier) (entries later)

abbrev pub WhatIsYoursStays : Type 0
WhatIsYoursStays =
    (terms : Option Terms) (orders : List CallOrder) (d : ℕ) (old : State) (days : List DayRecord)
    (new : State) (c : ℕ)
    → AreTermsFor old.dossier terms
    → Days terms orders d old days new
    → AnswersThemself old.dossier c
    → GivesNoAnswer old c days
    → AllPairs (KeepsOwn terms c) (old ∷ moments terms orders old days)

-- the candidate has accepted a wish that they rank at most as n
abbrev pub has_accepted : State → ℕ → ℕ → Bool
has_accepted s c n =
    list_any (λ (w, m). is_accepted m.status && (w.candidate == c) && nat_lt 0 w.preference
    && nat_le w.preference n) (entries s)

-- later they have one that they rank no worse, answered for them
abbrev pub NeverDescends : ℕ → State → State → Type 0
NeverDescends c earlier later =
    (n : ℕ) → IsTrue (has_accepted earlier c n) → IsTrue (has_accepted later c n)

abbrev pub AutomaticAnswersClimb : Type 0
AutomaticAnswersClimb =
    (terms : Option Terms) (orders : List CallOrder) (d : ℕ) (old : State) (days : List DayRecord)
    (new : State) (c : ℕ)
    → AreTermsFor old.dossier terms
    → Days terms orders d old days new
    → GivesNoAnswer old c days
    → AllPairs (NeverDescends c) (old ∷ moments terms orders old days)

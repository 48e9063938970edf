-- What a test of days tells.
use Rattle.std.specs.Prelude.{◌≡◌, ℕ, All, List, Option, Some, None, Result, Ok, Err, ⊤}
use Rattle.admit_core.specs.State.{State}
use Rattle.admit_core.specs.declared.chain.DayChain.{DayChain}
use Rattle.admit_core.specs.declared.ranking.CallOrder.{CallOrder}
use Rattle.admit_core.specs.declared.records.Terms.{Terms}
use Rattle.certificate.specs.ProvedDays.{evening_after, evening_by}
use Rattle.certificate.specs.Verdicts.{KeepsSchool}
use Rattle.certificate.specs.declared.stop.CheckStop.{CheckStop}
use Rattle.certificate.specs.declared.stop.CheckStop.TheVariants as stops
use Rattle.desk_day.specs.RunDay.{IsStampedBy, KeepsStamps}
use Rattle.desk_day.specs.declared.refusal.DayRefusal.{DayRefusal}
use Rattle.desk_day.specs.declared.refusal.DayRefusal.TheVariants as refusals
use Rattle.modes.specs.declared.unproved.Unproved.{Unproved}
use Rattle.modes.specs.declared.unproved.Unproved.TheVariants.{Refused, OutOfMemory}
use Rattle.modes.specs.declared.unproved.Why.{Why}
use Rattle.modes.specs.declared.unproved.Why.TheVariants.{NoChain, Unfit, Rejected}

abbrev pub why_of : DayRefusal → Unproved
why_of (refusals.Unfit refusal) = Refused (Unfit refusal)
why_of refusals.OutOfMemory = OutOfMemory

abbrev pub why_stopped : CheckStop → Unproved
why_stopped (stops.Rejected found) = Refused (Rejected found)
why_stopped stops.OutOfMemory = OutOfMemory

-- a test that stopped tells why, unless memory ran out
abbrev pub StopsBy : Unproved → Option Why → Type 0
StopsBy (Refused told) why = why ≡ Some told
StopsBy OutOfMemory why = ⊤

-- one that went through found nothing
abbrev pub TellsWhy : {X : Type 0} → Result X Unproved → Option Why → Type 0
TellsWhy (Ok x) why = why ≡ None
TellsWhy (Err e) why = StopsBy e why

-- this is the evening to which a proved day leads, with stamps as `KeepsStamps` says
pub record IsEveningOfDay (terms : Option Terms) (orders : List CallOrder) (day : ℕ) (old : State)
    (chain : DayChain) (evening : State) : Type 0 where
  pub is : evening ≡ evening_by terms orders day old chain
  pub stamps : KeepsStamps day old evening

-- this is the evening to which proved days lead, from day 1 on; none of its marks is stamped later
-- than day 366, where none was before
pub record IsEveningOfDays (terms : Option Terms) (orders : List CallOrder) (old : State)
    (chains : List DayChain) (evening : State) : Type 0 where
  pub is : evening ≡ evening_after terms orders 1 old chains
  pub stamps : All (IsStampedBy 366) old.marks → All (IsStampedBy 366) evening.marks

-- a school that a rejection keeps is one of so many
abbrev pub NamesSchool : ℕ → Why → Type 0
NamesSchool schools (NoChain fault) = ⊤
NamesSchool schools (Unfit refusal) = ⊤
NamesSchool schools (Rejected found) = KeepsSchool schools found.reason

abbrev pub KeepsIn : ℕ → Unproved → Type 0
KeepsIn schools (Refused why) = NamesSchool schools why
KeepsIn schools OutOfMemory = ⊤

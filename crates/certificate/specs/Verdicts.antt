-- What a verdict tells.
use Rattle.std.specs.Prelude.{ℕ, ◌<◌, Option, Some, None, length, nat_eq, cond}
use Rattle.admit_core.specs.declared.chain.CheckReason.{CheckReason}
use Rattle.admit_core.specs.declared.chain.DayChain.{DayChain}
use Rattle.admit_core.specs.declared.chain.CheckReason.TheVariants.{NotOver, WrongWishes, WrongBar, StillOver}
use Rattle.admit_core.specs.declared.chain.CheckReason.TheVariants.{PassMissing, PassExtra}
use Rattle.admit_core.specs.State.{State}
use Rattle.certificate.specs.declared.check.Verdict.{Verdict}
use Rattle.certificate.specs.declared.check.Verdict.TheVariants.{Proved, Rejected}
use Rattle.certificate.specs.declared.stop.CheckStop.{CheckStop}
use Rattle.certificate.specs.declared.stop.CheckStop.TheVariants as stop

-- the fault that a verdict tells, if it tells one
abbrev pub fault_told : Verdict → Option (ℕ × CheckReason)
fault_told (Proved evening) = None
fault_told (Rejected row reason) = Some (row, reason)

-- the verdict on a day that has no pass
abbrev pub missing_pass : DayChain → Option Verdict
missing_pass chain =
    cond (nat_eq (length chain.passes) 0)
    (Some (Rejected chain.next_row PassMissing)) None

-- where a day is proved, its evening is one of these
abbrev pub IfProved : Verdict → (State → Type 0) → Type 0
IfProved (Proved evening) P = P evening
IfProved (Rejected row reason) P = Unit {0}

-- a school that a reason keeps is the place of one of so many
abbrev pub KeepsSchool : ℕ → CheckReason → Type 0
KeepsSchool schools NotOver = Unit {0}
KeepsSchool schools WrongWishes = Unit {0}
KeepsSchool schools WrongBar = Unit {0}
KeepsSchool schools (StillOver school) = school < schools
KeepsSchool schools PassMissing = Unit {0}
KeepsSchool schools PassExtra = Unit {0}

-- where a day is rejected, its reason is one of these
abbrev pub IfRejected : Verdict → (CheckReason → Type 0) → Type 0
IfRejected (Proved evening) P = Unit {0}
IfRejected (Rejected row reason) P = P reason

-- a school that a check keeps where it stops is one of so many
abbrev pub StopsAt : ℕ → CheckStop → Type 0
StopsAt schools (stop.Rejected found) = KeepsSchool schools found.reason
StopsAt schools stop.OutOfMemory = Unit {0}

-- What holds of every campaign.
use Rattle.std.specs.Prelude.{◌≡◌, ℕ, List, length, Option}
use Rattle.std.specs.List.{AllZip}
use Rattle.admit_core.specs.declared.ranking.CallOrder.{CallOrder}
use Rattle.admit_core.specs.declared.records.DayRecord.{DayRecord}
use Rattle.admit_core.specs.declared.records.Terms.{Terms}
use Rattle.admit_core.specs.State.{State}
use Rattle.admit_core.specs.CallOrder.{AreCallOrders}
use Rattle.admit_core.specs.Days.{Days}
use Rattle.desk_day.specs.DayLaws.{SameDayButFalls}

-- the days of a campaign depend on the dossier, the terms and the day alone: whichever schools were
-- picked, as many days from one evening lead to one evening, and differ in their falls alone
abbrev pub CampaignsAreFixed : Type 0
CampaignsAreFixed =
    (terms : Option Terms) (orders others : List CallOrder) (first : ℕ) (old : State)
    (days twins : List DayRecord) (evening night : State)
    → AreCallOrders old.dossier.groups orders
    → AreCallOrders old.dossier.groups others
    → length days ≡ length twins
    → Days terms orders first old days evening
    → Days terms others first old twins night
    → (evening ≡ night) × AllZip SameDayButFalls days twins

-- Campaigns by different picks.
use Rattle.std.proofs.Common.{ℕ, ◌+◌, ◌≡◌, List, [], ◌∷◌, length, Option, refl, sym, ◌∙◌, ap, subst, arith}
use Rattle.std.specs.List.{AllZip}
use Rattle.admit_core.specs.declared.ranking.CallOrder.{CallOrder}
use Rattle.admit_core.specs.declared.ranking.RankGroup.{RankGroup}
use Rattle.admit_core.specs.declared.records.DayRecord.{DayRecord}
use Rattle.admit_core.specs.declared.records.Terms.{Terms}
use Rattle.admit_core.specs.State.{State}
use Rattle.admit_core.specs.CallOrder.{AreCallOrders}
use Rattle.admit_core.proofs.OneOrder.{same_order}
use Rattle.admit_core.specs.Days.{Days, ceilings_of}
use Rattle.day_run.specs.CampaignLaws.{CampaignsAreFixed}
use Rattle.desk_day.specs.DayLaws.{SameDayButFalls}
use Rattle.desk_day.proofs.SameDays.{only_falls_differ}

-- days of a campaign by different picks
days_differ_in_falls : (terms : Option Terms) (orders : List CallOrder) (first : ℕ) (old : State)
    (days twins : List DayRecord)
    (evening night : State)
    → length days ≡ length twins → Days terms orders first old days evening → Days terms orders first old twins night
    → (evening ≡ night) × AllZip SameDayButFalls days twins
days_differ_in_falls terms orders first old [] [] evening night same one other = (sym one ∙ other, tt)
days_differ_in_falls terms orders first old [] (twin ∷ twins) evening night same one other = absurd (omega arith)
days_differ_in_falls terms orders first old (day ∷ days) [] evening night same one other = absurd (omega arith)
days_differ_in_falls terms orders first old (day ∷ days) (twin ∷ twins) evening night same one other =
    let here = only_falls_differ terms orders (ceilings_of old.dossier first) old day twin one.0 other.0
    (one.1 ∙ sym other.1) one.2
    other.2 in
    let later = subst (λ (s : State). Days terms orders (first + 1) s twins night) (sym here.0) other.3 in
    let rest = days_differ_in_falls terms orders (first + 1) one.0 days twins evening night (omega arith) one.3 later in
    (rest.0, (here.1, rest.1))

-- the groups of a dossier have one list of call orders
pub same_orders : (groups : List RankGroup) (one other : List CallOrder) → AreCallOrders groups one
    → AreCallOrders groups other
    → one ≡ other
same_orders [] [] [] a b = refl
same_orders [] [] (y ∷ ys) a b = absurd b
same_orders [] (x ∷ xs) other a b = absurd a
same_orders (g ∷ gs) [] other a b = absurd a
same_orders (g ∷ gs) (x ∷ xs) [] a b = absurd b
same_orders (g ∷ gs) (x ∷ xs) (y ∷ ys) a b =
    ap (λ (o : CallOrder). o ∷ xs) (same_order g x y a.0 b.0)
    ∙ ap (λ (os : List CallOrder). y ∷ os) (same_orders gs xs ys a.1 b.1)

pub campaigns_are_fixed : CampaignsAreFixed
campaigns_are_fixed terms orders others first old days twins evening night called called_too same one other =
    let as_one = subst (λ (os : List CallOrder). Days terms os first old twins night)
    (same_orders old.dossier.groups others orders called_too called) other in
    days_differ_in_falls terms orders first old days twins evening night same one as_one

-- Days that differ in nothing but their falls are explained alike.
use Rattle.std.proofs.Common.{ℕ, ◌+◌, ◌≡◌, List, [], ◌∷◌, refl, sym, ◌∙◌, ap, subst}
use Rattle.std.specs.List.{AllZip}
use Rattle.admit_core.specs.declared.ranking.CallOrder.{CallOrder}
use Rattle.admit_core.specs.declared.records.PassEnd.{PassEnd}
use Rattle.admit_core.specs.Days.{IsDay, ceilings_of, closing, morning}
use Rattle.admit_core.specs.EveningLaws.{last_bars}
use Rattle.admit_core.specs.Explanations.{explained}
use Rattle.admit_core.specs.State.{State}
use Rattle.desk_day.specs.DayLaws.{SameButFalls}
use Rattle.desk_day.specs.DayPasses.{last_opening, stamp_of}
use Rattle.day_run.proofs.SameCampaigns.{campaigns_are_fixed, same_orders}
use Rattle.desk_day.proofs.SameDays.{only_falls_differ}
use Rattle.desk_day.specs.LastPasses.{last_of, last_pass}
use Rattle.explain.specs.Laws.{CampaignsFixThem, DaysFixThem}

-- the last bars are the same
same_bars : (one other : List PassEnd) → AllZip SameButFalls one other → last_bars one ≡ last_bars other
same_bars [] [] same = refl
same_bars [] (q ∷ other) same = absurd same
same_bars (p ∷ one) [] same = absurd same
same_bars (p ∷ []) (q ∷ []) same = same.0.bars
same_bars (p ∷ []) (q ∷ next ∷ rest) same = absurd same.1
same_bars (p ∷ next ∷ rest) (q ∷ []) same = absurd same.1
same_bars (p ∷ next ∷ rest) (q ∷ then ∷ more) same = same_bars (next ∷ rest) (then ∷ more) same.1

-- and so is the opening of the last pass
same_opening : (orders : List CallOrder) (day k : ℕ) (s t : State) (one other : List PassEnd) → s ≡ t
    → AllZip SameButFalls one other
    → last_opening orders day k s one ≡ last_opening orders day k t other
same_opening orders day k s t [] [] e same = e
same_opening orders day k s t [] (q ∷ other) e same = absurd same
same_opening orders day k s t (p ∷ one) [] e same = absurd same
same_opening orders day k s t (p ∷ []) (q ∷ []) e same = e
same_opening orders day k s t (p ∷ []) (q ∷ next ∷ rest) e same = absurd same.1
same_opening orders day k s t (p ∷ next ∷ rest) (q ∷ []) e same = absurd same.1
same_opening orders day k s t (p ∷ next ∷ rest) (q ∷ then ∷ more) e same =
    let stamp = stamp_of day k in
    same_opening orders day (k + 1) (closing s orders p.pass.bars stamp) (closing t orders q.pass.bars stamp)
    (next ∷ rest) (then ∷ more)
    (ap (λ (u : State). closing u orders p.pass.bars stamp) e
    ∙ ap (λ (bars : List ℕ). closing t orders bars stamp) same.0.bars) same.1

pub days_fix_them : DaysFixThem
days_fix_them terms orders ceilings old one other evening night number a b =
    let fixed = only_falls_differ terms orders ceilings old one other evening night number a b in
    let bars = same_bars one.passes other.passes fixed.1.passes in
    let opening = same_opening orders one.day 1 (morning terms one.day old)
    (morning terms one.day old) one.passes other.passes refl fixed.1.passes
    ∙ ap (λ (d : ℕ). last_opening orders d 1 (morning terms d old) other.passes) number in
    ap (λ (s : State). explained (last_pass s orders ceilings (last_bars one.passes)) evening.marks) opening
    ∙ ap (λ (bs : List ℕ).
    explained (last_pass (last_opening orders other.day 1
    (morning terms other.day old) other.passes) orders ceilings bs) evening.marks) bars
    ∙ ap (λ (s : State). explained (last_of terms orders ceilings old other) s.marks) fixed.0

pub campaigns_fix_them : CampaignsFixThem
campaigns_fix_them terms orders others first last old days twins day twin noon noon_too evening
    night called called_too same one other number a b =
    let ceilings = ceilings_of old.dossier last in
    let noons = (campaigns_are_fixed terms orders others first old days twins noon noon_too called called_too same one
    other).0 in
    let as_orders = same_orders old.dossier.groups others orders called_too called in
    let by_orders = subst (λ (os : List CallOrder). IsDay terms os ceilings noon_too twin night) as_orders b in
    let by_noon = subst (λ (s : State). IsDay terms orders ceilings s twin night) (sym noons) by_orders in
    days_fix_them terms orders ceilings noon day twin evening night number a by_noon
    ∙ ap (λ (s : State). explained (last_of terms orders ceilings s twin) night.marks) noons
    ∙ ap (λ (os : List CallOrder). explained (last_of terms os ceilings noon_too twin) night.marks) (sym as_orders)

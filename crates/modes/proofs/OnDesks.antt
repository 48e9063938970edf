-- What an ending rests on, and what it gives for a desk.
use Rattle.std.proofs.Common.{◌≡◌, ◌∙◌, ◌<◌, ◌≤◌, ℕ, List, [], ◌∷◌, Option, Some, Result, Ok, Err, All, arith, ap, inl}
use Rattle.std.proofs.Common.{inr, length, nat_eq, position, subst, sym}
use Rattle.std.specs.Result.{ForOk}
use Rattle.std.proofs.lemmas.Bool.{cases_Bool}
use Rattle.std.proofs.lemmas.List.{length-map}
use Rattle.std.proofs.lemmas.List.Quantifiers.{position-Some}
use Rattle.admit_core.specs.Days.{ceilings_of}
use Rattle.admit_core.specs.DossierRows.{DossierRows}
use Rattle.admit_core.specs.EveningLaws.{last_bars}
use Rattle.admit_core.specs.declared.explanation.Explanation.{Explanation}
use Rattle.admit_core.specs.declared.ranking.CallOrder.{CallOrder}
use Rattle.admit_core.specs.declared.records.DayRecord.{DayRecord}
use Rattle.admit_core.specs.declared.records.Terms.{Terms}
use Rattle.admit_core.specs.declared.refusal.Refusal.{Refusal}
use Rattle.desk_day.specs.DeskStates.{DeskStates}
use Rattle.desk_day.specs.KeptDays.{kept_day}
use Rattle.desk_day.specs.LastPasses.{IsLastPass, last_pass}
use Rattle.explanations.specs.Sayings.{Explains}
use Rattle.intake.specs.Dated.{terms_in}
use Rattle.played.proofs.LastDay.{desk_after_kept, desk_played}
use Rattle.played.specs.LastDays.{IsDeskAfter, IsLastOf, pass_on}
use Rattle.played.specs.Lent.{Lent}
use Rattle.played.specs.PlayedDays.{DaysEndAfter, Lead, Plan, Played, first_desk, plan_of}
use Rattle.request.specs.Modes.{runs_days}
use Rattle.request.specs.Request.{IsRequest}
use Rattle.request.specs.declared.request.Request.{Request}
use Rattle.round.specs.KeptFalls.{are_kept}
use Rattle.modes.specs.Endings.{CanBeEnded, CanEnd}
use Rattle.modes.specs.Jobs.{JobView, days_of}
use Rattle.modes.specs.Replay.{CanBeDated, CanBeWritten}
use Rattle.modes.proofs.Writable.{kept_written, played_written}

few_days : (request : Request) → IsRequest request → days_of request ≤ 366
few_days request is = elim (cases_Bool (runs_days request.mode))
    [ inl runs ↦ rw runs is.days | inr none ↦ rw none (omega arith) ]

-- the days that came about can be written, and so can the evening after them
pub written : (view : JobView) (played : Played) → CanEnd view played
    → All (CanBeWritten view.dossier view.dated) played.days × ForOk played.end
    (λ desk. CanBeDated view.dated desk.present)
written view played can =
    let whole = can.plays.0 in
    let all =
    played_written view.dossier view.dated (days_of view.request) view.request.picker can.before whole can.after
    (few_days view.request can.request) can.dated can.plays.1 in
    subst (λ (p : Played). All (CanBeWritten view.dossier view.dated) p.days
    × ForOk p.end (λ desk. CanBeDated view.dated desk.present)) (sym can.plays.2)
    (kept_written (are_kept can.falls) view.dossier view.dated whole.days all.0, all.1)

as_many : (terms : Option Terms) (number : ℕ) (days : List DayRecord) (last : DeskStates)
    (end : Result DeskStates Refusal) → DaysEndAfter terms number days last end
    → ForOk end (λ desk. length days ≡ number)
as_many terms number days last (Ok desk) ends = λ x same. ends.0
as_many terms number days last (Err refusal) ends = λ x same. absurd (cc)

-- where no day is asked for, the desk is the first one
no_day : (plan : Plan) (first : DeskStates) (before : Lent) (days : List DayRecord) (last : DeskStates)
    → Lead plan 1 first before days last → length days ≡ 0 → first ≡ last
no_day plan first before [] last lead none = lead
no_day plan first before (day ∷ days) last lead none = absurd (omega arith)

desk_at_first : (terms : Option Terms) (number : ℕ) (days : List DayRecord) (last : DeskStates)
    (end : Result DeskStates Refusal) (first : DeskStates) (plan : Plan) (before : Lent)
    → Lead plan 1 first before days last
    → DaysEndAfter terms number days last end → (desk : DeskStates) → end ≡ Ok desk → number ≡ 0
    → desk.present ≡ first.present
desk_at_first terms number days last (Ok found) first plan before lead ends desk same none =
    let begun : first ≡ last = no_day plan first before days last lead (ends.0 ∙ none) in
    let here : found ≡ desk = cc in
    ap (λ (x : DeskStates). x.present) (sym here ∙ ends.1 ∙ sym begun)
desk_at_first terms number days last (Err refusal) first plan before lead ends desk same none = absurd (cc)

-- the days led to a desk
pub ends_on : (view : JobView) (played : Played) (desk : DeskStates) → CanEnd view played → played.end ≡ Ok desk
    → CanBeEnded view played desk
ends_on view played desk can same =
    let whole = can.plays.0 in
    let plays = can.plays.1 in
    let terms = terms_in view.dated in
    let number = days_of view.request in
    let who = view.request.picker in
    let led : whole.end ≡ Ok desk = ap (λ (p : Played). p.end) (sym can.plays.2) ∙ same in
    let all = written view played can in
    subst (λ (p : Played). CanBeEnded view p desk) (sym can.plays.2) (record {
      request = can.request;
      named = can.named;
      index = can.index;
      dated = can.dated;
      called = plays.called;
      number =
          length-map whole.days (kept_day (are_kept can.falls))
          ∙ as_many terms number whole.days plays.last whole.end plays.ends desk led;
      days = subst (λ (p : Played). All (CanBeWritten view.dossier view.dated) p.days) can.plays.2 all.0;
      offers = all.1 desk same;
      last = desk_after_kept (are_kept can.falls) view.dossier whole.orders whole.days desk
          (desk_played view.dossier terms number who can.before whole can.after plays desk led);
      idle = desk_at_first terms number whole.days plays.last whole.end (first_desk view.dossier)
          (plan_of terms who whole) can.before plays.days plays.ends desk led;
    })

-- the same of what is kept of the days then
pub ends_led : (view : JobView) (played : Played) (desk : DeskStates) → CanEnd view played → played.end ≡ Ok desk
    → CanBeEnded view (record { orders = played.orders; days = played.days; end = Ok desk }) desk
ends_led view played desk can same =
    subst (λ (end : Result DeskStates Refusal). CanBeEnded view
    (record { orders = played.orders; days = played.days; end = end }) desk) same
    (ends_on view played desk can same)

-- and of call orders of another name
pub ends_led_by : {view : JobView} {one other : List CallOrder} {days : List DayRecord}
    {end : Result DeskStates Refusal} {desk : DeskStates}
    → CanEnd view (record { orders = other; days = days; end = end }) → end ≡ Ok desk → one ≡ other
    → CanBeEnded view (record { orders = one; days = days; end = Ok desk }) desk
ends_led_by {view = view} {other = other} {days = days} {end = end} {desk = desk} can is same =
    subst (λ (o : List CallOrder). CanBeEnded view (record { orders = o; days = days; end = Ok desk }) desk) (sym same)
    (ends_led view (record { orders = other; days = days; end = end }) desk can is)

-- what is found by its id is one of so many
pub found_within : (ids : List ℕ) (n id place : ℕ) → length ids ≡ n → position (nat_eq id) ids ≡ Some place → place < n
found_within ids n id place long found = omega (arith, (position-Some (nat_eq id) ids place 0 found).0, long)

-- an explanation under the ceilings of the last day and the bars of its last pass
pub explains_on : (d : DossierRows) (orders : List CallOrder) (day : DayRecord) (desk : DeskStates) (place : ℕ)
    (x : Explanation) (ceilings bars : List ℕ) → ceilings ≡ ceilings_of d day.day
    → bars ≡ last_bars day.passes → Explains (last_pass desk.opening orders ceilings bars) desk.present place x
    → Explains (pass_on d orders day desk) desk.present place x
explains_on d orders day desk place x ceilings bars ceilings_are bars_are explains =
    subst (λ (cs : List ℕ). Explains (last_pass desk.opening orders cs (last_bars day.passes)) desk.present place x)
    ceilings_are
    (subst (λ (bs : List ℕ). Explains (last_pass desk.opening orders ceilings bs) desk.present place x) bars_are
    explains)

-- the last pass of the last day, with the ceilings and the bars that were found
pub pass_found : (d : DossierRows) (orders : List CallOrder) (days : List DayRecord) (day : DayRecord)
    (desk : DeskStates)
    (ceilings bars : List ℕ) → IsDeskAfter d orders days desk → IsLastOf days day
    → ceilings ≡ ceilings_of d day.day → bars ≡ last_bars day.passes
    → IsLastPass (last_pass desk.opening orders ceilings bars) desk.present
pass_found d orders days day desk ceilings bars after last ceilings_are bars_are =
    subst (λ (cs : List ℕ). IsLastPass (last_pass desk.opening orders cs bars) desk.present) (sym ceilings_are)
    (subst (λ (bs : List ℕ). IsLastPass (last_pass desk.opening orders (ceilings_of d day.day) bs) desk.present)
    (sym bars_are)
    (after.last day last))

-- The picker that the ending is lent.
use Rattle.std.proofs.Common.{◌≡◌, ◌∙◌, ℕ, List, [], Option, None, Some, Result, Ok, Err, IfOk, ap, inl, inr}
use Rattle.std.proofs.Common.{option_map, refl, subst, sym}
use Rattle.std.specs.Prelude.{OnErr, ⊤}
use Rattle.std.proofs.lemmas.List.{append-nil}
use Rattle.admit_core.proofs.Plain.{on_err}
use Rattle.admit_core.specs.Boarding.{boarding}
use Rattle.admit_core.specs.Falls.{FallingSystem}
use Rattle.admit_core.specs.State.{State}
use Rattle.admit_core.specs.declared.ranking.CallOrder.{CallOrder}
use Rattle.admit_core.specs.declared.records.DayRecord.{DayRecord}
use Rattle.admit_core.specs.declared.refusal.Refusal.{Refusal}
use Rattle.bar_fixpoint.specs.Runs.{schools_of}
use Rattle.bed_need.specs.Growing.{with_more_beds, with_n_beds}
use Rattle.bed_need.specs.Figures.{lacks}
use Rattle.bed_need.specs.Telling.{TellsOfFallsOfBoth}
use Rattle.desk_day.proofs.PassesSoFar.{tells_from, tells_of_falls, tells_still}
use Rattle.desk_day.specs.DayPasses.{TellsMore}
use Rattle.desk_day.specs.DeskStates.{DeskStates}
use Rattle.markets.specs.Bars.{market_system}
use Rattle.markets.specs.Dossiers.{market_of}
use Rattle.played.specs.Lent.{Lent, Untold}
use Rattle.played.specs.PlayedDays.{Played}
use Rattle.played.proofs.Naming.{OnlyNamed, back_untouched, each_named}
use Rattle.request.specs.Modes.{picks_after}
use Rattle.request.specs.Pickers.{picker_on}
use Rattle.request.specs.declared.modes.Mode.{Mode}
use Rattle.request.specs.declared.modes.Mode.TheVariants as modes
use Rattle.request.specs.declared.pickers.PickerName.{PickerName}
use Rattle.request.specs.declared.request.Request.{Request}
use Rattle.modes.specs.LentPicker.{ArePicks, Asked, BreaksLent, BreaksPicks, IsLent, TellsLent, TellsPicks, asked}
use Rattle.modes.specs.Beds.{BreaksFiguring}
use Rattle.modes.specs.Endings.{EndsAfter, EndsLent, IsEndOf, IsRefusedWith, asked_by, lines_before}
use Rattle.modes.specs.Jobs.{JobView, picker_after}
use Rattle.modes.specs.declared.reply.Reply.{Reply}
use Rattle.modes.specs.declared.task.Asking.{Asking}
use Rattle.modes.specs.declared.task.Asking.TheVariants as askings

-- no picker is asked
pub nobody_lent : (name : Option PickerName) (pickers : Lent) → IsLent name pickers pickers
nobody_lent None pickers = record { back = back_untouched pickers; others = λ name. refl }
nobody_lent (Some name) pickers = record { back = back_untouched pickers; others = λ other none. refl }

-- where memory ran out, what a picker had told is a prefix of what it told
both_more : (one other : FallingSystem) (choice : List ℕ → List ℕ → ℕ) (told after : List ℕ)
    → TellsOfFallsOfBoth one other choice told after → TellsMore told after
both_more one other choice told after (inl falls) = tells_of_falls one choice told after falls
both_more one other choice told after (inr then) =
    tells_from told then.0 after (schools_of then.1.falls) then.1.told_of
    (tells_of_falls other choice then.0 after then.2)

figuring_more : (s : State) (orders : List CallOrder) (ceilings : List ℕ) (place : ℕ)
    (choice : List ℕ → List ℕ → ℕ) (told after : List ℕ)
    → BreaksFiguring s orders ceilings place choice told after → TellsMore told after
figuring_more s orders ceilings place choice told after (inl falls) =
    tells_of_falls (with_n_beds s orders ceilings place 2000000000) choice told after falls
figuring_more s orders ceilings place choice told after (inr growth) =
    tells_from told growth.between after (schools_of growth.least.falls) growth.least.told_of
    (both_more (boarding s orders ceilings) (with_more_beds s orders ceilings place (lacks s place growth.need)) choice
    growth.between after growth.grown)

breaks_more : (mode : Mode) (view : JobView) (played : Played) (desk : DeskStates) (before : Asked) (told : List ℕ)
    → BreaksPicks mode view played desk before told → TellsMore before.told told
breaks_more (modes.Beds school) view played desk before told (inl same) = tells_still before.told told same
breaks_more (modes.Beds school) view played desk before told (inr breaks) =
    figuring_more breaks.pass.opening breaks.pass.orders breaks.pass.ceilings breaks.place before.choice before.told
    told breaks.breaks
breaks_more modes.Market view played desk before told breaks =
    tells_of_falls (market_system (market_of view.dossier played.orders)) before.choice before.told told breaks
breaks_more _ view played desk before told same = tells_still before.told told same

lent_more : {E : Type 0} (view : JobView) (played : Played) (desk : DeskStates) (before after : Asked)
    (result : Result Reply E) → EndsLent view played desk before after result → TellsMore before.told after.told
lent_more view played desk before after (Ok reply) ends = (ends.picks.0, ends.picks.2)
lent_more view played desk before after (Err e) ends =
    breaks_more view.request.mode view played desk before after.told ends.breaks

module _ {E : Type 0} (view : JobView) (played : Played) (desk : DeskStates) (between after : Lent)
    (result : Result Reply E) where
  -- the picker of the name was lent
  lent_named : (name : PickerName) → OnlyNamed name between after
      → EndsLent view played desk (asked between name) (asked after name) result → IsLent (Some name) between after
  lent_named name only ends = record {
    back = record {
      choice = each_named (λ n. after.choice n ≡ between.choice n) name ends.choice only.choice;
      told = each_named (λ n. TellsMore (between.told n) (after.told n)) name
          (lent_more view played desk (asked between name) (asked after name) result ends)
          (λ other none. ([], only.told other none ∙ sym (append-nil (between.told other))));
    };
    others = only.told;
  }

  pub ends_lent : (name : PickerName) → EndsLent view played desk (asked between name) (asked after name) result
      → OnlyNamed name between after → Some name ≡ picker_after view.request
      → EndsAfter (Ok desk) view played between after result
  ends_lent name ends only is = record {
    ends = ends.ends;
    tells = subst (λ (n : Option PickerName). IfOk result
        (λ reply. TellsLent n (ArePicks view.request.mode view played desk) between after)) is ends.picks;
    breaks = subst (λ (n : Option PickerName). OnErr result
        (BreaksLent n (BreaksPicks view.request.mode view played desk) between after)) is ends.breaks;
    lends = subst (λ (n : Option PickerName). IsLent n between after) is (lent_named name only ends);
  }

-- a mode that is lent a picker ends by what its text and its picks are, and by what it told where memory ran out
module _ {E : Type 0} {view : JobView} {played : Played} {desk : DeskStates} {before after : Asked}
    (choice : after.choice ≡ before.choice) where
  pub ends_lent_by : (mode : Mode) → view.request.mode ≡ mode → (result : Result Reply E)
      → IfOk result (λ reply. IsEndOf mode view played desk reply.exit reply.text.items)
      → IfOk result (λ reply. TellsPicks (ArePicks mode view played desk before) before.told after.told)
      → OnErr result (BreaksPicks mode view played desk before after.told)
      → EndsLent {E = E} view played desk before after result
  ends_lent_by mode is (Ok reply) ends picks breaks = record {
    ends = subst (λ (m : Mode). IsEndOf m view played desk reply.exit reply.text.items) (sym is) ends;
    picks = subst (λ (m : Mode). TellsPicks (ArePicks m view played desk before) before.told after.told) (sym is) picks;
    breaks = tt;
    choice = choice;
  }
  ends_lent_by mode is (Err e) ends picks breaks = record {
    ends = tt;
    picks = tt;
    breaks = subst (λ (m : Mode). BreaksPicks m view played desk before after.told) (sym is) breaks;
    choice = choice;
  }

-- what holds of orders, days and a desk that have another name
pub same_led : {orders others : List CallOrder} {days later : List DayRecord} {desk last : DeskStates}
    (P : List CallOrder → List DayRecord → DeskStates → Type 0) → orders ≡ others → days ≡ later → desk ≡ last
    → P orders days desk → P others later last
same_led {orders = orders} {days = days} {later = later} {last = last} P called came led holds =
    subst (λ (o : List CallOrder). P o later last) called
    (subst (λ (ds : List DayRecord). P orders ds last) came (subst (λ (k : DeskStates). P orders days k) led holds))

-- nobody is lent
told_nothing : {E : Type 0} (result : Result Reply E) → IfOk result (λ reply. ⊤)
told_nothing (Ok reply) = tt
told_nothing (Err e) = tt

ends_unlent : {E : Type 0} (view : JobView) (played : Played) (desk : DeskStates) (pickers : Lent)
    (result : Result Reply E) → None ≡ picker_after view.request
    → IfOk result (λ reply. IsEndOf view.request.mode view played desk reply.exit reply.text.items)
    → EndsAfter (Ok desk) view played pickers pickers result
ends_unlent view played desk pickers result none ends = record {
  ends = ends;
  tells = subst (λ (n : Option PickerName). IfOk result
      (λ reply. TellsLent n (ArePicks view.request.mode view played desk) pickers pickers)) none (told_nothing result);
  breaks = subst (λ (n : Option PickerName). OnErr result
      (BreaksLent n (BreaksPicks view.request.mode view played desk) pickers pickers)) none (on_err result tt);
  lends = nobody_lent (picker_after view.request) pickers;
}

-- a mode that asks nobody
pub ends_unasked : {E : Type 0} {view : JobView} {played : Played} {desk : DeskStates} {pickers : Lent} (mode : Mode)
    → view.request.mode ≡ mode → picks_after mode view.request.days ≡ None → (result : Result Reply E)
    → IfOk result (λ reply. IsEndOf mode view played desk reply.exit reply.text.items)
    → EndsAfter (Ok desk) view played pickers pickers result
ends_unasked {view = view} {played = played} {desk = desk} {pickers = pickers} mode is none result ends =
    let who = picker_on view.request.picker in
    let nobody = ap (λ (m : Mode). option_map who (picks_after m view.request.days)) is ∙ ap (option_map who) none in
    ends_unlent view played desk pickers result (sym nobody)
    (subst (λ (m : Mode). IfOk result (λ reply. IsEndOf m view played desk reply.exit reply.text.items)) (sym is) ends)

-- a mode that asks somebody
pub asks_some : (asking : Asking) (request : Request) → request.mode ≡ asked_by asking
    → picker_after request ≡ None → ⊥
asks_some (askings.Beds school) request is none =
    let who = picker_on request.picker in
    let some : Some (who request.days) ≡ None =
    sym (ap (λ (m : Mode). option_map who (picks_after m request.days)) is) ∙ none in
    absurd (cc (some))
asks_some askings.Market request is none =
    let who = picker_on request.picker in
    let some : Some (who 1) ≡ None =
    sym (ap (λ (m : Mode). option_map who (picks_after m request.days)) is) ∙ none in
    absurd (cc (some))

-- the days were cut short, and nobody is asked after them
untold_after : {E : Type 0} (pickers : Lent) (result : Result Reply E) → IfOk result (λ reply. Untold pickers pickers)
untold_after pickers (Ok reply) = λ name. refl
untold_after pickers (Err e) = tt

pub ends_cut_short : {E : Type 0} (refusal : Refusal) (view : JobView) (played : Played) (pickers : Lent)
    (result : Result Reply E)
    → IfOk result (λ reply. IsRefusedWith refusal (lines_before view.request.mode view played) reply.exit
    reply.text.items) → EndsAfter (Err refusal) view played pickers pickers result
ends_cut_short refusal view played pickers result ends =
    record {
      ends = ends;
      tells = untold_after pickers result;
      breaks = on_err result (λ name. refl);
      lends = nobody_lent (picker_after view.request) pickers;
    }

-- the end of the days is the one that was found
pub ends_so : {E : Type 0} (end found : Result DeskStates Refusal) (view : JobView) (orders : List CallOrder)
    (days : List DayRecord) (between after : Lent) (result : Result Reply E) → end ≡ found
    → EndsAfter found view (record { orders = orders; days = days; end = found }) between after result
    → EndsAfter end view (record { orders = orders; days = days; end = end }) between after result
ends_so end found view orders days between after result is ends =
    subst (λ (e : Result DeskStates Refusal). EndsAfter e view (record { orders = orders; days = days; end = e })
    between after result) (sym is) ends

-- the same of days that were run by call orders of another name
pub ends_by_orders : {E : Type 0} {end found : Result DeskStates Refusal} {view : JobView} {one other : List CallOrder}
    {days : List DayRecord} {between after : Lent} (result : Result Reply E) → end ≡ found → one ≡ other
    → EndsAfter found view (record { orders = one; days = days; end = found }) between after result
    → EndsAfter end view (record { orders = other; days = days; end = end }) between after result
ends_by_orders {end = end} {found = found} {view = view} {other = other} {days = days} {between = between}
    {after = after} result is same ends =
    ends_so end found view other days between after result is
    (subst (λ (o : List CallOrder). EndsAfter found view (record { orders = o; days = days; end = found }) between after
    result) same ends)

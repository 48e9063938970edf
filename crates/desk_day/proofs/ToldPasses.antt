-- What a picker told where memory ran out in the passes of a day.
use Rattle.std.proofs.Common.{ℕ, ◌+◌, ◌≡◌, ◌++◌, List, [], ◌∷◌, refl, sym, ◌∙◌, ap, inl, subst}
use Rattle.std.proofs.Common.{Bool, append_assoc, map}
use Rattle.std.proofs.lemmas.List.{append-nil}
use Rattle.admit_core.specs.declared.ranking.CallOrder.{CallOrder}
use Rattle.admit_core.specs.declared.records.PassEnd.{PassEnd}
use Rattle.admit_core.specs.declared.records.PassRecord.{PassRecord}
use Rattle.admit_core.specs.Boarding.{boarding}
use Rattle.admit_core.specs.Days.{IsPass, Passes, closing}
use Rattle.admit_core.specs.Falls.{bars_after}
use Rattle.admit_core.specs.State.{State}
use Rattle.bar_fixpoint.specs.Chosen.{AreChosen, TellsOfFalls}
use Rattle.bar_fixpoint.specs.Runs.{schools_of}
use Rattle.bar_fixpoint.proofs.RunLaws.{none_told}
use Rattle.desk_day.specs.DayPasses.{AreChosenPasses, TellsAlong, TellsMore, TellsOfPasses, schools_of_passes, stamp_of}
use Rattle.round.specs.KeptFalls.{IsKeptOf}
use Rattle.desk_day.specs.KeptDays.{IsPassPicked, kept_end}
use Rattle.desk_day.specs.Running.{RunningStates}
use Rattle.desk_day.specs.Telling.{Telling}
use Rattle.desk_day.proofs.KeptPasses.{PickedSoFar}
use Rattle.desk_day.proofs.PassesSoFar.{Earlier, tells_from, tells_of_falls}

-- of a whole pass
pub told_whole : (s : State) (orders : List CallOrder) (ceilings : List ℕ) (choice : List ℕ → List ℕ → ℕ)
    (told told_after : List ℕ) (pass : PassRecord) → IsPass s orders ceilings pass
    → told_after ≡ told ++ schools_of pass.falls
    → AreChosen (boarding s orders ceilings) choice told ceilings pass.falls
    → TellsOfFalls (boarding s orders ceilings) choice told told_after
told_whole s orders ceilings choice told told_after pass is told_of chosen = (
  bars_after ceilings pass.falls,
  record {
    falls = pass.falls;
    are_falls = is.falls.are_falls;
    chosen = chosen;
    bars_fell = refl;
    told_of = inl told_of;
  },
)

module _ (orders : List CallOrder) (ceilings : List ℕ) (day : ℕ) (choice : List ℕ → List ℕ → ℕ) where
  abbrev from_to : List ℕ → List ℕ → Telling
  from_to told told_after = record { before = told; after = told_after; choice = choice }

  -- what was told before is a prefix of it
  told_along : (k : ℕ) (s : State) (told told_after : List ℕ) (passes : List PassEnd)
      → TellsAlong orders ceilings (stamp_of day k) s (from_to told told_after) passes → TellsMore told told_after
  told_along k s told told_after [] is = tells_of_falls (boarding s orders ceilings) choice told told_after is
  told_along k s told told_after (p ∷ ps) is =
      tells_from told (told ++ schools_of p.pass.falls) told_after (schools_of p.pass.falls) refl
      (told_along (k + 1) (closing s orders p.pass.bars (stamp_of day k))
      (told ++ schools_of p.pass.falls) told_after ps
      is.3)

  -- of the passes so far and of falls of the next one
  pub told_on : (k : ℕ) (s : State) (first told told_after : List ℕ) (passes : List PassEnd) (now : State)
      → Earlier orders ceilings day k s passes now
      → AreChosenPasses orders ceilings (stamp_of day k) s choice first passes
      → told ≡ first ++ schools_of_passes passes
      → TellsOfFalls (boarding now orders ceilings) choice told told_after
      → TellsAlong orders ceilings (stamp_of day k) s (from_to first told_after) passes
  told_on k s first told told_after [] now so_far chosen told_is is =
      rw (so_far, told_is ∙ append-nil first) at is
  told_on k s first told told_after (p ∷ ps) now so_far chosen told_is is = (
    so_far.0,
    so_far.1,
    chosen.0,
    told_on (k + 1) (closing s orders p.pass.bars (stamp_of day k))
        (first ++ schools_of p.pass.falls) told told_after ps
        now so_far.2 chosen.1
        (told_is ∙ sym (append_assoc first (schools_of p.pass.falls) (schools_of_passes ps))) is,
  )

  -- of all passes of a day
  told_all : (k : ℕ) (s : State) (told : List ℕ) (passes : List PassEnd) (evening : State)
      → Passes orders ceilings day k s passes evening
      → AreChosenPasses orders ceilings (stamp_of day k) s choice told passes
      → (front : List PassEnd)
      × TellsAlong orders ceilings (stamp_of day k) s (from_to told (told ++ schools_of_passes passes)) front
  told_all k s told [] evening are chosen = absurd are
  told_all k s told (p ∷ []) evening are chosen = (
    [],
    told_whole s orders ceilings choice told (told ++ schools_of_passes (p ∷ [])) p.pass are.0.pass
        (ap (λ (l : List ℕ). told ++ l) (append-nil (schools_of p.pass.falls))) chosen.0,
  )
  told_all k s told (p ∷ q ∷ ps) evening are chosen =
      let own = schools_of p.pass.falls in
      let next = closing s orders p.pass.bars (stamp_of day k) in
      let more = told_all (k + 1) next (told ++ own) (q ∷ ps) evening are.2 chosen.1 in
      let P = λ (l : List ℕ). TellsAlong orders ceilings (stamp_of day (k + 1)) next (from_to (told ++ own) l) more.0
      in (
        p ∷ more.0,
        (are.0, are.1, chosen.0, subst P (append_assoc told own (schools_of_passes (q ∷ ps))) more.1),
      )

  -- nothing yet
  pub told_nothing : (s : State) (told : List ℕ) → TellsOfPasses orders ceilings day s choice told told
  told_nothing s told = ([], none_told (boarding s orders ceilings) choice told)

  pub told_to_the_end : (s : State) (told told_after : List ℕ) (passes : List PassEnd) (evening : State)
      → Passes orders ceilings day 1 s passes evening
      → AreChosenPasses orders ceilings (stamp_of day 1) s choice told passes
      → told_after ≡ told ++ schools_of_passes passes
      → TellsOfPasses orders ceilings day s choice told told_after
  told_to_the_end s told told_after passes evening are chosen told_of =
      let P = λ (l : List ℕ). TellsOfPasses orders ceilings day s choice told l in
      subst P (sym told_of) (told_all 1 s told passes evening are chosen)

-- what was told before is a prefix of what is told of passes
pub told_more : {s : State} {orders : List CallOrder} {ceilings : List ℕ} {day : ℕ} {choice : List ℕ → List ℕ → ℕ}
    {told told_after : List ℕ} → TellsOfPasses orders ceilings day s choice told told_after → TellsMore told told_after
told_more {s} {orders} {ceilings} {day} {choice} {told} {told_after} is =
    told_along orders ceilings day choice 1 s told told_after is.0 is.1

-- the same of a state that is seen as this one
pub told_seen : (seen now : State) → seen ≡ now → (orders : List CallOrder) (ceilings : List ℕ)
    (choice : List ℕ → List ℕ → ℕ) (told told_after : List ℕ)
    → TellsOfFalls (boarding seen orders ceilings) choice told told_after
    → TellsOfFalls (boarding now orders ceilings) choice told told_after
told_seen seen now same orders ceilings choice told told_after =
    subst (λ (s : State). TellsOfFalls (boarding s orders ceilings) choice told told_after) same

pub told_there : {s t : State} → s ≡ t → {orders : List CallOrder} {ceilings : List ℕ} {day : ℕ}
    {choice : List ℕ → List ℕ → ℕ} {told told_after : List ℕ}
    → TellsOfPasses orders ceilings day s choice told told_after
    → TellsOfPasses orders ceilings day t choice told told_after
told_there same {orders} {ceilings} {day} {choice} {told} {told_after} =
    subst (λ (r : State). TellsOfPasses orders ceilings day r choice told told_after) same

-- in the midst of the passes of a day
module _ (keeps : Bool) {orders : List CallOrder} {ceilings : List ℕ} {day number : ℕ} {start now : State}
    {choice choice_now : List ℕ → List ℕ → ℕ} {told told_now told_after : List ℕ} {kept : List PassEnd}
    (so_far : IsKeptOf (map (kept_end keeps))
    (PickedSoFar orders ceilings (stamp_of day number) start now
    (record { before = told; after = told_now; choice = choice })) kept)
    (same : choice_now ≡ choice) where
  pub told_in_pass : TellsOfFalls (boarding now orders ceilings) choice_now told_now told_after
      → TellsOfPasses orders ceilings day start choice told told_after
  told_in_pass is =
      let P = λ (by : List ℕ → List ℕ → ℕ). TellsOfFalls (boarding now orders ceilings) by told_now told_after in (
        so_far.0,
        told_on orders ceilings day choice 1 start told told_now told_after so_far.0 now so_far.1.so_far.earlier
            so_far.1.chosen so_far.1.told_of (subst P same is),
      )

  pub told_behind_pass : {end : PassEnd} {after : RunningStates}
      → IsKeptOf (kept_end keeps)
      (IsPassPicked orders ceilings (stamp_of day number) now
      (record { before = told_now; after = told_after; choice = choice_now }) after) end
      → TellsOfPasses orders ceilings day start choice told told_after
  told_behind_pass picked =
      told_in_pass
      (told_whole now orders ceilings choice_now told_now told_after picked.0.pass picked.1.made.ended.pass
      picked.1.told_of picked.1.chosen)
